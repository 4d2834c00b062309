use Rattle.std.proofs.Common.{inl, inr}
use Rattle.goal_certify.proofs.Queue.{queue_after_refresh}
use Rattle.goal_certify.proofs.walk.follow.follow.Goals as goal

pub follow_own-requires : goal.follow_own-requires
follow_own-requires c = record { exists = c.requires.exists; each = c.requires.rest.each; newest = c.requires.newest }

pub follow_partner-requires : goal.follow_partner-requires
follow_partner-requires c = record {
  exists = c.requires.exists;
  newest = c.requires.newest;
  rest = queue_after_refresh _ _ _ _ _ _ _ c.requires.rest c.follow_own.ensures (λ slot y at due differ. elim due [ inl same ↦ absurd (differ same) | inr rest ↦ rest ]);
}
