use Rattle.std.proofs.Common.{inl, inr}
use Rattle.sim_events.proofs.Queue.{possible_keys, refreshed_is_no_longer_due, fewer_due}
use Rattle.sim_events.proofs.follow.follow_own.Goals as goal

pub refresh-requires : goal.refresh-requires
refresh-requires g c = record { exists = c.requires.exists; possible = possible_keys _ _ _ _ _ c.requires.rest }

pub returns-clause-queue : goal.returns-clause-queue
returns-clause-queue g c =
    refreshed_is_no_longer_due _ _ _ _ _ _ _ _ c.requires.rest c.refresh.ensures.queue (λ y o due differ. elim due [ inl own ↦ absurd (differ own.1) | inr rest ↦ rest ])

pub returns-then-is_last-clause-queue : goal.returns-then-is_last-clause-queue
returns-then-is_last-clause-queue g c =
    fewer_due _ _ _ _ _ _ c.requires.rest (λ y o due. elim due [ inl own ↦ absurd (own.0 (c.is_last.ensures c.if-is_last.true)) | inr rest ↦ rest ])
