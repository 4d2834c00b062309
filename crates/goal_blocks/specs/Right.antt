-- What is right in every interleaving, as certification ensures; and which generated schedules are certified by proof.
use Rattle.std.specs.Prelude.{◌≡◌, ◌↔◌, Bool, List, Some, ℕ, ◌≤◌, length}
use Rattle.goal_limits.specs.Limits.{certified_rank_limit}
use Rattle.goal_graph.specs.declared.action.OpId.{OpId}
use Rattle.goal_graph.specs.Schedule.{Plan, IsSend}
use Rattle.goal_graph.specs.Action.{Act}
use Rattle.goal_graph.specs.Matching.{pairs, partner}
use Rattle.goal_blocks.specs.Channels.{AreOfOneChannel}
use Rattle.goal_blocks.specs.Walk.{AllEnd}
use Rattle.goal_graph.specs.Interleaving.{IsCompleteInterleaving}
use Rattle.goal_blocks.specs.Values.{Value, Store, value}
use Rattle.goal_blocks.specs.Certification.{HoldsWanted}
use Rattle.goal_limits.specs.declared.collective.Collective.{Collective}
use Rattle.goal_limits.specs.declared.collective.Collective.TheVariants.{Barrier, Allreduce}
use Rattle.goal_blocks.specs.Collectives.{initial, wanted}

-- each operation has ended, and each send is paired with the receive of its channel; there are no other pairs
pub record EndsInItsPairs (plans : List Plan) (eager : OpId → Bool) (h : List Act) : Type 0 where
  pub all_end : AllEnd plans eager h
  pub pairs : (m x : OpId) → ((partner (pairs plans h) m ≡ Some x) × IsSend plans m) ↔ AreOfOneChannel plans m x

-- right in one interleaving: it ends, with the right pairs, and the slots hold what is wanted
pub record IsRight (plans : List Plan) (first : Store) (wanted : ℕ → ℕ → Value → Bool) (eager : OpId → Bool) (h : List Act) : Type 0 where
  pub ends : EndsInItsPairs plans eager h
  pub wanted_held : HoldsWanted plans wanted (value plans eager first h)

-- right in every complete interleaving, whichever sends are eager
abbrev pub IsRightEverywhere : List Plan → Store → (ℕ → ℕ → Value → Bool) → Type 0
IsRightEverywhere plans first wanted =
    (eager : OpId → Bool) (h : List Act) → IsCompleteInterleaving plans eager h → IsRight plans first wanted eager h

-- it does what the collective wants, in every complete interleaving, whichever sends are eager
abbrev pub IsRightFor : Collective → List Plan → Type 0
IsRightFor what plans = IsRightEverywhere plans (initial what (length plans)) (wanted what (length plans))

-- The numbers of ranks for which generated schedules are certified by proof: all possible ones, except those of a
-- barrier and an allreduce with more than 2,048 ranks, which hold too many contributions.
abbrev pub IsCertifiedByProof : Collective → ℕ → Type 0
IsCertifiedByProof Barrier ranks = ranks ≤ certified_rank_limit
IsCertifiedByProof Allreduce ranks = ranks ≤ certified_rank_limit
IsCertifiedByProof _ ranks = Unit {0}
