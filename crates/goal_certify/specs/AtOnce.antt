-- Segments of a collective that are right at once: in one run that begins with the start of every segment in its own block.
use Rattle.std.specs.Prelude.{ℕ, ◌+◌, ◌*◌, ◌≡◌, ◌<◌, ◌≤◌, Bool, List, length}
use Rattle.goal_graph.specs.declared.action.OpId.{OpId}
use Rattle.goal_graph.specs.Schedule.{Plan}
use Rattle.goal_graph.specs.Action.{Act}
use Rattle.goal_graph.specs.Interleaving.{IsCompleteInterleaving}
use Rattle.goal_limits.specs.declared.collective.Collective.{Collective}
use Rattle.goal_limits.specs.declared.collective.Collective.TheVariants.{Bcast, Barrier, Allgather, Allreduce, Alltoall, Reduce, Gather, Scatter, ReduceScatter, Scan}
use Rattle.goal_blocks.specs.declared.cert_fault.CertFault.{CertFault}
use Rattle.goal_blocks.specs.declared.cert_fault.CertFault.TheVariants.{Wrong, NoMemory}
use Rattle.goal_blocks.specs.Values.{value}
use Rattle.goal_blocks.specs.Right.{EndsInItsPairs}
use Rattle.goal_blocks.specs.Certification.{IsCertified}
use Rattle.goal_blocks.specs.Faults.{IsCertificationFault}
use Rattle.goal_blocks.specs.Segments.{initial_in, IsCertifiedIn, HoldsSegment}
use Rattle.goal_blocks.specs.Joined.{all_starts, keeps_out}
use Rattle.goal_certify.specs.declared.at_once.AtOnceFault.{AtOnceFault}
use Rattle.goal_certify.specs.declared.at_once.AtOnceFault.TheVariants.{Narrow, Segment, Stray}
use Rattle.goal_certify.specs.Segments.{IsSegmentFault}

-- the number of slots that a collective names, from slot 0 on; a block has at least this width
abbrev pub named : Collective → ℕ → ℕ
named (Bcast root) ranks = 1
named Barrier ranks = 1
named Allgather ranks = ranks
named Allreduce ranks = 1
named Alltoall ranks = ranks + ranks
named (Reduce root) ranks = 1
named (Gather root) ranks = ranks
named (Scatter root) ranks = ranks
named ReduceScatter ranks = ranks
named Scan ranks = 1

-- A run that begins with all segments at once does what is wanted in the block: at its end each slot of the block holds what the
-- collective wants there, and just what it holds where that segment alone begins, so nothing that began in another.
pub record IsDoneAtOnce (what : Collective) (width count block : ℕ) (plans : List Plan) (eager : OpId → Bool) (h : List Act) : Type 0 where
  pub ends : EndsInItsPairs plans eager h
  pub wanted_held : HoldsSegment what width block plans (value plans eager (all_starts what width count (length plans)) h)
  pub own : (rank slot : ℕ) → rank < length plans → slot < width → value plans eager (all_starts what width count (length plans)) h rank (block * width + slot) ≡ value plans eager (initial_in what width block (length plans)) h rank (block * width + slot)

-- All segments are right in one run that begins with all of them, in every complete interleaving and whatever is eager.
abbrev pub AreRightAtOnce : Collective → ℕ → ℕ → List Plan → Type 0
AreRightAtOnce what width count plans = (eager : OpId → Bool) (h : List Act)
    → IsCompleteInterleaving plans eager h
    → (block : ℕ)
    → block < count
    → IsDoneAtOnce what width count block plans eager h

-- the schedule is certified from the start of that segment for leaving the blocks of all others empty
abbrev pub IsCertifiedApart : Collective → ℕ → ℕ → ℕ → List Plan → Type 0
IsCertifiedApart what width count block plans =
    IsCertified plans (initial_in what width block (length plans)) (keeps_out width count block)

-- the first fault for which it is not
abbrev pub IsFaultApart : Collective → ℕ → ℕ → ℕ → List Plan → CertFault → Type 0
IsFaultApart what width count block plans =
    IsCertificationFault plans (initial_in what width block (length plans)) (keeps_out width count block)

-- It is certified in each block, each of which has the slots that the collective names, and no segment leaves anything in the
-- block of another.
pub record AreCertifiedAtOnce (what : Collective) (width count : ℕ) (plans : List Plan) : Type 0 where
  pub wide : named what (length plans) ≤ width
  pub each : (block : ℕ) → block < count → IsCertifiedIn what width block plans
  pub apart : (block : ℕ) → block < count → IsCertifiedApart what width count block plans

-- The first segment that leaves something in the block of another, and the least such slot, where all segments are certified
-- one by one.
pub record IsStray (what : Collective) (width count : ℕ) (plans : List Plan) (from rank slot : ℕ) : Type 0 where
  pub each : (block : ℕ) → block < count → IsCertifiedIn what width block plans
  pub segment : from < count
  pub least : IsFaultApart what width count from plans (Wrong rank slot)
  pub apart_before : (block : ℕ) → block < from → IsCertifiedApart what width count block plans

-- why not all segments are certified at once
abbrev pub IsAtOnceFault : Collective → ℕ → ℕ → List Plan → AtOnceFault → Type 0
IsAtOnceFault what width count plans Narrow = width < named what (length plans)
IsAtOnceFault what width count plans (Segment found) =
    (named what (length plans) ≤ width) × IsSegmentFault what width count plans found
IsAtOnceFault what width count plans (Stray from rank slot) =
    (named what (length plans) ≤ width) × IsStray what width count plans from rank slot

-- memory ran out, which says nothing of the schedule
abbrev pub IsOutOfMemory : AtOnceFault → Type 0
IsOutOfMemory Narrow = ⊥
IsOutOfMemory (Segment found) = found.fault ≡ NoMemory
IsOutOfMemory (Stray from rank slot) = ⊥
