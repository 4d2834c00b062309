-- Certification has stages. Each of them searches some kinds of faults, which are adjacent in the order in which faults
-- are searched.
use Rattle.std.specs.Prelude.{ℕ, ◌≡◌, ◌<◌, ◌≤◌, ◌⊎◌, Bool, List, length}
use Rattle.goal_graph.specs.Schedule.{Plan}
use Rattle.goal_blocks.specs.declared.cert_fault.CertFault.{CertFault}
use Rattle.goal_blocks.specs.declared.cert_fault.CertFault.TheVariants.{Weight, Wrong, NoMemory}
use Rattle.goal_limits.specs.declared.collective.Collective.{Collective}
use Rattle.goal_blocks.specs.declared.segment.Segment.{Segment}
use Rattle.goal_blocks.specs.Values.{Value, Store}
use Rattle.goal_blocks.specs.Segments.{initial_in, wanted_in}
use Rattle.goal_blocks.specs.Faults.{HasFault, fault_place, IsLeast, op_key, IsStalled}
use Rattle.goal_graph.specs.declared.action.OpId.{OpId}

-- the schedule has no fault of a kind whose place is at least `from` and below `end`
abbrev pub HasNone : List Plan → Store → (ℕ → ℕ → Value → Bool) → ℕ → ℕ → Type 0
HasNone plans first wanted from end =
    (fault : CertFault) → from ≤ fault_place fault → fault_place fault < end → HasFault plans first wanted fault → ⊥

-- a fault of one of these kinds, and no fault of an earlier one of them
pub record IsFirstOf (plans : List Plan) (first : Store) (wanted : ℕ → ℕ → Value → Bool) (from end : ℕ) (fault : CertFault) : Type 0 where
  pub has : HasFault plans first wanted fault
  pub not_under : from ≤ fault_place fault
  pub under : fault_place fault < end
  pub none_before : HasNone plans first wanted from (fault_place fault)

-- What a stage returns whose kinds of faults do not depend on the values of slots: none of these kinds,
abbrev pub IsFree : List Plan → ℕ → ℕ → Type 0
IsFree plans from end =
    (first : Store) (wanted : ℕ → ℕ → Value → Bool) → HasNone plans first wanted from end

-- or the first fault, or `NoMemory`.
abbrev pub IsStopped : List Plan → ℕ → ℕ → CertFault → Type 0
IsStopped plans from end fault =
    (fault ≡ NoMemory) ⊎ ((first : Store) (wanted : ℕ → ℕ → Value → Bool) → IsFirstOf plans first wanted from end fault)

-- What a stage returns whose kinds of faults depend on the values of slots, for a collective in a segment: none of
-- these kinds,
abbrev pub IsFreeIn : Collective → Segment → List Plan → ℕ → ℕ → Type 0
IsFreeIn what segment plans from end = HasNone plans (initial_in what segment.width segment.block (length plans)) (wanted_in what segment.width segment.block (length plans)) from end

-- or the first fault, or `NoMemory`.
abbrev pub IsStoppedIn : Collective → Segment → List Plan → ℕ → ℕ → CertFault → Type 0
IsStoppedIn what segment plans from end fault = (fault ≡ NoMemory) ⊎ IsFirstOf plans (initial_in what segment.width segment.block (length plans)) (wanted_in what segment.width segment.block (length plans)) from end fault

-- Faults of values: too many are held, or a slot holds the wrong one at the end.
abbrev pub SpeaksOfValues : CertFault → Type 0
SpeaksOfValues (Weight total) = Unit {0}
SpeaksOfValues (Wrong rank slot) = Unit {0}
SpeaksOfValues _ = ⊥

-- each operation has an end in the walk
abbrev pub NoneStalls : List Plan → Type 0
NoneStalls plans = (op : OpId) → IsLeast op_key (IsStalled plans) op → ⊥
