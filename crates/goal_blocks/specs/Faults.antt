-- Why a schedule is not certified: nine kinds of fault, each of which can be read separately, and which is the first.
use Rattle.std.specs.Prelude.{ℕ, ◌+◌, ◌≡◌, ◌≢◌, ◌<◌, ◌≤◌, ◌⊎◌, Bool, false, List, [], ◌∷◌, length, take, Contains, Option, Some, is_some}
use Rattle.std.specs.List.{sum_by}
use Rattle.goal_limits.specs.Limits.{certified_op_limit, moved_limit, weight_limit}
use Rattle.goal_graph.specs.declared.action.OpId.{OpId}
use Rattle.goal_graph.specs.declared.plan.Kind.{Kind}
use Rattle.goal_graph.specs.declared.plan.Kind.TheVariants.{Calc, Recv}
use Rattle.goal_graph.specs.declared.plan.Note.{Note}
use Rattle.goal_graph.specs.Schedule.{Plan, kind_at, ops_at, IsSend, IsReceive}
use Rattle.goal_graph.specs.Action.{Act}
use Rattle.goal_graph.specs.Allowed.{has_ended}
use Rattle.goal_graph.specs.Order.{IsBefore, IsLess}
use Rattle.goal_graph.specs.Fault.{IsOp}
use Rattle.goal_blocks.specs.declared.cert_fault.CertFault.{CertFault}
use Rattle.goal_blocks.specs.declared.cert_fault.CertFault.TheVariants.{TooLarge, Wildcard, DoubleChannel, Unpaired, Lengths, Race, Stalls, Weight, Wrong, NoMemory}
use Rattle.goal_blocks.specs.Channels.{Channel, channel, AreOfOneChannel}
use Rattle.goal_blocks.specs.Slots.{notes_at, slots, written, touched}
use Rattle.goal_blocks.specs.Race.{EndsBefore}
use Rattle.goal_blocks.specs.Walk.{no_send, IsWalk}
use Rattle.goal_blocks.specs.Values.{Value, Store, Held, held_after, value}
use Rattle.goal_blocks.specs.Weight.{weight, weight_within}
use Rattle.goal_blocks.specs.Certification.{NamesLowSlots, moved_count, AddsAreLight, IsLight}

-- P holds of x, and of nothing with a lesser key
pub record IsLeast {A : Type 0} (key : A → List ℕ) (P : A → Type 0) (x : A) : Type 0 where
  pub holds : P x
  pub none_less : (y : A) → IsLess (key y) (key x) → P y → ⊥

abbrev pub rank_key : ℕ → List ℕ
rank_key rank = rank ∷ []

abbrev pub op_key : OpId → List ℕ
op_key x = x.rank ∷ x.op ∷ []

-- too many operations, too high a slot, or too many slots moved by the ranks up to this one
pub data IsLarge (plans : List Plan) (rank : ℕ) : Type 0 where
  too_many : certified_op_limit < length (ops_at plans rank) → IsLarge plans rank
  too_high : (n : Note) → Contains (notes_at plans rank) n → (NamesLowSlots n → ⊥) → IsLarge plans rank
  too_much : rank < length plans → moved_limit < sum_by (λ (p : Plan). sum_by moved_count p.notes) (take (rank + 1) plans) → IsLarge plans rank

-- a receive from any source or with any tag
pub record IsWildcard (plans : List Plan) (x : OpId) : Type 0 where
  pub room : ℕ
  pub from : Option ℕ
  pub tag : Option ℕ
  pub kind : kind_at plans x ≡ Some (Recv room from tag)
  pub any : (is_some from ≡ false) ⊎ (is_some tag ≡ false)

-- two sends, or two receives, of one channel; y is the lesser
pub record AreDouble (plans : List Plan) (y x : OpId) : Type 0 where
  pub in_order : IsBefore y x
  pub alike : (IsSend plans y × IsSend plans x) ⊎ (IsReceive plans y × IsReceive plans x)
  pub shared : Channel
  pub of_first : channel plans y ≡ Some shared
  pub of_second : channel plans x ≡ Some shared

-- a send without a receive of its channel, or a receive without a send
abbrev pub IsUnpaired : List Plan → OpId → Type 0
IsUnpaired plans x =
    (IsSend plans x × ((y : OpId) → AreOfOneChannel plans x y → ⊥)) ⊎ (IsReceive plans x × ((m : OpId) → AreOfOneChannel plans m x → ⊥))

-- a send and the receive of its channel have different numbers of slots
pub record HaveOtherLengths (plans : List Plan) (m x : OpId) : Type 0 where
  pub one : AreOfOneChannel plans m x
  pub differ : length (slots plans m) ≢ length (slots plans x)

-- two operations of a rank, by their numbers, and a slot
pub record RaceAt : Type 0 where
  pub rank : ℕ
  pub first : ℕ
  pub second : ℕ
  pub slot : ℕ

abbrev pub race_key : RaceAt → List ℕ
race_key a = a.rank ∷ a.first ∷ a.second ∷ a.slot ∷ []

abbrev pub first_of : RaceAt → OpId
first_of a = record { rank = a.rank; op = a.first }

abbrev pub second_of : RaceAt → OpId
second_of a = record { rank = a.rank; op = a.second }

-- both touch the slot, one of them writes it, and neither ends before the other starts
pub record IsRace (plans : List Plan) (a : RaceAt) : Type 0 where
  pub in_order : a.first < a.second
  pub first_touches : Contains (touched plans (first_of a)) a.slot
  pub second_touches : Contains (touched plans (second_of a)) a.slot
  pub one_writes : Contains (written plans (first_of a)) a.slot ⊎ Contains (written plans (second_of a)) a.slot
  pub not_before : EndsBefore plans (first_of a) (second_of a) → ⊥
  pub not_after : EndsBefore plans (second_of a) (first_of a) → ⊥

-- an operation that has not ended after the walk
abbrev pub IsStalled : List Plan → OpId → Type 0
IsStalled plans x =
    IsOp plans x × ((w : List Act) → IsWalk plans w → has_ended plans no_send x w ≡ false)

-- n contributions are too many
abbrev pub IsTooHeavy : ℕ → Type 0
IsTooHeavy n = weight_limit < n

-- `total` is held after the first note of a calc after which it is too much
abbrev pub AddsTooMuch : List Plan → List Act → Held → OpId → Option Kind → ℕ → Type 0
AddsTooMuch plans h held x (Some (Calc nanos)) total =
    (n : ℕ) × (weight_within plans h held x n ≡ total) × IsTooHeavy total × ((k : ℕ) → k < n → weight_within plans h held x k ≤ weight_limit)
AddsTooMuch plans h held x _ total = ⊥

-- `total` is held after the first of these actions after which it is too much, or at the start
abbrev pub IsFirstTooHeavy : List Plan → Store → List Act → ℕ → Type 0
IsFirstTooHeavy plans first [] total =
    (weight plans [] (held_after plans no_send first []) ≡ total) × IsTooHeavy total
IsFirstTooHeavy plans first (a ∷ h) total =
    IsFirstTooHeavy plans first h total ⊎ (IsLight plans first h × (AddsTooMuch plans h (held_after plans no_send first h) a.op (kind_at plans a.op) total ⊎ (AddsAreLight plans h (held_after plans no_send first h) a.op (kind_at plans a.op) × (weight plans (a ∷ h) (held_after plans no_send first (a ∷ h)) ≡ total) × IsTooHeavy total)))

-- a slot of a rank
pub record SlotAt : Type 0 where
  pub rank : ℕ
  pub slot : ℕ

abbrev pub slot_key : SlotAt → List ℕ
slot_key a = a.rank ∷ a.slot ∷ []

-- at the end of the walk it holds a value that does not pass the test
abbrev pub IsWrong : List Plan → Store → (ℕ → ℕ → Value → Bool) → SlotAt → Type 0
IsWrong plans first wanted a =
    (a.rank < length plans) × ((w : List Act) → IsWalk plans w → wanted a.rank a.slot (value plans no_send first w a.rank a.slot) ≡ false)

-- the schedule has this fault, the least of its kind
abbrev pub HasFault : List Plan → Store → (ℕ → ℕ → Value → Bool) → CertFault → Type 0
HasFault plans first wanted (TooLarge rank) = IsLeast rank_key (IsLarge plans) rank
HasFault plans first wanted (Wildcard op) = IsLeast op_key (IsWildcard plans) op
HasFault plans first wanted (DoubleChannel y x) =
    IsLeast op_key (λ x. (y : OpId) × AreDouble plans y x) x × IsLeast op_key (λ y. AreDouble plans y x) y
HasFault plans first wanted (Unpaired op) = IsLeast op_key (IsUnpaired plans) op
HasFault plans first wanted (Lengths m x) =
    IsLeast op_key (λ m. (x : OpId) × HaveOtherLengths plans m x) m × IsLeast op_key (λ x. HaveOtherLengths plans m x) x
HasFault plans first wanted (Race rank lower higher slot) =
    IsLeast race_key (IsRace plans) (record { rank = rank; first = lower; second = higher; slot = slot })
HasFault plans first wanted (Stalls op) = IsLeast op_key (IsStalled plans) op
HasFault plans first wanted (Weight total) =
    (w : List Act) → IsWalk plans w → IsFirstTooHeavy plans first w total
HasFault plans first wanted (Wrong rank slot) =
    IsLeast slot_key (IsWrong plans first wanted) (record { rank = rank; slot = slot })
-- out of memory is not a fault of the schedule
HasFault plans first wanted NoMemory = ⊥

-- the order in which kinds of faults are tried
abbrev pub fault_place : CertFault → ℕ
fault_place (TooLarge rank) = 0
fault_place (Wildcard op) = 1
fault_place (DoubleChannel y x) = 2
fault_place (Unpaired op) = 3
fault_place (Lengths m x) = 4
fault_place (Race rank lower higher slot) = 5
fault_place (Stalls op) = 6
fault_place (Weight total) = 7
fault_place (Wrong rank slot) = 8
fault_place NoMemory = 9

-- the first fault of a schedule
pub record IsCertificationFault (plans : List Plan) (first : Store) (wanted : ℕ → ℕ → Value → Bool) (fault : CertFault) : Type 0 where
  pub has : HasFault plans first wanted fault
  pub none_before : (other : CertFault) → fault_place other < fault_place fault → HasFault plans first wanted other → ⊥
