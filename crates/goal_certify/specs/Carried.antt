-- The values that are kept along the walk: those of the slots, and those under way.
use Rattle.std.specs.Prelude.{ℕ, ◌+◌, ◌≡◌, ◌<◌, ◌≤◌, ◌⊎◌, List, ◌∷◌, map, drop, length, take, All, Option, Some, None, if◌then◌else◌}
use Rattle.std.specs.List.{sum_by}
use Rattle.std.specs.Option.{option_map}
use Rattle.goal_limits.specs.Limits.{weight_limit}
use Rattle.goal_graph.specs.declared.action.OpId.{OpId}
use Rattle.goal_graph.specs.Schedule.{Plan, operations}
use Rattle.goal_graph.specs.Action.{Act}
use Rattle.goal_blocks.specs.declared.cert_fault.CertFault.{CertFault}
use Rattle.goal_blocks.specs.declared.cert_fault.CertFault.TheVariants.{Weight, NoMemory}
use Rattle.goal_blocks.specs.declared.slots.Adding.{Adding}
use Rattle.goal_blocks.specs.Walk.{no_send}
use Rattle.goal_blocks.specs.Values.{Value, Store, Held, add_all, held_after}
use Rattle.goal_blocks.specs.Weight.{stored, carried, is_under_way}
use Rattle.goal_blocks.specs.Channels.{HasNoWildcard}
use Rattle.goal_blocks.specs.Certification.{IsSmall, HasEqualLengths, IsLight}
use Rattle.goal_blocks.specs.Faults.{IsTooHeavy, IsFirstTooHeavy}
use Rattle.goal_values.specs.Kept.{Kept, values}
use Rattle.goal_values.specs.Summed.{Summed, payload_values, IsPayload}
use Rattle.goal_certify.specs.declared.walk.action.PlainAction.{PlainAction}
use Rattle.goal_certify.specs.declared.walk.parcel.Parcel.{Parcel}
use Rattle.goal_certify.specs.declared.walk.parcel.Holdings.{Holdings}
use Rattle.goal_certify.specs.WalkSoFar.{WalkSoFar, act_of}

-- a parcel in contracts: the values that are under way, and how many contributions these have
pub record ParcelValues : Type 0 where
  pub payload : List Value
  pub size : ℕ

abbrev pub values_of_parcel : List Value → Parcel → ParcelValues
values_of_parcel sums p = record { payload = payload_values sums p.payload; size = p.size }

-- the same for each parcel in a table
abbrev pub values_of_parcels : List Value → List (Option Parcel) → List (Option ParcelValues)
values_of_parcels sums parcels = map (option_map (values_of_parcel sums)) parcels

-- the payload of the parcel refers to existing sums
abbrev pub IsKnown : List Value → Option Parcel → Type 0
IsKnown sums None = Unit {0}
IsKnown sums (Some p) = IsPayload sums p.payload

-- how many contributions these values have
abbrev pub size_of : List Value → ℕ
size_of vs = sum_by (λ (v : Value). length v) vs

abbrev pub parcel_size : Option ParcelValues → ℕ
parcel_size None = 0
parcel_size (Some p) = p.size

-- the parcel of a send that has read these values
abbrev pub parcel_of : List Value → ParcelValues
parcel_of vs = record { payload = vs; size = size_of vs }

-- the parcel of the send m, while it is under way
abbrev pub parcel_under_way : List Plan → List Act → Held → OpId → Option ParcelValues
parcel_under_way plans h held m = if is_under_way plans h m then Some (parcel_of (held.payload m)) else None

-- There is a parcel for each send that is under way, in the order of all operations. There were never too many
-- contributions held.
pub record IsCarrying (plans : List Plan) (first : Store) (h : List Act) (s : Kept) (parcels : List (Option ParcelValues)) (count : ℕ) : Type 0 where
  pub values_are : values s ≡ (held_after plans no_send first h).store
  pub ranks : s.ranks ≡ length plans
  pub parcels_are : parcels ≡ map (parcel_under_way plans h (held_after plans no_send first h)) (operations plans)
  pub counted : count ≡ carried plans h (held_after plans no_send first h)
  pub light : IsLight plans first h

-- the same of values that are stored as sums
pub record IsHolding (plans : List Plan) (first : Store) (h : List Act) (s : Summed) (parcels : List (Option Parcel)) (count : ℕ) : Type 0 where
  pub carrying : IsCarrying plans first h s.kept (values_of_parcels s.sums parcels) count
  pub known : All (IsKnown s.sums) parcels

-- memory ran out, or this number of contributions is too much
abbrev pub IsOver : (ℕ → Type 0) → CertFault → Type 0
IsOver P fault = (fault ≡ NoMemory) ⊎ ((total : ℕ) × (fault ≡ Weight total) × P total)

-- all that is held, after a list of actions
abbrev pub Holds : List Plan → Store → List Act → Holdings → Type 0
Holds plans first h held = IsHolding plans first h held.store held.parcels.items held.carried

-- what was held before the last action is held after it, with the changes of that action
abbrev pub FollowsOn : WalkSoFar → Holdings → Holdings → Type 0
FollowsOn w old new = (first : Store) → Holds w.plans first (drop 1 w.history) old → Holds w.plans first w.history new

-- with the last action, too much is held
abbrev pub GrowsTooHeavy : WalkSoFar → Holdings → CertFault → Type 0
GrowsTooHeavy w old fault =
    (first : Store) → Holds w.plans first (drop 1 w.history) old → IsOver (λ total. IsFirstTooHeavy w.plans first w.history total) fault

-- the conditions for an action that has just happened: the walk is of a small schedule, the table is of its notes, and
-- `old` was held before the action
pub record IsTaken (w : WalkSoFar) (table : List Plan) (a : PlainAction) (old : Holdings) : Type 0 where
  pub small : IsSmall w.plans
  pub table_is : table ≡ w.plans
  pub newest : w.history ≡ act_of a ∷ drop 1 w.history
  pub held : (first : Store) × Holds w.plans first (drop 1 w.history) old

-- the conditions for a schedule whose receives take as many values as were sent
pub record HasEqualEnds (plans : List Plan) : Type 0 where
  pub channels : HasNoWildcard plans
  pub lengths : HasEqualLengths plans

-- after the first of these notes with which too much is held, `total` contributions are held, `others` included
abbrev pub AddsOver : ℕ → ℕ → List Adding → Store → ℕ → ℕ → Type 0
AddsOver ranks rank added store others total =
    (n : ℕ) × (stored ranks (add_all rank (take n added) store) + others ≡ total) × IsTooHeavy total × ((k : ℕ) → k < n → stored ranks (add_all rank (take k added) store) + others ≤ weight_limit)

-- after each of these notes, few enough are held, `others` included
abbrev pub AddsWithin : ℕ → ℕ → List Adding → Store → ℕ → Type 0
AddsWithin ranks rank added store others =
    (n : ℕ) → stored ranks (add_all rank (take n added) store) + others ≤ weight_limit
