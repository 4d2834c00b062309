-- The first race of a rank, as the code searches it.
use Rattle.std.specs.Prelude.{ℕ, ◌≡◌, ◌<◌, ◌≤◌, ◌⊎◌, ◌&&◌, ◌==◌, Bool, true, not, nat_lt, if◌then◌else◌, List, Contains, Option, Some, None}
use Rattle.goal_limits.specs.Limits.{certified_op_limit}
use Rattle.goal_graph.specs.Schedule.{Plan}
use Rattle.goal_graph.specs.Order.{IsLess}
use Rattle.goal_blocks.specs.Faults.{RaceAt, race_key, IsRace}
use Rattle.goal_certify.specs.declared.races.search.OpPair.{OpPair}
use Rattle.goal_certify.specs.declared.races.RankRace.{RankRace}
use Rattle.goal_certify.specs.declared.races.touches.Touch.{Touch}
use Rattle.goal_certify.specs.Rows.{has}
use Rattle.goal_certify.specs.Table.{meets}

-- whether two operations share a slot that one of them writes, and neither ends before the other starts
abbrev pub is_open : List ℕ → List ℕ → ℕ → ℕ → Bool
is_open before shared x y = has shared x y && (not (has before y x) && not (has before x y))

-- if a row has the number of another row, this one has the number of the first
abbrev pub IsMutual : List ℕ → Type 0
IsMutual rows = (x y : ℕ) → x < certified_op_limit → y < certified_op_limit → has rows x y ≡ true → has rows y x ≡ true

-- the operations of lesser numbers that the touch meets end before its operation starts
abbrev pub IsOrdered : List ℕ → List ℕ → List ℕ → Touch → Type 0
IsOrdered before touchers writers t =
    (k : ℕ) → k < t.op → meets touchers writers t k ≡ true → has before t.op k ≡ true

-- the least operation y above x, of the first `count`, with which x is open
abbrev pub IsNextOpen : List ℕ → List ℕ → ℕ → ℕ → Option ℕ → Type 0
IsNextOpen before shared x count None = (y : ℕ) → x < y → y < count → is_open before shared x y ≡ true → ⊥
IsNextOpen before shared x count (Some z) =
    (x < z) × (z < count) × (is_open before shared x z ≡ true) × ((y : ℕ) → x < y → y < z → is_open before shared x y ≡ true → ⊥)

-- the least pair of the first `count` operations that is open
abbrev pub IsFirstOpen : List ℕ → List ℕ → ℕ → Option OpPair → Type 0
IsFirstOpen before shared count None = (x y : ℕ) → x < y → y < count → is_open before shared x y ≡ true → ⊥
IsFirstOpen before shared count (Some p) =
    (p.first < p.second) × (p.second < count) × (is_open before shared p.first p.second ≡ true) × ((x y : ℕ) → x < y → y < count → (x < p.first) ⊎ ((x ≡ p.first) × (y < p.second)) → is_open before shared x y ≡ true → ⊥)

-- the least slot at which a touch of the first operation meets one of the second
abbrev pub IsLeastSlot : List ℕ → List ℕ → List Touch → OpPair → Option ℕ → Type 0
IsLeastSlot touchers writers touches p None =
    (t : Touch) → Contains touches t → t.op ≡ p.first → meets touchers writers t p.second ≡ true → ⊥
IsLeastSlot touchers writers touches p (Some s) =
    ((t : Touch) × Contains touches t × (t.op ≡ p.first) × (t.slot ≡ s) × (meets touchers writers t p.second ≡ true)) × ((t : Touch) → Contains touches t → t.op ≡ p.first → meets touchers writers t p.second ≡ true → s ≤ t.slot)

abbrev pub race_at : ℕ → RankRace → RaceAt
race_at rank r = record { rank = rank; first = r.first; second = r.second; slot = r.slot }

-- the least race of a rank, if it has one
abbrev pub IsFirstOfRank : List Plan → ℕ → Option RankRace → Type 0
IsFirstOfRank plans rank None = (a : RaceAt) → a.rank ≡ rank → IsRace plans a → ⊥
IsFirstOfRank plans rank (Some r) =
    IsRace plans (race_at rank r) × ((a : RaceAt) → a.rank ≡ rank → IsLess (race_key a) (race_key (race_at rank r)) → IsRace plans a → ⊥)

-- the lesser of two slots, of which the first may be missing
abbrev pub lesser : Option ℕ → ℕ → ℕ
lesser None slot = slot
lesser (Some other) slot = if nat_lt other slot then other else slot

-- the same with another touch
abbrev pub least_with : List ℕ → List ℕ → OpPair → Option ℕ → Touch → Option ℕ
least_with touchers writers p least t =
    if (t.op == p.first) && meets touchers writers t p.second then Some (lesser least t.slot) else least
