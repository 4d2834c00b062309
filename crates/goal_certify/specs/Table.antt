-- Rows of bits for each slot: which operations of a rank touch it, or write it. And rows for each operation: with which
-- operations it shares a slot that one of the two writes.
use Rattle.std.specs.Prelude.{ℕ, ◌≡◌, ◌+◌, ◌*◌, ◌<◌, ◌≤◌, ◌||◌, Bool, true, not, List, length, Contains, if◌then◌else◌}
use Rattle.goal_limits.specs.Limits.{certified_op_limit}
use Rattle.goal_certify.specs.declared.races.touches.Touch.{Touch}
use Rattle.goal_certify.specs.Rows.{has}

-- whether a touch is in the rows: all are, or only those that write
abbrev pub is_marked : Bool → Touch → Bool
is_marked only_writes t = not only_writes || t.writes

-- no row has a number
abbrev pub AreEmpty : List ℕ → Type 0
AreEmpty rows = (r k : ℕ) → k < certified_op_limit → has rows r k ≡ true → ⊥

-- the row of each slot has the operations of its marked touches
pub record AreMarked (only_writes : Bool) (touches : List Touch) (rows : List ℕ) : Type 0 where
  pub has_all : (t : Touch) → Contains touches t → is_marked only_writes t ≡ true → has rows t.slot t.op ≡ true
  pub no_more : (s k : ℕ) → k < certified_op_limit → has rows s k ≡ true → (t : Touch) × Contains touches t × (is_marked only_writes t ≡ true) × (t.slot ≡ s) × (t.op ≡ k)
  pub room : (t : Touch) → Contains touches t → 32 * t.slot + 32 ≤ length rows

-- whether the operation k has a touch of the same slot, and one of the two touches writes
abbrev pub meets : List ℕ → List ℕ → Touch → ℕ → Bool
meets touchers writers t k = if t.writes then has touchers t.slot k else has writers t.slot k

-- the row of each operation has the operations that its touches meet
pub record AreShared (touchers writers : List ℕ) (touches : List Touch) (rows : List ℕ) : Type 0 where
  pub has_all : (t : Touch) → Contains touches t → (k : ℕ) → k < certified_op_limit → meets touchers writers t k ≡ true → has rows t.op k ≡ true
  pub no_more : (r k : ℕ) → k < certified_op_limit → has rows r k ≡ true → (t : Touch) × Contains touches t × (t.op ≡ r) × (meets touchers writers t k ≡ true)
