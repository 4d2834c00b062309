-- The entries of a table of pairs of nodes, in rows: those from one node are side by side.
use Rattle.std.specs.Prelude.{ℕ, ◌≡◌, ◌<◌, ◌≤◌, ◌/◌, List, length, Some, slice_get}
use Rattle.std.specs.Ordering.{nat_cmp}
use Rattle.std.specs.List.Sorted.{IsStrictlySortedBy}
use Rattle.std.specs.Map.{keys_of}

-- the first node of the pair of a key
abbrev pub node_of : ℕ → ℕ
node_of key = key / 4294967296

-- the entries from this node, and from greater ones, begin at this place
pub record IsStart (entries : List (ℕ × ℕ)) (node start : ℕ) : Type 0 where
  pub within : start ≤ length entries
  pub lower : (k : ℕ) (e : ℕ × ℕ) → slice_get entries k ≡ Some e → k < start → node_of e.0 < node
  pub rest : (k : ℕ) (e : ℕ × ℕ) → slice_get entries k ≡ Some e → start ≤ k → node ≤ node_of e.0

-- where the entries from each node begin
abbrev pub AreStarts : List (ℕ × ℕ) → List ℕ → Type 0
AreStarts entries starts = (node start : ℕ) → slice_get starts node ≡ Some start → IsStart entries node start

-- all entries from a node are between these places, without the second
pub record IsRow (entries : List (ℕ × ℕ)) (node start end : ℕ) : Type 0 where
  pub order : start ≤ end
  pub within : end ≤ length entries
  pub between : (k : ℕ) (e : ℕ × ℕ) → slice_get entries k ≡ Some e → node_of e.0 ≡ node → (start ≤ k) × (k < end)

-- entries in the order of their keys, without duplicates, and where those from each node begin
pub record AreInRows (entries : List (ℕ × ℕ)) (starts : List ℕ) : Type 0 where
  pub sorted : IsStrictlySortedBy nat_cmp (keys_of entries)
  pub rows : AreStarts entries starts
