-- What slots have, given by a list of slots for each rank.
use Rattle.std.specs.Prelude.{ℕ, ◌≡◌, ◌==◌, ◌&&◌, List, [], Option, Some, slice_index_or, if◌then◌else◌}
use Rattle.std.specs.Map.{lookup}
use Rattle.std.specs.Ordering.{nat_cmp}
use Rattle.std.specs.BTreeMap.{is_at}

module _ {X : Type 0} where
  -- what a slot of a rank has; the first ranks have a list each
  abbrev pub found_in : List (List (ℕ × X)) → ℕ → ℕ → Option X
  found_in rows r k = lookup (is_at (nat_cmp k)) (slice_index_or rows r [])

  -- each slot has the same as before
  abbrev pub HasSameSlots : List (List (ℕ × X)) → List (List (ℕ × X)) → Type 0
  HasSameSlots old new = (r k : ℕ) → found_in new r k ≡ found_in old r k

  -- the slot of the rank has this, and every other slot has the same as before
  abbrev pub HasSet : ℕ → ℕ → X → List (List (ℕ × X)) → List (List (ℕ × X)) → Type 0
  HasSet rank slot x old new =
      (r k : ℕ) → found_in new r k ≡ (if (r == rank) && (k == slot) then Some x else found_in old r k)
