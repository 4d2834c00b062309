-- Labels in their order. Most blocks number their labels and define them in that order: each comes after all before it.
use Rattle.std.specs.Prelude.{◌≡◌, ℕ, ◌<◌, ◌≤◌, List, length}
use Rattle.std.specs.Ordering.{nat_cmp}
use Rattle.std.specs.declared.cmp.Ordering.{Ordering}
use Rattle.std.specs.declared.cmp.Ordering.TheVariants.{Less, Equal, Greater}
use Rattle.std.specs.Cmp.Lexicographic.{slice_cmp}
use Rattle.goal_labels.specs.Entries.{Entries, IsAt}

-- the first of two comparisons, unless it is a tie; then the second
abbrev pub or_else : Ordering → Ordering → Ordering
or_else Less second = Less
or_else Equal second = second
or_else Greater second = Greater

-- the order of labels: shorter first, and those of one length by their bytes, so l9 comes before l10
abbrev pub label_cmp : List ℕ → List ℕ → Ordering
label_cmp one other = or_else (nat_cmp (length one) (length other)) (slice_cmp nat_cmp one other)

-- the label of each entry from `first` on comes before this one
abbrev pub AreBefore : Entries → ℕ → List ℕ → Type 0
AreBefore entries first label = (i : ℕ) (one : List ℕ) → first ≤ i → IsAt entries one i → label_cmp one label ≡ Less

-- the labels from `first` to before `end` ascend
abbrev pub AreAscending : Entries → ℕ → ℕ → Type 0
AreAscending entries first end =
    (i j : ℕ) (one other : List ℕ) → first ≤ i → i < j → j < end → IsAt entries one i → IsAt entries other j → label_cmp one other ≡ Less
