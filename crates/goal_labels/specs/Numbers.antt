-- Numbers of labels: some are found by their hashes, and the others in an ordered map.
use Rattle.std.specs.Prelude.{ℕ, ◌≤◌, List, Option, nat_eq, length}
use Rattle.std.specs.Option.{option_or}
use Rattle.std.specs.Ordering.{nat_cmp}
use Rattle.std.specs.Cmp.Lexicographic.{pointwise, slice_cmp}
use Rattle.std.specs.BTreeMap as ordered
use Rattle.indexmap.specs.IndexMap as hashed
use Rattle.goal_labels.specs.declared.numbers.LabelNumbers.{LabelNumbers}

-- the number of a label found by its hash
abbrev pub hashed_at : LabelNumbers → List ℕ → Option ℕ
hashed_at numbers label = hashed.get (pointwise nat_eq) numbers.hashed label

-- the number of a label found in the ordered map
abbrev pub ordered_at : LabelNumbers → List ℕ → Option ℕ
ordered_at numbers label = ordered.get (slice_cmp nat_cmp) numbers.ordered label

-- so few labels are found by their hashes that comparing all of them takes a few microseconds
abbrev pub AreFew : LabelNumbers → Type 0
AreFew numbers = length numbers.hashed.entries ≤ 1024

-- the number of a label, if it has one
unfoldable pub number_of : LabelNumbers → List ℕ → Option ℕ
number_of numbers label = option_or (hashed_at numbers label) (ordered_at numbers label)
