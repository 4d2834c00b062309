-- What sums consist of, and the invariant of a list of sums.
use Rattle.std.specs.Prelude.{ℕ, ◌≡◌, ◌<◌, List, [], ◌∷◌, ◌++◌, length, Some, slice_get, slice_index_or}
use Rattle.std.specs.List.{sum_by}
use Rattle.goal_blocks.specs.declared.contribution.Contribution.{Contribution}
use Rattle.goal_blocks.specs.Values.{Value, merge}
use Rattle.goal_blocks.specs.Stored.{IsSorted}
use Rattle.goal_values.specs.Sums.{meaning, IsBelow}
use Rattle.goal_values.specs.declared.sums.Sum.{Sum}

-- the values of sums, after those already known: each sum is of values before it
unfoldable pub values_of_sums : List Value → List Sum → List Value
values_of_sums known [] = known
values_of_sums known (s ∷ more) = values_of_sums (known ++ (merge (meaning known s.left) (meaning known s.right) ∷ [])) more

-- the invariant of sum number i, if all sums have these values
pub record IsSum (values : List Value) (i : ℕ) (s : Sum) : Type 0 where
  pub left : IsBelow i s.left
  pub right : IsBelow i s.right
  pub value : slice_index_or values i [] ≡ merge (meaning values s.left) (meaning values s.right)
  pub some_left : 0 < length (meaning values s.left)
  pub some_right : 0 < length (meaning values s.right)
  pub size : s.size ≡ length (slice_index_or values i [])

-- the invariant of all sums
pub record AreSums (sums : List Sum) : Type 0 where
  pub each : (i : ℕ) (s : Sum) → slice_get sums i ≡ Some s → IsSum (values_of_sums [] sums) i s
  pub sorted : (i : ℕ) → IsSorted (slice_index_or (values_of_sums [] sums) i [])
  pub many : length (values_of_sums [] sums) ≡ length sums

-- two lists have each contribution equally often
abbrev pub HasSame : Value → Value → Type 0
HasSame v w = (f : Contribution → ℕ) → sum_by f v ≡ sum_by f w
