-- Rows of bits: each row is a set of numbers below 2,048.
use Rattle.std.specs.Prelude.{ℕ, ◌+◌, ◌*◌, ◌/◌, ◌%◌, ◌==◌, Bool, List, slice_index}
use Rattle.std.specs.Int.{bit_at}

-- whether the row has the number; a row has 32 words of 64 bits
unfoldable pub has : List ℕ → ℕ → ℕ → Bool
has rows row k = bit_at (slice_index rows (32 * row + k / 64)) (k % 64) == 1
