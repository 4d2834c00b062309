-- A set of places, as bits of words.
use Rattle.std.specs.Prelude.{ℕ, ◌≡◌, ◌*◌, ◌/◌, ◌%◌, ◌^◌, ◌==◌, ◌<◌, ◌≤◌, Bool, true, List, length, map, slice_index, Option, Some, None, if◌then◌else◌}
use Rattle.std.specs.Int.{bit_at}
use Rattle.std.specs.List.{range_with_len}

-- whether the bit is 1; a word has 64 of them
unfoldable pub is_on : List ℕ → ℕ → Bool
is_on words k = bit_at (slice_index words (k / 64)) (k % 64) == 1

-- each place below a count, if its bit is 1
unfoldable pub turns_of : List ℕ → ℕ → List (Option ℕ)
turns_of words count = map (λ (k : ℕ). if is_on words k then Some k else None) (range_with_len 0 count)

-- the bits of `count` places, and the heads, whose bits say which words are not 0
pub record AreTurns (words heads : List ℕ) (count : ℕ) : Type 0 where
  pub fits : count < 2 ^ 32
  pub room : count < 64 * length words
  pub heads_room : length words < 64 * length heads
  pub few : length words ≤ 2 ^ 32
  pub heads_few : length heads ≤ 2 ^ 32
  pub low : (k : ℕ) → is_on words k ≡ true → k < count
  pub marked : (w : ℕ) → 0 < slice_index words w → is_on heads w ≡ true
  pub marks : (w : ℕ) → is_on heads w ≡ true → 0 < slice_index words w
