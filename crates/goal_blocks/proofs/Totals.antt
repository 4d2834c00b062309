-- Bounds of how much the entries of all ranks have together.
use Rattle.std.proofs.Common.{◌≡◌, ℕ, ◌+◌, ◌*◌, ◌<◌, ◌≤◌, List, [], ◌∷◌, length, All, arith}
use Rattle.std.specs.List.{range_with_len, sum_by}
use Rattle.std.proofs.lemmas.List.Elements.{All-head, All-tail}
use Rattle.std.proofs.lemmas.List.FromFn.{length-range_with_len}
use Rattle.std.proofs.lemmas.List.Sums.{sum_by-cons}
use Rattle.goal_blocks.specs.Entries.{Entry}
use Rattle.goal_blocks.specs.Fitting.{need_total, note_total}
use Rattle.goal_blocks.proofs.Fitting.{All-range}

pub sum_by_le : {X : Type 0} (f g : X → ℕ) (xs : List X) → All (λ x. f x ≤ g x) xs → sum_by f xs ≤ sum_by g xs
sum_by_le f g [] h = omega arith
sum_by_le f g (x ∷ xs) h =
    let here = All-head (λ x. f x ≤ g x) x xs h in
    let rest = sum_by_le f g xs (All-tail (λ x. f x ≤ g x) x xs h) in
    rw (sum_by-cons f x xs, sum_by-cons g x xs) (omega (arith, here, rest))

sum_by_times : {X : Type 0} (f : X → ℕ) (c : ℕ) (xs : List X) → sum_by (λ x. f x * c) xs ≡ sum_by f xs * c
sum_by_times f c [] = omega arith
sum_by_times f c (x ∷ xs) =
    rw (sum_by-cons (λ x. f x * c) x xs, sum_by-cons f x xs, sum_by_times f c xs) (omega arith)

sum_by_same : {X : Type 0} (c : ℕ) (xs : List X) → sum_by (λ (x : X). c) xs ≡ length xs * c
sum_by_same c [] = omega arith
sum_by_same c (x ∷ xs) =
    rw (sum_by-cons (λ x. c) x xs, sum_by_same c xs) (grind arith)

-- n numbers that are each at most c
pub sum_range_few : (f : ℕ → ℕ) (n c : ℕ) → ((i : ℕ) → i < n → f i ≤ c) → sum_by f (range_with_len 0 n) ≤ n * c
sum_range_few f n c h =
    let le = sum_by_le f (λ i. c) (range_with_len 0 n) (All-range (λ i. f i ≤ c) n h) in
    let e = sum_by_same c (range_with_len 0 n) in
    let size = length-range_with_len 0 n in
    rw (e, size) at le

-- if f counts at most c per entry, it counts at most c times their number in all
pub entries_few : (ranks : ℕ) (count : ℕ → ℕ) (f : ℕ → ℕ → ℕ) (c : ℕ) → ((r i : ℕ) → r < ranks → i < count r → f r i ≤ c) → sum_by (λ (r : ℕ). sum_by (f r) (range_with_len 0 (count r))) (range_with_len 0 ranks) ≤ sum_by count (range_with_len 0 ranks) * c
entries_few ranks count f c h =
    let le = sum_by_le (λ (r : ℕ). sum_by (f r) (range_with_len 0 (count r))) (λ (r : ℕ). count r * c) (range_with_len 0 ranks) (All-range (λ (r : ℕ). sum_by (f r) (range_with_len 0 (count r)) ≤ count r * c) ranks (λ r in_rank. sum_range_few (f r) (count r) c (λ i inside. h r i in_rank inside))) in
    rw (← sum_by_times count c (range_with_len 0 ranks)) le

module _ (ranks : ℕ) (count : ℕ → ℕ) (e : ℕ → ℕ → Entry) (c : ℕ) where
  pub needs_few : ((r i : ℕ) → r < ranks → i < count r → length (e r i).needs ≤ c) → need_total ranks count e ≤ sum_by count (range_with_len 0 ranks) * c
  unfolding need_total
  needs_few h = entries_few ranks count (λ r i. length (e r i).needs) c h

  pub notes_few : ((r i : ℕ) → r < ranks → i < count r → length (e r i).moves + length (e r i).adds ≤ c) → note_total ranks count e ≤ sum_by count (range_with_len 0 ranks) * c
  unfolding note_total
  notes_few h = entries_few ranks count (λ r i. length (e r i).moves + length (e r i).adds) c h
