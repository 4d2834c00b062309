-- Sizes of schedules that are given by entries, and sums of bounds.
use Rattle.std.proofs.Common.{⊎_elim, ◌≡◌, ℕ, zero, suc, ◌*◌, ◌^◌, ◌<◌, ◌≤◌, List, [], ◌∷◌, length, All, refl, sym, ap, ◌∙◌, subst, arith}
use Rattle.std.specs.List.{flat_map, range_with_len, sum_by}
use Rattle.std.proofs.Math.Nat.{mul-le-mul_right, le_trans}
use Rattle.std.proofs.lemmas.Bool.{cases_lt}
use Rattle.std.proofs.lemmas.List.Concat.{flat_map-cons}
use Rattle.std.proofs.lemmas.List.Elements.{All-map}
use Rattle.std.proofs.lemmas.List.FromFn.{length-map-range_with_len}
use Rattle.std.proofs.lemmas.List.Sums.{sum_by-cons, sum_by-append}
use Rattle.goal_limits.specs.Limits.{certified_op_limit, moved_limit}
use Rattle.goal_graph.specs.Schedule.{Plan}
use Rattle.goal_blocks.specs.Weight.{sum_below}
use Rattle.goal_blocks.specs.Certification.{NamesLowSlots, moved_count, IsSmall}
use Rattle.goal_blocks.specs.Entries.{Entry, op_of, notes_of, plan_by, made_by}
use Rattle.goal_blocks.proofs.Fitting.{All-flat_map, All-range, sum_by-map}
use Rattle.goal_blocks.proofs.Totals.{sum_by_le, entries_few}

sum_by-flat_map : {X Y : Type 0} (f : Y → ℕ) (g : X → List Y) (xs : List X) → sum_by f (flat_map g xs) ≡ sum_by (λ x. sum_by f (g x)) xs
sum_by-flat_map f g [] = refl
sum_by-flat_map f g (x ∷ xs) =
    rw (flat_map-cons g x xs, sum_by-append f (g x) (flat_map g xs), sum_by-cons (λ x. sum_by f (g x)) x xs, sum_by-flat_map f g xs) refl

-- n numbers that are each at most c
pub sum_below_few : (n c : ℕ) (f : ℕ → ℕ) → ((k : ℕ) → k < n → f k ≤ c) → sum_below n f ≤ n * c
unfolding sum_below
sum_below_few zero c f each = omega arith
sum_below_few (suc n) c f each =
    let rest = sum_below_few n c f (λ k l. each k (omega (arith, l))) in
    let here = each n (omega arith) in
    grind arith

-- n numbers that are each at most c, and 0 from the m-th on
pub sum_low_few : (n m c : ℕ) (f : ℕ → ℕ) → ((k : ℕ) → f k ≤ c) → ((k : ℕ) → m ≤ k → f k ≡ 0) → sum_below n f ≤ m * c
unfolding sum_below
sum_low_few zero m c f each none = omega arith
sum_low_few (suc n) m c f each none =
    ⊎_elim (λ l. le_trans (sum_below_few (suc n) c f (λ k b. each k)) (mul-le-mul_right c l)) (λ g. let rest = sum_low_few n m c f each none in let here = none n g in omega (arith, rest, here)) (cases_lt n m)

module _ (ranks : ℕ) (count : ℕ → ℕ) (e : ℕ → ℕ → Entry) where
  All-made : (P : Plan → Type 0) → ((r : ℕ) → r < ranks → P (plan_by (count r) (e r))) → All P (made_by ranks count e)
  unfolding made_by
  All-made P h =
      All-map P (λ (r : ℕ). plan_by (count r) (e r)) (range_with_len 0 ranks) (All-range (λ (r : ℕ). P (plan_by (count r) (e r))) ranks h)

  few_ops : (r : ℕ) → count r ≤ certified_op_limit → length (plan_by (count r) (e r)).ops ≤ certified_op_limit
  unfolding plan_by
  few_ops r few =
      let same = length-map-range_with_len (λ (i : ℕ). op_of (e r i)) 0 (count r) in omega (arith, same, few)

  low_notes : (r : ℕ) → ((i : ℕ) → i < count r → All NamesLowSlots (notes_of i (e r i))) → All NamesLowSlots (plan_by (count r) (e r)).notes
  unfolding plan_by
  low_notes r each =
      All-flat_map NamesLowSlots (λ (i : ℕ). notes_of i (e r i)) (range_with_len 0 (count r)) (All-range (λ (i : ℕ). All NamesLowSlots (notes_of i (e r i))) (count r) each)

  moves_of_rank : (r : ℕ) → sum_by moved_count (plan_by (count r) (e r)).notes ≡ sum_by (λ (i : ℕ). sum_by moved_count (notes_of i (e r i))) (range_with_len 0 (count r))
  unfolding plan_by
  moves_of_rank r =
      sum_by-flat_map moved_count (λ (i : ℕ). notes_of i (e r i)) (range_with_len 0 (count r))

  moves_made : sum_by (λ (p : Plan). sum_by moved_count p.notes) (made_by ranks count e) ≡ sum_by (λ (r : ℕ). sum_by (λ (i : ℕ). sum_by moved_count (notes_of i (e r i))) (range_with_len 0 (count r))) (range_with_len 0 ranks)
  unfolding made_by
  moves_made =
      sum_by-map (λ (p : Plan). sum_by moved_count p.notes) (λ (r : ℕ). plan_by (count r) (e r)) (range_with_len 0 ranks) ∙ ap (λ (f : ℕ → ℕ). sum_by f (range_with_len 0 ranks)) (λ i r. moves_of_rank r i)

  -- a schedule is small if entries move at most `load` low slots and all loads are within the limit
  pub entries_moved : (load : ℕ → ℕ → ℕ) → ((r : ℕ) → r < ranks → count r ≤ certified_op_limit) → ((r i : ℕ) → r < ranks → i < count r → All NamesLowSlots (notes_of i (e r i))) → ((r i : ℕ) → r < ranks → i < count r → sum_by moved_count (notes_of i (e r i)) ≤ load r i) → sum_by (λ (r : ℕ). sum_by (load r) (range_with_len 0 (count r))) (range_with_len 0 ranks) ≤ moved_limit → IsSmall (made_by ranks count e)
  entries_moved load few low each total = record {
    operations = All-made (λ (p : Plan). length p.ops ≤ certified_op_limit) (λ r l. few_ops r (few r l));
    slots = All-made (λ (p : Plan). All NamesLowSlots p.notes) (λ r l. low_notes r (λ i m. low r i l m));
    moves = subst (λ (n : ℕ). n ≤ moved_limit) (sym moves_made) (le_trans (sum_by_le (λ (r : ℕ). sum_by (λ (i : ℕ). sum_by moved_count (notes_of i (e r i))) (range_with_len 0 (count r))) (λ (r : ℕ). sum_by (load r) (range_with_len 0 (count r))) (range_with_len 0 ranks) (All-range (λ (r : ℕ). sum_by (λ (i : ℕ). sum_by moved_count (notes_of i (e r i))) (range_with_len 0 (count r)) ≤ sum_by (load r) (range_with_len 0 (count r))) ranks (λ r l. sum_by_le (λ (i : ℕ). sum_by moved_count (notes_of i (e r i))) (load r) (range_with_len 0 (count r)) (All-range (λ (i : ℕ). sum_by moved_count (notes_of i (e r i)) ≤ load r i) (count r) (λ i m. each r i l m))))) total);
  }

  -- the same if each entry moves at most c slots
  pub entries_small : (c : ℕ) → ((r : ℕ) → r < ranks → count r ≤ certified_op_limit) → ((r i : ℕ) → r < ranks → i < count r → All NamesLowSlots (notes_of i (e r i))) → ((r i : ℕ) → r < ranks → i < count r → sum_by moved_count (notes_of i (e r i)) ≤ c) → sum_by count (range_with_len 0 ranks) * c ≤ moved_limit → IsSmall (made_by ranks count e)
  entries_small c few low each total =
      entries_moved (λ r i. c) few low each (le_trans (entries_few ranks count (λ r i. c) c (λ r i l m. omega arith)) total)
