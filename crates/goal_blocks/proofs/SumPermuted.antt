-- A sum stays the same if its terms are permuted.
use Rattle.std.proofs.Common.{ℕ, ◌^◌, length, zero, suc, ◌+◌, ◌<◌, ◌==◌, ◌≡◌, Bool, true, false, if◌then◌else◌, refl, sym, ap, ◌∙◌, arith, eq-eqb}
use Rattle.std.proofs.lemmas.Bool.{eqb-true, true≢false}
use Rattle.goal_blocks.specs.Values.{Store}
use Rattle.goal_blocks.specs.Weight.{sum_below, stored}
use Rattle.goal_blocks.specs.Renamed.{under}
use Rattle.goal_blocks.specs.Laws.{IsUndoneBy}
use Rattle.goal_blocks.proofs.SlotSums.{sum_below_of_equal_terms, sum_changed}

sum_none : (n : ℕ) → sum_below n (λ k. 0) ≡ 0
unfolding sum_below
sum_none zero = refl
sum_none (suc n) = let before = sum_none n in omega (arith, before)

sum_below_of_added_terms : (n : ℕ) (f g : ℕ → ℕ) → sum_below n (λ k. f k + g k) ≡ sum_below n f + sum_below n g
unfolding sum_below
sum_below_of_added_terms zero f g = refl
sum_below_of_added_terms (suc n) f g = let before = sum_below_of_added_terms n f g in omega (arith, before)

-- summing a table by rows or by columns gives the same
sums_of_table_exchange : (n m : ℕ) (f : ℕ → ℕ → ℕ) → sum_below n (λ i. sum_below m (f i)) ≡ sum_below m (λ j. sum_below n (λ i. f i j))
unfolding sum_below
sums_of_table_exchange zero m f = sym (sum_none m)
sums_of_table_exchange (suc n) m f =
    ap (λ (s : ℕ). s + sum_below m (f n)) (sums_of_table_exchange n m f) ∙ sym (sum_below_of_added_terms m (λ j. sum_below n (λ i. f i j)) (f n))

zero_at_other_number : (j a v : ℕ) → (j ≡ a → ⊥) → (if j == a then v else 0) ≡ 0
zero_at_other_number j a v ne = go (j == a) refl
  where
    go : (b : Bool) → (j == a) ≡ b → (if b then v else 0) ≡ 0
    go true e = absurd (ne (eqb-true j a e))
    go false e = refl

-- a sum with a single term
sum_single : (n a : ℕ) (f : ℕ → ℕ) → a < n → sum_below n (λ j. if j == a then f j else 0) ≡ f a
sum_single n a f low =
    let changed : sum_below n (λ j. if j == a then f j else 0) + 0 ≡ sum_below n (λ j. 0) + (if a == a then f a else 0) = sum_changed n a (λ j. 0) (λ j. if j == a then f j else 0) low (λ j ne. zero_at_other_number j a (f j) ne) in
    let none = sum_none n in
    let here : (if a == a then f a else 0) ≡ f a = ap (λ (b : Bool). if b then f a else 0) (eq-eqb a a refl) in
    omega (arith, changed, none, here)

module _ (n : ℕ) (name old : ℕ → ℕ) (back : (k : ℕ) → old (name k) ≡ k) (forth : (k : ℕ) → name (old k) ≡ k) (low : (k : ℕ) → k < n → old k < n) (low_name : (k : ℕ) → k < n → name k < n) where
  renamed_test : (j k : ℕ) → (j == old k) ≡ (k == name j)
  renamed_test j k = go (j == old k) (k == name j) refl refl
    where
      go : (a b : Bool) → (j == old k) ≡ a → (k == name j) ≡ b → a ≡ b
      go true true e f = refl
      go false false e f = refl
      go true false e f =
          let is : k ≡ name j = sym (forth k) ∙ ap name (sym (eqb-true j (old k) e)) in
          absurd (true≢false (sym (eq-eqb k (name j) is) ∙ f))
      go false true e f =
          let is : j ≡ old k = sym (back j) ∙ ap old (sym (eqb-true k (name j) f)) in
          absurd (true≢false (sym (eq-eqb j (old k) is) ∙ e))

  pub sum_permuted : (f : ℕ → ℕ) → sum_below n (λ k. f (old k)) ≡ sum_below n f
  sum_permuted f =
      sum_below_of_equal_terms n (λ k. f (old k)) (λ k. sum_below n (λ j. if j == old k then f j else 0)) (λ k l. sym (sum_single n (old k) f (low k l)))
      ∙ sums_of_table_exchange n n (λ k j. if j == old k then f j else 0)
      ∙ sum_below_of_equal_terms n (λ j. sum_below n (λ k. if j == old k then f j else 0)) f (λ j l. named j ∙ sum_single n (name j) (λ k. f j) (low_name j l))
    where
      named : (j : ℕ) → sum_below n (λ k. if j == old k then f j else 0) ≡ sum_below n (λ k. if k == name j then f j else 0)
      named j = λ i. sum_below n (λ k. if renamed_test j k i then f j else 0)

-- the contributions of all slots
module _ (name old : ℕ → ℕ → ℕ) (undone : IsUndoneBy name old) (low : (rank slot : ℕ) → slot < 2 ^ 32 → name rank slot < 2 ^ 32) (low_old : (rank slot : ℕ) → slot < 2 ^ 32 → old rank slot < 2 ^ 32) where
  pub stored_permuted : (ranks : ℕ) (store : Store) → stored ranks (under old store) ≡ stored ranks store
  unfolding stored
  stored_permuted ranks store =
      sum_below_of_equal_terms ranks (λ r. sum_below (2 ^ 32) (λ k. length (store r (old r k)))) (λ r. sum_below (2 ^ 32) (λ k. length (store r k))) (λ r l. in_rank r)
    where
      in_rank : (r : ℕ) → sum_below (2 ^ 32) (λ k. length (store r (old r k))) ≡ sum_below (2 ^ 32) (λ k. length (store r k))
      in_rank r =
          sum_permuted (2 ^ 32) (name r) (old r) (undone.back r) (undone.forth r) (low_old r) (low r) (λ k. length (store r k))
