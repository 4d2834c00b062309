-- Sums over all slots: what a changed slot changes, and the sums of what slots hold at the start.
use Rattle.std.proofs.Common.{ℕ, zero, suc, ◌+◌, ◌<◌, ◌≤◌, ◌==◌, ◌&&◌, ◌≡◌, Bool, true, false, length, if◌then◌else◌, refl, sym, ap, arith, ⊎_elim, ◌^◌}
use Rattle.std.proofs.lemmas.Bool.{cases_eq, eqb-true}
use Rattle.goal_blocks.specs.Values.{Value, Store, set_slot}
use Rattle.goal_blocks.specs.Weight.{sum_below, stored}
use Rattle.goal_blocks.proofs.Effects.{set_slot_holds_value}

pub sum_below_of_equal_terms : (n : ℕ) (f g : ℕ → ℕ) → ((k : ℕ) → k < n → f k ≡ g k) → sum_below n f ≡ sum_below n g
unfolding sum_below
sum_below_of_equal_terms zero f g h = refl
sum_below_of_equal_terms (suc n) f g h =
    let before = sum_below_of_equal_terms n f g (λ k l. h k (omega (arith, l))) in
    let last = h n (omega arith) in
    λ i. before i + last i

changed_last : (n a : ℕ) (f g : ℕ → ℕ) → ((k : ℕ) → (k ≡ a → ⊥) → g k ≡ f k) → a ≡ n → sum_below (suc n) g + f a ≡ sum_below (suc n) f + g a
unfolding sum_below
changed_last n a f g h e =
    let before = sum_below_of_equal_terms n g f (λ k b. h k (λ s. omega (arith, s, b, e))) in
    let one : f a ≡ f n = ap f e in
    let other : g a ≡ g n = ap g e in
    omega (arith, before, one, other)

changed_before : (n a : ℕ) (f g : ℕ → ℕ) → (a ≡ n → ⊥) → ((k : ℕ) → (k ≡ a → ⊥) → g k ≡ f k) → sum_below n g + f a ≡ sum_below n f + g a → sum_below (suc n) g + f a ≡ sum_below (suc n) f + g a
unfolding sum_below
changed_before n a f g ne h before =
    let last = h n (λ e. ne (sym e)) in
    omega (arith, before, last)

pub sum_changed : (n a : ℕ) (f g : ℕ → ℕ) → a < n → ((k : ℕ) → (k ≡ a → ⊥) → g k ≡ f k) → sum_below n g + f a ≡ sum_below n f + g a
unfolding sum_below
sum_changed zero a f g l h = absurd (omega (arith, l))
sum_changed (suc n) a f g l h = ⊎_elim (changed_last n a f g h) (λ ne. changed_before n a f g ne h (sum_changed n a f g (omega (arith, l, ne)) h)) (cases_eq a n)

pub term_at_most_sum_below : (n a : ℕ) (f : ℕ → ℕ) → a < n → f a ≤ sum_below n f
unfolding sum_below
term_at_most_sum_below zero a f l = absurd (omega (arith, l))
term_at_most_sum_below (suc n) a f l =
    ⊎_elim (λ e. let one : f a ≡ f n = ap f e in omega (arith, one)) (λ ne. let before = term_at_most_sum_below n a f (omega (arith, l, ne)) in omega (arith, before)) (cases_eq a n)

pub set_slot_elsewhere : (rank slot : ℕ) (v : Value) (s : Store) (r k : ℕ) → (r ≡ rank → k ≡ slot → ⊥) → set_slot rank slot v s r k ≡ s r k
unfolding set_slot
set_slot_elsewhere rank slot v s r k apart = go (r == rank) (k == slot) refl refl
  where
    go : (a b : Bool) → (r == rank) ≡ a → (k == slot) ≡ b → (if a && b then v else s r k) ≡ s r k
    go true true e f = absurd (apart (eqb-true r rank e) (eqb-true k slot f))
    go true false e f = refl
    go false b e f = refl

set_slot_to_own_value_at : (rank slot : ℕ) (s : Store) (r k : ℕ) → set_slot rank slot (s rank slot) s r k ≡ s r k
unfolding set_slot
set_slot_to_own_value_at rank slot s r k = go (r == rank) (k == slot) refl refl
  where
    go : (a b : Bool) → (r == rank) ≡ a → (k == slot) ≡ b → (if a && b then s rank slot else s r k) ≡ s r k
    go true true e f =
        let ranks = eqb-true r rank e in
        let slots = eqb-true k slot f in
        λ i. s (sym ranks i) (sym slots i)
    go true false e f = refl
    go false b e f = refl

-- setting a slot to the value that it holds changes nothing
pub set_slot_to_own_value : (rank slot : ℕ) (s : Store) → set_slot rank slot (s rank slot) s ≡ s
set_slot_to_own_value rank slot s = λ i r k. set_slot_to_own_value_at rank slot s r k i

-- the slots of one rank
abbrev in_rank : Store → ℕ → ℕ
in_rank s r = sum_below (2 ^ 32) (λ k. length (s r k))

pub stored_set : (ranks rank slot : ℕ) (v : Value) (s : Store) → rank < ranks → slot < 2 ^ 32
    → stored ranks (set_slot rank slot v s) + length (s rank slot) ≡ stored ranks s + length v
unfolding stored
stored_set ranks rank slot v s low small =
    let t : Store = set_slot rank slot v s in
    let inner : in_rank t rank + length (s rank slot) ≡ in_rank s rank + length (t rank slot) =
    sum_changed (2 ^ 32) slot (λ k. length (s rank k)) (λ k. length (t rank k)) small (λ k ne. ap length (set_slot_elsewhere rank slot v s rank k (λ e f. ne f))) in
    let outer : sum_below ranks (in_rank t) + in_rank s rank ≡ sum_below ranks (in_rank s) + in_rank t rank =
    sum_changed ranks rank (in_rank s) (in_rank t) low (λ r ne. sum_below_of_equal_terms (2 ^ 32) (λ k. length (t r k)) (λ k. length (s r k)) (λ k b. ap length (set_slot_elsewhere rank slot v s r k (λ e f. ne e)))) in
    let here : length (t rank slot) ≡ length v = ap length (set_slot_holds_value rank slot v s) in
    omega (arith, inner, outer, here)

-- a slot holds at most as many contributions as all slots together
pub slot_length_at_most_stored : (ranks rank slot : ℕ) (s : Store) → rank < ranks → slot < 2 ^ 32 → length (s rank slot) ≤ stored ranks s
unfolding stored
slot_length_at_most_stored ranks rank slot s low small =
    let inner : length (s rank slot) ≤ in_rank s rank = term_at_most_sum_below (2 ^ 32) slot (λ k. length (s rank k)) small in
    let outer : in_rank s rank ≤ sum_below ranks (in_rank s) = term_at_most_sum_below ranks rank (in_rank s) low in
    omega (arith, inner, outer)
