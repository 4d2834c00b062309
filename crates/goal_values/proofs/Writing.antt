-- Another value of a payload is written.
use Rattle.std.proofs.Common.{ℕ, suc, ◌≡◌, ◌≢◌, ◌+◌, ◌<◌, ◌≤◌, ◌==◌, ◌&&◌, Bool, true, false, if◌then◌else◌, List, [], ◌∷◌, length, map, take, drop, get_or, refl, sym, ap, ◌∙◌, arith, add-one, drop-cons, ne_eqb}
use Rattle.std.specs.List.{sum_by}
use Rattle.std.proofs.lemmas.List.{take_all}
use Rattle.std.proofs.Math.ListN.{get_or-map, length-map}
use Rattle.std.proofs.lemmas.List.Sums.{sum_by-cons, sum_by_more, sum_by_more_le}
use Rattle.goal_blocks.specs.Values.{Value, Store, set_slot}
use Rattle.goal_values.specs.declared.sums.Term.{Term}
use Rattle.goal_values.specs.declared.sums.Term.TheVariants.{Nothing}
use Rattle.goal_values.specs.Sums.{meaning}
use Rattle.goal_values.specs.Summed.{Summed}

-- the next value and those after it
pub next_value : (sums : List Value) (terms : List Term) (at : ℕ) → at < length terms → drop at (map (meaning sums) terms) ≡ meaning sums (get_or terms at Nothing) ∷ drop (at + 1) (map (meaning sums) terms)
next_value sums terms at inside =
    let few : at < length (map (meaning sums) terms) = omega (arith, length-map terms (meaning sums)) in
    rw (add-one, drop-cons (map (meaning sums) terms) at []) (ap (λ (v : Value). v ∷ drop (suc at) (map (meaning sums) terms)) (get_or-map (meaning sums) terms at Nothing))

pub next_size : (sums : List Value) (terms : List Term) (at : ℕ) → at < length terms → sum_by (λ (v : Value). length v) (drop at (map (meaning sums) terms)) ≡ length (meaning sums (get_or terms at Nothing)) + sum_by (λ (v : Value). length v) (drop (at + 1) (map (meaning sums) terms))
next_size sums terms at inside =
    ap (sum_by (λ (v : Value). length v)) (next_value sums terms at inside) ∙ sum_by-cons (λ (v : Value). length v) _ (drop (at + 1) (map (meaning sums) terms))

-- the slots of other ranks are unchanged
pub set_elsewhere : (rank slot : ℕ) (v : Value) (s : Store) (r k : ℕ) → r ≢ rank → set_slot rank slot v s r k ≡ s r k
unfolding set_slot
set_elsewhere rank slot v s r k apart = go (r == rank) (ne_eqb r rank apart)
  where
    go : (b : Bool) → b ≡ false → (if b && (k == slot) then v else s r k) ≡ s r k
    go true e = cc
    go false e = refl

sizes_mapped : (sums : List Value) (terms : List Term) → sum_by (λ (v : Value). length v) (map (meaning sums) terms) ≡ sum_by (λ t. length (meaning sums t)) terms
sizes_mapped sums [] = refl
sizes_mapped sums (t ∷ more) =
    omega (arith, sum_by-cons (λ (v : Value). length v) (meaning sums t) (map (meaning sums) more), sum_by-cons (λ x. length (meaning sums x)) t more, sizes_mapped sums more)

-- the number of contributions in the first values of a payload
abbrev pub first_sizes : List Value → List Term → ℕ → ℕ
first_sizes sums terms i = sum_by (λ t. length (meaning sums t)) (take i terms)

module _ (s t : Summed) (is : s ≡ t) (terms : List Term) (i : ℕ) (d : Term) (size more : ℕ) (inside : i < length terms) (so_far : size ≡ first_sizes t.sums terms i) (here : more ≡ length (meaning s.sums (get_or terms i d))) where
  one_size : more ≡ length (meaning t.sums (get_or terms i d))
  one_size = here ∙ ap (λ (u : Summed). length (meaning u.sums (get_or terms i d))) is

  -- with the next one
  pub size_with_next_term : size + more ≡ first_sizes t.sums terms (i + 1)
  size_with_next_term =
      omega (arith, so_far, one_size, sum_by_more (λ x. length (meaning t.sums x)) terms i d inside)

  pub size_within : size + more ≤ sum_by (λ (v : Value). length v) (map (meaning t.sums) terms)
  size_within =
      omega (arith, so_far, one_size, sum_by_more_le (λ x. length (meaning t.sums x)) terms i d inside, sizes_mapped t.sums terms)

-- with all of them
pub size_of_all_terms : (sums : List Value) (terms : List Term) (i size : ℕ) → length terms ≤ i → size ≡ first_sizes sums terms i → size ≡ sum_by (λ (v : Value). length v) (map (meaning sums) terms)
size_of_all_terms sums terms i size all so_far =
    so_far ∙ ap (sum_by (λ t. length (meaning sums t))) (take_all i terms all) ∙ sym (sizes_mapped sums terms)
