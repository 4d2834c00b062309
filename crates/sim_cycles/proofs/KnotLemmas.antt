-- Members of knots, and how many operations lead to a knot.
use Rattle.std.proofs.Common.{ℕ, zero, suc, ◌+◌, ◌<◌, ◌≤◌, ◌≡◌, Bool, true, false, cond, not, ◌==◌, List, [], ◌∷◌, length, get_or, count_by, refl, sym, ap₂, ◌∙◌, subst, arith}
use Rattle.std.specs.List.{before_first}
use Rattle.std.proofs.lemmas.Bool.{both_ways, cond-true, cond-false, eqb-true, eq-eqb, not_from_true, not_from_false, false_from_ne_true}
use Rattle.std.proofs.lemmas.List.Sums.{take_while-cons, sum_by-cons}
use Rattle.goal_graph.specs.declared.action.Stuck.{Stuck}
use Rattle.sim_cycles.specs.Knots.{comes_to, is_head}
use Rattle.sim_cycles.specs.Laws.{IsInOrder}
use Rattle.sim_cycles.specs.Walks.{after, Leads, ComesBack, IsHeadOf}
use Rattle.sim_cycles.specs.Places.{op_at}
use Rattle.sim_cycles.proofs.Walks.{head_from, one_head}
use Rattle.sim_cycles.proofs.PlacesLemmas.{Tracks, head_from_test, head_true, comes_from, comes_true}

-- the elements before the first that passes, with an element prepended
pub before_first-stop : {X : Type 0} (p : X → Bool) (x : X) (xs : List X) → p x ≡ true → before_first p (x ∷ xs) ≡ []
before_first-stop {X} p x xs e =
    take_while-cons (λ (y : X). not (p y)) x xs ∙ cond-false (not (p x)) (x ∷ before_first p xs) [] (not_from_true (p x) e)

pub before_first-go : {X : Type 0} (p : X → Bool) (x : X) (xs : List X) → p x ≡ false → before_first p (x ∷ xs) ≡ x ∷ before_first p xs
before_first-go {X} p x xs e =
    take_while-cons (λ (y : X). not (p y)) x xs ∙ cond-true (not (p x)) (x ∷ before_first p xs) [] (not_from_false (p x) e)

-- two tests are equal if each implies the other
pub equal_if_each_implies_other : (a b : Bool) → (a ≡ true → b ≡ true) → (b ≡ true → a ≡ true) → a ≡ b
equal_if_each_implies_other true b f g = sym (f refl)
equal_if_each_implies_other false b f g = sym (false_from_ne_true b (λ e. both_ways false refl (g e)))

module _ (list : List Stuck) (t : ℕ → ℕ) (tracks : Tracks list t) (order : IsInOrder list) where
  -- an operation is the least of its knot if its place is its own head
  pub head_test : (i h : ℕ) → i < length list → IsHeadOf t i h → (h == i) ≡ is_head list (op_at list i)
  head_test i h inside a =
      equal_if_each_implies_other (h == i) (is_head list (op_at list i)) (λ e. let same : h ≡ i = eqb-true h i e in head_true list t tracks order i inside (subst (ComesBack t) same a.back) (λ k. let P : ℕ → Type 0 = λ j. j ≤ after t k j in subst P same (a.least k))) (λ e. eq-eqb h i (one_head t i h i a (head_from_test list t tracks order i inside e)))

  -- an operation leads to the least of a knot if that is its head
  pub comes_test : (j i h : ℕ) → j < length list → i < length list → is_head list (op_at list i) ≡ true → IsHeadOf t j h → (h == i) ≡ comes_to list (op_at list j) (op_at list i)
  comes_test j i h hj hi head a =
      equal_if_each_implies_other (h == i) (comes_to list (op_at list j) (op_at list i)) (λ e. let same : h ≡ i = eqb-true h i e in comes_true list t tracks order j i hj (subst (Leads t j) same a.comes)) (λ e. eq-eqb h i (one_head t j h i a (head_from t j i i (comes_from list t tracks order j i hj hi e) (head_from_test list t tracks order i hi head))))

-- two lists of one length have equal counts if their elements agree at each index
pub count_alike : {X Y : Type 0} (p : X → Bool) (q : Y → Bool) (d : X) (e : Y) (xs : List X) (ys : List Y) → length xs ≡ length ys → ((k : ℕ) → k < length xs → p (get_or xs k d) ≡ q (get_or ys k e)) → count_by p xs ≡ count_by q ys
count_alike p q d e [] [] long agree = refl
count_alike p q d e [] (y ∷ ys) long agree = absurd (omega arith)
count_alike p q d e (x ∷ xs) [] long agree = absurd (omega arith)
count_alike {X} {Y} p q d e (x ∷ xs) (y ∷ ys) long agree =
    sum_by-cons (λ (z : X). cond (p z) 1 0) x xs ∙ ap₂ (λ (b : Bool) (n : ℕ). cond b 1 0 + n) (agree zero (omega arith)) (count_alike p q d e xs ys (omega arith) (λ k inside. agree (suc k) (omega (arith, inside)))) ∙ sym (sum_by-cons (λ (z : Y). cond (q z) 1 0) y ys)
