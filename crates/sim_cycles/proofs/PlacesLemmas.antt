-- Stuck operations by their places: what the definitions say of the operation at a place.
use Rattle.std.proofs.Common.{ℕ, zero, suc, ◌<◌, ◌≤◌, ◌≡◌, ◌⊎◌, inl, inr, ⊎_elim, Bool, true, not, List, [], ◌∷◌, length, get_or, find, Contains, AllPairs, Option, Some, None, unwrap_or, refl, sym, ap, ◌∙◌, subst, arith}
use Rattle.std.specs.List.{list_any, list_all}
use Rattle.std.specs.Option.{option_and_then}
use Rattle.std.proofs.lemmas.Bool.{cases_order, cases_lt, cond-true, cond-false, both_ways, or_left, or_right, or_cases, and_from, and_parts, lt-ltb, ltb-true, eqb-true, eq-eqb, false_from_ne_true, not_from_false, not-true}
use Rattle.std.proofs.lemmas.List.{length-map, get_or-map, get_or_default}
use Rattle.std.proofs.lemmas.List.Elements.{Contains-get_or}
use Rattle.goal_graph.specs.declared.action.OpId.{OpId}
use Rattle.goal_graph.specs.declared.action.Stuck.{Stuck}
use Rattle.goal_graph.specs.declared.action.Why.TheVariants.{Alone}
use Rattle.goal_graph.specs.Action.{same_op}
use Rattle.goal_graph.specs.Order.{IsBefore}
use Rattle.goal_graph.proofs.ForCallers.{same_op_true, same_op_from}
use Rattle.sim_cycles.specs.Knots.{named, is_before, stuck_ops, next, step, way, comes_to, is_head}
use Rattle.sim_cycles.specs.Laws.{IsInOrder, follow}
use Rattle.sim_cycles.specs.Walks.{after, Leads, ComesBack, IsHeadOf}
use Rattle.sim_cycles.specs.Places.{op_at, IsTarget}
use Rattle.sim_cycles.proofs.Walks.{after_below, leads_reflexive, leads_soon}

abbrev pub none_op : OpId
none_op = record { rank = 0; op = 0 }

abbrev pub none_stuck : Stuck
none_stuck = record { op = none_op; why = Alone }

-- the test of the order
pub is_before-true : (x y : OpId) → IsBefore x y → is_before x y ≡ true
is_before-true x y (inl l) = or_left _ _ (lt-ltb x.rank y.rank l)
is_before-true x y (inr r) = or_right _ _ (and_from _ _ (eq-eqb x.rank y.rank r.0) (lt-ltb x.op y.op r.1))

pub before_from_test : (x y : OpId) → is_before x y ≡ true → IsBefore x y
before_from_test x y e = ⊎_elim (λ l. inl (ltb-true x.rank y.rank l)) (λ r. let p = and_parts _ _ r in inr (eqb-true x.rank y.rank p.0, ltb-true x.op y.op p.1)) (or_cases _ _ e)

not_before_itself : (x : OpId) → IsBefore x x → ⊥
not_before_itself x (inl l) = omega (arith, l)
not_before_itself x (inr r) = omega (arith, r.1)

not_before_each_other : (x y : OpId) → IsBefore x y → IsBefore y x → ⊥
not_before_each_other x y (inl a) (inl b) = omega (arith, a, b)
not_before_each_other x y (inl a) (inr b) = omega (arith, a, b.0)
not_before_each_other x y (inr a) (inl b) = omega (arith, a.0, b)
not_before_each_other x y (inr a) (inr b) = omega (arith, a.1, b.1)

AllPairs-tail : {X : Type 0} (R : X → X → Type 0) (x : X) (xs : List X) → AllPairs R (x ∷ xs) → AllPairs R xs
AllPairs-tail R x xs h = λ i j d l b. h (suc i) (suc j) d (omega (arith, l)) (omega (arith, b))

module _ (list : List Stuck) where
  pub long_ops : length (stuck_ops list) ≡ length list
  long_ops = length-map list (λ (s : Stuck). s.op)

  pub op_at_is_op_of_entry : (i : ℕ) (d : Stuck) → i < length list → op_at list i ≡ (get_or list i d).op
  op_at_is_op_of_entry i d inside = get_or-map (λ (s : Stuck). s.op) list i d (record { rank = 0; op = 0 }) inside

  -- the place of a listed operation
  pub place_of : (x : OpId) → Contains (stuck_ops list) x → (i : ℕ) × (i < length list) × (op_at list i ≡ x)
  place_of x (k, inside, e) = (k, omega (arith, inside, long_ops), get_or_same k inside ∙ e)
    where
      get_or_same : (k : ℕ) → k < length (stuck_ops list) → op_at list k ≡ get_or (stuck_ops list) k x
      get_or_same k inside = get_or_default (stuck_ops list) k (record { rank = 0; op = 0 }) x inside

  pub op_listed : (i : ℕ) → i < length list → Contains (stuck_ops list) (op_at list i)
  op_listed i inside = Contains-get_or (stuck_ops list) i (record { rank = 0; op = 0 }) (omega (arith, inside, long_ops))

  module _ (order : IsInOrder list) where
    pub before_at : (i j : ℕ) → i < j → j < length list → IsBefore (op_at list i) (op_at list j)
    before_at i j less inside = order i j (record { rank = 0; op = 0 }) less (omega (arith, inside, long_ops))

    -- an operation has one place
    pub one_place : (i j : ℕ) → i < length list → j < length list → op_at list i ≡ op_at list j → i ≡ j
    one_place i j hi hj e = go (cases_order i j)
      where
        go : (i ≡ j) ⊎ ((i < j) ⊎ (j < i)) → i ≡ j
        go (inl same) = same
        go (inr (inl less)) = absurd (not_before_itself (op_at list j) (let P : OpId → Type 0 = λ x. IsBefore x (op_at list j) in subst P e (before_at i j less hj)))
        go (inr (inr more)) = absurd (not_before_itself (op_at list j) (let P : OpId → Type 0 = λ x. IsBefore (op_at list j) x in subst P e (before_at j i more hi)))

    -- places are in the order of their operations
    pub place_before : (i j : ℕ) → i < length list → j < length list → IsBefore (op_at list i) (op_at list j) → i < j
    place_before i j hi hj b = go (cases_order i j)
      where
        go : (i ≡ j) ⊎ ((i < j) ⊎ (j < i)) → i < j
        go (inl same) = absurd (not_before_itself (op_at list j) (let P : ℕ → Type 0 = λ k. IsBefore (op_at list k) (op_at list j) in subst P same b))
        go (inr (inl less)) = less
        go (inr (inr more)) = absurd (not_before_each_other (op_at list i) (op_at list j) b (before_at j i more hi))

-- what is at the operation is found
find_at : (list : List Stuck) (i : ℕ) (d : Stuck) (x : OpId) → IsInOrder list → i < length list → (get_or list i d).op ≡ x → find (λ (s : Stuck). same_op s.op x) list ≡ Some (get_or list i d)
find_at [] i d x order inside e = absurd (omega (arith, inside))
find_at (s ∷ rest) zero d x order inside e = cond-true (same_op s.op x) (Some s) (find (λ (r : Stuck). same_op r.op x) rest) (same_op_from s.op x e)
find_at (s ∷ rest) (suc i) d x order inside e =
    cond-false (same_op s.op x) (Some s) (find (λ (r : Stuck). same_op r.op x) rest) (false_from_ne_true (same_op s.op x) apart) ∙ find_at rest i d x (AllPairs-tail IsBefore s.op (stuck_ops rest) order) (omega (arith, inside)) e
  where
    apart : same_op s.op x ≡ true → ⊥
    apart t =
        let same : s.op ≡ x = same_op_true s.op x t in
        let first : IsBefore s.op (get_or (stuck_ops rest) i (record { rank = 0; op = 0 })) = order zero (suc i) (record { rank = 0; op = 0 }) (omega arith) (omega (arith, inside, long_ops rest)) in
        let at : get_or (stuck_ops rest) i (record { rank = 0; op = 0 }) ≡ x = op_at_is_op_of_entry rest i d (omega (arith, inside)) ∙ e in
        not_before_itself x (let P : OpId → Type 0 = λ y. IsBefore y x in subst P same (let Q : OpId → Type 0 = λ y. IsBefore s.op y in subst Q at first))

-- what the reason at a place names
pub next_at : (list : List Stuck) (i : ℕ) (d : Stuck) → IsInOrder list → i < length list → next list (op_at list i) ≡ named (get_or list i d).why
unfolding next
next_at list i d order inside =
    ap (option_and_then (λ (s : Stuck). named s.why)) (find_at list i d (op_at list i) order inside (sym (op_at_is_op_of_entry list i d inside)))

pub target_named : (list : List Stuck) (i j : ℕ) (d : Stuck) (y : OpId) → IsInOrder list → i < length list → j < length list → named (get_or list i d).why ≡ Some y → op_at list j ≡ y → IsTarget list i j
target_named list i j d y order hi hj e there = record {
  inside = hj;
  names = ap (λ (o : Option OpId). unwrap_or o (op_at list i)) (next_at list i d order hi ∙ e) ∙ sym there;
}

pub target_alone : (list : List Stuck) (i : ℕ) (d : Stuck) → IsInOrder list → i < length list → named (get_or list i d).why ≡ None → IsTarget list i i
target_alone list i d order hi e = record {
  inside = hi;
  names = ap (λ (o : Option OpId). unwrap_or o (op_at list i)) (next_at list i d order hi ∙ e);
}

-- each place's target, as a function
abbrev pub Tracks : List Stuck → (ℕ → ℕ) → Type 0
Tracks list t = (i : ℕ) → i < length list → IsTarget list i (t i)

module _ (list : List Stuck) where
  pub follow_next : (k : ℕ) (x : OpId) → follow list k (step list x) ≡ step list (follow list k x)
  unfolding follow
  follow_next zero x = refl
  follow_next (suc k) x = follow_next k (step list x)

  pub follow_zero : (x : OpId) → follow list 0 x ≡ x
  unfolding follow
  follow_zero x = refl

  pub follow_first : (k : ℕ) (x : OpId) → follow list (suc k) x ≡ follow list k (step list x)
  unfolding follow
  follow_first k x = refl

  -- what is met on a way
  pub step_from_any_on_way : (p : OpId → Bool) (m : ℕ) (x : OpId) → list_any p (way list m x) ≡ true → (k : ℕ) × (k < m) × (p (follow list k x) ≡ true)
  unfolding way follow
  step_from_any_on_way p zero x e = absurd (cc)
  step_from_any_on_way p (suc m) x e = go (or_cases (p x) (list_any p (way list m (step list x))) e) (step_from_any_on_way p m (step list x))
    where
      go : ((p x ≡ true) ⊎ (list_any p (way list m (step list x)) ≡ true)) → (list_any p (way list m (step list x)) ≡ true → (k : ℕ) × (k < m) × (p (follow list k (step list x)) ≡ true)) → (k : ℕ) × (k < suc m) × (p (follow list k x) ≡ true)
      go (inl here) rest = (zero, omega arith, here)
      go (inr later) rest = let r = rest later in (suc r.0, omega (arith, r.1), r.2)

  pub any_on_way_from_step : (p : OpId → Bool) (m : ℕ) (x : OpId) (k : ℕ) → k < m → p (follow list k x) ≡ true → list_any p (way list m x) ≡ true
  unfolding way follow
  any_on_way_from_step p zero x k below e = absurd (omega (arith, below))
  any_on_way_from_step p (suc m) x zero below e = or_left (p x) (list_any p (way list m (step list x))) e
  any_on_way_from_step p (suc m) x (suc k) below e = or_right (p x) (list_any p (way list m (step list x))) (any_on_way_from_step p m (step list x) k (omega (arith, below)) e)

  pub each_step_from_all_on_way : (p : OpId → Bool) (m : ℕ) (x : OpId) → list_all p (way list m x) ≡ true → (k : ℕ) → k < m → p (follow list k x) ≡ true
  unfolding way follow
  each_step_from_all_on_way p zero x e k below = absurd (omega (arith, below))
  each_step_from_all_on_way p (suc m) x e zero below = (and_parts (p x) (list_all p (way list m (step list x))) e).0
  each_step_from_all_on_way p (suc m) x e (suc k) below = each_step_from_all_on_way p m (step list x) (and_parts (p x) (list_all p (way list m (step list x))) e).1 k (omega (arith, below))

  pub all_on_way_from_each_step : (p : OpId → Bool) (m : ℕ) (x : OpId) → ((k : ℕ) → k < m → p (follow list k x) ≡ true) → list_all p (way list m x) ≡ true
  unfolding way follow
  all_on_way_from_each_step p zero x each = refl
  all_on_way_from_each_step p (suc m) x each = and_from (p x) (list_all p (way list m (step list x))) (each zero (omega arith)) (all_on_way_from_each_step p m (step list x) (λ k below. each (suc k) (omega (arith, below))))

  module _ (t : ℕ → ℕ) (tracks : Tracks list t) where
    pub closed : (i : ℕ) → i < length list → t i < length list
    closed i inside = (tracks i inside).inside

    pub step_at : (i : ℕ) → i < length list → step list (op_at list i) ≡ op_at list (t i)
    step_at i inside = (tracks i inside).names

    pub follow_at : (k i : ℕ) → i < length list → follow list k (op_at list i) ≡ op_at list (after t k i)
    unfolding follow after
    follow_at zero i inside = refl
    follow_at (suc k) i inside = ap (follow list k) (step_at i inside) ∙ follow_at k (t i) (closed i inside)

    module _ (order : IsInOrder list) where
      -- following comes to an operation where its place is led to
      pub leads_at : (k i j : ℕ) → i < length list → j < length list → follow list k (op_at list i) ≡ op_at list j → Leads t i j
      leads_at k i j hi hj e = record {
        steps = k;
        there = one_place list order (after t k i) j (after_below t (length list) closed k i hi) hj (sym (follow_at k i hi) ∙ e);
      }

      pub comes_from : (i j : ℕ) → i < length list → j < length list → comes_to list (op_at list i) (op_at list j) ≡ true → Leads t i j
      unfolding comes_to
      comes_from i j hi hj e =
          let r = step_from_any_on_way (λ (z : OpId). same_op z (op_at list j)) (length list) (op_at list i) e in
          leads_at r.0 i j hi hj (same_op_true _ _ r.2)

      pub comes_true : (i j : ℕ) → i < length list → Leads t i j → comes_to list (op_at list i) (op_at list j) ≡ true
      unfolding comes_to
      comes_true i j hi l =
          let r = leads_soon t (length list) closed i j hi l in
          any_on_way_from_step (λ (z : OpId). same_op z (op_at list j)) (length list) (op_at list i) r.0 r.1 (same_op_from _ _ (follow_at r.0 i hi ∙ ap (op_at list) r.2))

      -- the head of a knot is its own head
      pub head_from_test : (i : ℕ) → i < length list → is_head list (op_at list i) ≡ true → IsHeadOf t i i
      unfolding is_head
      head_from_test i hi e = record { comes = leads_reflexive t i; back = record { steps = back.steps; there = back.there }; least = least }
        where
          parts : (comes_to list (step list (op_at list i)) (op_at list i) ≡ true) × (list_all (λ (y : OpId). not (is_before y (op_at list i))) (way list (length list) (op_at list i)) ≡ true)
          parts = and_parts _ _ e

          back : Leads t (t i) i
          back = comes_from (t i) i (closed i hi) hi (ap (λ (x : OpId). comes_to list x (op_at list i)) (sym (step_at i hi)) ∙ parts.0)

          least_soon : (k : ℕ) → k < length list → i ≤ after t k i
          least_soon k below = ⊎_elim (λ less. absurd (both_ways _ (not-true _ (each_step_from_all_on_way (λ (y : OpId). not (is_before y (op_at list i))) (length list) (op_at list i) parts.1 k below)) (ap (λ (y : OpId). is_before y (op_at list i)) (follow_at k i hi) ∙ is_before-true _ _ (before_at list order (after t k i) i less hi)))) (λ more. more) (cases_lt (after t k i) i)

          least : (k : ℕ) → i ≤ after t k i
          least k =
              let r = leads_soon t (length list) closed i (after t k i) hi (record { steps = k; there = refl }) in
              omega (arith, least_soon r.0 r.1, r.2)

      pub head_true : (i : ℕ) → i < length list → ComesBack t i → ((k : ℕ) → i ≤ after t k i) → is_head list (op_at list i) ≡ true
      unfolding is_head
      head_true i hi back least =
          and_from _ _ (ap (λ (x : OpId). comes_to list x (op_at list i)) (step_at i hi) ∙ comes_true (t i) i (closed i hi) (record { steps = back.steps; there = back.there })) (all_on_way_from_each_step (λ (y : OpId). not (is_before y (op_at list i))) (length list) (op_at list i) later)
        where
          later : (k : ℕ) → k < length list → not (is_before (follow list k (op_at list i)) (op_at list i)) ≡ true
          later k below = not_from_false _ (false_from_ne_true _ (λ e. let inside : after t k i < length list = after_below t (length list) closed k i hi in let less : after t k i < i = place_before list order (after t k i) i inside hi (before_from_test _ _ (ap (λ (y : OpId). is_before y (op_at list i)) (sym (follow_at k i hi)) ∙ e)) in omega (arith, less, least k)))
