-- A depth in a rank of n operations is at most n.
use Rattle.std.proofs.Common.{⊎_elim, ℕ, zero, suc, ◌+◌, ◌-◌, ◌≡◌, ◌<◌, ◌≤◌, ◌⊎◌, inl, inr, Bool, true, false, List, length, get_or, count_by, All, Contains, sym, ◌∙◌, subst, arith, zero-add, true≢false}
use Rattle.std.specs.List.{range_with_len}
use Rattle.std.proofs.lemmas.Bool.{cases_eq, cases_Bool}
use Rattle.std.proofs.lemmas.List.Sums.{AllPass-from_list_all, list_all-from_AllPass, count_by-le-length}
use Rattle.std.proofs.lemmas.List.FromFn.{length-range_with_len, get_or-range_with_len}
use Rattle.goal_graph.specs.declared.action.OpId.{OpId}
use Rattle.goal_graph.specs.declared.plan.Need.{Need}
use Rattle.goal_graph.specs.Schedule.{Plan, needs, needed}
use Rattle.goal_graph.specs.Fault.{is_below}
use Rattle.goal_graph.proofs.ForCallers.{count_falls}
use Rattle.goal_graph.specs.Search.{op_id}

-- a number below n of which D holds, or none
search_below : (D : ℕ → Type 0) (n : ℕ) → ((k : ℕ) → D k ⊎ (D k → ⊥)) → ((k : ℕ) × (k < n) × D k) ⊎ ((k : ℕ) → k < n → D k → ⊥)
search_below D zero cases = inr (λ k h d. omega arith)
search_below D (suc n) cases =
    ⊎_elim (λ d. inl (n, omega arith, d)) (λ not. ⊎_elim (λ f. inl (f.0, omega (arith, f.1), f.2)) (λ none. inr (λ k h d. elim (cases_eq k n) [ inl e ↦ not (subst D e d) | inr e ↦ none k (omega arith) d ])) (search_below D n cases)) (cases n)

-- a bound of a depth stays one where it grows
is_below_next_bound : (plans : List Plan) (m : ℕ) (x : OpId) → is_below plans m x ≡ true → is_below plans (suc m) x ≡ true
unfolding is_below
is_below_next_bound plans zero x h = absurd (true≢false (sym h))
is_below_next_bound plans (suc m) x h =
    list_all-from_AllPass (λ (d : Need). is_below plans (suc m) (needed x d)) (needs plans x) (λ i d lt. is_below_next_bound plans m (needed x (get_or (needs plans x) i d)) (AllPass-from_list_all (λ (d : Need). is_below plans m (needed x d)) (needs plans x) h i d lt))

module _ (plans : List Plan) (rank n : ℕ) (in_range : (k : ℕ) → k < n → All (λ (d : Need). d.op < n) (needs plans (op_id rank k))) where
  abbrev deep : ℕ → ℕ → Bool
  deep m k = is_below plans m (op_id rank k)

  next_depth_preserves_implication : (m l : ℕ) (k : ℕ) → k < n → ((j : ℕ) → j < n → deep m j ≡ true → deep l j ≡ true) → deep (suc m) k ≡ true → deep (suc l) k ≡ true
  unfolding is_below
  next_depth_preserves_implication m l k inside each h =
      list_all-from_AllPass (λ (d : Need). is_below plans l (needed (op_id rank k) d)) (needs plans (op_id rank k)) (λ i d lt. each (get_or (needs plans (op_id rank k)) i d).op (in_range k inside i d lt) (AllPass-from_list_all (λ (d : Need). is_below plans m (needed (op_id rank k) d)) (needs plans (op_id rank k)) h i d lt))

  deep_with_more : (j m k : ℕ) → deep m k ≡ true → deep (j + m) k ≡ true
  deep_with_more zero m k h = subst (λ (x : ℕ). deep x k ≡ true) (sym (zero-add m)) h
  deep_with_more (suc j) m k h =
      let e : suc j + m ≡ suc (j + m) = omega arith in
      subst (λ (x : ℕ). deep x k ≡ true) (sym e) (is_below_next_bound plans (j + m) (op_id rank k) (deep_with_more j m k h))

  abbrev Settled : ℕ → Type 0
  Settled m = (k : ℕ) → k < n → deep (suc m) k ≡ true → deep m k ≡ true

  settled_at_larger_bound : (m j : ℕ) → Settled m → Settled (j + m)
  settled_at_larger_bound m zero s = subst Settled (sym (zero-add m)) s
  settled_at_larger_bound m (suc j) s =
      let e : suc j + m ≡ suc (j + m) = omega arith in
      let before : Settled (j + m) = settled_at_larger_bound m j s in
      subst Settled (sym e) (λ k inside h. next_depth_preserves_implication (suc (j + m)) (j + m) k inside before h)

  settled_depth_stays : (m j k : ℕ) → Settled m → k < n → deep (j + m) k ≡ true → deep m k ≡ true
  settled_depth_stays m zero k s inside h = subst (λ (x : ℕ). deep x k ≡ true) (zero-add m) h
  settled_depth_stays m (suc j) k s inside h =
      let e : suc j + m ≡ suc (j + m) = omega arith in
      settled_depth_stays m j k s inside (settled_at_larger_bound m j s k inside (subst (λ (x : ℕ). deep x k ≡ true) e h))

  abbrev numbers : List ℕ
  numbers = range_with_len 0 n

  is_number : (k : ℕ) → k < n → Contains numbers k
  is_number k h = (k, omega (arith, length-range_with_len 0 n), get_or-range_with_len 0 n k k h ∙ zero-add k)

  -- the number of operations with a depth below m
  abbrev count : ℕ → ℕ
  count m = count_by (deep m) numbers

  -- either no operation has depth m, or the count grows at the next bound
  settled_or_more : (m : ℕ) → Settled m ⊎ (count m + 1 ≤ count (suc m))
  settled_or_more m =
      ⊎_elim (λ f. inr (count_falls (deep (suc m)) (deep m) numbers f.0 (is_number f.0 f.1) (λ k h. is_below_next_bound plans m (op_id rank k) h) f.2.1 f.2.0)) (λ no. inl (λ k inside h. ⊎_elim (λ yes. yes) (λ not. absurd (no k inside (h, not))) (cases_Bool (deep m k)))) (search_below New n cases)
    where
      New : ℕ → Type 0
      New k = (deep (suc m) k ≡ true) × (deep m k ≡ false)

      cases : (k : ℕ) → New k ⊎ (New k → ⊥)
      cases k =
          ⊎_elim (λ yes. ⊎_elim (λ old. inr (λ d. true≢false (sym old ∙ d.1))) (λ new. inl (yes, new)) (cases_Bool (deep m k))) (λ no. inr (λ d. true≢false (sym d.0 ∙ no))) (cases_Bool (deep (suc m) k))

  settles_below : (m : ℕ) → ((l : ℕ) × (l < m) × Settled l) ⊎ (m ≤ count m)
  settles_below zero = inr (omega arith)
  settles_below (suc m) =
      ⊎_elim (λ f. inl (f.0, omega (arith, f.1), f.2)) (λ high. ⊎_elim (λ s. inl (m, omega arith, s)) (λ up. inr (omega arith)) (settled_or_more m)) (settles_below m)

  pub is_below_op_count : (b k : ℕ) → k < n → is_below plans b (op_id rank k) ≡ true → is_below plans n (op_id rank k) ≡ true
  is_below_op_count b k inside h = ⊎_elim settled (λ high. absurd (too_many high)) (settles_below (suc n))
    where
      settled : (l : ℕ) × (l < suc n) × Settled l → deep n k ≡ true
      settled (l, lt, s) =
          let there : deep l k ≡ true = settled_depth_stays l b k s inside (subst (λ (x : ℕ). deep x k ≡ true) (omega arith) (deep_with_more l b k h)) in
          let e : (n - l) + l ≡ n = omega arith in
          subst (λ (x : ℕ). deep x k ≡ true) e (deep_with_more (n - l) l k there)

      too_many : suc n ≤ count (suc n) → ⊥
      too_many high =
          let most : count (suc n) ≤ length numbers = count_by-le-length (deep (suc n)) numbers in
          let len : length numbers ≡ n = length-range_with_len 0 n in
          omega arith
