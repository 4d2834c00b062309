-- If each value and payload is bounded, and the bounds sum to at most the limit, the weight never exceeds it.
use Rattle.std.proofs.Common.{⊎_elim, ℕ, zero, suc, ◌+◌, ◌≤◌, ◌^◌, ◌≡◌, ◌⊎◌, inl, inr, Bool, true, false, List, [], ◌∷◌, map, length, take, slice_index_or, Option, Some, None, if◌then◌else◌, refl, sym, ap, ◌∙◌, subst, arith}
use Rattle.std.specs.List.{sum_by}
use Rattle.std.proofs.lemmas.Bool.{both_ways}
use Rattle.goal_limits.specs.Limits.{weight_limit}
use Rattle.goal_graph.specs.declared.action.OpId.{OpId}
use Rattle.goal_graph.specs.declared.action.Class.{Class}
use Rattle.goal_graph.specs.declared.action.Class.TheVariants.{Arrive, Serve, Data, Post, Begin}
use Rattle.goal_graph.specs.declared.plan.Kind.{Kind}
use Rattle.goal_graph.specs.declared.plan.Kind.TheVariants.{Calc, Send, Recv}
use Rattle.goal_graph.specs.Schedule.{Plan, kind_at, operations, IsSend}
use Rattle.goal_graph.specs.Action.{Act}
use Rattle.goal_graph.specs.Matching.{pairs, partner}
use Rattle.goal_graph.specs.Allowed.{may}
use Rattle.goal_graph.specs.Interleaving.{IsInterleaving}
use Rattle.goal_graph.specs.Laws.{IsCalc}
use Rattle.goal_graph.proofs.ForCallers.{allowed_may}
use Rattle.goal_blocks.specs.Slots.{Adding, slots, adds, written}
use Rattle.goal_blocks.specs.Values.{Value, Store, Held, add_all, held_after, change}
use Rattle.goal_blocks.specs.Weight.{sum_below, stored, is_under_way, carried, weight, weight_within}
use Rattle.goal_blocks.specs.Matched.{IsMatched}
use Rattle.goal_blocks.specs.Walk.{no_send}
use Rattle.goal_blocks.specs.Certification.{AddsAreLight, IsLight}
use Rattle.goal_blocks.proofs.Orders.{Mem}
use Rattle.goal_blocks.proofs.Ends.{ends, ends_once, ends_keep, held_by_ends}
use Rattle.goal_blocks.proofs.Flow.{IsFlow, Flows, all_flows, state}
use Rattle.goal_blocks.proofs.Totals.{sum_by_le}
use Rattle.goal_blocks.proofs.Trees.{sum_below_le}

pub stored_le : (ranks : ℕ) (s : Store) (cap : ℕ → ℕ → ℕ) → ((r k : ℕ) → length (s r k) ≤ cap r k) → stored ranks s ≤ sum_below ranks (λ r. sum_below (2 ^ 32) (cap r))
unfolding stored
stored_le ranks s cap each =
    sum_below_le (λ r. sum_below (2 ^ 32) (λ k. length (s r k))) (λ r. sum_below (2 ^ 32) (cap r)) ranks (λ r l. sum_below_le (λ k. length (s r k)) (cap r) (2 ^ 32) (λ k m. each r k))

-- a prefix of a list of at most one element is empty or the whole list
take_of_at_most_one : {A : Type 0} (n : ℕ) (xs : List A) → length xs ≤ 1 → (take n xs ≡ []) ⊎ (take n xs ≡ xs)
take_of_at_most_one n [] few = inl (go n)
  where
    go : {A : Type 0} (n : ℕ) → take {A = A} n [] ≡ []
    go zero = refl
    go (suc n) = refl
take_of_at_most_one zero (x ∷ xs) few = inl refl
take_of_at_most_one (suc n) (x ∷ []) few = inr (ap (λ (ys : List _). x ∷ ys) (go n))
  where
    go : {A : Type 0} (n : ℕ) → take {A = A} n [] ≡ []
    go zero = refl
    go (suc n) = refl
take_of_at_most_one (suc n) (x ∷ y ∷ xs) few = absurd (omega (arith, few))

-- bounds of values and payloads
pub record AreBounds (plans : List Plan) (first : Store) (finds leaves : OpId → ℕ → Value) (cap : ℕ → ℕ → ℕ) (load : OpId → ℕ) : Type 0 where
  pub first_cap : (r k : ℕ) → length (first r k) ≤ cap r k
  pub leaves_cap : (y : OpId) (k : ℕ) → Mem k (written plans y) → length (leaves y k) ≤ cap y.rank k
  pub finds_load : (m : OpId) → IsSend plans m → sum_by (λ (v : Value). length v) (map (finds m) (slots plans m)) ≤ load m
  pub one_adding : (x : OpId) → IsCalc plans x → length (adds plans x) ≤ 1
  pub total : sum_below (length plans) (λ r. sum_below (2 ^ 32) (cap r)) + sum_by load (operations plans) ≤ weight_limit

module _ (plans : List Plan) (matched : IsMatched plans) (first : Store) (finds leaves : OpId → ℕ → Value) (flow : IsFlow plans matched first finds leaves) (cap : ℕ → ℕ → ℕ) (load : OpId → ℕ) (bounds : AreBounds plans first finds leaves cap load) where
  abbrev held : List Act → Held
  held h = held_after plans no_send first h

  flows_of : (h : List Act) → IsInterleaving plans no_send h → Flows plans matched first finds leaves (ends plans no_send h)
  flows_of h i =
      all_flows plans matched first finds leaves flow (ends plans no_send h) (ends_keep plans matched no_send h i) (ends_once plans no_send h i)

  state_is_held : (h : List Act) → IsInterleaving plans no_send h → state plans matched first (ends plans no_send h) ≡ held h
  state_is_held h i = sym (held_by_ends plans matched no_send first h i)

  value_few : (h : List Act) → IsInterleaving plans no_send h → (r k : ℕ) → length ((held h).store r k) ≤ cap r k
  value_few h i r k =
      subst (λ (s : Held). length (s.store r k) ≤ cap r k) (state_is_held h i) (⊎_elim (λ e. subst (λ (v : Value). length v ≤ cap r k) (sym e) (bounds.first_cap r k)) (λ was. subst (λ (v : Value). length v ≤ cap r k) (sym was.3) (subst (λ (q : ℕ). length (leaves was.0 k) ≤ cap q k) was.2.0 (bounds.leaves_cap was.0 k was.2.1))) ((flows_of h i).some_value r k))

  payload_few : (h : List Act) → IsInterleaving plans no_send h → (m : OpId) → sum_by (λ (v : Value). length v) ((held h).payload m) ≤ load m
  payload_few h i m =
      subst (λ (s : Held). sum_by (λ (v : Value). length v) (s.payload m) ≤ load m) (state_is_held h i) (⊎_elim (λ e. subst (λ (vs : List Value). sum_by (λ (v : Value). length v) vs ≤ load m) (sym e) (omega arith)) (λ is. subst (λ (vs : List Value). sum_by (λ (v : Value). length v) vs ≤ load m) (sym ((flows_of h i).payloads m is.0 is.1)) (bounds.finds_load m is.1)) ((flows_of h i).some_payload m))

  carried_few : (g h : List Act) → IsInterleaving plans no_send h → carried plans g (held h) ≤ sum_by load (operations plans)
  unfolding carried
  carried_few g h i =
      sum_by_le (λ m. if is_under_way plans g m then sum_by (λ (v : Value). length v) ((held h).payload m) else 0) load (operations plans) (λ k d l. each (slice_index_or (operations plans) k d) (is_under_way plans g (slice_index_or (operations plans) k d)))
    where
      each : (m : OpId) (b : Bool) → (if b then sum_by (λ (v : Value). length v) ((held h).payload m) else 0) ≤ load m
      each m true = payload_few h i m
      each m false = omega arith

  weight_few : (g h : List Act) → IsInterleaving plans no_send h → stored (length plans) (held h).store + carried plans g (held h) ≤ weight_limit
  weight_few g h i =
      let a = stored_le (length plans) (held h).store cap (value_few h i) in
      let b = carried_few g h i in
      let t = bounds.total in
      omega (arith, a, b, t)

  -- the action of a calc does the additions of its notes
  calc_action_adds_its_notes : (a : Act) (h : List Act) → IsInterleaving plans no_send (a ∷ h) → (nanos : ℕ) → kind_at plans a.op ≡ Some (Calc nanos) → (held (a ∷ h)).store ≡ add_all a.op.rank (adds plans a.op) (held h).store
  unfolding held_after
  calc_action_adds_its_notes a h i nanos e =
      ap (λ (k : Option Kind). (change plans no_send (partner (pairs plans h) a.op) a.class a.op k (held h)).store) e ∙ go a.class (subst (λ (k : Option Kind). may plans no_send h a.class a.op k ≡ true) e (allowed_may plans no_send h a.class a.op i.1))
    where
      go : (c : Class) → may plans no_send h c a.op (Some (Calc nanos)) ≡ true → (change plans no_send (partner (pairs plans h) a.op) c a.op (Some (Calc nanos)) (held h)).store ≡ add_all a.op.rank (adds plans a.op) (held h).store
      go Begin m = refl
      go Arrive m = absurd (both_ways false refl m)
      go Serve m = absurd (both_ways false refl m)
      go Data m = absurd (both_ways false refl m)
      go Post m = absurd (both_ways false refl m)

  added_few : (a : Act) (h : List Act) → IsInterleaving plans no_send (a ∷ h) → (k : Option Kind) → kind_at plans a.op ≡ k → AddsAreLight plans h (held h) a.op k
  unfolding weight_within add_all
  added_few a h i None e = tt
  added_few a h i (Some (Send bytes to tag)) e = tt
  added_few a h i (Some (Recv room from tag)) e = tt
  added_few a h i (Some (Calc nanos)) e = λ n. each n (take_of_at_most_one n (adds plans a.op) (bounds.one_adding a.op (record { nanos = nanos; kind = e })))
    where
      whole : stored (length plans) (add_all a.op.rank (adds plans a.op) (held h).store) + carried plans h (held h) ≤ weight_limit
      whole =
          let s = stored_le (length plans) (held (a ∷ h)).store cap (value_few (a ∷ h) i) in
          let now = subst (λ (t : Store). stored (length plans) t ≤ sum_below (length plans) (λ r. sum_below (2 ^ 32) (cap r))) (calc_action_adds_its_notes a h i nanos e) s in
          let b = carried_few h h i.0 in
          let t = bounds.total in
          omega (arith, now, b, t)

      each : (n : ℕ) → ((take n (adds plans a.op) ≡ []) ⊎ (take n (adds plans a.op) ≡ adds plans a.op)) → stored (length plans) (add_all a.op.rank (take n (adds plans a.op)) (held h).store) + carried plans h (held h) ≤ weight_limit
      each n (inl none) =
          subst (λ (more : List Adding). stored (length plans) (add_all a.op.rank more (held h).store) + carried plans h (held h) ≤ weight_limit) (sym none) (weight_few h h i.0)
      each n (inr all) =
          subst (λ (more : List Adding). stored (length plans) (add_all a.op.rank more (held h).store) + carried plans h (held h) ≤ weight_limit) (sym all) whole

  pub light : (h : List Act) → IsInterleaving plans no_send h → IsLight plans first h
  unfolding weight
  light [] i = weight_few [] [] i
  light (a ∷ h) i =
      (light h i.0, added_few a h i (kind_at plans a.op) refl, weight_few (a ∷ h) (a ∷ h) i)
