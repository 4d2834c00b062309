-- The queue of a walker: its keys stay, are put anew, and lead to the action that is next.
use Rattle.std.proofs.Common.{◌≡◌, ◌≢◌, ◌+◌, ◌<◌, ◌≤◌, ◌⊎◌, ℕ, true, false, nat_lt, List, ◌∷◌, Contains, length, set, get_or, slice_get, slice_set, Option, Some, None, inl, inr, refl, sym, ap, ◌∙◌, subst, arith, ltb-false}
use Rattle.std.proofs.lemmas.Bool.{cases_eq, cases_lt, both_ways}
use Rattle.std.proofs.lemmas.List.{get_or-set_same, get_or-set_other, get_or_past, length-set}
use Rattle.std.proofs.lemmas.Option.{slice_get-get_or, slice_get_within, get_or_from_slice_get, same_Some}
use Rattle.goal_graph.specs.declared.action.OpId.{OpId}
use Rattle.goal_graph.specs.declared.action.Class.{Class}
use Rattle.goal_graph.specs.Schedule.{Plan, operations}
use Rattle.goal_graph.specs.Action.{Act, place, same_op}
use Rattle.goal_graph.specs.Order.{IsBefore}
use Rattle.goal_graph.specs.Interleaving.{IsInterleaving, IsCompleteInterleaving}
use Rattle.goal_graph.proofs.ForCallers.{same_or_different_op, same_op_false, allowed_listed, one_allowed, allowed_stays, operations_in_order, operations_at_two_places_differ, find_class}
use Rattle.goal_blocks.specs.Walk.{no_send, ComesFirst}
use Rattle.sim_queue.specs.Map.{key_at, IsEmptyMap, IsLeast}
use Rattle.goal_certify.specs.WalkQueue.{may_act, IsIdle, IsChoice, IsKeyOf, IsQueueBut, IsQueue, IsRefreshed, IsMoved}
use Rattle.goal_certify.proofs.Moved.{newly_moved}
use Rattle.std.proofs.lemmas.Bool.{false_from_ne_true, and_right}

module _ (plans : List Plan) (h : List Act) where
  -- the key of an operation that may act
  pub choice_key : (slot : ℕ) (x : OpId) (r : Option Class) (c : Class) → IsChoice plans h x r → r ≡ Some c → IsKeyOf plans h slot x (Some slot)
  choice_key slot x r c is e = (refl, (c, subst (λ (o : Option Class). IsChoice plans h x o) e is))

  pub choice_none : (slot : ℕ) (x : OpId) (r : Option Class) → IsChoice plans h x r → r ≡ None → IsKeyOf plans h slot x None
  choice_none slot x r is e = subst (λ (o : Option Class). IsChoice plans h x o) e is

  pub put_key : (x : OpId) (known : List Plan) (slot : ℕ) (key : Option ℕ) (old new : List (Option ℕ)) → known ≡ plans → slice_get (operations known) slot ≡ Some x → IsKeyOf plans h slot x key → new ≡ slice_set old slot key → IsRefreshed plans h x old new
  put_key x known slot key old new same at is put = record {
    slot = slot;
    is_slot = ap (λ (ps : List Plan). slice_get (operations ps) slot) (sym same) ∙ at;
    key = key;
    bound = is;
    put = put;
  }

  -- an operation whose key was refreshed is no longer due
  pub queue_after_refresh : (Due Later : ℕ → OpId → Type 0) (old new : List (Option ℕ)) (x : OpId) → IsQueueBut plans h Due old → IsRefreshed plans h x old new → ((slot : ℕ) (y : OpId) → slice_get (operations plans) slot ≡ Some y → Due slot y → ¬ (y ≡ x) → Later slot y) → IsQueueBut plans h Later new
  queue_after_refresh Due Later old new x q r still = record {
    each = ap length r.put ∙ length-set old r.slot r.key ∙ q.each;
    bounds = λ i y e. subst (λ (keys : List (Option ℕ)). IsKeyOf plans h i y (key_at keys i) ⊎ Later i y) (sym r.put) (go i y e (cases_eq i r.slot));
  }
    where
      within : r.slot < length old
      within = omega (arith, q.each, slice_get_within (operations plans) r.slot x r.is_slot)

      go : (i : ℕ) (y : OpId) → slice_get (operations plans) i ≡ Some y → (i ≡ r.slot) ⊎ (i ≢ r.slot) → IsKeyOf plans h i y (key_at (set old r.slot r.key) i) ⊎ Later i y
      go i y e (inl s) =
          let same : x ≡ y = same_Some x y (sym r.is_slot ∙ ap (slice_get (operations plans)) (sym s) ∙ e) in
          let here : key_at (set old r.slot r.key) i ≡ r.key = ap (key_at (set old r.slot r.key)) s ∙ get_or-set_same old r.slot r.key None within in
          let there : IsKeyOf plans h i x r.key = subst (λ (n : ℕ). IsKeyOf plans h n x r.key) (sym s) r.bound in
          inl (subst (λ (k : Option ℕ). IsKeyOf plans h i y k) (sym here) (subst (λ (z : OpId). IsKeyOf plans h i z r.key) same there))
      go i y e (inr d) =
          let there : key_at (set old r.slot r.key) i ≡ key_at old i = get_or-set_other old r.slot i r.key None d in
          elim (q.bounds i y e) [ inl b ↦ inl (subst (λ (k : Option ℕ). IsKeyOf plans h i y k) (sym there) b) | inr due ↦ inr (still i y e due (operations_at_two_places_differ plans i r.slot y x e r.is_slot d)) ]

  -- fewer are due
  pub fewer_due : (Due Later : ℕ → OpId → Type 0) (keys : List (Option ℕ)) → IsQueueBut plans h Due keys → ((slot : ℕ) (y : OpId) → slice_get (operations plans) slot ≡ Some y → Due slot y → Later slot y) → IsQueueBut plans h Later keys
  fewer_due Due Later keys q still = record {
    each = q.each;
    bounds = λ i y e. elim (q.bounds i y e) [ inl b ↦ inl b | inr due ↦ inr (still i y e due) ];
  }

  -- if all operations are due, only the number of keys matters
  pub all_due : (Due : ℕ → OpId → Type 0) (keys : List (Option ℕ)) → length keys ≡ length (operations plans) → ((slot : ℕ) (y : OpId) → Due slot y) → IsQueueBut plans h Due keys
  all_due Due keys e every = record { each = e; bounds = λ i y f. inr (every i y) }

  module _ (now : IsInterleaving plans no_send h) (keys : List (Option ℕ)) (q : IsQueue plans h keys) where
    bound : (slot : ℕ) (x : OpId) → slice_get (operations plans) slot ≡ Some x → IsKeyOf plans h slot x (key_at keys slot)
    bound slot x at = elim (q.bounds slot x at) [ inl b ↦ b | inr none ↦ absurd none ]

    -- the slot of an operation that may act
    record IsThere (slot : ℕ) (x : OpId) : Type 0 where
      pub at : slice_get (operations plans) slot ≡ Some x
      pub key : ℕ
      pub has : key_at keys slot ≡ Some key
      pub place : key ≡ slot

    slot_of : (c : Class) (x : OpId) → may_act plans h c x ≡ true → (slot : ℕ) × IsThere slot x
    slot_of c x e = go (key_at keys slot) refl (bound slot x at)
      where
        listed : Contains (operations plans) x
        listed = allowed_listed plans no_send h c x e

        slot : ℕ
        slot = listed.0

        at : slice_get (operations plans) slot ≡ Some x
        at = slice_get-get_or (operations plans) slot x listed.1 ∙ ap Some listed.2

        go : (k : Option ℕ) → key_at keys slot ≡ k → IsKeyOf plans h slot x k → (slot : ℕ) × IsThere slot x
        go None s idle = absurd (both_ways _ (idle c) e)
        go (Some k) s is = (slot, record { at = at; key = k; has = s; place = is.0 })

    -- an empty queue: nothing may happen
    pub complete : IsEmptyMap keys → IsCompleteInterleaving plans no_send h
    complete empty = record {
      each = now;
      none_left = λ a. false_from_ne_true _ (λ t. none a (slot_of a.class a.op t));
    }
      where
        none : (a : Act) → (slot : ℕ) × IsThere slot a.op → ⊥
        none a (slot, is) =
            let no : key_at keys slot ≡ None = empty slot in
            let some : key_at keys slot ≡ Some is.key = is.has in
            absurd (cc)

    -- the least key is in the slot of an operation that may act
    pub within : (slot : ℕ) (k : ℕ) → key_at keys slot ≡ Some k → slot < length (operations plans)
    within slot k has = go (cases_lt slot (length keys))
      where
        go : (slot < length keys) ⊎ (length keys ≤ slot) → slot < length (operations plans)
        go (inl l) = omega (arith, l, q.each)
        go (inr l) = let none : key_at keys slot ≡ None = get_or_past keys slot None l in absurd (cc)

    pub found_at : (items : List OpId) → items ≡ operations plans → (slot : ℕ) (k : ℕ) (d : OpId) → key_at keys slot ≡ Some k → slice_get (operations plans) slot ≡ Some (get_or items slot d)
    found_at items are slot k d has =
        slice_get-get_or (operations plans) slot d (within slot k has) ∙ ap (λ (xs : List OpId). Some (get_or xs slot d)) (sym are)

    -- an action of it may happen
    pub may_some : (slot : ℕ) (k : ℕ) (x : OpId) → key_at keys slot ≡ Some k → slice_get (operations plans) slot ≡ Some x → (class : Class) × (may_act plans h class x ≡ true)
    may_some slot k x has at = (subst (λ (o : Option ℕ). IsKeyOf plans h slot x o) has (bound slot x at)).1

    own_place : (slot : ℕ) (k : ℕ) (x : OpId) → key_at keys slot ≡ Some k → slice_get (operations plans) slot ≡ Some x → k ≡ slot
    own_place slot k x has at = (subst (λ (o : Option ℕ). IsKeyOf plans h slot x o) has (bound slot x at)).0

    -- an operation earlier in the list of operations comes before
    earlier_before : (i j : ℕ) (x y : OpId) → i < j → slice_get (operations plans) i ≡ Some x → slice_get (operations plans) j ≡ Some y → IsBefore x y
    earlier_before i j x y l e f =
        let before = operations_in_order plans i j x l (slice_get_within (operations plans) j y f) in
        subst (λ (z : OpId). IsBefore z y) (get_or_from_slice_get (operations plans) i x x e) (subst (λ (z : OpId). IsBefore (get_or (operations plans) i x) z) (get_or_from_slice_get (operations plans) j y x f) before)

    -- it is the first of those that may
    pub comes_first : (slot : ℕ) (k : ℕ) (x : OpId) (c : Class) → IsLeast nat_lt keys slot k → slice_get (operations plans) slot ≡ Some x → may_act plans h c x ≡ true → (b : Act) → may_act plans h b.class b.op ≡ true → ComesFirst (record { class = c; op = x }) b
    comes_first slot k x c least at may b e = go (slot_of b.class b.op e)
      where
        go : (other : ℕ) × IsThere other b.op → ComesFirst (record { class = c; op = x }) b
        go (other, is) = order (cases_eq slot other)
          where
            not_less : k ≤ is.key
            not_less = ltb-false is.key k (least.least other is.key is.has)

            ahead : slot ≤ other
            ahead = omega (arith, not_less, own_place slot k x least.has at, is.place)

            order : (slot ≡ other) ⊎ (slot ≢ other) → ComesFirst (record { class = c; op = x }) b
            order (inl s) =
                let same : x ≡ b.op = same_Some x b.op (sym at ∙ ap (slice_get (operations plans)) s ∙ is.at) in
                let classes : c ≡ b.class = one_allowed plans no_send h c b.class b.op now (subst (λ (y : OpId). may_act plans h c y ≡ true) same may) e in
                inr (same, omega (arith, ap place classes))
            order (inr d) = inl (earlier_before slot other x b.op (omega (arith, ahead, d)) at is.at)

-- after another action
module _ (plans : List Plan) (h : List Act) (a : Act) (now : IsInterleaving plans no_send (a ∷ h)) where
  may_act_stays : (c : Class) (x : OpId) → ¬ (x ≡ a.op) → may_act plans h c x ≡ true → may_act plans (a ∷ h) c x ≡ true
  may_act_stays c x d e =
      elim (same_or_different_op a.op x) [ inl s ↦ absurd (d (sym s)) | inr o ↦ allowed_stays plans no_send a h c x (and_right _ (same_op a.op x) o) e ]

  -- the key of an operation stays, or the action moves it
  key_stays : (slot : ℕ) (x : OpId) (k : Option ℕ) → IsKeyOf plans h slot x k → IsKeyOf plans (a ∷ h) slot x k ⊎ IsMoved plans (a ∷ h) a.class a.op x
  key_stays slot x None idle = go (find_class (λ c. may_act plans (a ∷ h) c x))
    where
      go : ((c : Class) × (may_act plans (a ∷ h) c x ≡ true)) ⊎ ((c : Class) → may_act plans (a ∷ h) c x ≡ false) → IsIdle plans (a ∷ h) x ⊎ IsMoved plans (a ∷ h) a.class a.op x
      go (inr none) = inl none
      go (inl (c, t)) = elim (newly_moved plans a h now c x t) [ inl was ↦ absurd (both_ways _ (idle c) was) | inr new ↦ inr new ]
  key_stays slot x (Some k) b = go (same_or_different_op a.op x)
    where
      go : (a.op ≡ x) ⊎ (same_op a.op x ≡ false) → IsKeyOf plans (a ∷ h) slot x (Some k) ⊎ IsMoved plans (a ∷ h) a.class a.op x
      go (inl s) = inr (inl (sym s))
      go (inr o) = inl (b.0, (b.1.0, may_act_stays b.1.0 x (λ s. same_op_false a.op x o (sym s)) b.1.1))

  -- so after an action those are due that it moves
  pub queue_after : (keys : List (Option ℕ)) → IsQueue plans h keys → IsQueueBut plans (a ∷ h) (λ slot. IsMoved plans (a ∷ h) a.class a.op) keys
  queue_after keys q = record {
    each = q.each;
    bounds = λ i x e. elim (q.bounds i x e) [ inl b ↦ key_stays i x (key_at keys i) b | inr none ↦ absurd none ];
  }

-- those from the next place on, where the operation of this place is no longer due
pub next_due : (plans : List Plan) (items : List OpId) → items ≡ operations plans → (k : ℕ) (d : OpId) (slot : ℕ) (y : OpId) → slice_get (operations plans) slot ≡ Some y → k ≤ slot → ¬ (y ≡ get_or items k d) → k + 1 ≤ slot
next_due plans items are k d slot y at l differ = go (cases_eq slot k)
  where
    go : (slot ≡ k) ⊎ (slot ≢ k) → k + 1 ≤ slot
    go (inl e) = absurd (differ (sym (get_or_from_slice_get items k y d (ap (λ (xs : List OpId). slice_get xs k) are ∙ ap (slice_get (operations plans)) (sym e) ∙ at))))
    go (inr n) = omega (arith, l, n)
