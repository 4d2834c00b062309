-- The allgather along a ring is certified, for every number of ranks up to 512 and every size.
use Rattle.std.proofs.Common.{⊎_elim, ℕ, zero, suc, ◌+◌, ◌-◌, ◌*◌, ◌/◌, ◌%◌, ◌^◌, ◌<◌, ◌≤◌, ◌≡◌, ◌==◌, ◌⊎◌, nat_lt, inl, inr, Bool, true, false, List, [], ◌∷◌, map, length, All, Option, if◌then◌else◌, refl, sym, ap, ◌∙◌, subst, arith, eq-eqb, flat_map, add-one}
use Rattle.std.specs.List.{range_with_len, sum_by}
use Rattle.std.proofs.lemmas.Bool.{lt-ltb, ltb-true, eqb-true, cases_lt, cases_eq}
use Rattle.goal_limits.specs.Limits.{weight_limit}
use Rattle.goal_graph.specs.declared.plan.Kind.TheVariants.{Calc, Recv}
use Rattle.goal_graph.specs.declared.plan.Note.TheVariants.{Moves}
use Rattle.goal_limits.specs.declared.limits.TheConstants.{MAX_BYTES}
use Rattle.goal_limits.specs.declared.collective.Collective.TheVariants.{Allgather}
use Rattle.goal_blocks.specs.Slots.{slots_from}
use Rattle.goal_blocks.specs.Values.{Value, Store}
use Rattle.goal_blocks.specs.Weight.{sum_below}
use Rattle.goal_blocks.specs.Certification.{NamesLowSlots, moved_count, IsSmall, IsCertified}
use Rattle.goal_blocks.specs.Collectives.{single, initial, is_value, wanted}
use Rattle.goal_blocks.specs.Certified.{IsCertifiedFor}
use Rattle.goal_blocks.specs.Entries.{Entry, slot, sending, receiving, notes_of}
use Rattle.goal_blocks.specs.Positions.{ahead, back}
use Rattle.goal_blocks.specs.Made.{before_send, allgather_in}
use Rattle.goal_blocks.specs.Generated.{made}
use Rattle.goal_blocks.proofs.Orders.{Mem}
use Rattle.goal_blocks.proofs.Slim.{All_one}
use Rattle.goal_blocks.proofs.EntryFacts.{slots_of_span, length_plans}
use Rattle.goal_blocks.proofs.Ring.{ahead_cases, back_cases}
use Rattle.goal_blocks.proofs.RingAndTree.{back_below}
use Rattle.goal_blocks.proofs.MadeFits.{allgather_fits}
use Rattle.goal_blocks.proofs.MadePaired.{RingHop, ring_send, ring_recv, ring_messages}
use Rattle.goal_blocks.proofs.Sizes.{sum_below_few, sum_low_few, entries_small}
use Rattle.goal_blocks.proofs.Totals.{entries_few}
use Rattle.goal_blocks.proofs.Blueprint.{slots_moved_by, touches, writes, Precedes, now, IsThere, Origin, Final, IsBlueprint, IsBounded, blueprint_certified}

-- the slots of one slot's span
pub slots_of_single_slot : (k : ℕ) → flat_map slots_of_span (slot k) ≡ k ∷ []
unfolding slots_from
slots_of_single_slot k = let one : k + 1 - k ≡ 1 = omega arith in rw one refl

-- places in a ring
pub back_injective : (ranks r a b : ℕ) → r < ranks → a < ranks → b < ranks → back ranks r a ≡ back ranks r b → a ≡ b
back_injective ranks r a b p q s e = go (back_cases ranks r a) (back_cases ranks r b)
  where
    go : ((r < a) × (back ranks r a ≡ r + ranks - a)) ⊎ ((a ≤ r) × (back ranks r a ≡ r - a)) → ((r < b) × (back ranks r b ≡ r + ranks - b)) ⊎ ((b ≤ r) × (back ranks r b ≡ r - b)) → a ≡ b
    go (inl (l, f)) (inl (m, g)) = omega (arith, p, q, s, e, l, f, m, g)
    go (inl (l, f)) (inr (m, g)) = omega (arith, p, q, s, e, l, f, m, g)
    go (inr (l, f)) (inl (m, g)) = omega (arith, p, q, s, e, l, f, m, g)
    go (inr (l, f)) (inr (m, g)) = omega (arith, p, q, s, e, l, f, m, g)

pub back_zero : (ranks r : ℕ) → back ranks r 0 ≡ r
back_zero ranks r =
    ⊎_elim (λ p. let low = p.0 in absurd (omega (arith, low))) (λ p. let at = p.1 in omega (arith, at)) (back_cases ranks r 0)

pub back_back : (ranks r k : ℕ) → r < ranks → k < ranks → back ranks r (back ranks r k) ≡ k
back_back ranks r k p q = go (back_cases ranks r k) (back_cases ranks r (back ranks r k))
  where
    go : ((r < k) × (back ranks r k ≡ r + ranks - k)) ⊎ ((k ≤ r) × (back ranks r k ≡ r - k)) → ((r < back ranks r k) × (back ranks r (back ranks r k) ≡ r + ranks - back ranks r k)) ⊎ ((back ranks r k ≤ r) × (back ranks r (back ranks r k) ≡ r - back ranks r k)) → back ranks r (back ranks r k) ≡ k
    go (inl (l, f)) (inl (m, g)) = omega (arith, p, q, l, f, m, g)
    go (inl (l, f)) (inr (m, g)) = omega (arith, p, q, l, f, m, g)
    go (inr (l, f)) (inl (m, g)) = omega (arith, p, q, l, f, m, g)
    go (inr (l, f)) (inr (m, g)) = omega (arith, p, q, l, f, m, g)

module _ (ranks bytes : ℕ) (some : 0 < ranks) (few : ranks ≤ 512) where
  abbrev count : ℕ → ℕ
  count r = 2 * (ranks - 1)

  abbrev entry : ℕ → ℕ → Entry
  entry r i = allgather_in ranks bytes r i

  abbrev first : Store
  first = initial Allgather ranks

  -- every slot that is touched holds the value of the rank of its number
  abbrev own_value : ℕ → ℕ → ℕ → Value
  own_value r i k = single k 0

  abbrev level : ℕ → ℕ → ℕ
  level r i = i / 2

  -- the operations of step s
  entry_sends : (r s : ℕ) → entry r (2 * s) ≡ sending bytes (ahead ranks r 1) s (before_send s) (slot (back ranks r s))
  unfolding allgather_in
  entry_sends r s =
      let half : 2 * s / 2 ≡ s = omega arith in
      let even : 2 * s % 2 ≡ 0 = omega arith in
      rw (even, half) refl

  entry_receives : (r s : ℕ) → entry r (2 * s + 1) ≡ receiving bytes (back ranks r 1) s (slot (back ranks r (s + 1)))
  unfolding allgather_in
  entry_receives r s =
      let half : (2 * s + 1) / 2 ≡ s = omega arith in
      let odd : (2 * s + 1) % 2 ≡ 1 = omega arith in
      rw (odd, half) refl

  cases_step : (i : ℕ) → ((s : ℕ) × (i ≡ 2 * s)) ⊎ ((s : ℕ) × (i ≡ 2 * s + 1))
  cases_step i =
      ⊎_elim (λ e. inl (i / 2, omega (arith, e))) (λ d. inr (i / 2, omega (arith, d))) (cases_eq (i % 2) 0)

  -- the slot of an operation
  moved_slot : ℕ → ℕ → ℕ
  moved_slot r i = back ranks r ((i + 1) / 2)

  moves_place : (r i : ℕ) → slots_moved_by (entry r i) ≡ moved_slot r i ∷ []
  unfolding moved_slot
  moves_place r i = ⊎_elim (λ p. subst (λ (n : ℕ). slots_moved_by (entry r n) ≡ back ranks r ((n + 1) / 2) ∷ []) (sym p.1) (even p.0)) (λ p. subst (λ (n : ℕ). slots_moved_by (entry r n) ≡ back ranks r ((n + 1) / 2) ∷ []) (sym p.1) (odd p.0)) (cases_step i)
    where
      even : (s : ℕ) → slots_moved_by (entry r (2 * s)) ≡ back ranks r ((2 * s + 1) / 2) ∷ []
      even s =
          let half : (2 * s + 1) / 2 ≡ s = omega arith in
          rw half (ap slots_moved_by (entry_sends r s) ∙ slots_of_single_slot (back ranks r s))

      odd : (s : ℕ) → slots_moved_by (entry r (2 * s + 1)) ≡ back ranks r ((2 * s + 1 + 1) / 2) ∷ []
      odd s =
          let half : (2 * s + 1 + 1) / 2 ≡ s + 1 = omega arith in
          rw half (ap slots_moved_by (entry_receives r s) ∙ slots_of_single_slot (back ranks r (s + 1)))

  -- a receive writes its slot, and a send none
  writes_place : (r i k : ℕ) → Mem k (writes (entry r i)) → (s : ℕ) × (i ≡ 2 * s + 1) × (back ranks r (s + 1) ≡ k)
  writes_place r i k m = ⊎_elim (λ p. absurd (subst (λ (x : Entry). Mem k (writes x)) (ap (λ (n : ℕ). entry r n) p.1 ∙ entry_sends r p.0) m)) (λ p. (p.0, p.1, at p.0 (subst (λ (x : Entry). Mem k (writes x)) (ap (λ (n : ℕ). entry r n) p.1 ∙ entry_receives r p.0) m))) (cases_step i)
    where
      at : (s : ℕ) → Mem k (flat_map slots_of_span (slot (back ranks r (s + 1)))) → back ranks r (s + 1) ≡ k
      at s n =
          ⊎_elim (λ e. e) (λ none. absurd none) (subst (λ (ks : List ℕ). Mem k ks) (slots_of_single_slot (back ranks r (s + 1))) n)

  receive_writes_its_slot : (r s : ℕ) → Mem (back ranks r (s + 1)) (writes (entry r (2 * s + 1)))
  receive_writes_its_slot r s =
      subst (λ (x : Entry). Mem (back ranks r (s + 1)) (writes x)) (sym (entry_receives r s)) (subst (λ (ks : List ℕ). Mem (back ranks r (s + 1)) ks) (sym (slots_of_single_slot (back ranks r (s + 1)))) (inl refl))

  -- a send or a receive touches its slot
  touches_place : (r i k : ℕ) → Mem k (touches (entry r i)) → ((s : ℕ) × (i ≡ 2 * s) × (back ranks r s ≡ k)) ⊎ ((s : ℕ) × (i ≡ 2 * s + 1) × (back ranks r (s + 1) ≡ k))
  touches_place r i k m = ⊎_elim (λ p. inl (p.0, p.1, at (back ranks r p.0) (subst (λ (x : Entry). Mem k (touches x)) (ap (λ (n : ℕ). entry r n) p.1 ∙ entry_sends r p.0) m))) (λ p. inr (p.0, p.1, at (back ranks r (p.0 + 1)) (subst (λ (x : Entry). Mem k (touches x)) (ap (λ (n : ℕ). entry r n) p.1 ∙ entry_receives r p.0) m))) (cases_step i)
    where
      at : (j : ℕ) → Mem k (flat_map slots_of_span (slot j)) → j ≡ k
      at j n = ⊎_elim (λ e. e) (λ none. absurd none) (subst (λ (ks : List ℕ). Mem k ks) (slots_of_single_slot j) n)

  -- the send of step s + 1 requires only the receive of step s
  needs_step : (r i k : ℕ) → Mem k (entry r i).needs → (s : ℕ) × (i ≡ 2 * (s + 1)) × (k ≡ 2 * s + 1)
  needs_step r i k m = ⊎_elim (λ p. even p.0 p.1 (subst (λ (x : Entry). Mem k x.needs) (ap (λ (n : ℕ). entry r n) p.1 ∙ entry_sends r p.0) m)) (λ p. absurd (subst (λ (x : Entry). Mem k x.needs) (ap (λ (n : ℕ). entry r n) p.1 ∙ entry_receives r p.0) m)) (cases_step i)
    where
      even : (s : ℕ) → i ≡ 2 * s → Mem k (before_send s) → (t : ℕ) × (i ≡ 2 * (t + 1)) × (k ≡ 2 * t + 1)
      even zero e n = absurd n
      even (suc s) e (inr n) = absurd n
      even (suc s) e (inl f) = (s, omega (arith, e), omega (arith, f))

  receive_precedes_next_send : (r s : ℕ) → Precedes (entry r) (2 * s + 1) (2 * (s + 1))
  receive_precedes_next_send r s =
      now (subst (λ (x : Entry). Mem (2 * s + 1) x.needs) (sym (entry_sends r (s + 1))) (subst (λ (n : ℕ). Mem (2 * s + 1) (before_send n)) (sym (add-one s)) (inl (omega arith))))

  starts_with_own_item : (r : ℕ) → r < ranks → first r r ≡ single r 0
  unfolding initial
  starts_with_own_item r inside = rw (lt-ltb r ranks inside, eq-eqb r r refl) refl

  wanted_at_end : (r k : ℕ) → r < ranks → k < ranks → wanted Allgather ranks r k (single k 0) ≡ true
  unfolding wanted is_value
  wanted_at_end r k inside low = rw (lt-ltb r ranks inside, lt-ltb k ranks low, eq-eqb k k refl) refl

  nothing_wanted_beyond : (r k : ℕ) → ranks ≤ k → (v : Value) → wanted Allgather ranks r k v ≡ true
  unfolding wanted
  nothing_wanted_beyond r k high v = go (nat_lt r ranks) (nat_lt k ranks) refl
    where
      go : (a b : Bool) → nat_lt k ranks ≡ b → (if a then (if b then is_value v (single k 0) else true) else true) ≡ true
      go true true e = absurd (let low = ltb-true k ranks e in omega (arith, low, high))
      go true false e = refl
      go false b e = refl

  needs_are_lower : (r i k : ℕ) → IsThere ranks count entry r i → Mem k (entry r i).needs → (k < count r) × (level r k < level r i)
  needs_are_lower r i k there m =
      let p = needs_step r i k m in
      let inside = there.1 in
      let is = p.1 in
      let its = p.2 in
      (omega (arith, inside, is, its), omega (arith, is, its))

  receives_write_once : (r i j k : ℕ) → r < ranks → i < count r → (s t : ℕ) → i ≡ 2 * s + 1 → j ≡ 2 * t + 1 → j < count r → back ranks r (s + 1) ≡ k → back ranks r (t + 1) ≡ k → i ≡ j
  receives_write_once r i j k inside l s t p q m a b =
      let same = back_injective ranks r (s + 1) (t + 1) inside (omega (arith, l, p)) (omega (arith, m, q)) (a ∙ sym b) in
      omega (arith, same, p, q)

  -- a send comes after the receive that writes its slot
  send_after_write : (r i j k : ℕ) → r < ranks → i < count r → j < count r → (s t : ℕ) → i ≡ 2 * s → j ≡ 2 * t + 1 → back ranks r s ≡ k → back ranks r (t + 1) ≡ k → Precedes (entry r) j i
  send_after_write r i j k inside l m s t p q a b =
      let same : s ≡ t + 1 = back_injective ranks r s (t + 1) inside (omega (arith, l, p)) (omega (arith, m, q)) (a ∙ sym b) in
      subst (λ (n : ℕ). Precedes (entry r) n i) (sym q) (subst (λ (n : ℕ). Precedes (entry r) (2 * t + 1) n) (sym (p ∙ ap (λ (n : ℕ). 2 * n) same)) (receive_precedes_next_send r t))

  conflicts_are_ordered : (r i j k : ℕ) → r < ranks → i < count r → j < count r → (i ≡ j → ⊥) → Mem k (touches (entry r i)) → Mem k (writes (entry r j)) → Precedes (entry r) i j ⊎ Precedes (entry r) j i
  conflicts_are_ordered r i j k inside l m differ t w =
      let writer = writes_place r j k w in
      ⊎_elim (λ p. inr (send_after_write r i j k inside l m p.0 writer.0 p.1 writer.1 p.2 writer.2)) (λ p. absurd (differ (receives_write_once r i j k inside l p.0 writer.0 p.1 writer.1 m p.2 writer.2))) (touches_place r i k t)

  touched_has_origin : (r i k : ℕ) → IsThere ranks count entry r i → ((room : ℕ) (from t : Option ℕ) → (entry r i).kind ≡ Recv room from t → ⊥) → Mem k (touches (entry r i)) → Origin ranks count entry first (wanted Allgather ranks) own_value own_value r i k
  touched_has_origin r i k there not_receive t =
      ⊎_elim (λ p. sent p.0 p.1 p.2) (λ p. absurd (not_receive _ _ _ (ap (λ (x : Entry). x.kind) (ap (λ (n : ℕ). entry r n) p.1 ∙ entry_receives r p.0)))) (touches_place r i k t)
    where
      sent : (s : ℕ) → i ≡ 2 * s → back ranks r s ≡ k → Origin ranks count entry first (wanted Allgather ranks) own_value own_value r i k
      sent zero p q =
          let own : r ≡ k = sym (back_zero ranks r) ∙ q in
          let inside = there.0 in
          inl (subst (λ (n : ℕ). first r n ≡ single n 0) own (starts_with_own_item r there.0), λ j l w. let v = writes_place r j k w in let at = v.1 in absurd (let same = back_injective ranks r (v.0 + 1) 0 there.0 (omega (arith, l, at)) (omega (arith, inside)) (v.2 ∙ sym q) in omega (arith, same)))
      sent (suc s) p q =
          let inside = there.1 in
          inr (2 * s + 1, omega (arith, inside, p), subst (λ (n : ℕ). Mem n (writes (entry r (2 * s + 1)))) (ap (λ (n : ℕ). back ranks r n) (add-one s) ∙ q) (receive_writes_its_slot r s), subst (λ (n : ℕ). Precedes (entry r) (2 * s + 1) n) (ap (λ (n : ℕ). 2 * n) (add-one s) ∙ sym p) (receive_precedes_next_send r s), refl, λ l m w. let v = writes_place r l k w in inl (inr (receives_write_once r l (2 * s + 1) k there.0 m v.0 s v.1 refl (omega (arith, inside, p)) v.2 (ap (λ (n : ℕ). back ranks r n) (add-one s) ∙ q))))

  slots_end_as_wanted : (r k : ℕ) → r < ranks → Final ranks count entry first (wanted Allgather ranks) own_value own_value r k
  slots_end_as_wanted r k inside = ⊎_elim (λ low. here low (cases_eq r k)) (λ high. inl (nothing_wanted_beyond r k high)) (cases_lt k ranks)
    where
      here : k < ranks → (r ≡ k) ⊎ (r ≡ k → ⊥) → Final ranks count entry first (wanted Allgather ranks) own_value own_value r k
      here low (inl own) =
          inr (inl (λ j l w. let v = writes_place r j k w in let at = v.1 in absurd (let same = back_injective ranks r (v.0 + 1) 0 inside (omega (arith, l, at)) some (v.2 ∙ sym own ∙ sym (back_zero ranks r)) in omega (arith, same)), subst (λ (n : ℕ). wanted Allgather ranks r n (first r n) ≡ true) own (subst (λ (v : Value). wanted Allgather ranks r r v ≡ true) (sym (starts_with_own_item r inside)) (wanted_at_end r r inside inside))))
      here low (inr other) =
          let d = back ranks r k in
          let under = back_below ranks r k inside in
          let above : 0 < d = ⊎_elim (λ p. let at = p.1 in let le = p.0 in omega (arith, at, le, low, inside)) (λ p. let at = p.1 in let le = p.0 in ⊎_elim (λ z. absurd (other (omega (arith, at, le, z)))) (λ z. omega (arith, z)) (cases_eq (back ranks r k) 0)) (back_cases ranks r k) in
          let t = d - 1 in
          let step : t + 1 ≡ d = omega (arith, above) in
          let at : back ranks r (t + 1) ≡ k = ap (λ (n : ℕ). back ranks r n) step ∙ back_back ranks r k inside low in
          let there : 2 * t + 1 < count r = omega (arith, step, under) in
          inr (inr (2 * t + 1, there, subst (λ (n : ℕ). Mem n (writes (entry r (2 * t + 1)))) at (receive_writes_its_slot r t), λ l m w. let v = writes_place r l k w in inl (receives_write_once r l (2 * t + 1) k inside m v.0 t v.1 refl there v.2 at), wanted_at_end r k inside low))

  no_calc : (r i nanos : ℕ) → (entry r i).kind ≡ Calc nanos → ⊥
  no_calc r i nanos e =
      ⊎_elim (λ p. let f = sym (ap (λ (x : Entry). x.kind) (ap (λ (n : ℕ). entry r n) p.1 ∙ entry_sends r p.0)) ∙ e in cc f) (λ p. let f = sym (ap (λ (x : Entry). x.kind) (ap (λ (n : ℕ). entry r n) p.1 ∙ entry_receives r p.0)) ∙ e in cc f) (cases_step i)

  -- a message goes from a slot to the one of the same number
  sent_slot_is_received_slot : (h : RingHop ranks bytes) → back ranks (ahead ranks h.from 1) (h.step + 1) ≡ back ranks h.from h.step
  sent_slot_is_received_slot h = go (ahead_cases ranks h.from 1) (back_cases ranks (ahead ranks h.from 1) (h.step + 1)) (back_cases ranks h.from h.step)
    where
      go : ((h.from + 1 < ranks) × (ahead ranks h.from 1 ≡ h.from + 1)) ⊎ ((ranks ≤ h.from + 1) × (ahead ranks h.from 1 ≡ h.from + 1 - ranks)) → ((ahead ranks h.from 1 < h.step + 1) × (back ranks (ahead ranks h.from 1) (h.step + 1) ≡ ahead ranks h.from 1 + ranks - (h.step + 1))) ⊎ ((h.step + 1 ≤ ahead ranks h.from 1) × (back ranks (ahead ranks h.from 1) (h.step + 1) ≡ ahead ranks h.from 1 - (h.step + 1))) → ((h.from < h.step) × (back ranks h.from h.step ≡ h.from + ranks - h.step)) ⊎ ((h.step ≤ h.from) × (back ranks h.from h.step ≡ h.from - h.step)) → back ranks (ahead ranks h.from 1) (h.step + 1) ≡ back ranks h.from h.step
      go (inl (a, b)) (inl (c, d)) (inl (e, f)) = let i = h.inside in let s = h.few in omega (arith, a, b, c, d, e, f, i, s)
      go (inl (a, b)) (inl (c, d)) (inr (e, f)) = let i = h.inside in let s = h.few in omega (arith, a, b, c, d, e, f, i, s)
      go (inl (a, b)) (inr (c, d)) (inl (e, f)) = let i = h.inside in let s = h.few in omega (arith, a, b, c, d, e, f, i, s)
      go (inl (a, b)) (inr (c, d)) (inr (e, f)) = let i = h.inside in let s = h.few in omega (arith, a, b, c, d, e, f, i, s)
      go (inr (a, b)) (inl (c, d)) (inl (e, f)) = let i = h.inside in let s = h.few in omega (arith, a, b, c, d, e, f, i, s)
      go (inr (a, b)) (inl (c, d)) (inr (e, f)) = let i = h.inside in let s = h.few in omega (arith, a, b, c, d, e, f, i, s)
      go (inr (a, b)) (inr (c, d)) (inl (e, f)) = let i = h.inside in let s = h.few in omega (arith, a, b, c, d, e, f, i, s)
      go (inr (a, b)) (inr (c, d)) (inr (e, f)) = let i = h.inside in let s = h.few in omega (arith, a, b, c, d, e, f, i, s)

  message_keeps_values : (h : RingHop ranks bytes) → slots_moved_by (entry h.from (2 * h.step)) ≡ slots_moved_by (entry (ahead ranks h.from 1) (2 * h.step + 1))
  message_keeps_values h =
      ap slots_moved_by (entry_sends h.from h.step) ∙ slots_of_single_slot (back ranks h.from h.step) ∙ ap (λ (n : ℕ). n ∷ []) (sym (sent_slot_is_received_slot h)) ∙ sym (ap slots_moved_by (entry_receives (ahead ranks h.from 1) h.step) ∙ slots_of_single_slot (back ranks (ahead ranks h.from 1) (h.step + 1)))

  blueprint : IsBlueprint ranks count entry first (wanted Allgather ranks) own_value own_value (RingHop ranks bytes) bytes (ring_send ranks bytes) (ring_recv ranks bytes) (λ h. h.step) level
  blueprint = record {
    messages = ring_messages ranks bytes;
    lower = needs_are_lower;
    same_level = λ h. omega arith;
    race = conflicts_are_ordered;
    source = touched_has_origin;
    summed = λ r i nanos there k. absurd (no_calc r i nanos k);
    kept = λ h. ap (λ (ks : List ℕ). map (λ (k : ℕ). single k 0) ks) (message_keeps_values h);
    final = slots_end_as_wanted;
  }

  -- a contribution in each slot of a rank
  cap : ℕ → ℕ → ℕ
  cap r k = if nat_lt k ranks then 1 else 0

  abbrev load : ℕ → ℕ → ℕ
  load r i = 1

  cap_low : (r k : ℕ) → k < ranks → cap r k ≡ 1
  unfolding cap
  cap_low r k low = rw (lt-ltb k ranks low) refl

  cap_high : (r k : ℕ) → ranks ≤ k → cap r k ≡ 0
  unfolding cap
  cap_high r k high = go (nat_lt k ranks) refl
    where
      go : (b : Bool) → nat_lt k ranks ≡ b → ◌≡◌ {A = ℕ} (if b then 1 else 0) 0
      go true e = absurd (let low = ltb-true k ranks e in omega (arith, low, high))
      go false e = refl

  cap_few : (r k : ℕ) → cap r k ≤ 1
  cap_few r k =
      ⊎_elim (λ l. let e = cap_low r k l in omega (arith, e)) (λ g. let e = cap_high r k g in omega (arith, e)) (cases_lt k ranks)

  first_cap : (r k : ℕ) → length (first r k) ≤ cap r k
  unfolding initial
  first_cap r k = go (nat_lt r ranks) refl (k == r) refl
    where
      go : (a : Bool) → nat_lt r ranks ≡ a → (b : Bool) → (k == r) ≡ b → length (if a then (if b then single r 0 else []) else []) ≤ cap r k
      go true e true f =
          let low = cap_low r k (let inside = ltb-true r ranks e in let same = eqb-true k r f in omega (arith, inside, same)) in omega (arith, low)
      go true e false f = omega arith
      go false e b f = omega arith

  total_within_limit : bytes ≤ MAX_BYTES → sum_below ranks (λ r. sum_below (2 ^ 32) (cap r)) + sum_by (λ r. sum_by (load r) (range_with_len 0 (count r))) (range_with_len 0 ranks) ≤ weight_limit
  total_within_limit size =
      let stores = sum_below_few ranks 512 (λ r. sum_below (2 ^ 32) (cap r)) (λ r l. let s = sum_low_few (2 ^ 32) ranks 1 (cap r) (cap_few r) (cap_high r) in omega (arith, s, few)) in
      let loads = entries_few ranks count load 1 (λ r i l m. omega arith) in
      let ops = (allgather_fits ranks bytes size some few).few_ops in
      omega (arith, stores, loads, ops, few)

  blueprint_is_bounded : bytes ≤ MAX_BYTES → IsBounded ranks count entry first (wanted Allgather ranks) own_value own_value (RingHop ranks bytes) (ring_send ranks bytes) cap load
  blueprint_is_bounded size = record {
    first_cap = first_cap;
    leaves_cap = λ r i k there w. let v = writes_place r i k w in let low = cap_low r k (subst (λ (n : ℕ). n < ranks) v.2 (back_below ranks r (v.0 + 1) there.0)) in omega (arith, low);
    finds_load = λ h. subst (λ (ks : List ℕ). sum_by (λ (v : Value). length v) (map (λ (k : ℕ). single k 0) ks) ≤ 1) (sym (moves_place h.from (2 * h.step))) (omega arith);
    total = total_within_limit size;
  }

  low_notes : (r i : ℕ) → r < ranks → All NamesLowSlots (notes_of i (entry r i)) × (sum_by moved_count (notes_of i (entry r i)) ≤ 1)
  low_notes r i inside = ⊎_elim (λ p. subst (λ (x : Entry). All NamesLowSlots (notes_of i x) × (sum_by moved_count (notes_of i x) ≤ 1)) (sym (ap (λ (n : ℕ). entry r n) p.1 ∙ entry_sends r p.0)) (one (back ranks r p.0) (back_below ranks r p.0 inside))) (λ p. subst (λ (x : Entry). All NamesLowSlots (notes_of i x) × (sum_by moved_count (notes_of i x) ≤ 1)) (sym (ap (λ (n : ℕ). entry r n) p.1 ∙ entry_receives r p.0)) (one (back ranks r (p.0 + 1)) (back_below ranks r (p.0 + 1) inside))) (cases_step i)
    where
      one : (k : ℕ) → k < ranks → All NamesLowSlots (Moves i k k ∷ []) × (sum_by moved_count (Moves i k k ∷ []) ≤ 1)
      one k l = (All_one NamesLowSlots (Moves i k k) (omega (arith, l, few), omega (arith, l, few)), omega arith)

  made_is_small : bytes ≤ MAX_BYTES → IsSmall (made Allgather ranks bytes)
  unfolding made
  made_is_small size =
      entries_small ranks count entry 1 (λ r l. omega (arith, few)) (λ r i l m. (low_notes r i l).0) (λ r i l m. (low_notes r i l).1) (let ops = (allgather_fits ranks bytes size some few).few_ops in omega (arith, ops))

  pub allgather_certified : bytes ≤ MAX_BYTES → IsCertifiedFor Allgather (made Allgather ranks bytes)
  unfolding made
  allgather_certified size =
      subst (λ (n : ℕ). IsCertified (made Allgather ranks bytes) (initial Allgather n) (wanted Allgather n)) (sym (length_plans ranks count entry)) (blueprint_certified ranks count entry first (wanted Allgather ranks) own_value own_value (RingHop ranks bytes) bytes (ring_send ranks bytes) (ring_recv ranks bytes) (λ h. h.step) level blueprint cap load (blueprint_is_bounded size) (made_is_small size))
