-- The alltoall by shifts is certified, for every number of ranks up to 512 and every size.
use Rattle.std.proofs.Common.{⊎_elim, ℕ, zero, suc, ◌+◌, ◌-◌, ◌*◌, ◌/◌, ◌%◌, ◌^◌, ◌<◌, ◌≤◌, ◌≡◌, ◌&&◌, ◌⊎◌, nat_lt, nat_le, inl, inr, Bool, true, false, List, [], ◌∷◌, map, length, All, Option, Some, if◌then◌else◌, refl, sym, ap, ◌∙◌, subst, arith, eq-eqb, flat_map}
use Rattle.std.specs.List.{range_with_len, sum_by}
use Rattle.std.proofs.lemmas.Bool.{lt-ltb, ltb-true, le-leb, leb-true, cases_lt, cases_eq}
use Rattle.goal_limits.specs.Limits.{weight_limit}
use Rattle.goal_graph.specs.declared.action.OpId.{OpId}
use Rattle.goal_graph.specs.declared.plan.Kind.TheVariants.{Calc, Recv}
use Rattle.goal_graph.specs.declared.plan.Note.TheVariants.{Moves, Adds}
use Rattle.goal_limits.specs.declared.limits.TheConstants.{MAX_BYTES}
use Rattle.goal_limits.specs.declared.collective.Collective.TheVariants.{Alltoall}
use Rattle.goal_blocks.specs.Slots.{Adding}
use Rattle.goal_blocks.specs.Values.{Value, Store, merge}
use Rattle.goal_blocks.specs.Weight.{sum_below}
use Rattle.goal_blocks.specs.Certification.{NamesLowSlots, moved_count, IsSmall, IsCertified}
use Rattle.goal_blocks.specs.Collectives.{single, initial, is_value, wanted}
use Rattle.goal_blocks.specs.Certified.{IsCertifiedFor}
use Rattle.goal_blocks.specs.Entries.{Entry, slot, sending, receiving, summing, notes_of}
use Rattle.goal_blocks.specs.Positions.{ahead, back}
use Rattle.goal_blocks.specs.Made.{alltoall_in}
use Rattle.goal_blocks.specs.Messages.{AreMessages}
use Rattle.goal_blocks.specs.Generated.{made}
use Rattle.goal_blocks.proofs.Orders.{Mem}
use Rattle.goal_blocks.proofs.Slim.{All_one}
use Rattle.goal_blocks.proofs.EntryFacts.{slots_of_span, length_plans}
use Rattle.goal_blocks.proofs.Ring.{back_cases, back_ahead, ahead_back}
use Rattle.goal_blocks.proofs.RingAndTree.{ahead_below, back_below}
use Rattle.goal_blocks.proofs.MadeFits.{alltoall_fits}
use Rattle.goal_blocks.proofs.MadePaired.{at, at_of_equal_numbers}
use Rattle.goal_blocks.proofs.Sizes.{sum_below_few, sum_low_few, entries_small}
use Rattle.goal_blocks.proofs.Totals.{entries_few}
use Rattle.goal_blocks.proofs.AllgatherCertified.{slots_of_single_slot, back_injective, back_zero, back_back}
use Rattle.goal_blocks.proofs.Blueprint.{slots_moved_by, touches, writes, Precedes, IsThere, Origin, Final, IsBlueprint, IsBounded, blueprint_certified}

module _ (ranks bytes : ℕ) (some : 0 < ranks) (few : ranks ≤ 512) where
  abbrev count : ℕ → ℕ
  count r = 1 + 2 * (ranks - 1)

  abbrev entry : ℕ → ℕ → Entry
  entry r i = alltoall_in ranks bytes r i

  abbrev first : Store
  first = initial Alltoall ranks

  -- a slot is found with its first value, and the slot of a rank gets what that rank had for this one
  abbrev shift_finds : ℕ → ℕ → ℕ → Value
  shift_finds r i k = first r k

  abbrev shift_leaves : ℕ → ℕ → ℕ → Value
  shift_leaves r i k = single (k - ranks) r

  abbrev level : ℕ → ℕ → ℕ
  level r i = 0

  entry_copies : (r : ℕ) → entry r 0 ≡ summing [] r (ranks + r)
  unfolding alltoall_in
  entry_copies r = refl

  -- the operations of step s + 1
  entry_sends : (r s : ℕ) → entry r (suc (2 * s)) ≡ sending bytes (ahead ranks r (s + 1)) (s + 1) [] (slot (ahead ranks r (s + 1)))
  unfolding alltoall_in
  entry_sends r s =
      let half : 2 * s / 2 ≡ s = omega arith in
      let even : 2 * s % 2 ≡ 0 = omega arith in
      rw (even, half) refl

  entry_receives : (r s : ℕ) → entry r (suc (2 * s + 1)) ≡ receiving bytes (back ranks r (s + 1)) (s + 1) (slot (ranks + back ranks r (s + 1)))
  unfolding alltoall_in
  entry_receives r s =
      let half : (2 * s + 1) / 2 ≡ s = omega arith in
      let odd : (2 * s + 1) % 2 ≡ 1 = omega arith in
      rw (odd, half) refl

  cases_step : (i : ℕ) → (i ≡ 0) ⊎ (((s : ℕ) × (i ≡ suc (2 * s))) ⊎ ((s : ℕ) × (i ≡ suc (2 * s + 1))))
  cases_step zero = inl refl
  cases_step (suc i) =
      ⊎_elim (λ e. inr (inl (i / 2, omega (arith, e)))) (λ d. inr (inr (i / 2, omega (arith, d)))) (cases_eq (i % 2) 0)

  -- the messages
  record Shift : Type 0 where
    from : ℕ
    step : ℕ
    inside : from < ranks
    few_steps : step + 1 < ranks

  abbrev shift_send : Shift → OpId
  shift_send h = at h.from (suc (2 * h.step))

  abbrev shift_recv : Shift → OpId
  shift_recv h = at (ahead ranks h.from (h.step + 1)) (suc (2 * h.step + 1))

  shift_cases : (x : OpId) → x.rank < ranks → x.op < 1 + 2 * (ranks - 1) → ((nanos : ℕ) × ((entry x.rank x.op).kind ≡ Calc nanos)) ⊎ (((h : Shift) × (shift_send h ≡ x)) ⊎ ((h : Shift) × (shift_recv h ≡ x)))
  shift_cases x in_rank inside =
      ⊎_elim (λ e. inl (0, ap (λ (i : ℕ). (entry x.rank i).kind) e ∙ ap (λ (y : Entry). y.kind) (entry_copies x.rank))) (λ c. inr (⊎_elim (λ p. let f = p.1 in inl (record { from = x.rank; step = p.0; inside = in_rank; few_steps = omega (arith, inside, f) }, at_of_equal_numbers x.rank (suc (2 * p.0)) x.rank x.op refl (sym f))) (λ p. let f = p.1 in let low : p.0 + 1 < ranks = omega (arith, inside, f) in inr (record { from = back ranks x.rank (p.0 + 1); step = p.0; inside = back_below ranks x.rank (p.0 + 1) in_rank; few_steps = low }, at_of_equal_numbers (ahead ranks (back ranks x.rank (p.0 + 1)) (p.0 + 1)) (suc (2 * p.0 + 1)) x.rank x.op (ahead_back ranks x.rank (p.0 + 1) in_rank (omega (arith, low))) (sym f))) c)) (cases_step x.op)

  shift_messages : AreMessages ranks count entry Shift bytes shift_send shift_recv (λ h. h.step + 1)
  shift_messages = record {
    send_there = λ h. let low = h.few_steps in (h.inside, omega (arith, low));
    recv_there = λ h. let low = h.few_steps in (ahead_below ranks h.from (h.step + 1) h.inside (omega (arith, low)), omega (arith, low));
    sent = λ h. ap (λ (y : Entry). y.kind) (entry_sends h.from h.step);
    received = λ h. let low = h.few_steps in ap (λ (y : Entry). y.kind) (entry_receives (ahead ranks h.from (h.step + 1)) h.step) ∙ ap (λ (r : ℕ). Recv bytes (Some r) (Some (h.step + 1))) (back_ahead ranks h.from (h.step + 1) h.inside (omega (arith, low)));
    cases = λ x in_rank inside. shift_cases x in_rank inside;
    apart = λ h k source target tag. let same : h.step ≡ k.step = omega (arith, tag) in (
      at_of_equal_numbers h.from (suc (2 * h.step)) k.from (suc (2 * k.step)) source (ap (λ (s : ℕ). suc (2 * s)) same),
      at_of_equal_numbers (ahead ranks h.from (h.step + 1)) (suc (2 * h.step + 1)) (ahead ranks k.from (k.step + 1)) (suc (2 * k.step + 1)) target (ap (λ (s : ℕ). suc (2 * s + 1)) same),
    );
  }

  member_of_slot_span_is_slot : (j k : ℕ) → Mem k (flat_map slots_of_span (slot j)) → j ≡ k
  member_of_slot_span_is_slot j k n = ⊎_elim (λ e. e) (λ none. absurd none) (subst (λ (ks : List ℕ). Mem k ks) (slots_of_single_slot j) n)

  -- that of its own rank, or of the one from which it receives
  writes_place : (r i k : ℕ) → Mem k (writes (entry r i)) → ((i ≡ 0) × (ranks + r ≡ k)) ⊎ ((s : ℕ) × (i ≡ suc (2 * s + 1)) × (ranks + back ranks r (s + 1) ≡ k))
  writes_place r i k m = ⊎_elim (λ e. inl (e, one (subst (λ (x : Entry). Mem k (writes x)) (ap (λ (n : ℕ). entry r n) e ∙ entry_copies r) m))) (λ c. inr (⊎_elim (λ p. absurd (subst (λ (x : Entry). Mem k (writes x)) (ap (λ (n : ℕ). entry r n) p.1 ∙ entry_sends r p.0) m)) (λ p. (p.0, p.1, member_of_slot_span_is_slot (ranks + back ranks r (p.0 + 1)) k (subst (λ (x : Entry). Mem k (writes x)) (ap (λ (n : ℕ). entry r n) p.1 ∙ entry_receives r p.0) m))) c)) (cases_step i)
    where
      one : Mem k ((ranks + r) ∷ []) → ranks + r ≡ k
      one (inl e) = e
      one (inr n) = absurd n

  copy_writes : (r : ℕ) → Mem (ranks + r) (writes (entry r 0))
  copy_writes r = subst (λ (x : Entry). Mem (ranks + r) (writes x)) (sym (entry_copies r)) (inl refl)

  receive_writes : (r s : ℕ) → Mem (ranks + back ranks r (s + 1)) (writes (entry r (suc (2 * s + 1))))
  receive_writes r s =
      subst (λ (x : Entry). Mem (ranks + back ranks r (s + 1)) (writes x)) (sym (entry_receives r s)) (subst (λ (ks : List ℕ). Mem (ranks + back ranks r (s + 1)) ks) (sym (slots_of_single_slot (ranks + back ranks r (s + 1)))) (inl refl))

  -- an operation touches a slot that none writes, or the one that it writes
  touches_place : (r i k : ℕ) → r < ranks → i < count r → Mem k (touches (entry r i)) → (k < ranks) ⊎ Mem k (writes (entry r i))
  touches_place r i k inside l m = ⊎_elim (λ e. copied e (subst (λ (x : Entry). Mem k (touches x)) (ap (λ (n : ℕ). entry r n) e ∙ entry_copies r) m)) (λ c. ⊎_elim (λ p. sent p.0 p.1 (member_of_slot_span_is_slot (ahead ranks r (p.0 + 1)) k (subst (λ (x : Entry). Mem k (touches x)) (ap (λ (n : ℕ). entry r n) p.1 ∙ entry_sends r p.0) m))) (λ p. inr (subst (λ (x : Entry). Mem k (writes x)) (sym (ap (λ (n : ℕ). entry r n) p.1 ∙ entry_receives r p.0)) (subst (λ (x : Entry). Mem k (touches x)) (ap (λ (n : ℕ). entry r n) p.1 ∙ entry_receives r p.0) m))) c) (cases_step i)
    where
      copied : i ≡ 0 → Mem k (r ∷ (ranks + r) ∷ []) → (k < ranks) ⊎ Mem k (writes (entry r i))
      copied e (inl f) = inl (omega (arith, f, inside))
      copied e (inr (inl f)) =
          inr (subst (λ (n : ℕ). Mem k (writes (entry r n))) (sym e) (subst (λ (n : ℕ). Mem n (writes (entry r 0))) f (copy_writes r)))
      copied e (inr (inr n)) = absurd n

      sent : (s : ℕ) → i ≡ suc (2 * s) → ahead ranks r (s + 1) ≡ k → (k < ranks) ⊎ Mem k (writes (entry r i))
      sent s e f = let low = ahead_below ranks r (s + 1) inside (omega (arith, l, e)) in inl (omega (arith, low, f))

  -- no two operations write one slot
  one_writer : (r i j k : ℕ) → r < ranks → i < count r → j < count r → Mem k (writes (entry r i)) → Mem k (writes (entry r j)) → i ≡ j
  one_writer r i j k inside l m v w = go (writes_place r i k v) (writes_place r j k w)
    where
      go : ((i ≡ 0) × (ranks + r ≡ k)) ⊎ ((s : ℕ) × (i ≡ suc (2 * s + 1)) × (ranks + back ranks r (s + 1) ≡ k)) → ((j ≡ 0) × (ranks + r ≡ k)) ⊎ ((s : ℕ) × (j ≡ suc (2 * s + 1)) × (ranks + back ranks r (s + 1) ≡ k)) → i ≡ j
      go (inl (e, f)) (inl (g, h)) = e ∙ sym g
      go (inl (e, f)) (inr (t, g, h)) =
          absurd (let same = back_injective ranks r (t + 1) 0 inside (omega (arith, m, g)) some (let at = back_zero ranks r in omega (arith, f, h, at)) in omega (arith, same))
      go (inr (s, e, f)) (inl (g, h)) =
          absurd (let same = back_injective ranks r (s + 1) 0 inside (omega (arith, l, e)) some (let at = back_zero ranks r in omega (arith, f, h, at)) in omega (arith, same))
      go (inr (s, e, f)) (inr (t, g, h)) =
          let same = back_injective ranks r (s + 1) (t + 1) inside (omega (arith, l, e)) (omega (arith, m, g)) (omega (arith, f, h)) in
          omega (arith, same, e, g)

  written_slot_at_least_ranks : (r i k : ℕ) → Mem k (writes (entry r i)) → ranks ≤ k
  written_slot_at_least_ranks r i k w =
      ⊎_elim (λ p. let e = p.1 in omega (arith, e)) (λ p. let e = p.2 in omega (arith, e)) (writes_place r i k w)

  written_slot_below_twice_ranks : (r i k : ℕ) → r < ranks → Mem k (writes (entry r i)) → k < ranks + ranks
  written_slot_below_twice_ranks r i k inside w =
      ⊎_elim (λ p. let e = p.1 in omega (arith, e, inside)) (λ p. let e = p.2 in let low = back_below ranks r (p.0 + 1) inside in omega (arith, e, low)) (writes_place r i k w)

  conflicts_are_ordered : (r i j k : ℕ) → r < ranks → i < count r → j < count r → (i ≡ j → ⊥) → Mem k (touches (entry r i)) → Mem k (writes (entry r j)) → Precedes (entry r) i j ⊎ Precedes (entry r) j i
  conflicts_are_ordered r i j k inside l m differ t w =
      ⊎_elim (λ low. absurd (let high = written_slot_at_least_ranks r j k w in omega (arith, low, high))) (λ v. absurd (differ (one_writer r i j k inside l m v w))) (touches_place r i k inside l t)

  touched_has_origin : (r i k : ℕ) → IsThere ranks count entry r i → ((room : ℕ) (from t : Option ℕ) → (entry r i).kind ≡ Recv room from t → ⊥) → Mem k (touches (entry r i)) → Origin ranks count entry first (wanted Alltoall ranks) shift_finds shift_leaves r i k
  touched_has_origin r i k there not_receive t =
      inl (refl, λ j m w. ⊎_elim (λ low. absurd (let high = written_slot_at_least_ranks r j k w in omega (arith, low, high))) (λ v. inl (one_writer r j i k there.0 m there.1 w v)) (touches_place r i k there.0 there.1 t))

  starts_with_own_item_for_each : (r k : ℕ) → r < ranks → k < ranks → first r k ≡ single r k
  unfolding initial
  starts_with_own_item_for_each r k inside low = rw (lt-ltb r ranks inside, lt-ltb k ranks low) refl

  first_empty_elsewhere : (r k : ℕ) → ranks ≤ k → first r k ≡ []
  unfolding initial
  first_empty_elsewhere r k high = go (nat_lt r ranks) (nat_lt k ranks) refl
    where
      go : (a b : Bool) → nat_lt k ranks ≡ b → (if a then (if b then single r k else []) else []) ≡ []
      go true true e = absurd (let low = ltb-true k ranks e in omega (arith, low, high))
      go true false e = refl
      go false b e = refl

  summed : (r i nanos : ℕ) → IsThere ranks count entry r i → (entry r i).kind ≡ Calc nanos → (a : Adding) × ((entry r i).adds ≡ a ∷ []) × (merge (first r a.to) (first r a.from) ≡ shift_leaves r i a.to)
  unfolding merge
  summed r i nanos there k = ⊎_elim (λ e. (record { from = r; to = ranks + r }, ap (λ (n : ℕ). (entry r n).adds) e ∙ ap (λ (x : Entry). x.adds) (entry_copies r), sum)) (λ c. absurd (⊎_elim (λ p. let f = sym (ap (λ (x : Entry). x.kind) (ap (λ (n : ℕ). entry r n) p.1 ∙ entry_sends r p.0)) ∙ k in cc f) (λ p. let f = sym (ap (λ (x : Entry). x.kind) (ap (λ (n : ℕ). entry r n) p.1 ∙ entry_receives r p.0)) ∙ k in cc f) c)) (cases_step i)
    where
      slot_is : ranks + r - ranks ≡ r
      slot_is = omega arith

      sum : merge (first r (ranks + r)) (first r r) ≡ single (ranks + r - ranks) r
      sum =
          (let to = first_empty_elsewhere r (ranks + r) (omega arith) in let from = starts_with_own_item_for_each r r there.0 there.0 in λ i. merge (to i) (from i)) ∙ ap (λ (n : ℕ). single n r) (sym slot_is)

  message_keeps_values : (h : Shift) → map (first h.from) (slots_moved_by (entry h.from (suc (2 * h.step)))) ≡ map (shift_leaves (ahead ranks h.from (h.step + 1)) 0) (slots_moved_by (entry (ahead ranks h.from (h.step + 1)) (suc (2 * h.step + 1))))
  message_keeps_values h =
      let low = h.few_steps in
      let to = ahead ranks h.from (h.step + 1) in
      let home = back_ahead ranks h.from (h.step + 1) h.inside (omega (arith, low)) in
      let number : ranks + back ranks to (h.step + 1) - ranks ≡ h.from = omega (arith, home) in
      ap (λ (ks : List ℕ). map (first h.from) ks) (ap slots_moved_by (entry_sends h.from h.step) ∙ slots_of_single_slot to) ∙ ap (λ (v : Value). v ∷ []) (starts_with_own_item_for_each h.from to h.inside (ahead_below ranks h.from (h.step + 1) h.inside (omega (arith, low)))) ∙ sym (ap (λ (ks : List ℕ). map (shift_leaves to 0) ks) (ap slots_moved_by (entry_receives to h.step) ∙ slots_of_single_slot (ranks + back ranks to (h.step + 1))) ∙ ap (λ (n : ℕ). single n to ∷ []) number)

  wanted_at_end : (r k : ℕ) → r < ranks → ranks ≤ k → k < ranks + ranks → wanted Alltoall ranks r k (single (k - ranks) r) ≡ true
  unfolding wanted is_value
  wanted_at_end r k inside high low =
      rw (lt-ltb r ranks inside, le-leb ranks k high, lt-ltb k (ranks + ranks) low, eq-eqb (k - ranks) (k - ranks) refl, eq-eqb r r refl) refl

  nothing_wanted_elsewhere : (r k : ℕ) → (k < ranks) ⊎ (ranks + ranks ≤ k) → (v : Value) → wanted Alltoall ranks r k v ≡ true
  unfolding wanted
  nothing_wanted_elsewhere r k out v = go (nat_lt r ranks) (nat_le ranks k) refl (nat_lt k (ranks + ranks)) refl
    where
      go : (a b : Bool) → nat_le ranks k ≡ b → (c : Bool) → nat_lt k (ranks + ranks) ≡ c → (if a then (if b && c then is_value v (single (k - ranks) r) else true) else true) ≡ true
      go true true e true f = absurd (⊎_elim (λ low. let le = leb-true ranks k e in omega (arith, low, le)) (λ high. let lt = ltb-true k (ranks + ranks) f in omega (arith, high, lt)) out)
      go true true e false f = refl
      go true false e c f = refl
      go false b e c f = refl

  slots_end_as_wanted : (r k : ℕ) → r < ranks → Final ranks count entry first (wanted Alltoall ranks) shift_finds shift_leaves r k
  slots_end_as_wanted r k inside = ⊎_elim (λ low. inl (nothing_wanted_elsewhere r k (inl low))) (λ high. ⊎_elim (λ low. inr (inr (here high low (cases_eq r (k - ranks))))) (λ past. inl (nothing_wanted_elsewhere r k (inr past))) (cases_lt k (ranks + ranks))) (cases_lt k ranks)
    where
      last : (j : ℕ) → j < count r → Mem k (writes (entry r j)) → ranks ≤ k → k < ranks + ranks → (j : ℕ) × (j < count r) × Mem k (writes (entry r j)) × ((l : ℕ) → l < count r → Mem k (writes (entry r l)) → (l ≡ j) ⊎ Precedes (entry r) l j) × (wanted Alltoall ranks r k (shift_leaves r j k) ≡ true)
      last j l w high low = (j, l, w, λ n m v. inl (one_writer r n j k inside m l v w), wanted_at_end r k inside high low)

      here : ranks ≤ k → k < ranks + ranks → (r ≡ k - ranks) ⊎ (r ≡ k - ranks → ⊥) → (j : ℕ) × (j < count r) × Mem k (writes (entry r j)) × ((l : ℕ) → l < count r → Mem k (writes (entry r l)) → (l ≡ j) ⊎ Precedes (entry r) l j) × (wanted Alltoall ranks r k (shift_leaves r j k) ≡ true)
      here high low (inl own) =
          last 0 (omega arith) (subst (λ (n : ℕ). Mem n (writes (entry r 0))) (omega (arith, own, high)) (copy_writes r)) high low
      here high low (inr other) =
          let d = back ranks r (k - ranks) in
          let under = back_below ranks r (k - ranks) inside in
          let above : 0 < d = ⊎_elim (λ p. let at = p.1 in let le = p.0 in omega (arith, at, le, low, high, inside)) (λ p. let at = p.1 in let le = p.0 in ⊎_elim (λ z. absurd (other (omega (arith, at, le, z)))) (λ z. omega (arith, z)) (cases_eq (back ranks r (k - ranks)) 0)) (back_cases ranks r (k - ranks)) in
          let t = d - 1 in
          let step : t + 1 ≡ d = omega (arith, above) in
          let from : back ranks r (t + 1) ≡ k - ranks = ap (λ (n : ℕ). back ranks r n) step ∙ back_back ranks r (k - ranks) inside (omega (arith, low, high)) in
          last (suc (2 * t + 1)) (omega (arith, step, under)) (subst (λ (n : ℕ). Mem n (writes (entry r (suc (2 * t + 1))))) (omega (arith, from, high)) (receive_writes r t)) high low

  blueprint : IsBlueprint ranks count entry first (wanted Alltoall ranks) shift_finds shift_leaves Shift bytes shift_send shift_recv (λ h. h.step + 1) level
  blueprint = record {
    messages = shift_messages;
    lower = λ r i k there m. absurd (no_needs r i k m);
    same_level = λ h. refl;
    race = conflicts_are_ordered;
    source = touched_has_origin;
    summed = summed;
    kept = message_keeps_values;
    final = slots_end_as_wanted;
  }
    where
      no_needs : (r i k : ℕ) → Mem k (entry r i).needs → ⊥
      no_needs r i k m =
          ⊎_elim (λ e. subst (λ (x : Entry). Mem k x.needs) (ap (λ (n : ℕ). entry r n) e ∙ entry_copies r) m) (λ c. ⊎_elim (λ p. subst (λ (x : Entry). Mem k x.needs) (ap (λ (n : ℕ). entry r n) p.1 ∙ entry_sends r p.0) m) (λ p. subst (λ (x : Entry). Mem k x.needs) (ap (λ (n : ℕ). entry r n) p.1 ∙ entry_receives r p.0) m) c) (cases_step i)

  -- a contribution in each of twice as many slots as there are ranks
  cap : ℕ → ℕ → ℕ
  cap r k = if nat_lt k (ranks + ranks) then 1 else 0

  abbrev load : ℕ → ℕ → ℕ
  load r i = 1

  cap_low : (r k : ℕ) → k < ranks + ranks → cap r k ≡ 1
  unfolding cap
  cap_low r k low = rw (lt-ltb k (ranks + ranks) low) refl

  cap_high : (r k : ℕ) → ranks + ranks ≤ k → cap r k ≡ 0
  unfolding cap
  cap_high r k high = go (nat_lt k (ranks + ranks)) refl
    where
      go : (b : Bool) → nat_lt k (ranks + ranks) ≡ b → ◌≡◌ {A = ℕ} (if b then 1 else 0) 0
      go true e = absurd (let low = ltb-true k (ranks + ranks) e in omega (arith, low, high))
      go false e = refl

  cap_few : (r k : ℕ) → cap r k ≤ 1
  cap_few r k =
      ⊎_elim (λ l. let e = cap_low r k l in omega (arith, e)) (λ g. let e = cap_high r k g in omega (arith, e)) (cases_lt k (ranks + ranks))

  first_few : (r k : ℕ) → length (first r k) ≤ 1
  unfolding initial
  first_few r k = go (nat_lt r ranks) (nat_lt k ranks)
    where
      go : (a b : Bool) → length (if a then (if b then single r k else []) else []) ≤ 1
      go true true = omega arith
      go true false = omega arith
      go false b = omega arith

  first_cap : (r k : ℕ) → length (first r k) ≤ cap r k
  first_cap r k =
      ⊎_elim (λ l. let one = cap_low r k (omega (arith, l)) in let few_here = first_few r k in omega (arith, one, few_here)) (λ g. subst (λ (v : Value). length v ≤ cap r k) (sym (first_empty_elsewhere r k g)) (omega arith)) (cases_lt k ranks)

  blueprint_is_bounded : bytes ≤ MAX_BYTES → IsBounded ranks count entry first (wanted Alltoall ranks) shift_finds shift_leaves Shift shift_send cap load
  blueprint_is_bounded size = record {
    first_cap = first_cap;
    leaves_cap = λ r i k there w. let low = cap_low r k (written_slot_below_twice_ranks r i k there.0 w) in omega (arith, low);
    finds_load = λ h. subst (λ (ks : List ℕ). sum_by (λ (v : Value). length v) (map (first h.from) ks) ≤ 1) (sym (ap slots_moved_by (entry_sends h.from h.step) ∙ slots_of_single_slot (ahead ranks h.from (h.step + 1)))) (let few_here = first_few h.from (ahead ranks h.from (h.step + 1)) in omega (arith, few_here));
    total = total;
  }
    where
      total : sum_below ranks (λ r. sum_below (2 ^ 32) (cap r)) + sum_by (λ r. sum_by (load r) (range_with_len 0 (count r))) (range_with_len 0 ranks) ≤ weight_limit
      total =
          let stores = sum_below_few ranks 1024 (λ r. sum_below (2 ^ 32) (cap r)) (λ r l. let s = sum_low_few (2 ^ 32) (ranks + ranks) 1 (cap r) (cap_few r) (cap_high r) in omega (arith, s, few)) in
          let loads = entries_few ranks count load 1 (λ r i l m. omega arith) in
          let ops = (alltoall_fits ranks bytes size some few).few_ops in
          omega (arith, stores, loads, ops, few)

  low_notes : (r i : ℕ) → r < ranks → i < count r → All NamesLowSlots (notes_of i (entry r i)) × (sum_by moved_count (notes_of i (entry r i)) ≤ 1)
  low_notes r i inside l = ⊎_elim (λ e. subst (λ (x : Entry). Low x) (sym (ap (λ (n : ℕ). entry r n) e ∙ entry_copies r)) (All_one NamesLowSlots (Adds i r (ranks + r)) (omega (arith, inside, few), omega (arith, inside, few)), omega arith)) (λ c. ⊎_elim (λ p. let e = p.1 in subst (λ (x : Entry). Low x) (sym (ap (λ (n : ℕ). entry r n) p.1 ∙ entry_sends r p.0)) (one (ahead ranks r (p.0 + 1)) (let low = ahead_below ranks r (p.0 + 1) inside (omega (arith, l, e)) in omega (arith, low)))) (λ p. subst (λ (x : Entry). Low x) (sym (ap (λ (n : ℕ). entry r n) p.1 ∙ entry_receives r p.0)) (one (ranks + back ranks r (p.0 + 1)) (let low = back_below ranks r (p.0 + 1) inside in omega (arith, low)))) c) (cases_step i)
    where
      Low : Entry → Type 0
      Low x = All NamesLowSlots (notes_of i x) × (sum_by moved_count (notes_of i x) ≤ 1)

      one : (k : ℕ) → k < ranks + ranks → All NamesLowSlots (Moves i k k ∷ []) × (sum_by moved_count (Moves i k k ∷ []) ≤ 1)
      one k low = (All_one NamesLowSlots (Moves i k k) (omega (arith, low, few), omega (arith, low, few)), omega arith)

  made_is_small : bytes ≤ MAX_BYTES → IsSmall (made Alltoall ranks bytes)
  unfolding made
  made_is_small size =
      entries_small ranks count entry 1 (λ r l. omega (arith, few)) (λ r i l m. (low_notes r i l m).0) (λ r i l m. (low_notes r i l m).1) (let ops = (alltoall_fits ranks bytes size some few).few_ops in omega (arith, ops))

  pub alltoall_certified : bytes ≤ MAX_BYTES → IsCertifiedFor Alltoall (made Alltoall ranks bytes)
  unfolding made
  alltoall_certified size =
      subst (λ (n : ℕ). IsCertified (made Alltoall ranks bytes) (initial Alltoall n) (wanted Alltoall n)) (sym (length_plans ranks count entry)) (blueprint_certified ranks count entry first (wanted Alltoall ranks) shift_finds shift_leaves Shift bytes shift_send shift_recv (λ h. h.step + 1) level blueprint cap load (blueprint_is_bounded size) (made_is_small size))
