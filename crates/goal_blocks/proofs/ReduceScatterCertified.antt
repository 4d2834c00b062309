-- The reduce_scatter along a ring is certified, for every number of ranks up to 128 and every size.
use Rattle.std.proofs.Common.{⊎_elim, ℕ, zero, suc, ◌+◌, ◌-◌, ◌*◌, ◌/◌, ◌%◌, ◌^◌, ◌<◌, ◌≤◌, ◌≡◌, ◌==◌, ◌⊎◌, nat_lt, inl, inr, Bool, true, false, List, [], ◌∷◌, map, length, All, Option, Some, if◌then◌else◌, refl, sym, ap, ◌∙◌, subst, arith, eq-eqb, flat_map}
use Rattle.std.specs.List.{range_with_len, sum_by}
use Rattle.std.proofs.lemmas.Bool.{lt-ltb, ltb-true, ne_eqb, cases_lt, cases_eq}
use Rattle.goal_limits.specs.Limits.{slot_limit, weight_limit}
use Rattle.goal_graph.specs.declared.action.OpId.{OpId}
use Rattle.goal_graph.specs.declared.plan.Kind.TheVariants.{Calc, Recv}
use Rattle.goal_graph.specs.declared.plan.Note.TheVariants.{Moves, Adds}
use Rattle.goal_limits.specs.declared.collective.Collective.TheVariants.{ReduceScatter}
use Rattle.goal_blocks.specs.Slots.{Adding}
use Rattle.goal_blocks.specs.Values.{Value, Store, insert_one, merge}
use Rattle.goal_blocks.specs.Weight.{sum_below}
use Rattle.goal_blocks.specs.Certification.{NamesLowSlots, moved_count, IsSmall, IsCertified}
use Rattle.goal_blocks.specs.Collectives.{single, of_each, initial, wanted}
use Rattle.goal_blocks.specs.Certified.{IsCertifiedFor}
use Rattle.goal_blocks.specs.Entries.{Entry, slot, sending, receiving, summing, notes_of}
use Rattle.goal_blocks.specs.Positions.{ahead, back}
use Rattle.goal_blocks.specs.Made.{before_round}
use Rattle.goal_blocks.specs.MadeRooted.{reduce_scatter_in}
use Rattle.goal_blocks.specs.Messages.{AreMessages}
use Rattle.goal_blocks.specs.Generated.{made}
use Rattle.goal_blocks.proofs.Orders.{Mem}
use Rattle.goal_blocks.proofs.Slim.{All_one}
use Rattle.goal_blocks.proofs.EntryFacts.{slots_of_span, length_plans}
use Rattle.goal_blocks.proofs.Ring.{ahead_cases, back_cases, back_ahead, ahead_back, back_cancels}
use Rattle.goal_blocks.proofs.RingAndTree.{ahead_below, back_below}
use Rattle.goal_blocks.proofs.MadePaired.{at, at_of_equal_numbers}
use Rattle.goal_blocks.proofs.Sizes.{sum_below_few, sum_low_few, entries_small}
use Rattle.goal_blocks.proofs.Totals.{entries_few, sum_range_few}
use Rattle.goal_blocks.proofs.AllgatherCertified.{slots_of_single_slot}
use Rattle.goal_blocks.proofs.Rounds.{cases_triple}
use Rattle.goal_blocks.proofs.Blueprint.{slots_moved_by, touches, writes, Precedes, now, IsThere, Origin, Final, IsBlueprint, IsBounded, blueprint_certified}
use Rattle.goal_blocks.proofs.Wishes.{of_each_single, is_value_reflexive}
use Rattle.goal_blocks.proofs.Picked.{picked, picked_few, picked_same, insert_picked, picked_none, picked_all}

module _ (ranks bytes : ℕ) (some : 0 < ranks) (few : ranks ≤ 128) where
  abbrev count : ℕ → ℕ
  count r = 3 * (ranks - 1)

  abbrev entry : ℕ → ℕ → Entry
  entry r i = reduce_scatter_in ranks bytes r i

  abbrev first : Store
  first = initial ReduceScatter ranks

  -- going back by 1 to `ranks` places from r reaches each rank once
  back_injective_up_to_ranks : (r a b : ℕ) → r < ranks → 0 < a → a ≤ ranks → 0 < b → b ≤ ranks → back ranks r a ≡ back ranks r b → a ≡ b
  back_injective_up_to_ranks r a b p q s t u e = go (back_cases ranks r a) (back_cases ranks r b)
    where
      go : ((r < a) × (back ranks r a ≡ r + ranks - a)) ⊎ ((a ≤ r) × (back ranks r a ≡ r - a)) → ((r < b) × (back ranks r b ≡ r + ranks - b)) ⊎ ((b ≤ r) × (back ranks r b ≡ r - b)) → a ≡ b
      go (inl (l, f)) (inl (m, g)) = omega (arith, p, q, s, t, u, e, l, f, m, g)
      go (inl (l, f)) (inr (m, g)) = omega (arith, p, q, s, t, u, e, l, f, m, g)
      go (inr (l, f)) (inl (m, g)) = omega (arith, p, q, s, t, u, e, l, f, m, g)
      go (inr (l, f)) (inr (m, g)) = omega (arith, p, q, s, t, u, e, l, f, m, g)

  -- from the rank after the one that is s + 1 places back, s places lead to r
  after_back : (r s : ℕ) → r < ranks → s < ranks → back ranks r (back ranks r (s + 1) + 1) ≡ s
  after_back r s p q = go (back_cases ranks r (s + 1)) (back_cases ranks r (back ranks r (s + 1) + 1))
    where
      go : ((r < s + 1) × (back ranks r (s + 1) ≡ r + ranks - (s + 1))) ⊎ ((s + 1 ≤ r) × (back ranks r (s + 1) ≡ r - (s + 1))) → ((r < back ranks r (s + 1) + 1) × (back ranks r (back ranks r (s + 1) + 1) ≡ r + ranks - (back ranks r (s + 1) + 1))) ⊎ ((back ranks r (s + 1) + 1 ≤ r) × (back ranks r (back ranks r (s + 1) + 1) ≡ r - (back ranks r (s + 1) + 1))) → back ranks r (back ranks r (s + 1) + 1) ≡ s
      go (inl (l, f)) (inl (m, g)) = omega (arith, p, q, l, f, m, g)
      go (inl (l, f)) (inr (m, g)) = omega (arith, p, q, l, f, m, g)
      go (inr (l, f)) (inl (m, g)) = omega (arith, p, q, l, f, m, g)
      go (inr (l, f)) (inr (m, g)) = omega (arith, p, q, l, f, m, g)

  back_all : (r : ℕ) → r < ranks → back ranks r ranks ≡ r
  back_all r p =
      ⊎_elim (λ x. let e = x.1 in omega (arith, p, e)) (λ x. let l = x.0 in absurd (omega (arith, p, l))) (back_cases ranks r ranks)

  is_within : ℕ → ℕ → ℕ → Bool
  is_within b s q = nat_lt (back ranks q (b + 1)) s

  -- the item b of the s ranks after b
  window : ℕ → ℕ → Value
  window b s = picked (is_within b s) b 0 ranks

  within_yes : (b s q : ℕ) → back ranks q (b + 1) < s → is_within b s q ≡ true
  unfolding is_within
  within_yes b s q l = lt-ltb (back ranks q (b + 1)) s l

  within_no : (b s q : ℕ) → s ≤ back ranks q (b + 1) → is_within b s q ≡ false
  unfolding is_within
  within_no b s q g = go (nat_lt (back ranks q (b + 1)) s) refl
    where
      go : (t : Bool) → nat_lt (back ranks q (b + 1)) s ≡ t → t ≡ false
      go true e = absurd (let l = ltb-true (back ranks q (b + 1)) s e in omega (arith, l, g))
      go false e = refl

  within_same : (b s k : ℕ) → (back ranks k (b + 1) ≡ s → ⊥) → is_within b s k ≡ is_within b (s + 1) k
  within_same b s k d =
      ⊎_elim (λ l. within_yes b s k l ∙ sym (within_yes b (s + 1) k (omega (arith, l)))) (λ g. within_no b s k g ∙ sym (within_no b (s + 1) k (⊎_elim (λ l. absurd (d (omega (arith, g, l)))) (λ h. h) (cases_lt (back ranks k (b + 1)) (s + 1))))) (cases_lt (back ranks k (b + 1)) s)

  -- inserting rank r into what p picks gives what q picks, if p and q differ only at r
  insert_picked_rank : (p q : ℕ → Bool) (r b a m : ℕ) → a + m ≤ ranks → a ≤ r → r < a + m → p r ≡ false → q r ≡ true → ((k : ℕ) → k < ranks → (k ≡ r → ⊥) → p k ≡ q k) → insert_one (record { rank = r; item = b }) (picked p b a m) ≡ picked q b a m
  insert_picked_rank p q r b a m inside l g left taken same =
      insert_picked p (λ k. if nat_lt k ranks then q k else p k) r b a m l g left (at_rank r (omega (arith, inside, g)) ∙ taken) (λ k d. ⊎_elim (λ low. same k low d ∙ sym (at_rank k low)) (λ high. sym (past k high)) (cases_lt k ranks)) ∙ picked_same (λ k. if nat_lt k ranks then q k else p k) q b a m (λ k low high. at_rank k (omega (arith, inside, high)))
    where
      at_rank : (k : ℕ) → k < ranks → (if nat_lt k ranks then q k else p k) ≡ q k
      at_rank k low = rw (lt-ltb k ranks low) refl

      past : (k : ℕ) → ranks ≤ k → (if nat_lt k ranks then q k else p k) ≡ p k
      past k high = go (nat_lt k ranks) refl
        where
          go : (t : Bool) → nat_lt k ranks ≡ t → (if t then q k else p k) ≡ p k
          go true e = absurd (let low = ltb-true k ranks e in omega (arith, low, high))
          go false e = refl

  window_more : (r b s : ℕ) → r < ranks → b < ranks → back ranks r (b + 1) ≡ s → insert_one (record { rank = r; item = b }) (window b s) ≡ window b (s + 1)
  unfolding window
  window_more r b s p q e =
      insert_picked_rank (is_within b s) (is_within b (s + 1)) r b 0 ranks (omega arith) (omega arith) (omega (arith, p)) (within_no b s r (omega (arith, e))) (within_yes b (s + 1) r (omega (arith, e))) (λ k inside d. within_same b s k (λ f. d (back_cancels ranks k r (b + 1) inside p (omega (arith, q)) (f ∙ sym e))))

  window_none : (b : ℕ) → window b 0 ≡ []
  unfolding window
  window_none b = picked_none (is_within b 0) b 0 ranks (λ k. within_no b 0 k (omega arith))

  window_one : (r b : ℕ) → r < ranks → b < ranks → back ranks r (b + 1) ≡ 0 → window b 1 ≡ single r b
  unfolding insert_one
  window_one r b p q e =
      sym (window_more r b 0 p q e) ∙ ap (λ (v : Value). insert_one (record { rank = r; item = b }) v) (window_none b)

  window_all : (b : ℕ) → b < ranks → window b ranks ≡ of_each ranks b
  unfolding window of_each
  window_all b q =
      picked_all (is_within b ranks) b 0 ranks (λ k l g. within_yes b ranks k (back_below ranks k (b + 1) (omega (arith, g))))

  window_few : (b s : ℕ) → length (window b s) ≤ ranks
  unfolding window
  window_few b s = picked_few (is_within b s) b 0 ranks

  rs_finds : ℕ → ℕ → ℕ → Value
  rs_finds r i k = if nat_lt k ranks then (if i % 3 == 0 then window k (i / 3 + 1) else single r k) else window (k - ranks) (i / 3 + 1)

  rs_leaves : ℕ → ℕ → ℕ → Value
  rs_leaves r i k = if nat_lt k ranks then window k (i / 3 + 2) else window (k - ranks) (i / 3 + 1)

  abbrev level : ℕ → ℕ → ℕ
  level r i = 2 * (i / 3) + (i % 3) / 2

  high_slot_not_below : (k : ℕ) → ranks ≤ k → nat_lt k ranks ≡ false
  high_slot_not_below k g = go (nat_lt k ranks) refl
    where
      go : (t : Bool) → nat_lt k ranks ≡ t → t ≡ false
      go true e = absurd (let l = ltb-true k ranks e in omega (arith, l, g))
      go false e = refl

  finds_send : (r s k : ℕ) → k < ranks → rs_finds r (3 * s) k ≡ window k (s + 1)
  unfolding rs_finds
  finds_send r s k l =
      let third : 3 * s / 3 ≡ s = omega arith in
      let rest : 3 * s % 3 ≡ 0 = omega arith in
      rw (lt-ltb k ranks l, rest, third) refl

  finds_own : (r s k : ℕ) → k < ranks → rs_finds r (3 * s + 2) k ≡ single r k
  unfolding rs_finds
  finds_own r s k l =
      let rest : (3 * s + 2) % 3 ≡ 2 = omega arith in
      rw (lt-ltb k ranks l, rest) refl

  finds_heard : (r s k : ℕ) → rs_finds r (3 * s + 2) (ranks + k) ≡ window k (s + 1)
  unfolding rs_finds
  finds_heard r s k =
      let third : (3 * s + 2) / 3 ≡ s = omega arith in
      let number : ranks + k - ranks ≡ k = omega arith in
      rw (high_slot_not_below (ranks + k) (omega arith), third, number) refl

  leaves_sum : (r s k : ℕ) → k < ranks → rs_leaves r (3 * s + 2) k ≡ window k (s + 2)
  unfolding rs_leaves
  leaves_sum r s k l =
      let third : (3 * s + 2) / 3 ≡ s = omega arith in
      rw (lt-ltb k ranks l, third) refl

  leaves_heard : (r s k : ℕ) → rs_leaves r (3 * s + 1) (ranks + k) ≡ window k (s + 1)
  unfolding rs_leaves
  leaves_heard r s k =
      let third : (3 * s + 1) / 3 ≡ s = omega arith in
      let number : ranks + k - ranks ≡ k = omega arith in
      rw (high_slot_not_below (ranks + k) (omega arith), third, number) refl

  as_send : (r i s : ℕ) → i ≡ 3 * s → entry r i ≡ sending bytes (ahead ranks r 1) s (before_round s) (slot (back ranks r (s + 1)))
  unfolding reduce_scatter_in
  as_send r i s e =
      let third : i / 3 ≡ s = omega (arith, e) in
      let rest : i % 3 ≡ 0 = omega (arith, e) in
      rw (rest, third) refl

  as_receive : (r i s : ℕ) → i ≡ 3 * s + 1 → entry r i ≡ receiving bytes (back ranks r 1) s (slot (ranks + back ranks r (s + 2)))
  unfolding reduce_scatter_in
  as_receive r i s e =
      let third : i / 3 ≡ s = omega (arith, e) in
      let rest : i % 3 ≡ 1 = omega (arith, e) in
      rw (rest, third) refl

  as_sum : (r i s : ℕ) → i ≡ 3 * s + 2 → entry r i ≡ summing ((3 * s + 1) ∷ []) (ranks + back ranks r (s + 2)) (back ranks r (s + 2))
  unfolding reduce_scatter_in
  as_sum r i s e =
      let third : i / 3 ≡ s = omega (arith, e) in
      let rest : i % 3 ≡ 2 = omega (arith, e) in
      rw (rest, third) refl

  -- the messages
  record Pass : Type 0 where
    sender : ℕ
    step : ℕ
    inside : sender < ranks
    early : step + 1 < ranks

  abbrev pass_send : Pass → OpId
  pass_send h = at h.sender (3 * h.step)

  abbrev pass_recv : Pass → OpId
  pass_recv h = at (ahead ranks h.sender 1) (3 * h.step + 1)

  pass_cases : (x : OpId) → x.rank < ranks → x.op < 3 * (ranks - 1) → ((nanos : ℕ) × ((entry x.rank x.op).kind ≡ Calc nanos)) ⊎ (((h : Pass) × (pass_send h ≡ x)) ⊎ ((h : Pass) × (pass_recv h ≡ x)))
  pass_cases x in_rank inside =
      ⊎_elim (λ p. let f = p.1 in inr (inl (record { sender = x.rank; step = p.0; inside = in_rank; early = omega (arith, inside, f) }, at_of_equal_numbers x.rank (3 * p.0) x.rank x.op refl (sym f)))) (λ c. ⊎_elim (λ p. let f = p.1 in inr (inr (record { sender = back ranks x.rank 1; step = p.0; inside = back_below ranks x.rank 1 in_rank; early = omega (arith, inside, f) }, at_of_equal_numbers (ahead ranks (back ranks x.rank 1) 1) (3 * p.0 + 1) x.rank x.op (ahead_back ranks x.rank 1 in_rank some) (sym f)))) (λ p. inl (0, ap (λ (y : Entry). y.kind) (as_sum x.rank x.op p.0 p.1))) c) (cases_triple x.op)

  pass_messages : AreMessages ranks count entry Pass bytes pass_send pass_recv (λ h. h.step)
  pass_messages = record {
    send_there = λ h. let early = h.early in (h.inside, omega (arith, early));
    recv_there = λ h. let early = h.early in (ahead_below ranks h.sender 1 h.inside some, omega (arith, early));
    sent = λ h. ap (λ (y : Entry). y.kind) (as_send h.sender (3 * h.step) h.step refl);
    received = λ h. ap (λ (y : Entry). y.kind) (as_receive (ahead ranks h.sender 1) (3 * h.step + 1) h.step refl) ∙ ap (λ (r : ℕ). Recv bytes (Some r) (Some h.step)) (back_ahead ranks h.sender 1 h.inside some);
    cases = λ x in_rank inside. pass_cases x in_rank inside;
    apart = λ h k source target tag. (
      at_of_equal_numbers h.sender (3 * h.step) k.sender (3 * k.step) source (ap (λ (s : ℕ). 3 * s) tag),
      at_of_equal_numbers (ahead ranks h.sender 1) (3 * h.step + 1) (ahead ranks k.sender 1) (3 * k.step + 1) target (ap (λ (s : ℕ). 3 * s + 1) tag),
    );
  }

  member_of_single_slot : (j k : ℕ) → Mem k (flat_map slots_of_span (slot j)) → j ≡ k
  member_of_single_slot j k x = ⊎_elim (λ e. e) (λ none. absurd none) (subst (λ (ks : List ℕ). Mem k ks) (slots_of_single_slot j) x)

  rs_needs_cases : (r i k : ℕ) → Mem k (entry r i).needs → ((t : ℕ) × (i ≡ 3 * suc t) × (k ≡ 3 * t + 2)) ⊎ ((t : ℕ) × (i ≡ 3 * t + 2) × (k ≡ 3 * t + 1))
  rs_needs_cases r i k m = ⊎_elim (λ p. sent p.0 p.1 (subst (λ (x : Entry). Mem k x.needs) (as_send r i p.0 p.1) m)) (λ c. ⊎_elim (λ p. absurd (subst (λ (x : Entry). Mem k x.needs) (as_receive r i p.0 p.1) m)) (λ p. inr (p.0, p.1, one p.0 (subst (λ (x : Entry). Mem k x.needs) (as_sum r i p.0 p.1) m))) c) (cases_triple i)
    where
      sent : (t : ℕ) → i ≡ 3 * t → Mem k (before_round t) → ((t : ℕ) × (i ≡ 3 * suc t) × (k ≡ 3 * t + 2)) ⊎ ((t : ℕ) × (i ≡ 3 * t + 2) × (k ≡ 3 * t + 1))
      sent zero e x = absurd x
      sent (suc t) e (inr x) = absurd x
      sent (suc t) e (inl f) = inl (t, e, sym f)

      one : (t : ℕ) → Mem k ((3 * t + 1) ∷ []) → k ≡ 3 * t + 1
      one t (inl f) = sym f
      one t (inr x) = absurd x

  needs_are_lower : (r i k : ℕ) → IsThere ranks count entry r i → Mem k (entry r i).needs → (k < count r) × (level r k < level r i)
  needs_are_lower r i k there m =
      let inside = there.1 in
      ⊎_elim (λ p. let f = p.1 in let g = p.2 in (omega (arith, inside, f, g), omega (arith, f, g))) (λ p. let f = p.1 in let g = p.2 in (omega (arith, inside, f, g), omega (arith, f, g))) (rs_needs_cases r i k m)

  sum_precedes_send : (r t i j : ℕ) → i ≡ 3 * t + 2 → j ≡ 3 * suc t → Precedes (entry r) i j
  sum_precedes_send r t i j e f =
      now (subst (λ (x : Entry). Mem i x.needs) (sym (as_send r j (suc t) f)) (inl (sym e)))

  receive_precedes_sum : (r t i j : ℕ) → i ≡ 3 * t + 1 → j ≡ 3 * t + 2 → Precedes (entry r) i j
  receive_precedes_sum r t i j e f = now (subst (λ (x : Entry). Mem i x.needs) (sym (as_sum r j t f)) (inl (sym e)))

  rs_writes_cases : (r i k : ℕ) → Mem k (writes (entry r i)) → ((s : ℕ) × (i ≡ 3 * s + 1) × (ranks + back ranks r (s + 2) ≡ k)) ⊎ ((s : ℕ) × (i ≡ 3 * s + 2) × (back ranks r (s + 2) ≡ k))
  rs_writes_cases r i k m = ⊎_elim (λ p. absurd (subst (λ (x : Entry). Mem k (writes x)) (as_send r i p.0 p.1) m)) (λ c. ⊎_elim (λ p. inl (p.0, p.1, member_of_single_slot (ranks + back ranks r (p.0 + 2)) k (subst (λ (x : Entry). Mem k (writes x)) (as_receive r i p.0 p.1) m))) (λ p. inr (p.0, p.1, one (back ranks r (p.0 + 2)) (subst (λ (x : Entry). Mem k (writes x)) (as_sum r i p.0 p.1) m))) c) (cases_triple i)
    where
      one : (j : ℕ) → Mem k (j ∷ []) → j ≡ k
      one j (inl e) = e
      one j (inr x) = absurd x

  receive_writes : (r s : ℕ) → Mem (ranks + back ranks r (s + 2)) (writes (entry r (3 * s + 1)))
  receive_writes r s =
      subst (λ (x : Entry). Mem (ranks + back ranks r (s + 2)) (writes x)) (sym (as_receive r (3 * s + 1) s refl)) (subst (λ (ks : List ℕ). Mem (ranks + back ranks r (s + 2)) ks) (sym (slots_of_single_slot (ranks + back ranks r (s + 2)))) (inl refl))

  sum_writes : (r s : ℕ) → Mem (back ranks r (s + 2)) (writes (entry r (3 * s + 2)))
  sum_writes r s =
      subst (λ (x : Entry). Mem (back ranks r (s + 2)) (writes x)) (sym (as_sum r (3 * s + 2) s refl)) (inl refl)

  rs_touches_cases : (r i k : ℕ) → Mem k (touches (entry r i)) → ((s : ℕ) × (i ≡ 3 * s) × (back ranks r (s + 1) ≡ k)) ⊎ (((s : ℕ) × (i ≡ 3 * s + 1) × (ranks + back ranks r (s + 2) ≡ k)) ⊎ ((s : ℕ) × (i ≡ 3 * s + 2) × ((ranks + back ranks r (s + 2) ≡ k) ⊎ (back ranks r (s + 2) ≡ k))))
  rs_touches_cases r i k m = ⊎_elim (λ p. inl (p.0, p.1, member_of_single_slot (back ranks r (p.0 + 1)) k (subst (λ (x : Entry). Mem k (touches x)) (as_send r i p.0 p.1) m))) (λ c. inr (⊎_elim (λ p. inl (p.0, p.1, member_of_single_slot (ranks + back ranks r (p.0 + 2)) k (subst (λ (x : Entry). Mem k (touches x)) (as_receive r i p.0 p.1) m))) (λ p. inr (p.0, p.1, two (ranks + back ranks r (p.0 + 2)) (back ranks r (p.0 + 2)) (subst (λ (x : Entry). Mem k (touches x)) (as_sum r i p.0 p.1) m))) c)) (cases_triple i)
    where
      two : (a b : ℕ) → Mem k (a ∷ b ∷ []) → (a ≡ k) ⊎ (b ≡ k)
      two a b (inl e) = inl e
      two a b (inr (inl e)) = inr e
      two a b (inr (inr x)) = absurd x

  -- one slot is written by one operation
  slot_summed_once : (r s t k : ℕ) → r < ranks → s + 1 < ranks → t + 1 < ranks → back ranks r (s + 2) ≡ k → back ranks r (t + 2) ≡ k → s ≡ t
  slot_summed_once r s t k p l m e f =
      let same = back_injective_up_to_ranks r (s + 2) (t + 2) p (omega arith) (omega (arith, l)) (omega arith) (omega (arith, m)) (e ∙ sym f) in omega (arith, same)

  -- a send of a slot comes a step after the sum that writes it
  send_after_sum : (r s t k : ℕ) → r < ranks → s + 1 < ranks → t + 1 < ranks → back ranks r (s + 1) ≡ k → back ranks r (t + 2) ≡ k → s ≡ suc t
  send_after_sum r s t k p l m e f =
      let same = back_injective_up_to_ranks r (s + 1) (t + 2) p (omega arith) (omega (arith, l)) (omega arith) (omega (arith, m)) (e ∙ sym f) in omega (arith, same)

  conflicts_are_ordered : (r i j k : ℕ) → r < ranks → i < count r → j < count r → (i ≡ j → ⊥) → Mem k (touches (entry r i)) → Mem k (writes (entry r j)) → Precedes (entry r) i j ⊎ Precedes (entry r) j i
  conflicts_are_ordered r i j k p l m differ t w = go (rs_touches_cases r i k t) (rs_writes_cases r j k w)
    where
      go : ((s : ℕ) × (i ≡ 3 * s) × (back ranks r (s + 1) ≡ k)) ⊎ (((s : ℕ) × (i ≡ 3 * s + 1) × (ranks + back ranks r (s + 2) ≡ k)) ⊎ ((s : ℕ) × (i ≡ 3 * s + 2) × ((ranks + back ranks r (s + 2) ≡ k) ⊎ (back ranks r (s + 2) ≡ k)))) → ((s : ℕ) × (j ≡ 3 * s + 1) × (ranks + back ranks r (s + 2) ≡ k)) ⊎ ((s : ℕ) × (j ≡ 3 * s + 2) × (back ranks r (s + 2) ≡ k)) → Precedes (entry r) i j ⊎ Precedes (entry r) j i
      go (inl (s, e, f)) (inl (u, g, h)) = absurd (let low = back_below ranks r (s + 1) p in omega (arith, f, h, low))
      go (inl (s, e, f)) (inr (u, g, h)) =
          let same = send_after_sum r s u k p (omega (arith, l, e)) (omega (arith, m, g)) f h in
          inr (sum_precedes_send r u j i g (e ∙ ap (λ (n : ℕ). 3 * n) same))
      go (inr (inl (s, e, f))) (inl (u, g, h)) =
          absurd (differ (let same = slot_summed_once r s u (k - ranks) p (omega (arith, l, e)) (omega (arith, m, g)) (omega (arith, f)) (omega (arith, h)) in e ∙ ap (λ (n : ℕ). 3 * n + 1) same ∙ sym g))
      go (inr (inl (s, e, f))) (inr (u, g, h)) =
          absurd (let low = back_below ranks r (u + 2) p in omega (arith, f, h, low))
      go (inr (inr (s, e, inl f))) (inl (u, g, h)) =
          let same = slot_summed_once r u s (k - ranks) p (omega (arith, m, g)) (omega (arith, l, e)) (omega (arith, h)) (omega (arith, f)) in
          inr (receive_precedes_sum r s j i (g ∙ ap (λ (n : ℕ). 3 * n + 1) same) e)
      go (inr (inr (s, e, inl f))) (inr (u, g, h)) =
          absurd (let low = back_below ranks r (u + 2) p in omega (arith, f, h, low))
      go (inr (inr (s, e, inr f))) (inl (u, g, h)) =
          absurd (let low = back_below ranks r (s + 2) p in omega (arith, f, h, low))
      go (inr (inr (s, e, inr f))) (inr (u, g, h)) =
          absurd (differ (let same = slot_summed_once r s u k p (omega (arith, l, e)) (omega (arith, m, g)) f h in e ∙ ap (λ (n : ℕ). 3 * n + 2) same ∙ sym g))

  first_own : (r k : ℕ) → r < ranks → k < ranks → first r k ≡ single r k
  unfolding initial
  first_own r k p l = rw (lt-ltb r ranks p, lt-ltb k ranks l) refl

  abbrev ReduceScatterOrigin : ℕ → ℕ → ℕ → Type 0
  ReduceScatterOrigin r i k = Origin ranks count entry first (wanted ReduceScatter ranks) rs_finds rs_leaves r i k

  touched_has_origin : (r i k : ℕ) → IsThere ranks count entry r i → ((room : ℕ) (f t : Option ℕ) → (entry r i).kind ≡ Recv room f t → ⊥) → Mem k (touches (entry r i)) → ReduceScatterOrigin r i k
  touched_has_origin r i k there not_receive t = go (rs_touches_cases r i k t)
    where
      sent : (s : ℕ) → i ≡ 3 * s → back ranks r (s + 1) ≡ k → k < ranks → ReduceScatterOrigin r i k
      sent zero e f low =
          let p = there.0 in
          let l = there.1 in
          let b = back ranks r 1 in
          inl (first_own r k p low ∙ sym (ap (λ (n : ℕ). rs_finds r n k) e ∙ finds_send r 0 k low ∙ ap (λ (n : ℕ). window n 1) (sym f) ∙ window_one r b p (back_below ranks r 1 p) (after_back r 0 p some) ∙ ap (λ (n : ℕ). single r n) f), λ j m w. ⊎_elim (λ v. let h = v.2 in absurd (omega (arith, h, low))) (λ v. let g = v.1 in absurd (let same = send_after_sum r 0 v.0 k p (omega (arith, l, e)) (omega (arith, m, g)) f v.2 in omega (arith, same))) (rs_writes_cases r j k w))
      sent (suc u) e f low =
          let p = there.0 in
          let l = there.1 in
          let place : back ranks r (u + 2) ≡ k = ap (λ (n : ℕ). back ranks r n) (omega arith) ∙ f in
          inr (3 * u + 2, omega (arith, l, e), subst (λ (n : ℕ). Mem n (writes (entry r (3 * u + 2)))) place (sum_writes r u), sum_precedes_send r u (3 * u + 2) i refl e, leaves_sum r u k low ∙ ap (λ (n : ℕ). window k n) (omega arith) ∙ sym (ap (λ (n : ℕ). rs_finds r n k) e ∙ finds_send r (suc u) k low), λ j m w. inl (inr (⊎_elim (λ v. let h = v.2 in absurd (omega (arith, h, low))) (λ v. let g = v.1 in let same = slot_summed_once r v.0 u k p (omega (arith, m, g)) (omega (arith, l, e)) v.2 place in g ∙ ap (λ (n : ℕ). 3 * n + 2) same) (rs_writes_cases r j k w))))

      go : ((s : ℕ) × (i ≡ 3 * s) × (back ranks r (s + 1) ≡ k)) ⊎ (((s : ℕ) × (i ≡ 3 * s + 1) × (ranks + back ranks r (s + 2) ≡ k)) ⊎ ((s : ℕ) × (i ≡ 3 * s + 2) × ((ranks + back ranks r (s + 2) ≡ k) ⊎ (back ranks r (s + 2) ≡ k)))) → ReduceScatterOrigin r i k
      go (inl (s, e, f)) = sent s e f (subst (λ (n : ℕ). n < ranks) f (back_below ranks r (s + 1) there.0))
      go (inr (inl (s, e, f))) = absurd (not_receive _ _ _ (ap (λ (x : Entry). x.kind) (as_receive r i s e)))
      go (inr (inr (s, e, inl f))) =
          let p = there.0 in
          let l = there.1 in
          let b = back ranks r (s + 2) in
          inr (3 * s + 1, omega (arith, l, e), subst (λ (n : ℕ). Mem n (writes (entry r (3 * s + 1)))) f (receive_writes r s), receive_precedes_sum r s (3 * s + 1) i refl e, ap (λ (n : ℕ). rs_leaves r (3 * s + 1) n) (sym f) ∙ leaves_heard r s b ∙ sym (ap (λ (n : ℕ). rs_finds r n k) e ∙ ap (λ (n : ℕ). rs_finds r (3 * s + 2) n) (sym f) ∙ finds_heard r s b), λ j m w. inl (inr (⊎_elim (λ v. let g = v.1 in let h = v.2 in let same = slot_summed_once r v.0 s (k - ranks) p (omega (arith, m, g)) (omega (arith, l, e)) (omega (arith, h)) (omega (arith, f)) in g ∙ ap (λ (n : ℕ). 3 * n + 1) same) (λ v. let h = v.2 in absurd (let low = back_below ranks r (v.0 + 2) p in omega (arith, f, h, low))) (rs_writes_cases r j k w))))
      go (inr (inr (s, e, inr f))) =
          let p = there.0 in
          let l = there.1 in
          let low = subst (λ (n : ℕ). n < ranks) f (back_below ranks r (s + 2) p) in
          inl (first_own r k p low ∙ sym (ap (λ (n : ℕ). rs_finds r n k) e ∙ finds_own r s k low), λ j m w. ⊎_elim (λ v. let h = v.2 in absurd (omega (arith, h, low))) (λ v. let g = v.1 in inl (let same = slot_summed_once r v.0 s k p (omega (arith, m, g)) (omega (arith, l, e)) v.2 f in g ∙ ap (λ (n : ℕ). 3 * n + 2) same ∙ sym e)) (rs_writes_cases r j k w))

  summed : (r i nanos : ℕ) → IsThere ranks count entry r i → (entry r i).kind ≡ Calc nanos → (a : Adding) × ((entry r i).adds ≡ a ∷ []) × (merge (rs_finds r i a.to) (rs_finds r i a.from) ≡ rs_leaves r i a.to)
  unfolding merge
  summed r i nanos there c = go (cases_triple i)
    where
      go : ((s : ℕ) × (i ≡ 3 * s)) ⊎ (((s : ℕ) × (i ≡ 3 * s + 1)) ⊎ ((s : ℕ) × (i ≡ 3 * s + 2))) → (a : Adding) × ((entry r i).adds ≡ a ∷ []) × (merge (rs_finds r i a.to) (rs_finds r i a.from) ≡ rs_leaves r i a.to)
      go (inl (s, e)) = absurd (let f = sym (ap (λ (x : Entry). x.kind) (as_send r i s e)) ∙ c in cc f)
      go (inr (inl (s, e))) = absurd (let f = sym (ap (λ (x : Entry). x.kind) (as_receive r i s e)) ∙ c in cc f)
      go (inr (inr (s, e))) =
          let p = there.0 in
          let l = there.1 in
          let b = back ranks r (s + 2) in
          let low = back_below ranks r (s + 2) p in
          let place = ap (λ (n : ℕ). back ranks r n) (let n : s + 2 ≡ s + 1 + 1 = omega arith in n) in
          let ahead_of : back ranks r (b + 1) ≡ s + 1 = ap (λ (n : ℕ). back ranks r (n + 1)) place ∙ after_back r (s + 1) p (omega (arith, l, e)) in
          let own = ap (λ (n : ℕ). rs_finds r n b) e ∙ finds_own r s b low in
          let heard = ap (λ (n : ℕ). rs_finds r n (ranks + b)) e ∙ finds_heard r s b in
          (record { from = ranks + b; to = b }, ap (λ (x : Entry). x.adds) (as_sum r i s e), (λ j. merge (own j) (heard j)) ∙ window_more r b (s + 1) p low ahead_of ∙ ap (λ (n : ℕ). window b n) (omega arith) ∙ sym (ap (λ (n : ℕ). rs_leaves r n b) e ∙ leaves_sum r s b low))

  sender_and_receiver_slot_agree : (h : Pass) → back ranks (ahead ranks h.sender 1) (h.step + 2) ≡ back ranks h.sender (h.step + 1)
  sender_and_receiver_slot_agree h = go (ahead_cases ranks h.sender 1) (back_cases ranks (ahead ranks h.sender 1) (h.step + 2)) (back_cases ranks h.sender (h.step + 1))
    where
      go : ((h.sender + 1 < ranks) × (ahead ranks h.sender 1 ≡ h.sender + 1)) ⊎ ((ranks ≤ h.sender + 1) × (ahead ranks h.sender 1 ≡ h.sender + 1 - ranks)) → ((ahead ranks h.sender 1 < h.step + 2) × (back ranks (ahead ranks h.sender 1) (h.step + 2) ≡ ahead ranks h.sender 1 + ranks - (h.step + 2))) ⊎ ((h.step + 2 ≤ ahead ranks h.sender 1) × (back ranks (ahead ranks h.sender 1) (h.step + 2) ≡ ahead ranks h.sender 1 - (h.step + 2))) → ((h.sender < h.step + 1) × (back ranks h.sender (h.step + 1) ≡ h.sender + ranks - (h.step + 1))) ⊎ ((h.step + 1 ≤ h.sender) × (back ranks h.sender (h.step + 1) ≡ h.sender - (h.step + 1))) → back ranks (ahead ranks h.sender 1) (h.step + 2) ≡ back ranks h.sender (h.step + 1)
      go (inl (a, b)) (inl (c, d)) (inl (e, f)) = let i = h.inside in let s = h.early in omega (arith, a, b, c, d, e, f, i, s)
      go (inl (a, b)) (inl (c, d)) (inr (e, f)) = let i = h.inside in let s = h.early in omega (arith, a, b, c, d, e, f, i, s)
      go (inl (a, b)) (inr (c, d)) (inl (e, f)) = let i = h.inside in let s = h.early in omega (arith, a, b, c, d, e, f, i, s)
      go (inl (a, b)) (inr (c, d)) (inr (e, f)) = let i = h.inside in let s = h.early in omega (arith, a, b, c, d, e, f, i, s)
      go (inr (a, b)) (inl (c, d)) (inl (e, f)) = let i = h.inside in let s = h.early in omega (arith, a, b, c, d, e, f, i, s)
      go (inr (a, b)) (inl (c, d)) (inr (e, f)) = let i = h.inside in let s = h.early in omega (arith, a, b, c, d, e, f, i, s)
      go (inr (a, b)) (inr (c, d)) (inl (e, f)) = let i = h.inside in let s = h.early in omega (arith, a, b, c, d, e, f, i, s)
      go (inr (a, b)) (inr (c, d)) (inr (e, f)) = let i = h.inside in let s = h.early in omega (arith, a, b, c, d, e, f, i, s)

  message_keeps_values : (h : Pass) → map (rs_finds h.sender (3 * h.step)) (slots_moved_by (entry h.sender (3 * h.step))) ≡ map (rs_leaves (ahead ranks h.sender 1) (3 * h.step + 1)) (slots_moved_by (entry (ahead ranks h.sender 1) (3 * h.step + 1)))
  message_keeps_values h =
      let s = h.step in
      let to = ahead ranks h.sender 1 in
      let a = back ranks h.sender (s + 1) in
      let b = back ranks to (s + 2) in
      ap (λ (ks : List ℕ). map (rs_finds h.sender (3 * s)) ks) (ap slots_moved_by (as_send h.sender (3 * s) s refl) ∙ slots_of_single_slot a) ∙ ap (λ (v : Value). v ∷ []) (finds_send h.sender s a (back_below ranks h.sender (s + 1) h.inside) ∙ ap (λ (n : ℕ). window n (s + 1)) (sym (sender_and_receiver_slot_agree h)) ∙ sym (leaves_heard to s b)) ∙ sym (ap (λ (ks : List ℕ). map (rs_leaves to (3 * s + 1)) ks) (ap slots_moved_by (as_receive to (3 * s + 1) s refl) ∙ slots_of_single_slot (ranks + b)))

  wanted_at_end : (r : ℕ) → r < ranks → wanted ReduceScatter ranks r r (of_each ranks r) ≡ true
  unfolding wanted
  wanted_at_end r p = rw (lt-ltb r ranks p, eq-eqb r r refl) (is_value_reflexive (of_each ranks r))

  nothing_wanted_elsewhere : (r k : ℕ) → (k ≡ r → ⊥) → (v : Value) → wanted ReduceScatter ranks r k v ≡ true
  unfolding wanted
  nothing_wanted_elsewhere r k d v = rw (ne_eqb k r d) (go (nat_lt r ranks))
    where
      go : (b : Bool) → (if b then true else true) ≡ true
      go true = refl
      go false = refl

  slots_end_as_wanted : (r k : ℕ) → r < ranks → Final ranks count entry first (wanted ReduceScatter ranks) rs_finds rs_leaves r k
  slots_end_as_wanted r k p = ⊎_elim (λ same. subst (λ (n : ℕ). Final ranks count entry first (wanted ReduceScatter ranks) rs_finds rs_leaves r n) (sym same) (own (cases_lt ranks 2))) (λ d. inl (nothing_wanted_elsewhere r k d)) (cases_eq k r)
    where
      own : (ranks < 2) ⊎ (2 ≤ ranks) → Final ranks count entry first (wanted ReduceScatter ranks) rs_finds rs_leaves r r
      own (inl one) =
          let n : ranks ≡ 1 = omega (arith, one, some) in
          let zero_rank : r ≡ 0 = omega (arith, p, one) in
          inr (inl (λ j l w. omega (arith, l, one), subst (λ (v : Value). wanted ReduceScatter ranks r r v ≡ true) (ap (λ (m : ℕ). of_each m r) n ∙ ap (λ (m : ℕ). of_each 1 m) zero_rank ∙ of_each_single ∙ ap (λ (m : ℕ). single m m) (sym zero_rank) ∙ sym (first_own r r p p)) (wanted_at_end r p)))
      own (inr two) =
          let t = ranks - 2 in
          let whole : t + 2 ≡ ranks = omega (arith, two) in
          let place : back ranks r (t + 2) ≡ r = ap (λ (n : ℕ). back ranks r n) whole ∙ back_all r p in
          inr (inr (3 * t + 2, omega (arith, two), subst (λ (n : ℕ). Mem n (writes (entry r (3 * t + 2)))) place (sum_writes r t), λ j m w. inl (⊎_elim (λ v. let h = v.2 in absurd (omega (arith, h, p))) (λ v. let g = v.1 in let same = slot_summed_once r v.0 t r p (omega (arith, m, g)) (omega (arith, two)) v.2 place in g ∙ ap (λ (n : ℕ). 3 * n + 2) same) (rs_writes_cases r j r w)), subst (λ (v : Value). wanted ReduceScatter ranks r r v ≡ true) (sym (leaves_sum r t r p ∙ ap (λ (n : ℕ). window r n) whole ∙ window_all r p)) (wanted_at_end r p)))

  blueprint : IsBlueprint ranks count entry first (wanted ReduceScatter ranks) rs_finds rs_leaves Pass bytes pass_send pass_recv (λ h. h.step) level
  blueprint = record {
    messages = pass_messages;
    lower = needs_are_lower;
    same_level = λ h. omega arith;
    race = conflicts_are_ordered;
    source = touched_has_origin;
    summed = summed;
    kept = message_keeps_values;
    final = slots_end_as_wanted;
  }

  -- at most 128 contributions in each of 256 slots, and in each message
  cap : ℕ → ℕ → ℕ
  cap r k = if nat_lt k 256 then 128 else 0

  abbrev load : ℕ → ℕ → ℕ
  load r i = 128

  cap_low : (r k : ℕ) → k < 256 → cap r k ≡ 128
  unfolding cap
  cap_low r k l = rw (lt-ltb k 256 l) refl

  cap_high : (r k : ℕ) → 256 ≤ k → cap r k ≡ 0
  unfolding cap
  cap_high r k g = go (nat_lt k 256) refl
    where
      go : (b : Bool) → nat_lt k 256 ≡ b → ◌≡◌ {A = ℕ} (if b then 128 else 0) 0
      go true e = absurd (let l = ltb-true k 256 e in omega (arith, l, g))
      go false e = refl

  cap_few : (r k : ℕ) → cap r k ≤ 128
  cap_few r k =
      ⊎_elim (λ l. let e = cap_low r k l in omega (arith, e)) (λ g. let e = cap_high r k g in omega (arith, e)) (cases_lt k 256)

  first_cap : (r k : ℕ) → length (first r k) ≤ cap r k
  unfolding initial
  first_cap r k = go (nat_lt r ranks) (nat_lt k ranks) refl
    where
      go : (a b : Bool) → nat_lt k ranks ≡ b → length (if a then (if b then single r k else []) else []) ≤ cap r k
      go true true e = let l = ltb-true k ranks e in let room = cap_low r k (omega (arith, l, few)) in omega (arith, room)
      go true false e = omega arith
      go false b e = omega arith

  leaves_few : (r i k : ℕ) → length (rs_leaves r i k) ≤ 128
  unfolding rs_leaves
  leaves_few r i k = go (nat_lt k ranks)
    where
      go : (b : Bool) → length (if b then window k (i / 3 + 2) else window (k - ranks) (i / 3 + 1)) ≤ 128
      go true = let w = window_few k (i / 3 + 2) in omega (arith, w, few)
      go false = let w = window_few (k - ranks) (i / 3 + 1) in omega (arith, w, few)

  writes_low : (r i k : ℕ) → r < ranks → Mem k (writes (entry r i)) → k < 256
  writes_low r i k p w =
      ⊎_elim (λ v. let h = v.2 in let low = back_below ranks r (v.0 + 2) p in omega (arith, h, low, few)) (λ v. let h = v.2 in let low = back_below ranks r (v.0 + 2) p in omega (arith, h, low, few)) (rs_writes_cases r i k w)

  finds_load : (h : Pass) → sum_by (λ (v : Value). length v) (map (rs_finds h.sender (3 * h.step)) (slots_moved_by (entry h.sender (3 * h.step)))) ≤ 128
  finds_load h =
      let a = back ranks h.sender (h.step + 1) in
      let size = ap length (finds_send h.sender h.step a (back_below ranks h.sender (h.step + 1) h.inside)) in
      let w = window_few a (h.step + 1) in
      subst (λ (ks : List ℕ). sum_by (λ (v : Value). length v) (map (rs_finds h.sender (3 * h.step)) ks) ≤ 128) (sym (ap slots_moved_by (as_send h.sender (3 * h.step) h.step refl) ∙ slots_of_single_slot a)) (omega (arith, size, w, few))

  few_ops : sum_by count (range_with_len 0 ranks) ≤ ranks * 381
  few_ops = sum_range_few count ranks 381 (λ r l. omega (arith, few))

  total_within_limit : sum_below ranks (λ r. sum_below (2 ^ 32) (cap r)) + sum_by (λ r. sum_by (load r) (range_with_len 0 (count r))) (range_with_len 0 ranks) ≤ weight_limit
  total_within_limit =
      let stores = sum_below_few ranks 32768 (λ r. sum_below (2 ^ 32) (cap r)) (λ r l. sum_low_few (2 ^ 32) 256 128 (cap r) (cap_few r) (cap_high r)) in
      let loads = entries_few ranks count load 128 (λ r i l m. omega arith) in
      let ops = few_ops in
      omega (arith, stores, loads, ops, few)

  blueprint_is_bounded : IsBounded ranks count entry first (wanted ReduceScatter ranks) rs_finds rs_leaves Pass pass_send cap load
  blueprint_is_bounded = record {
    first_cap = first_cap;
    leaves_cap = λ r i k there w. let room = cap_low r k (writes_low r i k there.0 w) in let size = leaves_few r i k in omega (arith, room, size);
    finds_load = finds_load;
    total = total_within_limit;
  }

  low_notes : (r i : ℕ) → r < ranks → All NamesLowSlots (notes_of i (entry r i)) × (sum_by moved_count (notes_of i (entry r i)) ≤ 1)
  low_notes r i p = ⊎_elim (λ v. subst (λ (x : Entry). Low x) (sym (as_send r i v.0 v.1)) (one (back ranks r (v.0 + 1)) (let low = back_below ranks r (v.0 + 1) p in omega (arith, low, few)))) (λ c. ⊎_elim (λ v. subst (λ (x : Entry). Low x) (sym (as_receive r i v.0 v.1)) (one (ranks + back ranks r (v.0 + 2)) (let low = back_below ranks r (v.0 + 2) p in omega (arith, low, few)))) (λ v. let low = back_below ranks r (v.0 + 2) p in subst (λ (x : Entry). Low x) (sym (as_sum r i v.0 v.1)) (All_one NamesLowSlots (Adds i (ranks + back ranks r (v.0 + 2)) (back ranks r (v.0 + 2))) (omega (arith, low, few), omega (arith, low, few)), omega arith)) c) (cases_triple i)
    where
      Low : Entry → Type 0
      Low x = All NamesLowSlots (notes_of i x) × (sum_by moved_count (notes_of i x) ≤ 1)

      one : (k : ℕ) → k ≤ slot_limit → All NamesLowSlots (Moves i k k ∷ []) × (sum_by moved_count (Moves i k k ∷ []) ≤ 1)
      one k low = (All_one NamesLowSlots (Moves i k k) (low, low), omega arith)

  made_is_small : IsSmall (made ReduceScatter ranks bytes)
  unfolding made
  made_is_small =
      entries_small ranks count entry 1 (λ r l. omega (arith, few)) (λ r i l m. (low_notes r i l).0) (λ r i l m. (low_notes r i l).1) (let ops = few_ops in omega (arith, ops, few))

  pub reduce_scatter_certified : IsCertifiedFor ReduceScatter (made ReduceScatter ranks bytes)
  unfolding made
  reduce_scatter_certified =
      subst (λ (n : ℕ). IsCertified (made ReduceScatter ranks bytes) (initial ReduceScatter n) (wanted ReduceScatter n)) (sym (length_plans ranks count entry)) (blueprint_certified ranks count entry first (wanted ReduceScatter ranks) rs_finds rs_leaves Pass bytes pass_send pass_recv (λ h. h.step) level blueprint cap load blueprint_is_bounded made_is_small)
