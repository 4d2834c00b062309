-- The gather is certified, for every number of ranks, every root and every size: slot k holds the item of rank k wherever it
-- is written, and each slot is written once.
use Rattle.std.proofs.Common.{Some, ⊎_elim, ℕ, zero, suc, ◌+◌, ◌^◌, ◌<◌, ◌≤◌, ◌≡◌, ◌==◌, ◌&&◌, ◌⊎◌, nat_lt, inl, inr, Bool, true, false, List, [], map, flat_map, length, Option, if◌then◌else◌, refl, sym, ap, ◌∙◌, subst, arith, eq-eqb}
use Rattle.std.specs.List.{range_with_len}
use Rattle.std.proofs.lemmas.Bool.{true≢false, lt-ltb, ltb-true, eqb-true, cases_lt, cases_eq}
use Rattle.std.proofs.lemmas.Nat.{pow_pos}
use Rattle.goal_limits.specs.Limits.{rank_limit}
use Rattle.goal_graph.specs.declared.action.OpId.{OpId}
use Rattle.goal_graph.specs.declared.plan.Kind.TheVariants.{Calc, Send, Recv}
use Rattle.goal_limits.specs.declared.collective.Collective.TheVariants.{Gather}
use Rattle.goal_blocks.specs.Values.{Value, Store}
use Rattle.goal_blocks.specs.Certification.{IsCertified}
use Rattle.goal_blocks.specs.Collectives.{single, initial, is_value, wanted}
use Rattle.goal_blocks.specs.Certified.{IsCertifiedFor}
use Rattle.goal_blocks.specs.Entries.{Entry, sending, receiving}
use Rattle.goal_blocks.specs.Positions.{ahead, back, low, rounds, parent, upward, share}
use Rattle.goal_blocks.specs.MadeRooted.{gather_in}
use Rattle.goal_blocks.specs.Generated.{made}
use Rattle.goal_blocks.specs.Messages.{AreMessages}
use Rattle.goal_blocks.proofs.Orders.{Mem}
use Rattle.goal_blocks.proofs.EntryFacts.{slots_of_span, length_plans}
use Rattle.goal_blocks.proofs.Ring.{back_cancels, root_has_virtual_rank_zero}
use Rattle.goal_blocks.proofs.RingAndTree.{back_below, upward_some, upward_few}
use Rattle.goal_blocks.proofs.Trees.{rounds_few, child_below}
use Rattle.goal_blocks.proofs.Tree.{rounds_low, low_zero, IsInRound, round_of_descendant, round_of_descendant_unique, round_in_block}
use Rattle.goal_blocks.proofs.TreeSizes.{block_cap, block_load, cap_of_block}
use Rattle.goal_blocks.proofs.BlockBounds.{IsMoving, own_block, child_block, blocks_small, blocks_bounded}
use Rattle.goal_blocks.proofs.TreeMessages.{TreeEdge, above, above_is_parent, above_inside, back_from_ahead_is_virtual_rank, child_end, parent_end, AreTreeEnds, up_messages}
use Rattle.goal_blocks.proofs.TreeCases.{gather_hears, gather_sends}
use Rattle.goal_blocks.proofs.Shares.{IsInShare, mem_share_is_in_share, in_share_is_mem_share}
use Rattle.goal_blocks.proofs.BcastCertified.{tag_of}
use Rattle.goal_blocks.proofs.Blueprint.{slots_moved_by, touches, writes, Precedes, now, Origin, Final, IsBlueprint, blueprint_certified}

module _ (ranks root bytes : ℕ) (rooted : root < ranks) (few : ranks ≤ rank_limit) where
  abbrev entry_in : ℕ → ℕ → Entry
  entry_in v i = gather_in ranks root bytes v i

  abbrev count_in : ℕ → ℕ
  count_in v = rounds ranks v + upward v

  abbrev count : ℕ → ℕ
  count r = count_in (back ranks r root)

  abbrev entry : ℕ → ℕ → Entry
  entry r i = entry_in (back ranks r root) i

  abbrev first : Store
  first = initial (Gather root) ranks

  -- a slot that is touched holds the item of its rank
  abbrev item_of_slot : ℕ → ℕ → ℕ → Value
  item_of_slot r i k = single k 0

  abbrev level : ℕ → ℕ → ℕ
  level r i = tag_of (entry r i).kind

  entry_receives : (v i : ℕ) → i < rounds ranks v → entry_in v i ≡ receiving bytes (ahead ranks (v + 2 ^ i) root) i (share ranks root (v + 2 ^ i) (2 ^ i))
  entry_receives v i lt = sym (gather_hears ranks root bytes v i lt)

  entry_sends : (v i : ℕ) → rounds ranks v ≤ i → entry_in v i ≡ sending bytes (parent ranks root v) (low v) (range_with_len 0 (rounds ranks v)) (share ranks root v (2 ^ low v))
  entry_sends v i le = sym (gather_sends ranks root bytes v i le)

  -- what is no receive is the send of a virtual rank above 0
  record IsGiving (v i : ℕ) : Type 0 where
    some : 0 < v
    last : rounds ranks v ≡ i

  late_entry_is_giving : (v i : ℕ) → i < count_in v → rounds ranks v ≤ i → IsGiving v i
  late_entry_is_giving zero i lt le = absurd (omega (arith, lt, le))
  late_entry_is_giving (suc w) i lt le =
      let one = upward_few (suc w) in record { some = omega arith; last = omega (arith, lt, le, one) }

  tree_ends : AreTreeEnds ranks root bytes rooted few count_in entry_in (rounds ranks) (λ v j. j)
  tree_ends = record {
    up_there = λ v some inside. let one = upward_some v some in omega (arith, one);
    down_there = λ v j inside lt. omega (arith, lt);
    each = λ v i inside there. ⊎_elim (λ lt. inr (inr (i, lt, refl))) (λ ge. let is = late_entry_is_giving v i there ge in inr (inl (is.some, is.last))) (cases_lt i (rounds ranks v));
  }

  abbrev gather_send : TreeEdge ranks → OpId
  gather_send = child_end ranks root bytes rooted few count_in entry_in (rounds ranks) (λ v j. j)

  abbrev gather_recv : TreeEdge ranks → OpId
  gather_recv = parent_end ranks root bytes rooted few count_in entry_in (rounds ranks) (λ v j. j)

  tree_messages : AreMessages ranks count entry (TreeEdge ranks) bytes gather_send gather_recv (λ m. low m.child)
  tree_messages = up_messages ranks root bytes rooted few count_in entry_in (rounds ranks) (λ v j. j) tree_ends (λ v some inside. ap (λ (x : Entry). x.kind) (entry_sends v (rounds ranks v) (omega arith))) (λ v j inside lt. ap (λ (x : Entry). x.kind) (entry_receives v j lt))

  range_member_below_end : (a n k : ℕ) → Mem k (range_with_len a n) → k < a + n
  range_member_below_end a zero k m = absurd m
  range_member_below_end a (suc n) k (inl e) = omega (arith, e)
  range_member_below_end a (suc n) k (inr m) = let rest = range_member_below_end (a + 1) n k m in omega (arith, rest)

  range_contains_number : (a n k : ℕ) → a ≤ k → k < a + n → Mem k (range_with_len a n)
  range_contains_number a zero k le lt = absurd (omega (arith, le, lt))
  range_contains_number a (suc n) k le lt =
      ⊎_elim (λ l. inr (range_contains_number (a + 1) n k (omega (arith, l)) (omega (arith, lt)))) (λ ge. inl (omega (arith, le, ge))) (cases_lt a k)

  needs_are_lower : (v i k : ℕ) → i < count_in v → Mem k (entry_in v i).needs → (k < count_in v) × (tag_of (entry_in v k).kind < tag_of (entry_in v i).kind)
  needs_are_lower v i k there m = ⊎_elim (λ lt. absurd (subst (λ (x : Entry). Mem k x.needs) (entry_receives v i lt) m)) (λ ge. go ge (range_member_below_end 0 (rounds ranks v) k (subst (λ (x : Entry). Mem k x.needs) (entry_sends v i ge) m))) (cases_lt i (rounds ranks v))
    where
      go : rounds ranks v ≤ i → k < 0 + rounds ranks v → (k < count_in v) × (tag_of (entry_in v k).kind < tag_of (entry_in v i).kind)
      go ge lt =
          let a = ap (λ (x : Entry). tag_of x.kind) (entry_receives v k (omega (arith, lt))) in
          let b = ap (λ (x : Entry). tag_of x.kind) (entry_sends v i ge) in
          let most = rounds_low ranks few v in
          (omega (arith, lt), omega (arith, a, b, most, lt))

  -- a receive of the round j writes the slots of the child's block, and a send none

  record IsWritten (v j k : ℕ) : Type 0 where
    slot : k < ranks
    round : IsInRound ranks v (back ranks k root) j

  writes_round : (v j k : ℕ) → v < ranks → Mem k (writes (entry_in v j)) → IsWritten v j k
  writes_round v j k inside w = ⊎_elim (λ lt. go lt (mem_share_is_in_share ranks root (v + 2 ^ j) (2 ^ j) rooted (child_below ranks few v j inside lt) (pow_pos j) k (subst (λ (x : Entry). Mem k (writes x)) (entry_receives v j lt) w))) (λ ge. absurd (subst (λ (x : Entry). Mem k (writes x)) (entry_sends v j ge) w)) (cases_lt j (rounds ranks v))
    where
      go : j < rounds ranks v → IsInShare ranks root (v + 2 ^ j) (2 ^ j) k → IsWritten v j k
      go lt is = record { slot = is.slot; round = record { round = lt; from = is.from; before = is.before } }

  round_writes : (v j k : ℕ) → v < ranks → k < ranks → IsInRound ranks v (back ranks k root) j → Mem k (writes (entry_in v j))
  round_writes v j k inside slot is =
      subst (λ (x : Entry). Mem k (writes x)) (sym (entry_receives v j is.round)) (in_share_is_mem_share ranks root (v + 2 ^ j) (2 ^ j) rooted (child_below ranks few v j inside is.round) (pow_pos j) k slot is.from is.before)

  conflicts_are_ordered : (v i j k : ℕ) → v < ranks → (i ≡ j → ⊥) → Mem k (touches (entry_in v i)) → Mem k (writes (entry_in v j)) → Precedes (entry_in v) i j ⊎ Precedes (entry_in v) j i
  conflicts_are_ordered v i j k inside differ t w = ⊎_elim (λ lt. absurd (differ (round_of_descendant_unique ranks few v (back ranks k root) i j (heard lt) by_j.round))) (λ ge. inr (now (subst (λ (x : Entry). Mem j x.needs) (sym (entry_sends v i ge)) (range_contains_number 0 (rounds ranks v) j (omega arith) (let lt = by_j.round.round in omega (arith, lt)))))) (cases_lt i (rounds ranks v))
    where
      by_j : IsWritten v j k
      by_j = writes_round v j k inside w

      -- a receive touches what it writes
      heard : i < rounds ranks v → IsInRound ranks v (back ranks k root) i
      heard lt =
          (writes_round v i k inside (subst (λ (x : Entry). Mem k (writes x)) (sym (entry_receives v i lt)) (subst (λ (x : Entry). Mem k (touches x)) (entry_receives v i lt) t))).round

  first_own : (r k : ℕ) → r < ranks → k ≡ r → first r k ≡ single k 0
  unfolding initial
  first_own r k inside e =
      rw (lt-ltb r ranks inside, eq-eqb k r e) (ap (λ (q : ℕ). single q 0) (sym e))

  abbrev Traced : ℕ → ℕ → ℕ → Type 0
  Traced r i k = Origin ranks count entry first (wanted (Gather root) ranks) item_of_slot item_of_slot r i k

  touched_has_origin : (r i k : ℕ) → r < ranks → i < count r → ((room : ℕ) (from t : Option ℕ) → (entry r i).kind ≡ Recv room from t → ⊥) → Mem k (touches (entry r i)) → Traced r i k
  touched_has_origin r i k inside there not_receive t =
      ⊎_elim (λ lt. absurd (not_receive _ _ _ (ap (λ (x : Entry). x.kind) (entry_receives (back ranks r root) i lt)))) (λ ge. given ge (mem_share_is_in_share ranks root (back ranks r root) (2 ^ low (back ranks r root)) rooted low_rank (pow_pos (low (back ranks r root))) k (subst (λ (x : Entry). Mem k (touches x)) (entry_sends (back ranks r root) i ge) t))) (cases_lt i (rounds ranks (back ranks r root)))
    where
      low_rank : back ranks r root < ranks
      low_rank = back_below ranks r root inside

      given : rounds ranks (back ranks r root) ≤ i → IsInShare ranks root (back ranks r root) (2 ^ low (back ranks r root)) k → Traced r i k
      given ge is = ⊎_elim (λ lt. heard ge is (round_of_descendant ranks few (back ranks r root) (back ranks k root) lt (back_below ranks k root is.slot) is.before)) (λ le. inl (first_own r k inside (back_cancels ranks k r root is.slot inside (omega (arith, rooted)) (let from = is.from in omega (arith, le, from))), λ j l w. absurd (let above_v = (writes_round (back ranks r root) j k low_rank w).round.from in let some = pow_pos j in omega (arith, above_v, some, le)))) (cases_lt (back ranks r root) (back ranks k root))
        where
          heard : rounds ranks (back ranks r root) ≤ i → IsInShare ranks root (back ranks r root) (2 ^ low (back ranks r root)) k → (j : ℕ) × IsInRound ranks (back ranks r root) (back ranks k root) j → Traced r i k
          heard ge is (j, at) = inr (j, (let lt = at.round in omega (arith, lt)), round_writes (back ranks r root) j k low_rank is.slot at, now (subst (λ (x : Entry). Mem j x.needs) (sym (entry_sends (back ranks r root) i ge)) (range_contains_number 0 (rounds ranks (back ranks r root)) j (omega arith) (let lt = at.round in omega (arith, lt)))), refl, λ l m w. inl (inr (round_of_descendant_unique ranks few (back ranks r root) (back ranks k root) l j (writes_round (back ranks r root) l k low_rank w).round at)))

  -- at the end the root has each slot, and nothing is wanted of the other ranks

  nothing_wanted_elsewhere : (r k : ℕ) (u : Value) → (r ≡ root → ⊥) ⊎ (ranks ≤ k) → wanted (Gather root) ranks r k u ≡ true
  unfolding wanted
  nothing_wanted_elsewhere r k u out = go (nat_lt r ranks) (nat_lt k ranks) refl (nat_lt root ranks) (lt-ltb root ranks rooted) (r == root) refl
    where
      go : (a b : Bool) → nat_lt k ranks ≡ b → (c : Bool) → c ≡ true → (d : Bool) → (r == root) ≡ d → (if a then (if b then (if c then (if d then is_value u (single k 0) else true) else (if (r == 0) && (k == 0) then is_value u (single root 0) else true)) else true) else true) ≡ true
      go true true e true t true f = absurd (⊎_elim (λ other. other (eqb-true r root f)) (λ past. let lt = ltb-true k ranks e in omega (arith, past, lt)) out)
      go true true e true t false f = refl
      go true true e false t d f = absurd (true≢false (sym t))
      go true false e c t d f = refl
      go false b e c t d f = refl

  wanted_at_root : (r k : ℕ) → r < ranks → k < ranks → r ≡ root → wanted (Gather root) ranks r k (single k 0) ≡ true
  unfolding wanted is_value
  wanted_at_root r k inside slot e =
      rw (lt-ltb r ranks inside, lt-ltb k ranks slot, lt-ltb root ranks rooted, eq-eqb r root e, eq-eqb k k refl) refl

  abbrev Ended : ℕ → ℕ → Type 0
  Ended r k = Final ranks count entry first (wanted (Gather root) ranks) item_of_slot item_of_slot r k

  final_root : (k : ℕ) → k < ranks → Ended root k
  final_root k slot = ⊎_elim (λ some. heard (round_of_descendant ranks few (back ranks root root) (back ranks k root) (omega (arith, some, none)) (back_below ranks k root slot) (let high = back_below ranks k root slot in let top : low (back ranks root root) ≡ 32 = ap low (root_has_virtual_rank_zero ranks root) ∙ low_zero in subst (λ (n : ℕ). back ranks k root < back ranks root root + 2 ^ n) (sym top) (omega (arith, high, few))))) (λ zero. inr (inl (λ j l w. absurd (let from = (writes_round (back ranks root root) j k low_root w).round.from in let some = pow_pos j in omega (arith, from, some, zero)), subst (λ (u : Value). wanted (Gather root) ranks root k u ≡ true) (sym (first_own root k rooted (back_cancels ranks k root root slot rooted (omega (arith, rooted)) (omega (arith, zero, none))))) (wanted_at_root root k rooted slot refl)))) (cases_lt 0 (back ranks k root))
    where
      none : back ranks root root ≡ 0
      none = root_has_virtual_rank_zero ranks root

      low_root : back ranks root root < ranks
      low_root = back_below ranks root root rooted

      heard : (j : ℕ) × IsInRound ranks (back ranks root root) (back ranks k root) j → Ended root k
      heard (j, at) = inr (inr (j, (let lt = at.round in omega (arith, lt)), round_writes (back ranks root root) j k low_root slot at, λ l m w. inl (round_of_descendant_unique ranks few (back ranks root root) (back ranks k root) l j (writes_round (back ranks root root) l k low_root w).round at), wanted_at_root root k rooted slot refl))

  slots_end_as_wanted : (r k : ℕ) → r < ranks → Ended r k
  slots_end_as_wanted r k inside = ⊎_elim (λ same. ⊎_elim (λ slot. subst (λ (q : ℕ). Ended q k) (sym same) (final_root k slot)) (λ past. inl (λ u. nothing_wanted_elsewhere r k u (inr past))) (cases_lt k ranks)) (λ other. inl (λ u. nothing_wanted_elsewhere r k u (inl other))) (cases_eq r root)

  no_calc : (v i nanos : ℕ) → (entry_in v i).kind ≡ Calc nanos → ⊥
  no_calc v i nanos e =
      ⊎_elim (λ lt. let f = sym (ap (λ (x : Entry). x.kind) (entry_receives v i lt)) ∙ e in cc f) (λ ge. let f = sym (ap (λ (x : Entry). x.kind) (entry_sends v i ge)) ∙ e in cc f) (cases_lt i (rounds ranks v))

  -- both ends of a message have the slots of the child's block
  module _ (m : TreeEdge ranks) where
    block : List ℕ
    block = flat_map slots_of_span (share ranks root m.child (2 ^ low m.child))

    given_slots : slots_moved_by (entry_in m.child (rounds ranks m.child)) ≡ block
    unfolding block
    given_slots = ap slots_moved_by (entry_sends m.child (rounds ranks m.child) (omega arith))

    heard_slots : slots_moved_by (entry_in (above ranks root bytes rooted few m) (low m.child)) ≡ block
    unfolding block
    heard_slots =
        ap slots_moved_by (entry_receives (above ranks root bytes rooted few m) (low m.child) (above_is_parent ranks root bytes rooted few m).round) ∙ ap (λ (c : ℕ). flat_map slots_of_span (share ranks root c (2 ^ low m.child))) (above_is_parent ranks root bytes rooted few m).child

  message_keeps_values : (m : TreeEdge ranks) → map (λ (k : ℕ). single k 0) (slots_moved_by (entry (ahead ranks m.child root) (rounds ranks m.child))) ≡ map (λ (k : ℕ). single k 0) (slots_moved_by (entry (ahead ranks (above ranks root bytes rooted few m) root) (low m.child)))
  message_keeps_values m =
      ap (λ (ks : List ℕ). map (λ (k : ℕ). single k 0) ks) (rw (back_from_ahead_is_virtual_rank ranks root bytes rooted few m.child m.inside, back_from_ahead_is_virtual_rank ranks root bytes rooted few (above ranks root bytes rooted few m) (above_inside ranks root bytes rooted few m)) (given_slots m ∙ sym (heard_slots m)))

  blueprint : IsBlueprint ranks count entry first (wanted (Gather root) ranks) item_of_slot item_of_slot (TreeEdge ranks) bytes gather_send gather_recv (λ m. low m.child) level
  blueprint = record {
    messages = tree_messages;
    lower = λ r i k there m. needs_are_lower (back ranks r root) i k there.1 m;
    same_level = λ m. ap tag_of (tree_messages.sent m) ∙ sym (ap tag_of (tree_messages.received m));
    race = λ r i j k inside l m differ t w. conflicts_are_ordered (back ranks r root) i j k (back_below ranks r root inside) differ t w;
    source = λ r i k there not_receive t. touched_has_origin r i k there.0 there.1 not_receive t;
    summed = λ r i nanos there k. absurd (no_calc (back ranks r root) i nanos k);
    kept = message_keeps_values;
    final = slots_end_as_wanted;
  }

  first_empty_elsewhere : (r k : ℕ) → (ranks ≤ r) ⊎ (k ≡ r → ⊥) → first r k ≡ []
  unfolding initial
  first_empty_elsewhere r k out = go (nat_lt r ranks) refl (k == r) refl
    where
      go : (a : Bool) → nat_lt r ranks ≡ a → (b : Bool) → (k == r) ≡ b → (if a then (if b then single r 0 else []) else []) ≡ []
      go true e true f = absurd (⊎_elim (λ past. let lt = ltb-true r ranks e in omega (arith, past, lt)) (λ other. other (eqb-true k r f)) out)
      go true e false f = refl
      go false e b f = refl

  first_cap : (r k : ℕ) → length (first r k) ≤ block_cap ranks few root rooted r k
  first_cap r k = ⊎_elim (λ inside. ⊎_elim (λ same. let one = cap_of_block ranks few root rooted r k (omega (arith, same, inside)) (let e = ap (λ (q : ℕ). back ranks q root) same in omega (arith, e)) (let e = ap (λ (q : ℕ). back ranks q root) same in let some = pow_pos (low (back ranks r root)) in omega (arith, e, some)) in let is = ap length (first_own r k inside same) in omega (arith, one, is)) (λ other. let none = ap length (first_empty_elsewhere r k (inr other)) in omega (arith, none)) (cases_eq k r)) (λ past. let none = ap length (first_empty_elsewhere r k (inl past)) in omega (arith, none)) (cases_lt r ranks)

  count_in_few : (v : ℕ) → count_in v ≤ 17
  count_in_few v = let most = rounds_few ranks few v in let one = upward_few v in omega (arith, most, one)

  entry_is_moving : (v i n : ℕ) → v < ranks → i < count_in v → IsMoving ranks few root rooted v n (entry_in v i)
  entry_is_moving v i n inside there =
      ⊎_elim (λ lt. subst (λ (x : Entry). IsMoving ranks few root rooted v n x) (sym (entry_receives v i lt)) (child_block ranks few root rooted v n (Recv bytes (Some (ahead ranks (v + 2 ^ i) root)) (Some i)) [] inside i lt)) (λ ge. subst (λ (x : Entry). IsMoving ranks few root rooted v n x) (sym (entry_sends v i ge)) (own_block ranks few root rooted v n (Send bytes (parent ranks root v) (low v)) (range_with_len 0 (rounds ranks v)) inside)) (cases_lt i (rounds ranks v))

  writes_in_share : (v i k : ℕ) → v < ranks → i < count_in v → Mem k (writes (entry_in v i)) → IsInShare ranks root v (2 ^ low v) k
  writes_in_share v i k inside there w =
      let is = writes_round v i k inside w in
      let from = is.round.from in
      record { slot = is.slot; from = omega (arith, from); before = round_in_block ranks few v (back ranks k root) i is.round }

  pub gather_certified : IsCertifiedFor (Gather root) (made (Gather root) ranks bytes)
  unfolding made
  gather_certified =
      subst (λ (n : ℕ). IsCertified (made (Gather root) ranks bytes) (initial (Gather root) n) (wanted (Gather root) n)) (sym (length_plans ranks count entry)) (blueprint_certified ranks count entry first (wanted (Gather root) ranks) item_of_slot item_of_slot (TreeEdge ranks) bytes gather_send gather_recv (λ m. low m.child) level blueprint (block_cap ranks few root rooted) (block_load ranks few root rooted) (blocks_bounded ranks few root rooted count_in count_in_few entry_in entry_is_moving first (wanted (Gather root) ranks) (λ (k : ℕ). single k 0) (TreeEdge ranks) gather_send (λ k. refl) first_cap writes_in_share tree_messages.send_there) (blocks_small ranks few root rooted count_in count_in_few entry_in entry_is_moving))
