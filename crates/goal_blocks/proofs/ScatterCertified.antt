-- The scatter is certified, for every number of ranks, every root and every size: slot k holds the root's item for rank k
-- wherever it is written, and each slot is written once.
use Rattle.std.proofs.Common.{Some, ⊎_elim, ℕ, zero, suc, ◌+◌, ◌-◌, ◌^◌, ◌<◌, ◌≤◌, ◌≡◌, ◌==◌, ◌&&◌, ◌⊎◌, nat_lt, inl, inr, Bool, true, false, List, [], ◌∷◌, map, flat_map, length, Option, if◌then◌else◌, refl, sym, ap, ◌∙◌, subst, arith, eq-eqb}
use Rattle.std.proofs.Math.Pow.{pow_mono}
use Rattle.std.proofs.Math.Nat.{pow-suc}
use Rattle.std.proofs.lemmas.Bool.{lt-ltb, ltb-true, eqb-true, cases_lt, cases_eq}
use Rattle.std.proofs.lemmas.Nat.{pow_pos}
use Rattle.goal_limits.specs.Limits.{rank_limit}
use Rattle.goal_graph.specs.declared.action.OpId.{OpId}
use Rattle.goal_graph.specs.declared.plan.Kind.TheVariants.{Calc, Send, Recv}
use Rattle.goal_limits.specs.declared.collective.Collective.TheVariants.{Scatter}
use Rattle.goal_blocks.specs.Values.{Value, Store}
use Rattle.goal_blocks.specs.Certification.{IsCertified}
use Rattle.goal_blocks.specs.Collectives.{single, initial, is_value, wanted}
use Rattle.goal_blocks.specs.Certified.{IsCertifiedFor}
use Rattle.goal_blocks.specs.Entries.{Entry, receiving}
use Rattle.goal_blocks.specs.Positions.{ahead, back, low, rounds, parent, upward, share}
use Rattle.goal_blocks.specs.MadeRooted.{give_in, scatter_in}
use Rattle.goal_blocks.specs.Generated.{made}
use Rattle.goal_blocks.specs.Messages.{AreMessages}
use Rattle.goal_blocks.proofs.Orders.{Mem}
use Rattle.goal_blocks.proofs.EntryFacts.{slots_of_span, length_plans}
use Rattle.goal_blocks.proofs.Ring.{virtual_rank_zero_is_root, root_has_virtual_rank_zero}
use Rattle.goal_blocks.proofs.RingAndTree.{back_below, upward_some, upward_few}
use Rattle.goal_blocks.proofs.Trees.{rounds_few, child_below}
use Rattle.goal_blocks.proofs.Tree.{rounds_low, low_zero}
use Rattle.goal_blocks.proofs.TreeSizes.{block_cap, block_load, cap_of_block}
use Rattle.goal_blocks.proofs.BlockBounds.{IsMoving, own_block, child_block, blocks_small, blocks_bounded}
use Rattle.goal_blocks.proofs.TreeCases.{scatter_gives_first, scatter_takes, scatter_gives}
use Rattle.goal_blocks.proofs.TreeMessages.{TreeEdge, above, above_is_parent, above_inside, back_from_ahead_is_virtual_rank, child_end, parent_end, AreTreeEnds, down_messages}
use Rattle.goal_blocks.proofs.Shares.{IsInShare, mem_share_is_in_share, in_share_is_mem_share}
use Rattle.goal_blocks.proofs.Blueprint.{slots_moved_by, touches, writes, Precedes, now, Origin, Final, IsBlueprint, blueprint_certified}

-- what a send requires: the receive, if there is one
abbrev needs_of_send : ℕ → List ℕ
needs_of_send zero = []
needs_of_send (suc w) = 0 ∷ []

module _ (ranks root bytes : ℕ) (rooted : root < ranks) (few : ranks ≤ rank_limit) where
  abbrev entry_in : ℕ → ℕ → Entry
  entry_in v i = scatter_in ranks root bytes v i

  abbrev count_in : ℕ → ℕ
  count_in v = upward v + rounds ranks v

  abbrev count : ℕ → ℕ
  count r = count_in (back ranks r root)

  abbrev entry : ℕ → ℕ → Entry
  entry r i = entry_in (back ranks r root) i

  abbrev first : Store
  first = initial (Scatter root) ranks

  -- a slot that is touched holds the root's item of its number
  abbrev item_of_slot : ℕ → ℕ → ℕ → Value
  item_of_slot r i k = single root k

  -- the number of the send of a round
  abbrev send_number : ℕ → ℕ → ℕ
  send_number v j = upward v + (rounds ranks v - 1 - j)

  entry_receives : (v : ℕ) → 0 < v → entry_in v 0 ≡ receiving bytes (parent ranks root v) (low v) (share ranks root v (2 ^ low v))
  entry_receives v some = sym (scatter_takes ranks root bytes v 0 some refl)

  entry_sends : (v j : ℕ) → j < rounds ranks v → entry_in v (send_number v j) ≡ give_in ranks root bytes v j (needs_of_send v)
  entry_sends zero j lt =
      let e : rounds ranks 0 - 1 - send_number 0 j ≡ j = omega (arith, lt) in
      sym (scatter_gives_first ranks root bytes 0 (send_number 0 j) refl) ∙ ap (λ (n : ℕ). give_in ranks root bytes 0 n []) e
  entry_sends (suc w) j lt =
      let one = upward_some (suc w) (omega arith) in
      let e : rounds ranks (suc w) - 1 - (send_number (suc w) j - 1) ≡ j = omega (arith, lt, one) in
      sym (scatter_gives ranks root bytes (suc w) (send_number (suc w) j) (omega arith) (omega (arith, one))) ∙ ap (λ (n : ℕ). give_in ranks root bytes (suc w) n (0 ∷ [])) e

  -- an operation is the receive of a virtual rank above 0, or the send of a round
  record IsGiving (v i : ℕ) : Type 0 where
    round : ℕ
    inside : round < rounds ranks v
    is : send_number v round ≡ i

  cases_number : (v i : ℕ) → i < count_in v → ((0 < v) × (0 ≡ i)) ⊎ IsGiving v i
  cases_number zero i lt =
      inr (record { round = rounds ranks 0 - 1 - i; inside = omega (arith, lt); is = omega (arith, lt) })
  cases_number (suc w) zero lt = inl (omega arith, refl)
  cases_number (suc w) (suc i) lt =
      let one = upward_some (suc w) (omega arith) in
      inr (record { round = rounds ranks (suc w) - 1 - i; inside = omega (arith, lt, one); is = omega (arith, lt, one) })

  tree_ends : AreTreeEnds ranks root bytes rooted few count_in entry_in (λ v. 0) send_number
  tree_ends = record {
    up_there = λ v some inside. let one = upward_some v some in omega (arith, one);
    down_there = λ v j inside lt. omega (arith, lt);
    each = λ v i inside there. inr (⊎_elim (λ p. inl p) (λ g. inr (g.round, g.inside, g.is)) (cases_number v i there));
  }

  abbrev give_end : TreeEdge ranks → OpId
  give_end = parent_end ranks root bytes rooted few count_in entry_in (λ v. 0) send_number

  abbrev take_end : TreeEdge ranks → OpId
  take_end = child_end ranks root bytes rooted few count_in entry_in (λ v. 0) send_number

  tree_messages : AreMessages ranks count entry (TreeEdge ranks) bytes give_end take_end (λ m. low m.child)
  tree_messages = down_messages ranks root bytes rooted few count_in entry_in (λ v. 0) send_number tree_ends (λ v some inside. ap (λ (x : Entry). x.kind) (entry_receives v some)) (λ v j inside lt. ap (λ (x : Entry). x.kind) (entry_sends v j lt))

  -- the level of an operation is the virtual rank of the child whose message it sends or receives
  level_in : ℕ → ℕ → ℕ
  level_in zero i = 2 ^ (rounds ranks 0 - 1 - i)
  level_in (suc w) zero = suc w
  level_in (suc w) (suc i) = suc w + 2 ^ (rounds ranks (suc w) - 1 - i)

  abbrev level : ℕ → ℕ → ℕ
  level r i = level_in (back ranks r root) i

  level_takes : (v : ℕ) → 0 < v → level_in v 0 ≡ v
  unfolding level_in
  level_takes zero some = absurd (omega (arith, some))
  level_takes (suc w) some = refl

  level_gives : (v j : ℕ) → j < rounds ranks v → level_in v (send_number v j) ≡ v + 2 ^ j
  unfolding level_in
  level_gives zero j lt =
      let e : rounds ranks 0 - 1 - (upward 0 + (rounds ranks 0 - 1 - j)) ≡ j = omega (arith, lt) in
      rw e (omega arith)
  level_gives (suc w) j lt =
      let one = upward_some (suc w) (omega arith) in
      let n : send_number (suc w) j ≡ suc (rounds ranks (suc w) - 1 - j) = omega (arith, one) in
      let e : rounds ranks (suc w) - 1 - (rounds ranks (suc w) - 1 - j) ≡ j = omega (arith, lt) in
      ap (λ (i : ℕ). level_in (suc w) i) n ∙ ap (λ (i : ℕ). suc w + 2 ^ i) e

  -- a send requires only the receive of its rank
  only_sends_need_receive : (v i k : ℕ) → i < count_in v → Mem k (entry_in v i).needs → (0 < v) × (0 ≡ k) × IsGiving v i
  only_sends_need_receive v i k there m = ⊎_elim (λ p. absurd (subst (λ (x : Entry). Mem k x.needs) (entry_receives v p.0) (subst (λ (n : ℕ). Mem k (entry_in v n).needs) (sym p.1) m))) (λ g. let is = go v (subst (λ (x : Entry). Mem k x.needs) (entry_sends v g.round g.inside) (subst (λ (n : ℕ). Mem k (entry_in v n).needs) (sym g.is) m)) in (is.0, is.1, g)) (cases_number v i there)
    where
      go : (v : ℕ) → Mem k (needs_of_send v) → (0 < v) × (0 ≡ k)
      go zero n = absurd n
      go (suc w) (inl e) = (omega arith, e)
      go (suc w) (inr n) = absurd n

  needs_are_lower : (v i k : ℕ) → i < count_in v → Mem k (entry_in v i).needs → (k < count_in v) × (level_in v k < level_in v i)
  needs_are_lower v i k there m =
      let is = only_sends_need_receive v i k there m in
      let g = is.2 in
      let one = upward_some v is.0 in
      let a = ap (λ (n : ℕ). level_in v n) (sym is.1) ∙ level_takes v is.0 in
      let b = ap (λ (n : ℕ). level_in v n) (sym g.is) ∙ level_gives v g.round g.inside in
      let some = pow_pos g.round in
      let e = is.1 in
      (omega (arith, one, e), omega (arith, a, b, some))

  -- only the receive writes
  only_receive_writes : (v i k : ℕ) → v < ranks → i < count_in v → Mem k (writes (entry_in v i)) → (0 < v) × (0 ≡ i) × IsInShare ranks root v (2 ^ low v) k
  only_receive_writes v i k inside there w =
      ⊎_elim (λ p. (p.0, p.1, mem_share_is_in_share ranks root v (2 ^ low v) rooted inside (pow_pos (low v)) k (subst (λ (x : Entry). Mem k (writes x)) (entry_receives v p.0) (subst (λ (n : ℕ). Mem k (writes (entry_in v n))) (sym p.1) w)))) (λ g. absurd (subst (λ (x : Entry). Mem k (writes x)) (entry_sends v g.round g.inside) (subst (λ (n : ℕ). Mem k (writes (entry_in v n))) (sym g.is) w))) (cases_number v i there)

  receive_writes_share : (v k : ℕ) → 0 < v → v < ranks → IsInShare ranks root v (2 ^ low v) k → Mem k (writes (entry_in v 0))
  receive_writes_share v k some inside is =
      subst (λ (x : Entry). Mem k (writes x)) (sym (entry_receives v some)) (in_share_is_mem_share ranks root v (2 ^ low v) rooted inside (pow_pos (low v)) k is.slot is.from is.before)

  -- each send requires the receive
  receive_precedes_send : (v j : ℕ) → 0 < v → j < rounds ranks v → Precedes (entry_in v) 0 (send_number v j)
  receive_precedes_send v j some lt = now (subst (λ (x : Entry). Mem 0 x.needs) (sym (entry_sends v j lt)) (go v some))
    where
      go : (v : ℕ) → 0 < v → Mem 0 (needs_of_send v)
      go zero some = absurd (omega (arith, some))
      go (suc w) some = inl refl

  conflicts_are_ordered : (v i j k : ℕ) → v < ranks → i < count_in v → j < count_in v → (i ≡ j → ⊥) → Mem k (writes (entry_in v j)) → Precedes (entry_in v) i j ⊎ Precedes (entry_in v) j i
  conflicts_are_ordered v i j k inside l m differ w =
      let at_j = only_receive_writes v j k inside m w in
      ⊎_elim (λ p. absurd (differ (sym p.1 ∙ at_j.1))) (λ g. inr (subst (λ (n : ℕ). Precedes (entry_in v) n i) at_j.1 (subst (λ (n : ℕ). Precedes (entry_in v) 0 n) g.is (receive_precedes_send v g.round at_j.0 g.inside)))) (cases_number v i l)

  -- the slots of a child's block are in its parent's block
  part_of_block : (v j k : ℕ) → j < rounds ranks v → IsInShare ranks root (v + 2 ^ j) (2 ^ j) k → IsInShare ranks root v (2 ^ low v) k
  part_of_block v j k lt is =
      let most = rounds_low ranks few v in
      let more : 2 ^ suc j ≤ 2 ^ low v = pow_mono (omega (arith, lt, most)) in
      let up = pow-suc 2 j in
      let from = is.from in
      let before = is.before in
      record { slot = is.slot; from = omega (arith, from); before = omega (arith, before, more, up) }

  first_root : (r k : ℕ) → r < ranks → k < ranks → r ≡ root → first r k ≡ single root k
  unfolding initial
  first_root r k inside slot e = rw (lt-ltb r ranks inside, eq-eqb r root e, lt-ltb k ranks slot) refl

  abbrev ScatterOrigin : ℕ → ℕ → ℕ → Type 0
  ScatterOrigin r i k = Origin ranks count entry first (wanted (Scatter root) ranks) item_of_slot item_of_slot r i k

  touched_has_origin : (r i k : ℕ) → r < ranks → i < count r → ((room : ℕ) (from t : Option ℕ) → (entry r i).kind ≡ Recv room from t → ⊥) → Mem k (touches (entry r i)) → ScatterOrigin r i k
  touched_has_origin r i k inside there not_receive t = ⊎_elim (λ p. absurd (not_receive _ _ _ (ap (λ (n : ℕ). (entry r n).kind) (sym p.1) ∙ ap (λ (x : Entry). x.kind) (entry_receives (back ranks r root) p.0)))) (λ g. given g (mem_share_is_in_share ranks root (back ranks r root + 2 ^ g.round) (2 ^ g.round) rooted (child_below ranks few (back ranks r root) g.round low_rank g.inside) (pow_pos g.round) k (subst (λ (x : Entry). Mem k (touches x)) (entry_sends (back ranks r root) g.round g.inside) (subst (λ (n : ℕ). Mem k (touches (entry r n))) (sym g.is) t)))) (cases_number (back ranks r root) i there)
    where
      low_rank : back ranks r root < ranks
      low_rank = back_below ranks r root inside

      given : (g : IsGiving (back ranks r root) i) → IsInShare ranks root (back ranks r root + 2 ^ g.round) (2 ^ g.round) k → ScatterOrigin r i k
      given g is = ⊎_elim (λ some. inr (0, (let one = upward_some (back ranks r root) some in omega (arith, one)), receive_writes_share (back ranks r root) k some low_rank (part_of_block (back ranks r root) g.round k g.inside is), subst (λ (n : ℕ). Precedes (entry r) 0 n) g.is (receive_precedes_send (back ranks r root) g.round some g.inside), refl, λ l m w. inl (inr (sym (only_receive_writes (back ranks r root) l k low_rank m w).1)))) (λ none. inl (first_root r k inside is.slot (virtual_rank_zero_is_root ranks r root inside rooted (omega (arith, none))), λ j m w. absurd (let some = (only_receive_writes (back ranks r root) j k low_rank m w).0 in omega (arith, none, some)))) (cases_lt 0 (back ranks r root))

  nothing_wanted_elsewhere : (r k : ℕ) (u : Value) → (k ≡ r → ⊥) → wanted (Scatter root) ranks r k u ≡ true
  unfolding wanted
  nothing_wanted_elsewhere r k u other = go (nat_lt r ranks) (k == r) refl
    where
      go : (a b : Bool) → (k == r) ≡ b → (if a then (if b then is_value u (single root r) else true) else true) ≡ true
      go true true e = absurd (other (eqb-true k r e))
      go true false e = refl
      go false b e = refl

  wanted_at_end : (r : ℕ) → r < ranks → wanted (Scatter root) ranks r r (single root r) ≡ true
  unfolding wanted is_value
  wanted_at_end r inside = rw (lt-ltb r ranks inside, eq-eqb r r refl, eq-eqb root root refl) refl

  abbrev ScatterFinal : ℕ → ℕ → Type 0
  ScatterFinal r k = Final ranks count entry first (wanted (Scatter root) ranks) item_of_slot item_of_slot r k

  final_own : (r : ℕ) → r < ranks → ScatterFinal r r
  final_own r inside = ⊎_elim (λ some. inr (inr (0, (let one = upward_some (back ranks r root) some in omega (arith, one)), receive_writes_share (back ranks r root) r some low_rank own, λ l m w. inl (sym (only_receive_writes (back ranks r root) l r low_rank m w).1), wanted_at_end r inside))) (λ none. inr (inl (λ j m w. let some = (only_receive_writes (back ranks r root) j r low_rank m w).0 in omega (arith, none, some), subst (λ (u : Value). wanted (Scatter root) ranks r r u ≡ true) (sym (first_root r r inside inside (virtual_rank_zero_is_root ranks r root inside rooted (omega (arith, none))))) (wanted_at_end r inside)))) (cases_lt 0 (back ranks r root))
    where
      low_rank : back ranks r root < ranks
      low_rank = back_below ranks r root inside

      own : IsInShare ranks root (back ranks r root) (2 ^ low (back ranks r root)) r
      own = record { slot = inside; from = omega arith; before = (let some = pow_pos (low (back ranks r root)) in omega (arith, some)) }

  slots_end_as_wanted : (r k : ℕ) → r < ranks → ScatterFinal r k
  slots_end_as_wanted r k inside =
      ⊎_elim (λ same. subst (λ (n : ℕ). ScatterFinal r n) (sym same) (final_own r inside)) (λ other. inl (λ u. nothing_wanted_elsewhere r k u other)) (cases_eq k r)

  no_calc : (v i nanos : ℕ) → i < count_in v → (entry_in v i).kind ≡ Calc nanos → ⊥
  no_calc v i nanos there e =
      ⊎_elim (λ p. let f = sym (ap (λ (n : ℕ). (entry_in v n).kind) (sym p.1) ∙ ap (λ (x : Entry). x.kind) (entry_receives v p.0)) ∙ e in cc f) (λ g. let f = sym (ap (λ (n : ℕ). (entry_in v n).kind) (sym g.is) ∙ ap (λ (x : Entry). x.kind) (entry_sends v g.round g.inside)) ∙ e in cc f) (cases_number v i there)

  module _ (m : TreeEdge ranks) where
    abbrev up_rank : ℕ
    up_rank = above ranks root bytes rooted few m

    up_low : up_rank < ranks
    up_low = above_inside ranks root bytes rooted few m

    -- both ends of a message have the slots of the child's block
    same_moved : slots_moved_by (entry_in up_rank (send_number up_rank (low m.child))) ≡ slots_moved_by (entry_in m.child 0)
    same_moved =
        ap slots_moved_by (entry_sends up_rank (low m.child) (above_is_parent ranks root bytes rooted few m).round) ∙ ap (λ (c : ℕ). flat_map slots_of_span (share ranks root c (2 ^ low m.child))) (above_is_parent ranks root bytes rooted few m).child ∙ sym (ap slots_moved_by (entry_receives m.child m.some))

    message_keeps_values : map (λ (k : ℕ). single root k) (slots_moved_by (entry (ahead ranks up_rank root) (send_number up_rank (low m.child)))) ≡ map (λ (k : ℕ). single root k) (slots_moved_by (entry (ahead ranks m.child root) 0))
    message_keeps_values =
        ap (λ (ks : List ℕ). map (λ (k : ℕ). single root k) ks) (rw (back_from_ahead_is_virtual_rank ranks root bytes rooted few up_rank up_low, back_from_ahead_is_virtual_rank ranks root bytes rooted few m.child m.inside) same_moved)

    same_level : level (ahead ranks up_rank root) (send_number up_rank (low m.child)) ≡ level (ahead ranks m.child root) 0
    same_level =
        rw (back_from_ahead_is_virtual_rank ranks root bytes rooted few up_rank up_low, back_from_ahead_is_virtual_rank ranks root bytes rooted few m.child m.inside) (level_gives up_rank (low m.child) (above_is_parent ranks root bytes rooted few m).round ∙ (above_is_parent ranks root bytes rooted few m).child ∙ sym (level_takes m.child m.some))

  blueprint : IsBlueprint ranks count entry first (wanted (Scatter root) ranks) item_of_slot item_of_slot (TreeEdge ranks) bytes give_end take_end (λ m. low m.child) level
  blueprint = record {
    messages = tree_messages;
    lower = λ r i k there m. needs_are_lower (back ranks r root) i k there.1 m;
    same_level = same_level;
    race = λ r i j k inside l m differ t w. conflicts_are_ordered (back ranks r root) i j k (back_below ranks r root inside) l m differ w;
    source = λ r i k there not_receive t. touched_has_origin r i k there.0 there.1 not_receive t;
    summed = λ r i nanos there k. absurd (no_calc (back ranks r root) i nanos there.1 k);
    kept = message_keeps_values;
    final = slots_end_as_wanted;
  }

  first_empty_elsewhere : (r k : ℕ) → (ranks ≤ r) ⊎ ((r ≡ root → ⊥) ⊎ (ranks ≤ k)) → first r k ≡ []
  unfolding initial
  first_empty_elsewhere r k out = go (nat_lt r ranks) refl (r == root) refl (nat_lt k ranks) refl
    where
      go : (a : Bool) → nat_lt r ranks ≡ a → (b : Bool) → (r == root) ≡ b → (c : Bool) → nat_lt k ranks ≡ c → (if a then (if b && c then single root k else []) else []) ≡ []
      go true e true f true g = absurd (⊎_elim (λ past. let lt = ltb-true r ranks e in omega (arith, past, lt)) (λ more. ⊎_elim (λ other. other (eqb-true r root f)) (λ past. let lt = ltb-true k ranks g in omega (arith, past, lt)) more) out)
      go true e true f false g = refl
      go true e false f c g = refl
      go false e b f c g = refl

  first_cap : (r k : ℕ) → length (first r k) ≤ block_cap ranks few root rooted r k
  first_cap r k =
      ⊎_elim (λ inside. ⊎_elim (λ same. ⊎_elim (λ slot. held inside same slot) (λ past. nothing (inr (inr past))) (cases_lt k ranks)) (λ other. nothing (inr (inl other))) (cases_eq r root)) (λ past. nothing (inl past)) (cases_lt r ranks)
    where
      nothing : (ranks ≤ r) ⊎ ((r ≡ root → ⊥) ⊎ (ranks ≤ k)) → length (first r k) ≤ block_cap ranks few root rooted r k
      nothing out = let none = ap length (first_empty_elsewhere r k out) in omega (arith, none)

      held : r < ranks → r ≡ root → k < ranks → length (first r k) ≤ block_cap ranks few root rooted r k
      held inside same slot =
          let zero = ap (λ (q : ℕ). back ranks q root) same ∙ root_has_virtual_rank_zero ranks root in
          let top = ap low zero ∙ low_zero in
          let under = back_below ranks k root slot in
          let all : back ranks k root < back ranks r root + 2 ^ low (back ranks r root) = subst (λ (n : ℕ). back ranks k root < back ranks r root + 2 ^ n) (sym top) (omega (arith, under, few)) in
          let one = cap_of_block ranks few root rooted r k slot (omega (arith, zero)) all in
          let is = ap length (first_root r k inside slot same) in
          omega (arith, one, is)

  count_in_few : (v : ℕ) → count_in v ≤ 17
  count_in_few v = let most = rounds_few ranks few v in let one = upward_few v in omega (arith, most, one)

  scatter_entry_is_moving : (v i n : ℕ) → v < ranks → i < count_in v → IsMoving ranks few root rooted v n (entry_in v i)
  scatter_entry_is_moving v i n inside there =
      ⊎_elim (λ p. subst (λ (j : ℕ). IsMoving ranks few root rooted v n (entry_in v j)) p.1 (subst (λ (x : Entry). IsMoving ranks few root rooted v n x) (sym (entry_receives v p.0)) (own_block ranks few root rooted v n (Recv bytes (Some (parent ranks root v)) (Some (low v))) [] inside))) (λ g. subst (λ (j : ℕ). IsMoving ranks few root rooted v n (entry_in v j)) g.is (subst (λ (x : Entry). IsMoving ranks few root rooted v n x) (sym (entry_sends v g.round g.inside)) (child_block ranks few root rooted v n (Send bytes (ahead ranks (v + 2 ^ g.round) root) g.round) (needs_of_send v) inside g.round g.inside))) (cases_number v i there)

  pub scatter_certified : IsCertifiedFor (Scatter root) (made (Scatter root) ranks bytes)
  unfolding made
  scatter_certified =
      subst (λ (n : ℕ). IsCertified (made (Scatter root) ranks bytes) (initial (Scatter root) n) (wanted (Scatter root) n)) (sym (length_plans ranks count entry)) (blueprint_certified ranks count entry first (wanted (Scatter root) ranks) item_of_slot item_of_slot (TreeEdge ranks) bytes give_end take_end (λ m. low m.child) level blueprint (block_cap ranks few root rooted) (block_load ranks few root rooted) (blocks_bounded ranks few root rooted count_in count_in_few entry_in scatter_entry_is_moving first (wanted (Scatter root) ranks) (λ (k : ℕ). single root k) (TreeEdge ranks) give_end (λ k. refl) first_cap (λ v i k inside there w. (only_receive_writes v i k inside there w).2) tree_messages.send_there) (blocks_small ranks few root rooted count_in count_in_few entry_in scatter_entry_is_moving))
