-- The broadcast is certified, for every number of ranks, every root and every size.
use Rattle.std.proofs.Common.{ℕ, zero, suc, ◌+◌, ◌^◌, ◌<◌, ◌≤◌, ◌≡◌, ◌==◌, ◌&&◌, ◌⊎◌, nat_lt, inl, inr, Bool, true, false, List, [], ◌∷◌, map, length, All, Option, Some, if◌then◌else◌, refl, sym, ap, ◌∙◌, subst, arith, eq-eqb}
use Rattle.std.specs.List.{range_with_len, sum_by}
use Rattle.std.proofs.lemmas.Bool.{lt-ltb}
use Rattle.goal_limits.specs.Limits.{weight_limit, rank_limit}
use Rattle.goal_graph.specs.declared.plan.Kind.{Kind}
use Rattle.goal_graph.specs.declared.plan.Kind.TheVariants.{Calc, Send, Recv}
use Rattle.goal_graph.specs.declared.plan.Note.TheVariants.{Moves}
use Rattle.goal_limits.specs.declared.limits.TheConstants.{MAX_BYTES}
use Rattle.goal_limits.specs.declared.collective.Collective.TheVariants.{Bcast}
use Rattle.goal_blocks.specs.Slots.{slots_from}
use Rattle.goal_blocks.specs.Values.{Value, Store}
use Rattle.goal_blocks.specs.Weight.{sum_below}
use Rattle.goal_blocks.specs.Certification.{NamesLowSlots, moved_count, IsSmall, IsCertified}
use Rattle.goal_blocks.specs.Collectives.{single, initial, is_value, wanted}
use Rattle.goal_blocks.specs.Certified.{IsCertifiedFor}
use Rattle.goal_blocks.specs.Entries.{Entry, notes_of}
use Rattle.goal_blocks.specs.Positions.{back, digits}
use Rattle.goal_blocks.specs.Made.{bcast_in, bcast_count}
use Rattle.goal_blocks.specs.Generated.{made}
use Rattle.goal_blocks.proofs.Orders.{Mem}
use Rattle.goal_blocks.proofs.Slim.{All_one}
use Rattle.goal_blocks.proofs.EntryFacts.{length_plans}
use Rattle.goal_blocks.proofs.Ring.{virtual_rank_zero_is_root}
use Rattle.goal_blocks.proofs.RingAndTree.{back_below, digits_some}
use Rattle.goal_blocks.proofs.MadeFits.{bcast_few, bcast_fits}
use Rattle.goal_blocks.proofs.BcastOfTwo.{successor_slot_is_not_zero}
use Rattle.goal_blocks.proofs.BcastPaired.{TreeHop, tree_send, tree_recv, tree_messages}
use Rattle.goal_blocks.proofs.Sizes.{sum_below_few, sum_low_few, entries_small}
use Rattle.goal_blocks.proofs.Totals.{entries_few}
use Rattle.goal_blocks.proofs.Blueprint.{slots_moved_by, touches, writes, Precedes, now, IsBlueprint, IsBounded, blueprint_certified}

-- the tag of a send or a receive
abbrev pub tag_of : Kind → ℕ
tag_of (Send bytes to tag) = tag
tag_of (Recv room from (Some tag)) = tag
tag_of _ = 0

module _ (ranks root bytes : ℕ) (rooted : root < ranks) (few : ranks ≤ rank_limit) where
  abbrev count : ℕ → ℕ
  count r = bcast_count ranks (back ranks r root)

  abbrev entry : ℕ → ℕ → Entry
  entry r i = bcast_in ranks root bytes (back ranks r root) i

  abbrev first : Store
  first = initial (Bcast root) ranks

  -- every slot that is touched holds the root's value
  abbrev root_value : ℕ → ℕ → ℕ → Value
  root_value r i k = single root 0

  abbrev level : ℕ → ℕ → ℕ
  level r i = tag_of (entry r i).kind

  needs_are_lower : (v i k : ℕ) → v < ranks → Mem k (bcast_in ranks root bytes v i).needs → (k < bcast_count ranks v) × (tag_of (bcast_in ranks root bytes v k).kind < tag_of (bcast_in ranks root bytes v i).kind)
  unfolding bcast_in bcast_count
  needs_are_lower zero i k inside m = absurd m
  needs_are_lower (suc w) zero k inside m = absurd m
  needs_are_lower (suc w) (suc i) k inside (inr m) = absurd m
  needs_are_lower (suc w) (suc i) k inside (inl e) =
      subst (λ (n : ℕ). (n < bcast_count ranks (suc w)) × (tag_of (bcast_in ranks root bytes (suc w) n).kind < digits (suc w) + i)) e (omega arith, (let some = digits_some (suc w) (omega arith) (omega arith) in omega arith))

  conflicts_are_ordered : (v i j k : ℕ) → (i ≡ j → ⊥) → Mem k (touches (bcast_in ranks root bytes v i)) → Mem k (writes (bcast_in ranks root bytes v j)) → Precedes (bcast_in ranks root bytes v) i j ⊎ Precedes (bcast_in ranks root bytes v) j i
  unfolding bcast_in
  conflicts_are_ordered zero i j k differ t w = absurd w
  conflicts_are_ordered (suc v) zero zero k differ t w = absurd (differ refl)
  conflicts_are_ordered (suc v) (suc i) zero k differ t w = inr (now (inl refl))
  conflicts_are_ordered (suc v) i (suc j) k differ t w = absurd w

  first_at_root : (r : ℕ) → r < ranks → back ranks r root ≡ 0 → first r 0 ≡ single root 0
  unfolding initial
  first_at_root r inside e = rw (lt-ltb r ranks inside, eq-eqb r root (virtual_rank_zero_is_root ranks r root inside rooted e)) refl

  moved_one : (v i : ℕ) → slots_moved_by (bcast_in ranks root bytes v i) ≡ 0 ∷ []
  unfolding bcast_in slots_from
  moved_one zero i = refl
  moved_one (suc v) zero = refl
  moved_one (suc v) (suc i) = refl

  writes_none : (v i k : ℕ) → (v ≡ 0) → Mem k (writes (bcast_in ranks root bytes v i)) → ⊥
  unfolding bcast_in
  writes_none zero i k e m = m
  writes_none (suc v) i k e m = omega (arith, e)

  -- on ranks other than the root the first operation receives, and only it writes
  writer_is_first_receive : (w i k : ℕ) → Mem k (writes (bcast_in ranks root bytes (suc w) i)) → (i ≡ 0) × (0 ≡ k)
  unfolding bcast_in slots_from
  writer_is_first_receive w zero k (inl e) = (refl, e)
  writer_is_first_receive w zero k (inr m) = absurd m
  writer_is_first_receive w (suc i) k m = absurd m

  first_receive_writes_slot_zero : (w : ℕ) → Mem 0 (writes (bcast_in ranks root bytes (suc w) 0))
  unfolding bcast_in slots_from
  first_receive_writes_slot_zero w = inl refl

  touches_zero : (v i k : ℕ) → Mem k (touches (bcast_in ranks root bytes v i)) → 0 ≡ k
  unfolding bcast_in slots_from
  touches_zero zero i k (inl e) = e
  touches_zero zero i k (inr m) = absurd m
  touches_zero (suc v) zero k (inl e) = e
  touches_zero (suc v) zero k (inr m) = absurd m
  touches_zero (suc v) (suc i) k (inl e) = e
  touches_zero (suc v) (suc i) k (inr m) = absurd m

  wanted_at_end : (r : ℕ) → r < ranks → wanted (Bcast root) ranks r 0 (single root 0) ≡ true
  unfolding wanted is_value
  wanted_at_end r inside = rw (lt-ltb r ranks inside, eq-eqb root root refl) refl

  nothing_wanted_elsewhere : (r k : ℕ) (v : Value) → wanted (Bcast root) ranks r (suc k) v ≡ true
  unfolding wanted
  nothing_wanted_elsewhere r k v = rw (successor_slot_is_not_zero k) (go (nat_lt r ranks))
    where
      go : (b : Bool) → (if b then true else true) ≡ true
      go true = refl
      go false = refl

  touched_has_origin : (r i k v : ℕ) → r < ranks → back ranks r root ≡ v → i < bcast_count ranks v → ((room : ℕ) (from t : Option ℕ) → (bcast_in ranks root bytes v i).kind ≡ Recv room from t → ⊥) → 0 ≡ k → Mem k (touches (bcast_in ranks root bytes v i)) → ((first r k ≡ root_value r i k) × ((j : ℕ) → j < bcast_count ranks v → Mem k (writes (bcast_in ranks root bytes v j)) → (j ≡ i) ⊎ Precedes (bcast_in ranks root bytes v) i j)) ⊎ ((j : ℕ) × (j < bcast_count ranks v) × Mem k (writes (bcast_in ranks root bytes v j)) × Precedes (bcast_in ranks root bytes v) j i × (root_value r j k ≡ root_value r i k) × ((l : ℕ) → l < bcast_count ranks v → Mem k (writes (bcast_in ranks root bytes v l)) → ((l ≡ i) ⊎ (l ≡ j)) ⊎ (Precedes (bcast_in ranks root bytes v) l j ⊎ Precedes (bcast_in ranks root bytes v) i l)))
  unfolding bcast_in
  touched_has_origin r i k zero inside e there not_receive z t =
      inl (subst (λ (n : ℕ). first r n ≡ single root 0) z (first_at_root r inside e), λ j l w. absurd (writes_none zero j k refl w))
  touched_has_origin r zero k (suc w) inside e there not_receive z t = absurd (not_receive _ _ _ refl)
  touched_has_origin r (suc i) k (suc w) inside e there not_receive z t =
      inr (0, omega (arith, there), subst (λ (n : ℕ). Mem n (writes (bcast_in ranks root bytes (suc w) 0))) z (first_receive_writes_slot_zero w), now (inl refl), refl, λ l m u. inl (inr (writer_is_first_receive w l k u).0))

  slots_end_as_wanted : (r k v : ℕ) → r < ranks → back ranks r root ≡ v → ((u : Value) → wanted (Bcast root) ranks r k u ≡ true) ⊎ ((((j : ℕ) → j < bcast_count ranks v → Mem k (writes (bcast_in ranks root bytes v j)) → ⊥) × (wanted (Bcast root) ranks r k (first r k) ≡ true)) ⊎ ((j : ℕ) × (j < bcast_count ranks v) × Mem k (writes (bcast_in ranks root bytes v j)) × ((l : ℕ) → l < bcast_count ranks v → Mem k (writes (bcast_in ranks root bytes v l)) → (l ≡ j) ⊎ Precedes (bcast_in ranks root bytes v) l j) × (wanted (Bcast root) ranks r k (root_value r j k) ≡ true)))
  unfolding bcast_count
  slots_end_as_wanted r (suc k) v inside e = inl (λ u. nothing_wanted_elsewhere r k u)
  slots_end_as_wanted r zero zero inside e =
      inr (inl (λ j l w. writes_none zero j 0 refl w, subst (λ (u : Value). wanted (Bcast root) ranks r 0 u ≡ true) (sym (first_at_root r inside e)) (wanted_at_end r inside)))
  slots_end_as_wanted r zero (suc w) inside e =
      inr (inr (0, omega arith, first_receive_writes_slot_zero w, λ l m u. inl (writer_is_first_receive w l 0 u).0, wanted_at_end r inside))

  no_calc : (v i nanos : ℕ) → (bcast_in ranks root bytes v i).kind ≡ Calc nanos → ⊥
  unfolding bcast_in
  no_calc zero i nanos e = cc e
  no_calc (suc v) zero nanos e = cc e
  no_calc (suc v) (suc i) nanos e = cc e

  blueprint : IsBlueprint ranks count entry first (wanted (Bcast root) ranks) root_value root_value (TreeHop ranks root bytes rooted few) bytes (tree_send ranks root bytes rooted few) (tree_recv ranks root bytes rooted few) (λ h. h.round) level
  blueprint = record {
    messages = tree_messages ranks root bytes rooted few;
    lower = λ r i k there m. needs_are_lower (back ranks r root) i k (back_below ranks r root there.0) m;
    same_level = λ h. ap tag_of ((tree_messages ranks root bytes rooted few).sent h) ∙ sym (ap tag_of ((tree_messages ranks root bytes rooted few).received h));
    race = λ r i j k inside l m differ t w. conflicts_are_ordered (back ranks r root) i j k differ t w;
    source = λ r i k there not_receive t. touched_has_origin r i k (back ranks r root) there.0 refl there.1 not_receive (touches_zero (back ranks r root) i k t) t;
    summed = λ r i nanos there k. absurd (no_calc (back ranks r root) i nanos k);
    kept = λ h. ap (λ (ks : List ℕ). map (λ (k : ℕ). single root 0) ks) (moved_one (back ranks (tree_send ranks root bytes rooted few h).rank root) (tree_send ranks root bytes rooted few h).op ∙ sym (moved_one (back ranks (tree_recv ranks root bytes rooted few h).rank root) (tree_recv ranks root bytes rooted few h).op));
    final = λ r k inside. slots_end_as_wanted r k (back ranks r root) inside refl;
  }

  -- a contribution in slot 0 of each rank
  cap : ℕ → ℕ → ℕ
  cap r zero = 1
  cap r (suc k) = 0

  first_cap : (r k : ℕ) → length (first r k) ≤ cap r k
  unfolding initial cap
  first_cap r zero = go (nat_lt r ranks) ((r == root) && (0 == 0))
    where
      go : (a b : Bool) → length (if a then (if b then single root 0 else []) else []) ≤ 1
      go true true = omega arith
      go true false = omega arith
      go false b = omega arith
  first_cap r (suc k) = rw (successor_slot_is_not_zero k) (go (nat_lt r ranks) (r == root))
    where
      go : (a b : Bool) → length (if a then (if b && false then single root 0 else []) else []) ≤ 0
      go true true = omega arith
      go true false = omega arith
      go false b = omega arith

  writes_zero : (v i k : ℕ) → Mem k (writes (bcast_in ranks root bytes v i)) → 0 ≡ k
  writes_zero zero i k w = absurd (writes_none zero i k refl w)
  writes_zero (suc v) i k w = (writer_is_first_receive v i k w).1

  cap_sum : (r : ℕ) → sum_below (2 ^ 32) (cap r) ≤ 1
  unfolding cap
  cap_sum r = sum_low_few (2 ^ 32) 1 1 (cap r) (λ k. each k) (λ k l. none k l)
    where
      each : (k : ℕ) → cap r k ≤ 1
      each zero = omega arith
      each (suc k) = omega arith

      none : (k : ℕ) → 1 ≤ k → cap r k ≡ 0
      none zero l = absurd (omega (arith, l))
      none (suc k) l = refl

  abbrev load : ℕ → ℕ → ℕ
  load r i = 1

  blueprint_is_bounded : bytes ≤ MAX_BYTES → IsBounded ranks count entry first (wanted (Bcast root) ranks) root_value root_value (TreeHop ranks root bytes rooted few) (tree_send ranks root bytes rooted few) cap load
  unfolding cap
  blueprint_is_bounded size = record {
    first_cap = first_cap;
    leaves_cap = λ r i k there w. subst (λ (n : ℕ). 1 ≤ cap r n) (writes_zero (back ranks r root) i k w) (omega arith);
    finds_load = λ h. subst (λ (ks : List ℕ). sum_by (λ (v : Value). length v) (map (λ (k : ℕ). single root 0) ks) ≤ 1) (sym (moved_one (back ranks (tree_send ranks root bytes rooted few h).rank root) (tree_send ranks root bytes rooted few h).op)) (omega arith);
    total = total;
  }
    where
      total : sum_below ranks (λ r. sum_below (2 ^ 32) (cap r)) + sum_by (λ r. sum_by (load r) (range_with_len 0 (count r))) (range_with_len 0 ranks) ≤ weight_limit
      total =
          let stores = sum_below_few ranks 1 (λ r. sum_below (2 ^ 32) (cap r)) (λ r l. cap_sum r) in
          let loads = entries_few ranks count load 1 (λ r i l m. omega arith) in
          let ops = (bcast_fits ranks bytes size root rooted few).few_ops in
          omega (arith, stores, loads, ops, few)

  low_notes : (v i n : ℕ) → All NamesLowSlots (notes_of n (bcast_in ranks root bytes v i))
  unfolding bcast_in
  low_notes zero i n = All_one NamesLowSlots (Moves n 0 0) (omega arith, omega arith)
  low_notes (suc v) zero n = All_one NamesLowSlots (Moves n 0 0) (omega arith, omega arith)
  low_notes (suc v) (suc i) n = All_one NamesLowSlots (Moves n 0 0) (omega arith, omega arith)

  at_most_one_moved : (v i n : ℕ) → sum_by moved_count (notes_of n (bcast_in ranks root bytes v i)) ≤ 1
  unfolding bcast_in
  at_most_one_moved zero i n = omega arith
  at_most_one_moved (suc v) zero n = omega arith
  at_most_one_moved (suc v) (suc i) n = omega arith

  made_is_small : bytes ≤ MAX_BYTES → IsSmall (made (Bcast root) ranks bytes)
  unfolding made
  made_is_small size =
      entries_small ranks count entry 1 (λ r l. let few_here = bcast_few ranks bytes size root rooted few (back ranks r root) (back_below ranks r root l) in omega (arith, few_here)) (λ r i l m. low_notes (back ranks r root) i i) (λ r i l m. at_most_one_moved (back ranks r root) i i) (let ops = (bcast_fits ranks bytes size root rooted few).few_ops in omega (arith, ops))

  pub bcast_certified : bytes ≤ MAX_BYTES → IsCertifiedFor (Bcast root) (made (Bcast root) ranks bytes)
  unfolding made
  bcast_certified size =
      subst (λ (n : ℕ). IsCertified (made (Bcast root) ranks bytes) (initial (Bcast root) n) (wanted (Bcast root) n)) (sym (length_plans ranks count entry)) (blueprint_certified ranks count entry first (wanted (Bcast root) ranks) root_value root_value (TreeHop ranks root bytes rooted few) bytes (tree_send ranks root bytes rooted few) (tree_recv ranks root bytes rooted few) (λ h. h.round) level blueprint cap load (blueprint_is_bounded size) (made_is_small size))
