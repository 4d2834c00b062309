-- The reduce up a binomial tree is certified, for every number of ranks, every root and every size.
use Rattle.std.proofs.Common.{⊎_elim, ℕ, zero, suc, ◌+◌, ◌-◌, ◌*◌, ◌/◌, ◌%◌, ◌^◌, ◌<◌, ◌≤◌, ◌≡◌, ◌==◌, ◌⊎◌, nat_lt, min, inl, inr, Bool, true, false, List, [], ◌∷◌, map, flat_map, length, All, Option, if◌then◌else◌, refl, sym, ap, ◌∙◌, subst, arith, eq-eqb}
use Rattle.std.specs.List.{range_with_len, sum_by}
use Rattle.std.proofs.Math.Nat.{pow-suc}
use Rattle.std.proofs.Math.Pow.{pow_mono}
use Rattle.std.proofs.lemmas.Bool.{lt-ltb, ltb-true, ne_eqb, cases_lt, cases_eq}
use Rattle.std.proofs.lemmas.Nat.{pow_pos}
use Rattle.goal_limits.specs.Limits.{slot_limit, weight_limit, rank_limit}
use Rattle.goal_graph.specs.declared.action.OpId.{OpId}
use Rattle.goal_graph.specs.declared.plan.Kind.TheVariants.{Calc, Recv}
use Rattle.goal_graph.specs.declared.plan.Note.TheVariants.{Moves, Adds}
use Rattle.goal_limits.specs.declared.limits.TheConstants.{MAX_BYTES}
use Rattle.goal_limits.specs.declared.collective.Collective.TheVariants.{Reduce}
use Rattle.goal_blocks.specs.Slots.{Adding}
use Rattle.goal_blocks.specs.Values.{Value, Store, merge}
use Rattle.goal_blocks.specs.Weight.{sum_below}
use Rattle.goal_blocks.specs.Certification.{NamesLowSlots, moved_count, IsSmall, IsCertified}
use Rattle.goal_blocks.specs.Collectives.{single, of_each, initial, wanted}
use Rattle.goal_blocks.specs.Certified.{IsCertifiedFor}
use Rattle.goal_blocks.specs.Entries.{Entry, slot, sending, receiving, summing, notes_of}
use Rattle.goal_blocks.specs.Positions.{ahead, back, low, rounds, parent, upward}
use Rattle.goal_blocks.specs.MadeRooted.{earlier_sum, reduce_in}
use Rattle.goal_blocks.specs.Messages.{AreMessages}
use Rattle.goal_blocks.specs.Generated.{made}
use Rattle.goal_blocks.proofs.Orders.{Mem}
use Rattle.goal_blocks.proofs.EntryFacts.{slots_of_span, length_plans}
use Rattle.goal_blocks.proofs.AllgatherCertified.{slots_of_single_slot}
use Rattle.goal_blocks.proofs.Slim.{All_one}
use Rattle.goal_blocks.proofs.Ring.{ahead_back, root_has_virtual_rank_zero}
use Rattle.goal_blocks.proofs.RingAndTree.{back_below, upward_some, upward_few}
use Rattle.goal_blocks.proofs.Trees.{rounds_few, child_below, sum_range, sum_below_le, tree_total}
use Rattle.goal_blocks.proofs.Tree.{low_zero, rounds_low, round_with_child_exists}
use Rattle.goal_blocks.proofs.TreeCases.{reduce_hears, reduce_sums, reduce_sends}
use Rattle.goal_blocks.proofs.TreeMessages.{TreeEdge, above, above_is_parent, above_inside, back_from_ahead_is_virtual_rank, AreTreeEnds, child_end, parent_end, up_messages}
use Rattle.goal_blocks.proofs.TreeSizes.{block_size, sizes_sum, sum_below_times}
use Rattle.goal_blocks.proofs.Gathered.{block, block_first, block_of_next_round, blocks_past_ranks_are_equal, block_all, length-block}
use Rattle.goal_blocks.proofs.Doubling.{doubling, doubling_zero, doubling_early, doubling_high}
use Rattle.goal_blocks.proofs.MovedSlots.{sum_with_one_nonzero}
use Rattle.goal_blocks.proofs.Sizes.{entries_small}
use Rattle.goal_blocks.proofs.Blueprint.{slots_moved_by, touches, writes, Precedes, now, after, IsThere, Origin, Final, IsBlueprint, IsBounded, blueprint_certified}
use Rattle.goal_blocks.proofs.Wishes.{is_value_reflexive}

-- an even number, or an odd one
cases_double : (i : ℕ) → ((j : ℕ) × (i ≡ j + j)) ⊎ ((j : ℕ) × (i ≡ j + j + 1))
cases_double i =
    ⊎_elim (λ e. inl (i / 2, omega (arith, e))) (λ d. inr (i / 2, omega (arith, d))) (cases_eq (i % 2) 0)

module _ (ranks root bytes : ℕ) (rooted : root < ranks) (few : ranks ≤ rank_limit) where
  -- by virtual ranks: how many children v has, and its operations
  abbrev children : ℕ → ℕ
  children v = rounds ranks v

  abbrev tree_count : ℕ → ℕ
  tree_count v = 2 * rounds ranks v + upward v

  abbrev tree_entry : ℕ → ℕ → Entry
  tree_entry v i = reduce_in ranks root bytes v i

  -- the virtual rank of r
  abbrev virtual_rank : ℕ → ℕ
  virtual_rank r = back ranks r root

  abbrev count : ℕ → ℕ
  count r = tree_count (virtual_rank r)

  abbrev entry : ℕ → ℕ → Entry
  entry r i = reduce_in ranks root bytes (virtual_rank r) i

  abbrev first : Store
  first = initial (Reduce root) ranks

  entry_receives : (v j : ℕ) → j < children v → tree_entry v (j + j) ≡ receiving bytes (ahead ranks (v + 2 ^ j) root) j (slot (j + 1))
  entry_receives v j l =
      let half : (j + j) / 2 ≡ j = omega arith in
      sym (reduce_hears ranks root bytes v (j + j) (omega (arith, half, l)) (omega arith)) ∙ ap (λ (k : ℕ). receiving bytes (ahead ranks (v + 2 ^ k) root) k (slot (k + 1))) half

  entry_sums : (v j : ℕ) → j < children v → tree_entry v (j + j + 1) ≡ summing ((j + j) ∷ earlier_sum j) (j + 1) 0
  entry_sums v j l =
      let half : (j + j + 1) / 2 ≡ j = omega arith in
      sym (reduce_sums ranks root bytes v (j + j + 1) (omega (arith, half, l)) (λ e. omega (arith, e))) ∙ ap (λ (k : ℕ). summing ((k + k) ∷ earlier_sum k) (k + 1) 0) half

  entry_sends : (v : ℕ) → tree_entry v (children v + children v) ≡ sending bytes (parent ranks root v) (low v) (earlier_sum (children v)) (slot 0)
  entry_sends v = sym (reduce_sends ranks root bytes v (children v + children v) (omega arith))

  -- which operation a number is
  data Part (v i : ℕ) : Type 0 where
    hearing : (j : ℕ) → j < children v → i ≡ j + j → Part v i
    adding : (j : ℕ) → j < children v → i ≡ j + j + 1 → Part v i
    rising : 0 < v → i ≡ children v + children v → Part v i

  part_of : (v i : ℕ) → i < tree_count v → Part v i
  part_of v i l = ⊎_elim (λ near. ⊎_elim (λ p. let e = p.1 in hearing p.0 (omega (arith, near, e)) e) (λ p. let e = p.1 in adding p.0 (omega (arith, near, e)) e) (cases_double i)) (λ far. last far v refl) (cases_lt i (children v + children v))
    where
      last : children v + children v ≤ i → (w : ℕ) → v ≡ w → Part v i
      last far zero e =
          let none : upward v ≡ 0 = ap (λ (n : ℕ). upward n) e in absurd (omega (arith, l, far, none))
      last far (suc w) e =
          let some : 0 < v = omega (arith, e) in
          let one = upward_some v some in
          rising some (omega (arith, l, far, one))

  hearing_there : (v j : ℕ) → j < children v → j + j < tree_count v
  hearing_there v j l = omega (arith, l)

  adding_there : (v j : ℕ) → j < children v → j + j + 1 < tree_count v
  adding_there v j l = omega (arith, l)

  rising_there : (v : ℕ) → 0 < v → children v + children v < tree_count v
  rising_there v some = let one = upward_some v some in omega (arith, one)

  -- the messages: from each virtual rank but 0, by its last operation, to its parent, by the receive of the round
  abbrev edge_send : TreeEdge ranks → OpId
  edge_send m = child_end ranks root bytes rooted few tree_count tree_entry (λ v. children v + children v) (λ v j. j + j) m

  abbrev edge_recv : TreeEdge ranks → OpId
  edge_recv m = parent_end ranks root bytes rooted few tree_count tree_entry (λ v. children v + children v) (λ v j. j + j) m

  edge_ends : AreTreeEnds ranks root bytes rooted few tree_count tree_entry (λ v. children v + children v) (λ v j. j + j)
  edge_ends = record {
    up_there = λ v some inside. rising_there v some;
    down_there = λ v j inside l. hearing_there v j l;
    each = λ v i inside l. go v i (part_of v i l);
  }
    where
      go : (v i : ℕ) → Part v i → ((nanos : ℕ) × ((tree_entry v i).kind ≡ Calc nanos)) ⊎ (((0 < v) × (children v + children v ≡ i)) ⊎ ((j : ℕ) × (j < children v) × (j + j ≡ i)))
      go v i (hearing j l e) = inr (inr (j, l, sym e))
      go v i (adding j l e) = inl (0, ap (λ (n : ℕ). (tree_entry v n).kind) e ∙ ap (λ (y : Entry). y.kind) (entry_sums v j l))
      go v i (rising some e) = inr (inl (some, sym e))

  edge_messages : AreMessages ranks count entry (TreeEdge ranks) bytes edge_send edge_recv (λ m. low m.child)
  edge_messages =
      up_messages ranks root bytes rooted few tree_count tree_entry (λ v. children v + children v) (λ v j. j + j) edge_ends (λ v some inside. ap (λ (y : Entry). y.kind) (entry_sends v)) (λ v j inside l. ap (λ (y : Entry). y.kind) (entry_receives v j l))

  -- levels: a message at an even one, the calc after it at the odd one above
  tree_level : ℕ → ℕ → ℕ
  tree_level v i = if nat_lt (i / 2) (children v) then i else low v + low v

  level_early : (v i : ℕ) → i / 2 < children v → tree_level v i ≡ i
  unfolding tree_level
  level_early v i l = rw (lt-ltb (i / 2) (children v) l) refl

  level_late : (v : ℕ) → tree_level v (children v + children v) ≡ low v + low v
  unfolding tree_level
  level_late v = go (nat_lt ((children v + children v) / 2) (children v)) refl
    where
      go : (b : Bool) → nat_lt ((children v + children v) / 2) (children v) ≡ b → (if b then children v + children v else low v + low v) ≡ low v + low v
      go true e = absurd (let less = ltb-true ((children v + children v) / 2) (children v) e in omega (arith, less))
      go false e = refl

  -- what an operation finds in slot 0, and in the slot of its round, and what it leaves there
  tree_finds : ℕ → ℕ → ℕ → Value
  tree_finds v i zero = block ranks root (i / 2) v
  tree_finds v i (suc s) = block ranks root (i / 2) (v + 2 ^ (i / 2))

  tree_leaves : ℕ → ℕ → ℕ → Value
  tree_leaves v i zero = block ranks root (suc (i / 2)) v
  tree_leaves v i (suc s) = block ranks root (i / 2) (v + 2 ^ (i / 2))

  finds_zero : (v i j : ℕ) → i / 2 ≡ j → tree_finds v i 0 ≡ block ranks root j v
  unfolding tree_finds
  finds_zero v i j e = ap (λ (k : ℕ). block ranks root k v) e

  finds_other : (v i j s : ℕ) → i / 2 ≡ j → 0 < s → tree_finds v i s ≡ block ranks root j (v + 2 ^ j)
  unfolding tree_finds
  finds_other v i j zero e l = absurd (omega (arith, l))
  finds_other v i j (suc s) e l = ap (λ (k : ℕ). block ranks root k (v + 2 ^ k)) e

  leaves_zero : (v i j : ℕ) → i / 2 ≡ j → tree_leaves v i 0 ≡ block ranks root (suc j) v
  unfolding tree_leaves
  leaves_zero v i j e = ap (λ (k : ℕ). block ranks root (suc k) v) e

  leaves_other : (v i j s : ℕ) → i / 2 ≡ j → 0 < s → tree_leaves v i s ≡ block ranks root j (v + 2 ^ j)
  unfolding tree_leaves
  leaves_other v i j zero e l = absurd (omega (arith, l))
  leaves_other v i j (suc s) e l = ap (λ (k : ℕ). block ranks root k (v + 2 ^ k)) e

  -- an entry by its number
  as_hearing : (v i j : ℕ) → j < children v → i ≡ j + j → tree_entry v i ≡ receiving bytes (ahead ranks (v + 2 ^ j) root) j (slot (j + 1))
  as_hearing v i j l e = ap (λ (n : ℕ). tree_entry v n) e ∙ entry_receives v j l

  as_adding : (v i j : ℕ) → j < children v → i ≡ j + j + 1 → tree_entry v i ≡ summing ((j + j) ∷ earlier_sum j) (j + 1) 0
  as_adding v i j l e = ap (λ (n : ℕ). tree_entry v n) e ∙ entry_sums v j l

  as_rising : (v i : ℕ) → i ≡ children v + children v → tree_entry v i ≡ sending bytes (parent ranks root v) (low v) (earlier_sum (children v)) (slot 0)
  as_rising v i e = ap (λ (n : ℕ). tree_entry v n) e ∙ entry_sends v

  -- orders
  earlier_sum_is_previous_round : (n k : ℕ) → Mem k (earlier_sum n) → (t : ℕ) × (n ≡ suc t) × (k ≡ t + t + 1)
  earlier_sum_is_previous_round zero k m = absurd m
  earlier_sum_is_previous_round (suc t) k (inl e) = (t, refl, sym e)
  earlier_sum_is_previous_round (suc t) k (inr m) = absurd m

  receive_precedes_sum : (v j : ℕ) → j < children v → Precedes (tree_entry v) (j + j) (j + j + 1)
  receive_precedes_sum v j l = now (subst (λ (x : Entry). Mem (j + j) x.needs) (sym (entry_sums v j l)) (inl refl))

  sum_needs_previous_sum : (v t : ℕ) → suc t < children v → Mem (t + t + 1) (tree_entry v (suc t + suc t + 1)).needs
  sum_needs_previous_sum v t l = subst (λ (x : Entry). Mem (t + t + 1) x.needs) (sym (entry_sums v (suc t) l)) (inr (inl refl))

  send_needs_last_sum : (v t : ℕ) → children v ≡ suc t → Mem (t + t + 1) (tree_entry v (children v + children v)).needs
  send_needs_last_sum v t e =
      subst (λ (x : Entry). Mem (t + t + 1) x.needs) (sym (entry_sends v)) (subst (λ (n : ℕ). Mem (t + t + 1) (earlier_sum n)) (sym e) (inl refl))

  sum_precedes_sum : (v t u : ℕ) → t < u → u < children v → Precedes (tree_entry v) (t + t + 1) (u + u + 1)
  sum_precedes_sum v t zero l m = absurd (omega (arith, l))
  sum_precedes_sum v t (suc u) l m =
      ⊎_elim (λ e. subst (λ (n : ℕ). Precedes (tree_entry v) (n + n + 1) (suc u + suc u + 1)) (sym e) (now (sum_needs_previous_sum v u m))) (λ d. after (u + u + 1) (sum_needs_previous_sum v u m) (sum_precedes_sum v t u (omega (arith, l, d)) (omega (arith, m)))) (cases_eq t u)

  sum_precedes_send : (v t : ℕ) → t < children v → Precedes (tree_entry v) (t + t + 1) (children v + children v)
  sum_precedes_send v t l = go (children v) refl
    where
      go : (n : ℕ) → children v ≡ n → Precedes (tree_entry v) (t + t + 1) (children v + children v)
      go zero e = absurd (omega (arith, l, e))
      go (suc u) e =
          ⊎_elim (λ same. subst (λ (n : ℕ). Precedes (tree_entry v) (n + n + 1) (children v + children v)) (sym same) (now (send_needs_last_sum v u e))) (λ d. after (u + u + 1) (send_needs_last_sum v u e) (sum_precedes_sum v t u (omega (arith, l, e, d)) (omega (arith, e)))) (cases_eq t u)

  precedes_at_numbers : (v i j a b : ℕ) → i ≡ a → j ≡ b → Precedes (tree_entry v) a b → Precedes (tree_entry v) i j
  precedes_at_numbers v i j a b e f p =
      subst (λ (m : ℕ). Precedes (tree_entry v) m j) (sym e) (subst (λ (m : ℕ). Precedes (tree_entry v) a m) (sym f) p)

  -- what is written: by a receive the slot of its round, by a sum slot 0
  data Writing (v i s : ℕ) : Type 0 where
    by_hearing : (j : ℕ) → j < children v → i ≡ j + j → j + 1 ≡ s → Writing v i s
    by_adding : (j : ℕ) → j < children v → i ≡ j + j + 1 → 0 ≡ s → Writing v i s

  only_slot_of_single_slot : (k s : ℕ) → Mem s (flat_map slots_of_span (slot k)) → k ≡ s
  only_slot_of_single_slot k s m = ⊎_elim (λ e. e) (λ none. absurd none) (subst (λ (ks : List ℕ). Mem s ks) (slots_of_single_slot k) m)

  member_of_single : (k s : ℕ) → Mem s (k ∷ []) → k ≡ s
  member_of_single k s (inl e) = e
  member_of_single k s (inr none) = absurd none

  writes_are : (v i s : ℕ) → i < tree_count v → Mem s (writes (tree_entry v i)) → Writing v i s
  writes_are v i s l m = go (part_of v i l)
    where
      go : Part v i → Writing v i s
      go (hearing j k e) =
          by_hearing j k e (only_slot_of_single_slot (j + 1) s (subst (λ (x : Entry). Mem s (writes x)) (as_hearing v i j k e) m))
      go (adding j k e) =
          by_adding j k e (member_of_single 0 s (subst (λ (x : Entry). Mem s (writes x)) (as_adding v i j k e) m))
      go (rising some e) = absurd (subst (λ (x : Entry). Mem s (writes x)) (as_rising v i e) m)

  hearing_writes : (v j : ℕ) → j < children v → Mem (j + 1) (writes (tree_entry v (j + j)))
  hearing_writes v j l =
      subst (λ (x : Entry). Mem (j + 1) (writes x)) (sym (entry_receives v j l)) (subst (λ (ks : List ℕ). Mem (j + 1) ks) (sym (slots_of_single_slot (j + 1))) (inl refl))

  adding_writes : (v j : ℕ) → j < children v → Mem 0 (writes (tree_entry v (j + j + 1)))
  adding_writes v j l = subst (λ (x : Entry). Mem 0 (writes x)) (sym (entry_sums v j l)) (inl refl)

  -- what is touched: by a receive the slot of its round, by a sum that and slot 0, by a send slot 0
  data Touching (v i s : ℕ) : Type 0 where
    at_hearing : (j : ℕ) → j < children v → i ≡ j + j → j + 1 ≡ s → Touching v i s
    at_term : (j : ℕ) → j < children v → i ≡ j + j + 1 → j + 1 ≡ s → Touching v i s
    at_sum : (j : ℕ) → j < children v → i ≡ j + j + 1 → 0 ≡ s → Touching v i s
    at_rising : 0 < v → i ≡ children v + children v → 0 ≡ s → Touching v i s

  touches_are : (v i s : ℕ) → i < tree_count v → Mem s (touches (tree_entry v i)) → Touching v i s
  touches_are v i s l m = go (part_of v i l)
    where
      two : (j : ℕ) → j < children v → i ≡ j + j + 1 → Mem s ((j + 1) ∷ 0 ∷ []) → Touching v i s
      two j k e (inl f) = at_term j k e f
      two j k e (inr (inl f)) = at_sum j k e f
      two j k e (inr (inr none)) = absurd none

      go : Part v i → Touching v i s
      go (hearing j k e) =
          at_hearing j k e (only_slot_of_single_slot (j + 1) s (subst (λ (x : Entry). Mem s (touches x)) (as_hearing v i j k e) m))
      go (adding j k e) = two j k e (subst (λ (x : Entry). Mem s (touches x)) (as_adding v i j k e) m)
      go (rising some e) = at_rising some e (only_slot_of_single_slot 0 s (subst (λ (x : Entry). Mem s (touches x)) (as_rising v i e) m))

  conflicts_are_ordered : (v i j s : ℕ) → i < tree_count v → j < tree_count v → (i ≡ j → ⊥) → Mem s (touches (tree_entry v i)) → Mem s (writes (tree_entry v j)) → Precedes (tree_entry v) i j ⊎ Precedes (tree_entry v) j i
  conflicts_are_ordered v i j s in_i in_j differ t w = go (touches_are v i s in_i t) (writes_are v j s in_j w)
    where
      sums : (k u : ℕ) → k < children v → u < children v → i ≡ k + k + 1 → j ≡ u + u + 1 → Precedes (tree_entry v) i j ⊎ Precedes (tree_entry v) j i
      sums k u m n e f =
          ⊎_elim (λ l. inl (precedes_at_numbers v i j (k + k + 1) (u + u + 1) e f (sum_precedes_sum v k u l n))) (λ g. inr (precedes_at_numbers v j i (u + u + 1) (k + k + 1) f e (sum_precedes_sum v u k (⊎_elim (λ same. absurd (differ (e ∙ ap (λ (a : ℕ). a + a + 1) same ∙ sym f))) (λ other. omega (arith, g, other)) (cases_eq k u)) m))) (cases_lt k u)

      go : Touching v i s → Writing v j s → Precedes (tree_entry v) i j ⊎ Precedes (tree_entry v) j i
      go (at_hearing k m e f) (by_hearing u n g h) =
          absurd (differ (let same : k ≡ u = omega (arith, f, h) in e ∙ ap (λ (a : ℕ). a + a) same ∙ sym g))
      go (at_hearing k m e f) (by_adding u n g h) = absurd (omega (arith, f, h))
      go (at_term k m e f) (by_hearing u n g h) =
          inr (precedes_at_numbers v j i (k + k) (k + k + 1) (let same : u ≡ k = omega (arith, f, h) in g ∙ ap (λ (a : ℕ). a + a) same) e (receive_precedes_sum v k m))
      go (at_term k m e f) (by_adding u n g h) = absurd (omega (arith, f, h))
      go (at_sum k m e f) (by_hearing u n g h) = absurd (omega (arith, f, h))
      go (at_sum k m e f) (by_adding u n g h) = sums k u m n e g
      go (at_rising some e f) (by_hearing u n g h) = absurd (omega (arith, f, h))
      go (at_rising some e f) (by_adding u n g h) =
          inr (precedes_at_numbers v j i (u + u + 1) (children v + children v) g e (sum_precedes_send v u n))

  -- the place of a virtual rank's rank
  virtual_rank_of_ahead : (v : ℕ) → v < ranks → virtual_rank (ahead ranks v root) ≡ v
  virtual_rank_of_ahead v l = back_from_ahead_is_virtual_rank ranks root bytes rooted few v l

  abbrev parent_of_edge : TreeEdge ranks → ℕ
  parent_of_edge m = above ranks root bytes rooted few m

  up_inside : (m : TreeEdge ranks) → parent_of_edge m < ranks
  up_inside m = above_inside ranks root bytes rooted few m

  up_child : (m : TreeEdge ranks) → parent_of_edge m + 2 ^ low m.child ≡ m.child
  up_child m = (above_is_parent ranks root bytes rooted few m).child

  up_round : (m : TreeEdge ranks) → low m.child < children (parent_of_edge m)
  up_round m = (above_is_parent ranks root bytes rooted few m).round

  -- levels
  needs_lower : (v i k : ℕ) → i < tree_count v → Mem k (tree_entry v i).needs → (k < tree_count v) × (tree_level v k < tree_level v i)
  needs_lower v i k inside m = go (part_of v i inside)
    where
      of_term : (j : ℕ) → j < children v → i ≡ j + j + 1 → Mem k ((j + j) ∷ earlier_sum j) → (k < tree_count v) × (tree_level v k < tree_level v i)
      of_term j l e (inl f) =
          let here = level_early v i (omega (arith, l, e)) in
          let there = level_early v k (omega (arith, l, f)) in
          (omega (arith, l, f), omega (arith, here, there, e, f))
      of_term j l e (inr n) =
          let s = earlier_sum_is_previous_round j k n in
          let f = s.1 in
          let g = s.2 in
          let here = level_early v i (omega (arith, l, e)) in
          let there = level_early v k (omega (arith, l, f, g)) in
          (omega (arith, l, f, g), omega (arith, here, there, e, f, g))

      go : Part v i → (k < tree_count v) × (tree_level v k < tree_level v i)
      go (hearing j l e) = absurd (subst (λ (x : Entry). Mem k x.needs) (as_hearing v i j l e) m)
      go (adding j l e) = of_term j l e (subst (λ (x : Entry). Mem k x.needs) (as_adding v i j l e) m)
      go (rising some e) =
          let s = earlier_sum_is_previous_round (children v) k (subst (λ (x : Entry). Mem k x.needs) (as_rising v i e) m) in
          let f = s.1 in
          let g = s.2 in
          let there = level_early v k (omega (arith, f, g)) in
          let here = ap (tree_level v) e ∙ level_late v in
          let low_many = rounds_low ranks few v in
          (omega (arith, f, g), omega (arith, here, there, f, g, low_many))

  same_level : (m : TreeEdge ranks) → tree_level (virtual_rank (edge_send m).rank) (edge_send m).op ≡ tree_level (virtual_rank (edge_recv m).rank) (edge_recv m).op
  same_level m =
      ap (λ (v : ℕ). tree_level v (children m.child + children m.child)) (virtual_rank_of_ahead m.child m.inside) ∙ level_late m.child ∙ sym (ap (λ (v : ℕ). tree_level v (low m.child + low m.child)) (virtual_rank_of_ahead (parent_of_edge m) (up_inside m)) ∙ level_early (parent_of_edge m) (low m.child + low m.child) (let round = up_round m in omega (arith, round)))

  -- values
  abbrev finds : ℕ → ℕ → ℕ → Value
  finds r i k = tree_finds (virtual_rank r) i k

  abbrev leaves : ℕ → ℕ → ℕ → Value
  leaves r i k = tree_leaves (virtual_rank r) i k

  reduce_slot_zero_starts_with_block : (r : ℕ) → r < ranks → first r 0 ≡ block ranks root 0 (virtual_rank r)
  unfolding initial
  reduce_slot_zero_starts_with_block r l =
      rw (lt-ltb r ranks l) (ap (λ (q : ℕ). single q 0) (sym (ahead_back ranks r root l (omega (arith, rooted)))) ∙ sym (block_first ranks root (virtual_rank r) (back_below ranks r root l)))

  -- slot 0 before a round: the initial value, or the sum that the previous round left
  zero_origin : (r i j : ℕ) → r < ranks → j ≤ children (virtual_rank r) → i / 2 ≡ j → ((u : ℕ) → j ≤ u → u < children (virtual_rank r) → (u + u + 1 ≡ i) ⊎ Precedes (entry r) i (u + u + 1)) → ((u : ℕ) → u < j → Precedes (entry r) (u + u + 1) i) → Origin ranks count entry first (wanted (Reduce root) ranks) finds leaves r i 0
  zero_origin r i zero in_rank few_rounds e later earlier = inl (reduce_slot_zero_starts_with_block r in_rank ∙ sym (finds_zero (virtual_rank r) i 0 e), λ l m w. writer l (writes_are (virtual_rank r) l 0 m w))
    where
      writer : (l : ℕ) → Writing (virtual_rank r) l 0 → (l ≡ i) ⊎ Precedes (entry r) i l
      writer l (by_hearing k m f g) = absurd (omega (arith, g))
      writer l (by_adding k m f g) =
          ⊎_elim (λ same. inl (f ∙ same)) (λ p. inr (precedes_at_numbers (virtual_rank r) i l i (k + k + 1) refl f p)) (later k (omega arith) m)
  zero_origin r i (suc t) in_rank few_rounds e later earlier =
      inr (t + t + 1, adding_there (virtual_rank r) t (omega (arith, few_rounds)), adding_writes (virtual_rank r) t (omega (arith, few_rounds)), earlier t (omega arith), leaves_zero (virtual_rank r) (t + t + 1) t (omega arith) ∙ sym (finds_zero (virtual_rank r) i (suc t) e), λ l m w. writer l (writes_are (virtual_rank r) l 0 m w))
    where
      writer : (l : ℕ) → Writing (virtual_rank r) l 0 → ((l ≡ i) ⊎ (l ≡ t + t + 1)) ⊎ (Precedes (entry r) l (t + t + 1) ⊎ Precedes (entry r) i l)
      writer l (by_hearing k m f g) = absurd (omega (arith, g))
      writer l (by_adding k m f g) =
          ⊎_elim (λ less. inr (inl (precedes_at_numbers (virtual_rank r) l (t + t + 1) (k + k + 1) (t + t + 1) f refl (sum_precedes_sum (virtual_rank r) k t less (omega (arith, few_rounds)))))) (λ more. ⊎_elim (λ same. inl (inr (f ∙ ap (λ (a : ℕ). a + a + 1) same))) (λ other. ⊎_elim (λ same. inl (inl (f ∙ same))) (λ p. inr (inr (precedes_at_numbers (virtual_rank r) i l i (k + k + 1) refl f p))) (later k (omega (arith, more, other)) m)) (cases_eq k t)) (cases_lt k t)

  touched_has_origin : (r i s : ℕ) → IsThere ranks count entry r i → ((room : ℕ) (from t : Option ℕ) → (entry r i).kind ≡ Recv room from t → ⊥) → Mem s (touches (entry r i)) → Origin ranks count entry first (wanted (Reduce root) ranks) finds leaves r i s
  touched_has_origin r i s there not_receive m = go (touches_are (virtual_rank r) i s there.1 m)
    where
      at_zero : 0 ≡ s → Origin ranks count entry first (wanted (Reduce root) ranks) finds leaves r i 0 → Origin ranks count entry first (wanted (Reduce root) ranks) finds leaves r i s
      at_zero e o =
          subst (λ (k : ℕ). Origin ranks count entry first (wanted (Reduce root) ranks) finds leaves r i k) e o

      go : Touching (virtual_rank r) i s → Origin ranks count entry first (wanted (Reduce root) ranks) finds leaves r i s
      go (at_hearing j l e f) = absurd (not_receive _ _ _ (ap (λ (x : Entry). x.kind) (as_hearing (virtual_rank r) i j l e)))
      go (at_term j l e f) =
          let high : 0 < s = omega (arith, f) in
          inr (j + j, hearing_there (virtual_rank r) j l, subst (λ (k : ℕ). Mem k (writes (entry r (j + j)))) f (hearing_writes (virtual_rank r) j l), precedes_at_numbers (virtual_rank r) (j + j) i (j + j) (j + j + 1) refl e (receive_precedes_sum (virtual_rank r) j l), leaves_other (virtual_rank r) (j + j) j s (omega arith) high ∙ sym (finds_other (virtual_rank r) i j s (omega (arith, e)) high), λ k n w. inl (inr (writer k (writes_are (virtual_rank r) k s n w))))
        where
          writer : (k : ℕ) → Writing (virtual_rank r) k s → k ≡ j + j
          writer k (by_hearing u n g h) = omega (arith, f, g, h)
          writer k (by_adding u n g h) = absurd (omega (arith, f, h))
      go (at_sum j l e f) =
          at_zero f (zero_origin r i j there.0 (omega (arith, l)) (omega (arith, e)) (λ u g n. ⊎_elim (λ same. inl (ap (λ (a : ℕ). a + a + 1) same ∙ sym e)) (λ d. inr (precedes_at_numbers (virtual_rank r) i (u + u + 1) (j + j + 1) (u + u + 1) e refl (sum_precedes_sum (virtual_rank r) j u (omega (arith, g, d)) n))) (cases_eq u j)) (λ u g. precedes_at_numbers (virtual_rank r) (u + u + 1) i (u + u + 1) (j + j + 1) refl e (sum_precedes_sum (virtual_rank r) u j g l)))
      go (at_rising some e f) =
          at_zero f (zero_origin r i (children (virtual_rank r)) there.0 (omega arith) (omega (arith, e)) (λ u g n. absurd (omega (arith, g, n))) (λ u g. precedes_at_numbers (virtual_rank r) (u + u + 1) i (u + u + 1) (children (virtual_rank r) + children (virtual_rank r)) refl e (sum_precedes_send (virtual_rank r) u g)))

  summed : (r i nanos : ℕ) → IsThere ranks count entry r i → (entry r i).kind ≡ Calc nanos → (a : Adding) × ((entry r i).adds ≡ a ∷ []) × (merge (finds r i a.to) (finds r i a.from) ≡ leaves r i a.to)
  summed r i nanos there c = go (part_of (virtual_rank r) i there.1)
    where
      go : Part (virtual_rank r) i → (a : Adding) × ((entry r i).adds ≡ a ∷ []) × (merge (finds r i a.to) (finds r i a.from) ≡ leaves r i a.to)
      go (hearing j l e) = absurd (let f = sym (ap (λ (x : Entry). x.kind) (as_hearing (virtual_rank r) i j l e)) ∙ c in cc f)
      go (rising some e) = absurd (let f = sym (ap (λ (x : Entry). x.kind) (as_rising (virtual_rank r) i e)) ∙ c in cc f)
      go (adding j l e) =
          let half : i / 2 ≡ j = omega (arith, e) in
          let to_is = finds_zero (virtual_rank r) i j half in
          let from_is = finds_other (virtual_rank r) i j (j + 1) half (omega arith) in
          let child = child_below ranks few (virtual_rank r) j (back_below ranks r root there.0) l in
          (record { from = j + 1; to = 0 }, ap (λ (x : Entry). x.adds) (as_adding (virtual_rank r) i j l e), (λ n. merge (to_is n) (from_is n)) ∙ block_of_next_round ranks root j (virtual_rank r) child ∙ sym (leaves_zero (virtual_rank r) i j half))

  -- after its rounds virtual rank v has covered its part of the tree: no virtual rank is left in it
  rounds_cover_part : (v : ℕ) → (children v ≡ low v) ⊎ (ranks ≤ v + 2 ^ children v)
  rounds_cover_part v =
      let most = rounds_low ranks few v in
      ⊎_elim (λ e. inl e) (λ d. ⊎_elim (λ child. absurd (let again = round_with_child_exists ranks few v (children v) (omega (arith, most, d)) child in omega (arith, again))) (λ none. inr none) (cases_lt (v + 2 ^ children v) ranks)) (cases_eq (children v) (low v))

  -- so the block after the last round has all contributions of that part
  part_is_complete : (v : ℕ) → block ranks root (children v) v ≡ block ranks root (low v) v
  part_is_complete v =
      ⊎_elim (λ e. ap (λ (j : ℕ). block ranks root j v) e) (λ g. blocks_past_ranks_are_equal ranks root (children v) (low v) v g (let more : 2 ^ children v ≤ 2 ^ low v = pow_mono (rounds_low ranks few v) in omega (arith, g, more))) (rounds_cover_part v)

  message_keeps_values : (m : TreeEdge ranks) → map (finds (edge_send m).rank (edge_send m).op) (slots_moved_by (entry (edge_send m).rank (edge_send m).op)) ≡ map (leaves (edge_recv m).rank (edge_recv m).op) (slots_moved_by (entry (edge_recv m).rank (edge_recv m).op))
  message_keeps_values m =
      sent ∙ ap (λ (v : Value). v ∷ []) same ∙ sym received
    where
      sent : map (finds (edge_send m).rank (edge_send m).op) (slots_moved_by (entry (edge_send m).rank (edge_send m).op)) ≡ tree_finds m.child (children m.child + children m.child) 0 ∷ []
      sent =
          ap (λ (v : ℕ). map (tree_finds v (children m.child + children m.child)) (slots_moved_by (tree_entry v (children m.child + children m.child)))) (virtual_rank_of_ahead m.child m.inside) ∙ ap (λ (ks : List ℕ). map (tree_finds m.child (children m.child + children m.child)) ks) (ap slots_moved_by (entry_sends m.child) ∙ slots_of_single_slot 0)

      received : map (leaves (edge_recv m).rank (edge_recv m).op) (slots_moved_by (entry (edge_recv m).rank (edge_recv m).op)) ≡ tree_leaves (parent_of_edge m) (low m.child + low m.child) (low m.child + 1) ∷ []
      received =
          ap (λ (v : ℕ). map (tree_leaves v (low m.child + low m.child)) (slots_moved_by (tree_entry v (low m.child + low m.child)))) (virtual_rank_of_ahead (parent_of_edge m) (up_inside m)) ∙ ap (λ (ks : List ℕ). map (tree_leaves (parent_of_edge m) (low m.child + low m.child)) ks) (ap slots_moved_by (entry_receives (parent_of_edge m) (low m.child) (up_round m)) ∙ slots_of_single_slot (low m.child + 1))

      same : tree_finds m.child (children m.child + children m.child) 0 ≡ tree_leaves (parent_of_edge m) (low m.child + low m.child) (low m.child + 1)
      same =
          finds_zero m.child (children m.child + children m.child) (children m.child) (omega arith) ∙ part_is_complete m.child ∙ ap (λ (v : ℕ). block ranks root (low m.child) v) (sym (up_child m)) ∙ sym (leaves_other (parent_of_edge m) (low m.child + low m.child) (low m.child) (low m.child + 1) (omega arith) (omega arith))

  wanted_root : (r : ℕ) → r < ranks → r ≡ root → wanted (Reduce root) ranks r 0 (of_each ranks 0) ≡ true
  unfolding wanted
  wanted_root r l e =
      rw (lt-ltb r ranks l, lt-ltb root ranks rooted, eq-eqb r root e) (is_value_reflexive (of_each ranks 0))

  wanted_other : (r : ℕ) → (r ≡ root → ⊥) → (v : Value) → wanted (Reduce root) ranks r 0 v ≡ true
  unfolding wanted
  wanted_other r differ v = rw (lt-ltb root ranks rooted, ne_eqb r root differ) (go (nat_lt r ranks))
    where
      go : (b : Bool) → (if b then true else true) ≡ true
      go true = refl
      go false = refl

  wanted_elsewhere : (r k : ℕ) (v : Value) → wanted (Reduce root) ranks r (suc k) v ≡ true
  unfolding wanted
  wanted_elsewhere r k v = rw (ne_eqb (suc k) 0 (λ e. omega (arith, e))) (go (nat_lt r ranks))
    where
      go : (b : Bool) → (if b then true else true) ≡ true
      go true = refl
      go false = refl

  -- the root has gathered all
  root_has_all : (r n : ℕ) → r ≡ root → children (virtual_rank r) ≡ n → block ranks root n (virtual_rank r) ≡ of_each ranks 0
  root_has_all r n e f =
      let zero_is : virtual_rank r ≡ 0 = ap (λ (q : ℕ). virtual_rank q) e ∙ root_has_virtual_rank_zero ranks root in
      ap (λ (j : ℕ). block ranks root j (virtual_rank r)) (sym f) ∙ ap (λ (v : ℕ). block ranks root (children v) v) zero_is ∙ part_is_complete 0 ∙ block_all ranks root (low 0) rooted (let all = low_zero in let whole = ap (λ (j : ℕ). 2 ^ j) all in omega (arith, whole, few))

  slots_end_as_wanted : (r s : ℕ) → r < ranks → Final ranks count entry first (wanted (Reduce root) ranks) finds leaves r s
  slots_end_as_wanted r (suc s) l = inl (λ v. wanted_elsewhere r s v)
  slots_end_as_wanted r zero l = ⊎_elim (λ e. at_root e (children (virtual_rank r)) refl) (λ differ. inl (λ v. wanted_other r differ v)) (cases_eq r root)
    where
      at_root : r ≡ root → (n : ℕ) → children (virtual_rank r) ≡ n → Final ranks count entry first (wanted (Reduce root) ranks) finds leaves r 0
      at_root e zero f =
          inr (inl (λ j m w. none (writes_are (virtual_rank r) j 0 m w), subst (λ (v : Value). wanted (Reduce root) ranks r 0 v ≡ true) (sym (reduce_slot_zero_starts_with_block r l ∙ root_has_all r 0 e f)) (wanted_root r l e)))
        where
          none : {j : ℕ} → Writing (virtual_rank r) j 0 → ⊥
          none (by_hearing k n g h) = omega (arith, n, f)
          none (by_adding k n g h) = omega (arith, n, f)
      at_root e (suc t) f =
          inr (inr (t + t + 1, adding_there (virtual_rank r) t (omega (arith, f)), adding_writes (virtual_rank r) t (omega (arith, f)), λ j m w. last j (writes_are (virtual_rank r) j 0 m w), subst (λ (v : Value). wanted (Reduce root) ranks r 0 v ≡ true) (sym (leaves_zero (virtual_rank r) (t + t + 1) t (omega arith) ∙ root_has_all r (suc t) e f)) (wanted_root r l e)))
        where
          last : (j : ℕ) → Writing (virtual_rank r) j 0 → (j ≡ t + t + 1) ⊎ Precedes (entry r) j (t + t + 1)
          last j (by_hearing k n g h) = absurd (omega (arith, h))
          last j (by_adding k n g h) =
              ⊎_elim (λ same. inl (g ∙ ap (λ (a : ℕ). a + a + 1) same)) (λ d. inr (precedes_at_numbers (virtual_rank r) j (t + t + 1) (k + k + 1) (t + t + 1) g refl (sum_precedes_sum (virtual_rank r) k t (omega (arith, n, f, d)) (omega (arith, f))))) (cases_eq k t)

  blueprint : IsBlueprint ranks count entry first (wanted (Reduce root) ranks) finds leaves (TreeEdge ranks) bytes edge_send edge_recv (λ m. low m.child) (λ r i. tree_level (virtual_rank r) i)
  blueprint = record {
    messages = edge_messages;
    lower = λ r i k there m. needs_lower (virtual_rank r) i k there.1 m;
    same_level = same_level;
    race = λ r i j k inside l m differ t w. conflicts_are_ordered (virtual_rank r) i j k l m differ t w;
    source = touched_has_origin;
    summed = summed;
    kept = message_keeps_values;
    final = slots_end_as_wanted;
  }

  -- bounds: what a rank gathers in slot 0, and sends; and what each child sends in the slot of its round
  abbrev cap : ℕ → ℕ → ℕ
  cap r k = doubling (children (virtual_rank r)) k

  load : ℕ → ℕ → ℕ
  load r i = if i == children (virtual_rank r) + children (virtual_rank r) then 2 ^ children (virtual_rank r) else 0

  load_send : (r i : ℕ) → i ≡ children (virtual_rank r) + children (virtual_rank r) → load r i ≡ 2 ^ children (virtual_rank r)
  unfolding load
  load_send r i e = rw (eq-eqb i (children (virtual_rank r) + children (virtual_rank r)) e) refl

  load_other : (r i : ℕ) → (children (virtual_rank r) + children (virtual_rank r) ≡ i → ⊥) → load r i ≡ 0
  unfolding load
  load_other r i differ = rw (ne_eqb i (children (virtual_rank r) + children (virtual_rank r)) (λ e. differ (sym e))) refl

  loads_of_rank_few : (r : ℕ) → sum_by (load r) (range_with_len 0 (count r)) ≤ 2 ^ children (virtual_rank r)
  loads_of_rank_few r =
      let only = (sum_with_one_nonzero (load r) (children (virtual_rank r) + children (virtual_rank r)) (λ i differ. load_other r i differ) 0 (count r)).0 in
      let most = load_send r (children (virtual_rank r) + children (virtual_rank r)) refl in
      omega (arith, only, most)

  first_few : (r : ℕ) → length (first r 0) ≤ 1
  unfolding initial
  first_few r = go (nat_lt r ranks)
    where
      go : (b : Bool) → length (if b then single r 0 else []) ≤ 1
      go true = omega arith
      go false = omega arith

  first_empty_elsewhere : (r k : ℕ) → first r (suc k) ≡ []
  unfolding initial
  first_empty_elsewhere r k = rw (ne_eqb (suc k) 0 (λ e. omega (arith, e))) (go (nat_lt r ranks))
    where
      go : (b : Bool) → ◌≡◌ {A = Value} (if b then [] else []) []
      go true = refl
      go false = refl

  first_cap : (r k : ℕ) → length (first r k) ≤ cap r k
  first_cap r zero =
      let one = first_few r in
      let some = pow_pos (children (virtual_rank r)) in
      let room = doubling_zero (children (virtual_rank r)) in
      omega (arith, one, some, room)
  first_cap r (suc k) = subst (λ (v : Value). length v ≤ cap r (suc k)) (sym (first_empty_elsewhere r k)) (omega arith)

  leaves_cap : (r i s : ℕ) → IsThere ranks count entry r i → Mem s (writes (entry r i)) → length (leaves r i s) ≤ cap r s
  leaves_cap r i s there w = go (writes_are (virtual_rank r) i s there.1 w)
    where
      go : Writing (virtual_rank r) i s → length (leaves r i s) ≤ cap r s
      go (by_hearing j l e f) =
          let is = ap length (leaves_other (virtual_rank r) i j s (omega (arith, e)) (omega (arith, f))) in
          let size = length-block ranks root j (virtual_rank r + 2 ^ j) in
          let room = doubling_early (children (virtual_rank r)) j l in
          let same : suc j ≡ s = omega (arith, f) in
          subst (λ (k : ℕ). length (leaves r i s) ≤ cap r k) same (omega (arith, is, size, room))
      go (by_adding j l e f) =
          subst (λ (k : ℕ). length (leaves r i k) ≤ cap r k) f (let is = ap length (leaves_zero (virtual_rank r) i j (omega (arith, e))) in let size = length-block ranks root (suc j) (virtual_rank r) in let room = doubling_zero (children (virtual_rank r)) in let le : 2 ^ suc j ≤ 2 ^ children (virtual_rank r) = pow_mono (omega (arith, l)) in omega (arith, is, size, room, le))

  finds_load : (m : TreeEdge ranks) → sum_by (λ (v : Value). length v) (map (finds (edge_send m).rank (edge_send m).op) (slots_moved_by (entry (edge_send m).rank (edge_send m).op))) ≤ load (edge_send m).rank (edge_send m).op
  finds_load m =
      let is = ap length (finds_zero m.child (children m.child + children m.child) (children m.child) (omega arith)) in
      let size = length-block ranks root (children m.child) m.child in
      let room : load (ahead ranks m.child root) (children m.child + children m.child) ≡ 2 ^ children m.child = load_send (ahead ranks m.child root) (children m.child + children m.child) (ap (λ (v : ℕ). children v + children v) (sym (virtual_rank_of_ahead m.child m.inside))) ∙ ap (λ (v : ℕ). 2 ^ children v) (virtual_rank_of_ahead m.child m.inside) in
      subst (λ (vs : List Value). sum_by (λ (v : Value). length v) vs ≤ load (ahead ranks m.child root) (children m.child + children m.child)) (sym (ap (λ (v : ℕ). map (tree_finds v (children m.child + children m.child)) (slots_moved_by (tree_entry v (children m.child + children m.child)))) (virtual_rank_of_ahead m.child m.inside) ∙ ap (λ (ks : List ℕ). map (tree_finds m.child (children m.child + children m.child)) ks) (ap slots_moved_by (entry_sends m.child) ∙ slots_of_single_slot 0))) (omega (arith, is, size, room))

  -- two to the number of children of a virtual rank is at most twice the size of its part of the tree
  power_few : (v : ℕ) → v < ranks → 2 ^ children v ≤ 2 * block_size ranks v
  unfolding block_size
  power_few v l = go (children v) refl
    where
      some : 0 < 2 ^ low v
      some = pow_pos (low v)

      go : (n : ℕ) → children v ≡ n → 2 ^ n ≤ 2 * min (2 ^ low v) (ranks - v)
      go zero e = omega (arith, some, l)
      go (suc t) e =
          let child = child_below ranks few v t l (omega (arith, e)) in
          let most = rounds_low ranks few v in
          let low_many : 2 ^ t ≤ 2 ^ low v = pow_mono (omega (arith, e, most)) in
          let twice = pow-suc 2 t in
          omega (arith, child, low_many, twice)

  total_within_limit : sum_below ranks (λ r. sum_below (2 ^ 32) (cap r)) + sum_by (λ r. sum_by (load r) (range_with_len 0 (count r))) (range_with_len 0 ranks) ≤ weight_limit
  total_within_limit =
      let sizes = sizes_sum ranks few root rooted in
      let stores = sum_below_le (λ r. sum_below (2 ^ 32) (cap r)) (λ r. 4 * block_size ranks (virtual_rank r)) ranks (λ r l. store_few r l) in
      let sent = sum_below_le (λ r. sum_by (load r) (range_with_len 0 (count r))) (λ r. 2 * block_size ranks (virtual_rank r)) ranks (λ r l. let s = loads_of_rank_few r in let p = power_few (virtual_rank r) (back_below ranks r root l) in omega (arith, s, p)) in
      let four = sum_below_times 4 (λ r. block_size ranks (virtual_rank r)) ranks in
      let two = sum_below_times 2 (λ r. block_size ranks (virtual_rank r)) ranks in
      let range = sum_range (λ r. sum_by (load r) (range_with_len 0 (count r))) ranks in
      omega (arith, sizes, stores, sent, four, two, range)
    where
      store_few : (r : ℕ) → r < ranks → sum_below (2 ^ 32) (cap r) ≤ 4 * block_size ranks (virtual_rank r)
      store_few r l =
          let s = doubling_high (children (virtual_rank r)) (2 ^ 32 - 1) (let m = rounds_few ranks few (virtual_rank r) in omega (arith, m)) in
          let p = power_few (virtual_rank r) (back_below ranks r root l) in
          omega (arith, s, p)

  blueprint_is_bounded : IsBounded ranks count entry first (wanted (Reduce root) ranks) finds leaves (TreeEdge ranks) edge_send cap load
  blueprint_is_bounded = record {
    first_cap = first_cap;
    leaves_cap = leaves_cap;
    finds_load = finds_load;
    total = total_within_limit;
  }

  low_notes : (v i : ℕ) → i < tree_count v → All NamesLowSlots (notes_of i (tree_entry v i)) × (sum_by moved_count (notes_of i (tree_entry v i)) ≤ 1)
  low_notes v i l = go (part_of v i l)
    where
      Low : Entry → Type 0
      Low x = All NamesLowSlots (notes_of i x) × (sum_by moved_count (notes_of i x) ≤ 1)

      one : (k : ℕ) → k ≤ slot_limit → All NamesLowSlots (Moves i k k ∷ []) × (sum_by moved_count (Moves i k k ∷ []) ≤ 1)
      one k small = (All_one NamesLowSlots (Moves i k k) (small, small), omega arith)

      go : Part v i → Low (tree_entry v i)
      go (hearing j m e) =
          subst (λ (x : Entry). Low x) (sym (as_hearing v i j m e)) (one (j + 1) (let n = rounds_few ranks few v in omega (arith, m, n)))
      go (adding j m e) =
          let n = rounds_few ranks few v in
          subst (λ (x : Entry). Low x) (sym (as_adding v i j m e)) (All_one NamesLowSlots (Adds i (j + 1) 0) (omega (arith, m, n), omega arith), omega arith)
      go (rising some e) = subst (λ (x : Entry). Low x) (sym (as_rising v i e)) (one 0 (omega arith))

  made_is_small : bytes ≤ MAX_BYTES → IsSmall (made (Reduce root) ranks bytes)
  unfolding made
  made_is_small size =
      entries_small ranks count entry 1 (λ r l. let n = rounds_few ranks few (virtual_rank r) in let u = upward_few (virtual_rank r) in omega (arith, n, u)) (λ r i l m. (low_notes (virtual_rank r) i m).0) (λ r i l m. (low_notes (virtual_rank r) i m).1) (let ops = tree_total ranks few root rooted tree_count (λ v. let u = upward_few v in omega (arith, u)) in omega (arith, ops))

  pub reduce_certified : bytes ≤ MAX_BYTES → IsCertifiedFor (Reduce root) (made (Reduce root) ranks bytes)
  unfolding made
  reduce_certified size =
      subst (λ (n : ℕ). IsCertified (made (Reduce root) ranks bytes) (initial (Reduce root) n) (wanted (Reduce root) n)) (sym (length_plans ranks count entry)) (blueprint_certified ranks count entry first (wanted (Reduce root) ranks) finds leaves (TreeEdge ranks) bytes edge_send edge_recv (λ m. low m.child) (λ r i. tree_level (virtual_rank r) i) blueprint cap load blueprint_is_bounded (made_is_small size))
