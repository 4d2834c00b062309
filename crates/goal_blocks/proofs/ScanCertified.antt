-- The scan along a line is certified, for every number of ranks up to 2,048 and every size.
use Rattle.std.proofs.Common.{⊎_elim, ℕ, zero, suc, ◌+◌, ◌*◌, ◌^◌, ◌<◌, ◌≤◌, ◌≡◌, ◌⊎◌, nat_lt, inl, inr, Bool, true, false, [], ◌∷◌, ◌++◌, map, length, All, Option, if◌then◌else◌, refl, sym, ◌∙◌, subst, arith, add-one}
use Rattle.std.specs.List.{range_with_len, sum_by}
use Rattle.std.proofs.lemmas.Bool.{lt-ltb, ltb-true, ne_eqb}
use Rattle.std.proofs.lemmas.List.Elements.{All-head, All-tail, All-map}
use Rattle.goal_limits.specs.Limits.{weight_limit}
use Rattle.goal_graph.specs.declared.plan.Kind.TheVariants.{Calc, Recv}
use Rattle.goal_graph.specs.declared.plan.Note.TheVariants.{Moves, Adds}
use Rattle.goal_limits.specs.declared.limits.TheConstants.{MAX_BYTES}
use Rattle.goal_limits.specs.declared.collective.Collective.TheVariants.{Scan}
use Rattle.goal_blocks.specs.Slots.{Adding, slots_from}
use Rattle.goal_blocks.specs.Values.{Contribution, Value, Store, is_lower, insert_one, merge}
use Rattle.goal_blocks.specs.Weight.{sum_below}
use Rattle.goal_blocks.specs.Certification.{NamesLowSlots, moved_count, IsSmall, IsCertified}
use Rattle.goal_blocks.specs.Collectives.{single, of_each, initial, wanted}
use Rattle.goal_blocks.specs.Certified.{IsCertifiedFor}
use Rattle.goal_blocks.specs.Entries.{Entry, notes_of}
use Rattle.goal_blocks.specs.Positions.{upward}
use Rattle.goal_blocks.specs.MadeRooted.{scan_in, scan_count}
use Rattle.goal_blocks.specs.Generated.{made}
use Rattle.goal_blocks.proofs.Orders.{Mem}
use Rattle.goal_blocks.proofs.PlanBy.{map_of_next_range}
use Rattle.goal_blocks.proofs.Fitting.{All-range}
use Rattle.goal_blocks.proofs.Slim.{All_one}
use Rattle.goal_blocks.proofs.EntryFacts.{length_plans}
use Rattle.goal_blocks.proofs.RingAndTree.{upward_some, upward_few}
use Rattle.goal_blocks.proofs.MadeFits.{scan_fits}
use Rattle.goal_blocks.proofs.MadePaired.{LineHop, line_send, line_recv, line_messages}
use Rattle.goal_blocks.proofs.Sizes.{sum_below_few, sum_low_few, entries_small}
use Rattle.goal_blocks.proofs.Totals.{sum_range_few}
use Rattle.goal_blocks.proofs.Blueprint.{slots_moved_by, touches, writes, Precedes, now, IsThere, Origin, Final, IsBlueprint, IsBounded, blueprint_certified}
use Rattle.goal_blocks.proofs.Wishes.{length_of_each, of_each_single, is_value_reflexive}

-- a contribution that is lower than none in a value is inserted at the end
insert_last : (c : Contribution) (v : Value) → All (λ (d : Contribution). is_lower c d ≡ false) v → insert_one c v ≡ v ++ c ∷ []
unfolding insert_one
insert_last c [] all = refl
insert_last c (d ∷ ds) all =
    rw (All-head (λ (d : Contribution). is_lower c d ≡ false) d ds all, insert_last c ds (All-tail (λ (d : Contribution). is_lower c d ≡ false) d ds all)) refl

-- merging in the contribution of the next rank
pub of_each_with_next : (n : ℕ) → merge (single n 0) (of_each n 0) ≡ of_each (n + 1) 0
unfolding merge of_each
of_each_with_next n =
    insert_last (record { rank = n; item = 0 }) (of_each n 0) (All-map (λ (d : Contribution). is_lower (record { rank = n; item = 0 }) d ≡ false) (λ (q : ℕ). record { rank = q; item = 0 }) (range_with_len 0 n) (All-range (λ (q : ℕ). is_lower (record { rank = n; item = 0 }) (record { rank = q; item = 0 }) ≡ false) n (λ q l. rw (not_lower q l, ne_eqb n q (λ e. omega (arith, e, l))) refl))) ∙ sym (map_of_next_range (λ (q : ℕ). record { rank = q; item = 0 }) n)
  where
    not_lower : (q : ℕ) → q < n → nat_lt n q ≡ false
    not_lower q l = go (nat_lt n q) refl
      where
        go : (b : Bool) → nat_lt n q ≡ b → b ≡ false
        go true e = absurd (let m = ltb-true n q e in omega (arith, m, l))
        go false e = refl

-- what each operation finds in the slots that it reads, and leaves in those that it writes
scan_finds : ℕ → ℕ → ℕ → Value
scan_finds r (suc zero) zero = single r 0
scan_finds r (suc zero) (suc k) = of_each r 0
scan_finds r i k = of_each (r + 1) 0

scan_leaves : ℕ → ℕ → ℕ → Value
scan_leaves r zero k = of_each r 0
scan_leaves r (suc i) k = of_each (r + 1) 0

-- a message is at an odd level, and the calc after it at the even level above
scan_level : ℕ → ℕ → ℕ
scan_level zero i = 1
scan_level (suc w) zero = 2 * w + 1
scan_level (suc w) (suc zero) = 2 * suc w
scan_level (suc w) (suc (suc b)) = 2 * suc w + 1

module _ (ranks bytes : ℕ) (some : 0 < ranks) (few : ranks ≤ 2048) where
  abbrev count : ℕ → ℕ
  count r = scan_count ranks r

  abbrev entry : ℕ → ℕ → Entry
  entry r i = scan_in bytes r i

  abbrev first : Store
  first = initial Scan ranks

  later_rank_has_two_ops : (w : ℕ) → 2 ≤ scan_count ranks (suc w)
  unfolding scan_count
  later_rank_has_two_ops w = let one = upward_some (suc w) (omega arith) in omega (arith, one)

  at_most_one_send : (b : Bool) → (if b then 1 else 0) ≤ 1
  at_most_one_send true = omega arith
  at_most_one_send false = omega arith

  first_rank_has_one_op : scan_count ranks 0 ≤ 1
  unfolding scan_count
  first_rank_has_one_op = let up : upward 0 ≡ 0 = refl in let last = at_most_one_send (nat_lt (0 + 1) ranks) in omega (arith, up, last)

  count_few : (r : ℕ) → scan_count ranks r ≤ 3
  unfolding scan_count
  count_few r = let up = upward_few r in let last = at_most_one_send (nat_lt (r + 1) ranks) in omega (arith, up, last)

  needs_are_lower : (r i k : ℕ) → Mem k (entry r i).needs → (k < count r) × (scan_level r k < scan_level r i)
  unfolding scan_in scan_level
  needs_are_lower zero i k m = absurd m
  needs_are_lower (suc w) zero k m = absurd m
  needs_are_lower (suc w) (suc zero) k (inr m) = absurd m
  needs_are_lower (suc w) (suc zero) k (inl e) =
      subst (λ (n : ℕ). (n < count (suc w)) × (scan_level (suc w) n < 2 * suc w)) e (let two = later_rank_has_two_ops w in omega (arith, two), omega arith)
  needs_are_lower (suc w) (suc (suc b)) k (inr m) = absurd m
  needs_are_lower (suc w) (suc (suc b)) k (inl e) =
      subst (λ (n : ℕ). (n < count (suc w)) × (scan_level (suc w) n < 2 * suc w + 1)) e (let two = later_rank_has_two_ops w in omega (arith, two), omega arith)

  -- which operation writes which slot
  written_slot_cases : (r j k : ℕ) → Mem k (writes (entry r j)) → (0 < r) × (((j ≡ 0) × (1 ≡ k)) ⊎ ((j ≡ 1) × (0 ≡ k)))
  unfolding scan_in slots_from
  written_slot_cases zero j k m = absurd m
  written_slot_cases (suc w) zero k (inl e) = (omega arith, inl (refl, e))
  written_slot_cases (suc w) zero k (inr m) = absurd m
  written_slot_cases (suc w) (suc zero) k (inl e) = (omega arith, inr (refl, e))
  written_slot_cases (suc w) (suc zero) k (inr m) = absurd m
  written_slot_cases (suc w) (suc (suc b)) k m = absurd m

  slots_written_by_ops : (w : ℕ) → Mem 1 (writes (entry (suc w) 0)) × Mem 0 (writes (entry (suc w) 1))
  unfolding scan_in slots_from
  slots_written_by_ops w = (inl refl, inl refl)

  conflicts_are_ordered : (r i j k : ℕ) → (i ≡ j → ⊥) → Mem k (touches (entry r i)) → Mem k (writes (entry r j)) → Precedes (entry r) i j ⊎ Precedes (entry r) j i
  unfolding scan_in slots_from
  conflicts_are_ordered zero i j k differ t w = absurd w
  conflicts_are_ordered (suc v) zero zero k differ t w = absurd (differ refl)
  conflicts_are_ordered (suc v) (suc zero) zero k differ t w = inr (now (inl refl))
  conflicts_are_ordered (suc v) (suc (suc b)) zero k differ (inl e) (inl f) = absurd (omega (arith, e, f))
  conflicts_are_ordered (suc v) (suc (suc b)) zero k differ (inl e) (inr n) = absurd n
  conflicts_are_ordered (suc v) (suc (suc b)) zero k differ (inr n) w = absurd n
  conflicts_are_ordered (suc v) zero (suc zero) k differ (inl e) (inl f) = absurd (omega (arith, e, f))
  conflicts_are_ordered (suc v) zero (suc zero) k differ (inl e) (inr n) = absurd n
  conflicts_are_ordered (suc v) zero (suc zero) k differ (inr n) w = absurd n
  conflicts_are_ordered (suc v) (suc zero) (suc zero) k differ t w = absurd (differ refl)
  conflicts_are_ordered (suc v) (suc (suc b)) (suc zero) k differ t w = inr (now (inl refl))
  conflicts_are_ordered (suc v) i (suc (suc c)) k differ t w = absurd w

  first_own : (r : ℕ) → r < ranks → first r 0 ≡ single r 0
  unfolding initial
  first_own r inside = rw (lt-ltb r ranks inside) refl

  wanted_at_end : (r : ℕ) → r < ranks → wanted Scan ranks r 0 (of_each (r + 1) 0) ≡ true
  unfolding wanted
  wanted_at_end r inside = rw (lt-ltb r ranks inside) (is_value_reflexive (of_each (r + 1) 0))

  nothing_wanted_elsewhere : (r k : ℕ) (v : Value) → wanted Scan ranks r (suc k) v ≡ true
  unfolding wanted
  nothing_wanted_elsewhere r k v = rw (ne_eqb (suc k) 0 (λ e. omega (arith, e))) (go (nat_lt r ranks))
    where
      go : (b : Bool) → (if b then true else true) ≡ true
      go true = refl
      go false = refl

  touched_has_origin : (r i k : ℕ) → IsThere ranks count entry r i → ((room : ℕ) (from t : Option ℕ) → (entry r i).kind ≡ Recv room from t → ⊥) → Mem k (touches (entry r i)) → Origin ranks count entry first (wanted Scan ranks) scan_finds scan_leaves r i k
  unfolding scan_in slots_from scan_finds scan_leaves
  touched_has_origin zero i k there not_receive (inr n) = absurd n
  touched_has_origin zero zero k there not_receive (inl e) =
      inl (subst (λ (n : ℕ). first 0 n ≡ of_each 1 0) e (first_own 0 there.0 ∙ sym of_each_single), λ j l w. let v = (written_slot_cases 0 j k w).0 in absurd (omega (arith, v)))
  touched_has_origin zero (suc i) k there not_receive (inl e) =
      let one = there.1 in absurd (let c = first_rank_has_one_op in omega (arith, one, c))
  touched_has_origin (suc w) zero k there not_receive t = absurd (not_receive _ _ _ refl)
  touched_has_origin (suc w) (suc zero) k there not_receive (inl e) =
      inr (0, let two = later_rank_has_two_ops w in omega (arith, two), subst (λ (n : ℕ). Mem n (writes (entry (suc w) 0))) e (slots_written_by_ops w).0, now (inl refl), found k e, λ l m u. ⊎_elim (λ p. inl (inr p.0)) (λ p. let f = p.1 in absurd (omega (arith, e, f))) (written_slot_cases (suc w) l k u).1)
    where
      found : (k : ℕ) → 1 ≡ k → scan_leaves (suc w) 0 k ≡ scan_finds (suc w) 1 k
      found zero f = absurd (omega (arith, f))
      found (suc n) f = refl
  touched_has_origin (suc w) (suc zero) k there not_receive (inr (inl e)) =
      inl (subst (λ (n : ℕ). first (suc w) n ≡ scan_finds (suc w) 1 n) e (first_own (suc w) there.0), λ l m u. ⊎_elim (λ p. let f = p.1 in absurd (omega (arith, e, f))) (λ p. inl p.0) (written_slot_cases (suc w) l k u).1)
  touched_has_origin (suc w) (suc zero) k there not_receive (inr (inr n)) = absurd n
  touched_has_origin (suc w) (suc (suc b)) k there not_receive (inr n) = absurd n
  touched_has_origin (suc w) (suc (suc b)) k there not_receive (inl e) =
      inr (1, let two = later_rank_has_two_ops w in omega (arith, two), subst (λ (n : ℕ). Mem n (writes (entry (suc w) 1))) e (slots_written_by_ops w).1, now (inl refl), refl, λ l m u. ⊎_elim (λ p. let f = p.1 in absurd (omega (arith, e, f))) (λ p. inl (inr p.0)) (written_slot_cases (suc w) l k u).1)

  slots_end_as_wanted : (r k : ℕ) → r < ranks → Final ranks count entry first (wanted Scan ranks) scan_finds scan_leaves r k
  unfolding scan_leaves
  slots_end_as_wanted r (suc k) inside = inl (λ v. nothing_wanted_elsewhere r k v)
  slots_end_as_wanted zero zero inside =
      inr (inl (λ j l w. let v = (written_slot_cases 0 j 0 w).0 in omega (arith, v), subst (λ (v : Value). wanted Scan ranks 0 0 v ≡ true) (sym (first_own 0 inside ∙ sym of_each_single)) (wanted_at_end 0 inside)))
  slots_end_as_wanted (suc w) zero inside =
      inr (inr (1, let two = later_rank_has_two_ops w in omega (arith, two), (slots_written_by_ops w).1, λ l m u. ⊎_elim (λ p. let f = p.1 in absurd (omega (arith, f))) (λ p. inl p.0) (written_slot_cases (suc w) l 0 u).1, wanted_at_end (suc w) inside))

  summed : (r i nanos : ℕ) → (entry r i).kind ≡ Calc nanos → (a : Adding) × ((entry r i).adds ≡ a ∷ []) × (merge (scan_finds r i a.to) (scan_finds r i a.from) ≡ scan_leaves r i a.to)
  unfolding scan_in scan_finds scan_leaves
  summed zero i nanos e = absurd (cc e)
  summed (suc w) zero nanos e = absurd (cc e)
  summed (suc w) (suc zero) nanos e = (record { from = 1; to = 0 }, refl, of_each_with_next (suc w))
  summed (suc w) (suc (suc b)) nanos e = absurd (cc e)

  same_level : (r : ℕ) → scan_level r (2 * upward r) ≡ scan_level (r + 1) 0
  unfolding scan_level
  same_level zero = omega arith
  same_level (suc w) =
      let two : 2 * upward (suc w) ≡ 2 = omega (arith, upward_some (suc w) (omega arith)) in
      rw (two, add-one (suc w)) (omega arith)

  message_keeps_values : (r : ℕ) → map (scan_finds r (2 * upward r)) (slots_moved_by (entry r (2 * upward r))) ≡ map (scan_leaves (r + 1) 0) (slots_moved_by (entry (r + 1) 0))
  unfolding scan_in slots_from scan_finds scan_leaves
  message_keeps_values zero = refl
  message_keeps_values (suc w) =
      let two : 2 * upward (suc w) ≡ 2 = omega (arith, upward_some (suc w) (omega arith)) in
      rw (two, add-one (suc w)) refl

  blueprint : IsBlueprint ranks count entry first (wanted Scan ranks) scan_finds scan_leaves (LineHop ranks bytes) bytes (line_send ranks bytes) (line_recv ranks bytes) (λ h. 0) scan_level
  blueprint = record {
    messages = line_messages ranks bytes;
    lower = λ r i k there m. needs_are_lower r i k m;
    same_level = λ h. same_level h.from;
    race = λ r i j k inside l m differ t w. conflicts_are_ordered r i j k differ t w;
    source = touched_has_origin;
    summed = λ r i nanos there k. summed r i nanos k;
    kept = λ h. message_keeps_values h.from;
    final = slots_end_as_wanted;
  }

  -- the two slots of a rank and its message each have at most one contribution per rank
  cap : ℕ → ℕ → ℕ
  cap r zero = ranks
  cap r (suc zero) = ranks
  cap r (suc (suc k)) = 0

  load : ℕ → ℕ → ℕ
  load zero i = ranks
  load (suc w) zero = 0
  load (suc w) (suc zero) = 0
  load (suc w) (suc (suc b)) = ranks

  cap_sum : (r : ℕ) → sum_below (2 ^ 32) (cap r) ≤ 2 * ranks
  unfolding cap
  cap_sum r = sum_low_few (2 ^ 32) 2 ranks (cap r) each none
    where
      each : (k : ℕ) → cap r k ≤ ranks
      each zero = omega arith
      each (suc zero) = omega arith
      each (suc (suc k)) = omega arith

      none : (k : ℕ) → 2 ≤ k → cap r k ≡ 0
      none zero l = absurd (omega (arith, l))
      none (suc zero) l = absurd (omega (arith, l))
      none (suc (suc k)) l = refl

  load_sum : (r : ℕ) → sum_by (load r) (range_with_len 0 (count r)) ≤ ranks
  unfolding load
  load_sum zero = at (scan_count ranks 0) first_rank_has_one_op
    where
      at : (n : ℕ) → n ≤ 1 → sum_by (load 0) (range_with_len 0 n) ≤ ranks
      at zero l = omega arith
      at (suc zero) l = omega arith
      at (suc (suc n)) l = absurd (omega (arith, l))
  load_sum (suc w) = at (scan_count ranks (suc w)) three_few
    where
      three_few : scan_count ranks (suc w) ≤ 3
      three_few = count_few (suc w)

      at : (n : ℕ) → n ≤ 3 → sum_by (load (suc w)) (range_with_len 0 n) ≤ ranks
      at zero l = omega arith
      at (suc zero) l = omega arith
      at (suc (suc zero)) l = omega arith
      at (suc (suc (suc zero))) l = omega arith
      at (suc (suc (suc (suc n)))) l = absurd (omega (arith, l))

  first_cap : (r k : ℕ) → length (first r k) ≤ cap r k
  unfolding initial cap
  first_cap r zero = go (nat_lt r ranks) refl
    where
      go : (b : Bool) → nat_lt r ranks ≡ b → length (if b then single r 0 else []) ≤ ranks
      go true e = let inside = ltb-true r ranks e in omega (arith, inside)
      go false e = omega arith
  first_cap r (suc k) = rw (ne_eqb (suc k) 0 (λ e. omega (arith, e))) (go (nat_lt r ranks) (suc k))
    where
      go : (b : Bool) (n : ℕ) → length {A = Contribution} (if b then [] else []) ≤ cap r n
      go true n = omega arith
      go false n = omega arith

  leaves_cap : (r i k : ℕ) → IsThere ranks count entry r i → Mem k (writes (entry r i)) → length (scan_leaves r i k) ≤ cap r k
  unfolding scan_leaves cap
  leaves_cap r i k there w = ⊎_elim (λ p. at_one p.0 p.1) (λ p. at_zero p.0 p.1) (written_slot_cases r i k w).1
    where
      at_one : i ≡ 0 → 1 ≡ k → length (scan_leaves r i k) ≤ cap r k
      at_one e f =
          let size = length_of_each r 0 in
          let inside = there.0 in
          subst (λ (n : ℕ). length (scan_leaves r n k) ≤ cap r k) (sym e) (subst (λ (n : ℕ). length (of_each r 0) ≤ cap r n) f (omega (arith, size, inside)))

      at_zero : i ≡ 1 → 0 ≡ k → length (scan_leaves r i k) ≤ cap r k
      at_zero e f =
          let size = length_of_each (r + 1) 0 in
          let inside = there.0 in
          subst (λ (n : ℕ). length (scan_leaves r n k) ≤ cap r k) (sym e) (subst (λ (n : ℕ). length (of_each (r + 1) 0) ≤ cap r n) f (omega (arith, size, inside)))

  finds_load : (r : ℕ) → r + 1 < ranks → sum_by (λ (v : Value). length v) (map (scan_finds r (2 * upward r)) (slots_moved_by (entry r (2 * upward r)))) ≤ load r (2 * upward r)
  unfolding scan_in slots_from scan_finds load
  finds_load zero inside = let size = length_of_each (0 + 1) 0 in omega (arith, size, inside)
  finds_load (suc w) inside =
      let two : 2 * upward (suc w) ≡ 2 = omega (arith, upward_some (suc w) (omega arith)) in
      let size = length_of_each (suc w + 1) 0 in
      rw two (omega (arith, size, inside))

  total_within_limit : sum_below ranks (λ r. sum_below (2 ^ 32) (cap r)) + sum_by (λ r. sum_by (load r) (range_with_len 0 (count r))) (range_with_len 0 ranks) ≤ weight_limit
  total_within_limit =
      let stores = sum_below_few ranks 4096 (λ r. sum_below (2 ^ 32) (cap r)) (λ r l. let s = cap_sum r in omega (arith, s, few)) in
      let loads = sum_range_few (λ r. sum_by (load r) (range_with_len 0 (count r))) ranks 2048 (λ r l. let s = load_sum r in omega (arith, s, few)) in
      omega (arith, stores, loads, few)

  blueprint_is_bounded : IsBounded ranks count entry first (wanted Scan ranks) scan_finds scan_leaves (LineHop ranks bytes) (line_send ranks bytes) cap load
  blueprint_is_bounded = record {
    first_cap = first_cap;
    leaves_cap = leaves_cap;
    finds_load = λ h. finds_load h.from h.below;
    total = total_within_limit;
  }

  low_notes : (r i n : ℕ) → All NamesLowSlots (notes_of n (entry r i)) × (sum_by moved_count (notes_of n (entry r i)) ≤ 1)
  unfolding scan_in
  low_notes zero i n = (All_one NamesLowSlots (Moves n 0 0) (omega arith, omega arith), omega arith)
  low_notes (suc w) zero n = (All_one NamesLowSlots (Moves n 1 1) (omega arith, omega arith), omega arith)
  low_notes (suc w) (suc zero) n = (All_one NamesLowSlots (Adds n 1 0) (omega arith, omega arith), omega arith)
  low_notes (suc w) (suc (suc b)) n = (All_one NamesLowSlots (Moves n 0 0) (omega arith, omega arith), omega arith)

  made_is_small : bytes ≤ MAX_BYTES → IsSmall (made Scan ranks bytes)
  unfolding made
  made_is_small size =
      entries_small ranks count entry 1 (λ r l. let three = count_few r in omega (arith, three)) (λ r i l m. (low_notes r i i).0) (λ r i l m. (low_notes r i i).1) (let ops = (scan_fits ranks bytes size some few).few_ops in omega (arith, ops))

  pub scan_certified : bytes ≤ MAX_BYTES → IsCertifiedFor Scan (made Scan ranks bytes)
  unfolding made
  scan_certified size =
      subst (λ (n : ℕ). IsCertified (made Scan ranks bytes) (initial Scan n) (wanted Scan n)) (sym (length_plans ranks count entry)) (blueprint_certified ranks count entry first (wanted Scan ranks) scan_finds scan_leaves (LineHop ranks bytes) bytes (line_send ranks bytes) (line_recv ranks bytes) (λ h. 0) scan_level blueprint cap load blueprint_is_bounded (made_is_small size))
