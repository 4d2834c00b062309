-- The queue, as contracts see it, after one slot changed.
use Rattle.std.proofs.Common.{◌≡◌, ◌≢◌, ◌⊎◌, ◌<◌, ◌≤◌, ◌+◌, ◌*◌, ℕ, true, false, List, length, set, slice_get, slice_index, slice_index_or, Option, Some, None, is_some, IfSome, refl, sym, ap, ◌∙◌, subst, arith, inl, inr}
use Rattle.std.specs.Option.{option_map}
use Rattle.std.proofs.Math.Nat.{mul-le-mul_right}
use Rattle.std.proofs.lemmas.Bool.{cases_eq, cases_lt}
use Rattle.std.proofs.lemmas.List.{get_or_past, get_or-set_same, get_or-set_other, length-set}
use Rattle.std.proofs.lemmas.Option.{same_Some, none-some}
use Rattle.goal_graph.specs.declared.action.Timed.{Timed}
use Rattle.sim_order.specs.Events.{event_before}
use Rattle.sim_queue.specs.Map.{key_at, IsSoleLeast}
use Rattle.sim_queue.proofs.ForCallers.{key_within}
use Rattle.sim_queue.specs.Groups.{Grouped, IsEmptyGroup, IsLeastOf, IsSoleLeastOf}
use Rattle.sim_resources.specs.declared.pair.Pair.{Pair}
use Rattle.sim_stations.specs.declared.key_place.KeyPlace.{KeyPlace}
use Rattle.sim_stations.specs.declared.key_place.KeyPlace.TheVariants.{Nowhere, Ahead, Waiting}
use Rattle.sim_stations.specs.Stations.{Stationed, holds_cpu, at_time, both_free, when_free, pair_at, held, IsLater, count_ahead, cost_of_waiting}
use Rattle.sim_stations.specs.Rows.{Rowed, IsHead}
use Rattle.sim_stations.specs.Kept.{seen_keys, seen_of, stand_of, has_key, is_waiting, AreShown, IsKept, IsFound, IsDeparted}
use Rattle.sim_stations.proofs.Heads.{at_own_time_is_itself}
use Rattle.sim_stations.proofs.Times.{own_time_forgotten_if_free_later, when_free_absorbs_earlier_when_free}
use Rattle.sim_stations.proofs.Moves.{hold_effect_on_resource}
use Rattle.sim_stations.proofs.Slots.{IsStep, merged, merged_ahead, merged_waiting, pair_here, seen_key_of_mapped_slot, seen_keys_length_of_mapped, station_of, not_ahead, still_mapped, seen_there, seen_slot, seen_changed, long_now, stood_now, step_ahead, ahead_key_after_set, step_waiting, waiting_key_after_set}
use Rattle.sim_stations.proofs.Shown.{shown_after_new_head}
use Rattle.sim_stations.proofs.Joined.{kept_with_new_slots_and_rows, count_ahead_after_stand_set}

-- fewer keys ahead cost less
pub cost_falls : (k : ℕ) (new old : List KeyPlace) → count_ahead new ≤ count_ahead old → cost_of_waiting k new ≤ cost_of_waiting k old
cost_falls k new old l = mul-le-mul_right (8 * k + 12) l

-- a held resource is not free earlier than before
pub held_not_free_earlier : (free : List ℕ) (p : Pair) (cpu side : ℕ) → IsLater free p cpu side → (r : ℕ) → slice_index free r ≤ slice_index (held free p cpu side) r
held_not_free_earlier free p cpu side later r = go (cases_lt r (length free))
  where
    go : (r < length free) ⊎ (length free ≤ r) → slice_index free r ≤ slice_index (held free p cpu side) r
    go (inl l) = (hold_effect_on_resource free free p cpu side later refl r l).not_earlier
    go (inr l) = omega (arith, get_or_past free r 0 l)

pub pair_not_free_earlier_when_held : (free : List ℕ) (p : Pair) (cpu side : ℕ) → IsLater free p cpu side → (q : Pair) → both_free free q ≤ both_free (held free p cpu side) q
pair_not_free_earlier_when_held free p cpu side later q =
    omega (arith, held_not_free_earlier free p cpu side later q.cpu, held_not_free_earlier free p cpu side later q.side)

-- the queue as contracts see it
abbrev pub view : List (Option Timed) → Grouped Timed → Rowed → List KeyPlace → Option ℕ → Stationed
view ahead waiting rows stands found = record { keys = seen_of ahead waiting rows; stations = waiting.groups; stands = stands; pairs = rows.pairs; turned = rows.turned; free = rows.free; found = found }

module _ (ahead : List (Option Timed)) (waiting : Grouped Timed) (rows : Rowed) (stands : List KeyPlace) (kept : IsKept ahead waiting rows stands) where
  abbrev seen : List (Option Timed)
  seen = seen_of ahead waiting rows

  pub seen_length_is_slot_count : length seen ≡ length waiting.keys
  seen_length_is_slot_count = seen_keys_length_of_mapped ahead waiting rows.pairs kept.mapped rows.free

  -- a slot without a visible key has none
  pub not_ahead_if_no_seen_key : (slot : ℕ) → key_at seen slot ≡ None → key_at ahead slot ≡ None
  not_ahead_if_no_seen_key slot e = go (key_at ahead slot) refl
    where
      go : (o : Option Timed) → key_at ahead slot ≡ o → o ≡ None
      go None f = refl
      go (Some k) f =
          absurd (none-some (when_free rows.free (pair_here rows.pairs waiting slot) k) (sym e ∙ seen_key_of_mapped_slot ahead waiting rows.pairs kept.mapped rows.free slot ∙ ap (option_map (when_free rows.free (pair_here rows.pairs waiting slot))) (merged_ahead ahead waiting slot k f)))

  pub not_waiting_if_no_seen_key : (slot : ℕ) → key_at seen slot ≡ None → key_at waiting.keys slot ≡ None
  not_waiting_if_no_seen_key slot e = go (key_at waiting.keys slot) refl
    where
      go : (o : Option Timed) → key_at waiting.keys slot ≡ o → o ≡ None
      go None f = refl
      go (Some k) f =
          absurd (none-some (when_free rows.free (pair_here rows.pairs waiting slot) k) (sym e ∙ seen_key_of_mapped_slot ahead waiting rows.pairs kept.mapped rows.free slot ∙ ap (option_map (when_free rows.free (pair_here rows.pairs waiting slot))) (merged_waiting ahead waiting slot (not_ahead ahead waiting rows.pairs kept.mapped slot k f) ∙ f)))

  pub stands_nowhere_if_no_seen_key : (slot : ℕ) → key_at seen slot ≡ None → slice_index_or stands slot Nowhere ≡ Nowhere
  stands_nowhere_if_no_seen_key slot e =
      kept.stood.tells slot ∙ ap (λ o. stand_of o (key_at waiting.keys slot)) (not_ahead_if_no_seen_key slot e) ∙ ap (stand_of None) (not_waiting_if_no_seen_key slot e)

  -- the place of a slot says whether it has a key
  pub stand_has_key_iff_seen : (slot : ℕ) → has_key (slice_index_or stands slot Nowhere) ≡ is_some (key_at seen slot)
  stand_has_key_iff_seen slot = go (key_at ahead slot) (key_at waiting.keys slot) refl refl
    where
      there : key_at seen slot ≡ option_map (when_free rows.free (pair_here rows.pairs waiting slot)) (merged ahead waiting slot)
      there = seen_key_of_mapped_slot ahead waiting rows.pairs kept.mapped rows.free slot

      go : (a w : Option Timed) → key_at ahead slot ≡ a → key_at waiting.keys slot ≡ w → has_key (slice_index_or stands slot Nowhere) ≡ is_some (key_at seen slot)
      go (Some k) w e f =
          ap has_key (kept.stood.tells slot ∙ ap (λ o. stand_of o (key_at waiting.keys slot)) e) ∙ sym (ap is_some (there ∙ ap (option_map (when_free rows.free (pair_here rows.pairs waiting slot))) (merged_ahead ahead waiting slot k e)))
      go None (Some k) e f =
          ap has_key (kept.stood.tells slot ∙ ap (λ o. stand_of o (key_at waiting.keys slot)) e ∙ ap (stand_of None) f) ∙ sym (ap is_some (there ∙ ap (option_map (when_free rows.free (pair_here rows.pairs waiting slot))) (merged_waiting ahead waiting slot e ∙ f)))
      go None None e f =
          ap has_key (kept.stood.tells slot ∙ ap (λ o. stand_of o (key_at waiting.keys slot)) e ∙ ap (stand_of None) f) ∙ sym (ap is_some (there ∙ ap (option_map (when_free rows.free (pair_here rows.pairs waiting slot))) (merged_waiting ahead waiting slot e ∙ f)))

  pub waiting_key_stands_waiting : (slot : ℕ) (k : Timed) → key_at waiting.keys slot ≡ Some k → slice_index_or stands slot Nowhere ≡ Waiting
  waiting_key_stands_waiting slot k e =
      kept.stood.tells slot ∙ ap (λ o. stand_of o (key_at waiting.keys slot)) (not_ahead ahead waiting rows.pairs kept.mapped slot k e) ∙ ap (stand_of None) e

  pub ahead_key_stands_ahead : (slot : ℕ) (k : Timed) → key_at ahead slot ≡ Some k → slice_index_or stands slot Nowhere ≡ Ahead
  ahead_key_stands_ahead slot k e = kept.stood.tells slot ∙ ap (λ o. stand_of o (key_at waiting.keys slot)) e

  -- the slot that was found, if it does not wait
  pub found_ahead : (slot : ℕ) → IsFound ahead waiting (Some slot) → is_waiting (slice_index_or stands slot Nowhere) ≡ false → IsSoleLeast event_before ahead slot
  found_ahead slot (inl sole) e = sole
  found_ahead slot (inr sole) e =
      let waits : is_waiting (slice_index_or stands slot Nowhere) ≡ true = ap is_waiting (waiting_key_stands_waiting slot sole.key sole.has) in absurd (cc)

  pub found_waiting : (slot : ℕ) → IsFound ahead waiting (Some slot) → is_waiting (slice_index_or stands slot Nowhere) ≡ true → IsSoleLeastOf event_before waiting slot
  found_waiting slot (inr sole) e = sole
  found_waiting slot (inl sole) e =
      let not : is_waiting (slice_index_or stands slot Nowhere) ≡ false = ap is_waiting (ahead_key_stands_ahead slot sole.key sole.has) in absurd (cc)

  -- a key whose action waits for nothing does not wait
  pub at_once_key_does_not_wait : (slot : ℕ) → ((k : Timed) → key_at seen slot ≡ Some k → holds_cpu k.class ≡ false) → is_waiting (slice_index_or stands slot Nowhere) ≡ false
  at_once_key_does_not_wait slot at_once = go (key_at waiting.keys slot) refl
    where
      go : (w : Option Timed) → key_at waiting.keys slot ≡ w → is_waiting (slice_index_or stands slot Nowhere) ≡ false
      go (Some k) f =
          let has = seen_key_of_mapped_slot ahead waiting rows.pairs kept.mapped rows.free slot ∙ ap (option_map (when_free rows.free (pair_here rows.pairs waiting slot))) (merged_waiting ahead waiting slot (not_ahead ahead waiting rows.pairs kept.mapped slot k f) ∙ f) in
          let no : holds_cpu k.class ≡ false = at_once (when_free rows.free (pair_here rows.pairs waiting slot) k) has in
          let yes : holds_cpu k.class ≡ true = (kept.mapped.waits slot k f).1 in
          absurd (cc)
      go None f = none (key_at ahead slot) refl
        where
          none : (a : Option Timed) → key_at ahead slot ≡ a → is_waiting (slice_index_or stands slot Nowhere) ≡ false
          none (Some k) e = ap is_waiting (ahead_key_stands_ahead slot k e)
          none None e =
              ap is_waiting (kept.stood.tells slot ∙ ap (λ o. stand_of o (key_at waiting.keys slot)) e ∙ ap (stand_of None) f)

  -- one slot is changed, and maybe the rows with it
  module _ (slot : ℕ) (within : slot < length waiting.keys) (new_ahead : List (Option Timed)) (new_waiting : Grouped Timed) (step : IsStep slot ahead new_ahead waiting new_waiting) (new_rows : Rowed) (shown : AreShown new_waiting new_rows.keys (length new_rows.pairs)) (keyed : length new_rows.keys ≡ length new_rows.pairs) (pairs : new_rows.pairs ≡ rows.pairs) (turned : new_rows.turned ≡ rows.turned) (stand : KeyPlace) (is : stand ≡ stand_of (key_at new_ahead slot) (key_at new_waiting.keys slot)) where
    pub changed_kept : length new_rows.free ≡ length rows.free → IsKept new_ahead new_waiting new_rows (set stands slot stand)
    changed_kept free = kept_with_new_slots_and_rows ahead waiting rows stands new_ahead new_waiting new_rows (set stands slot stand) kept step.each_waiting (still_mapped ahead waiting rows.pairs kept.mapped slot new_ahead new_waiting step) shown keyed (stood_now ahead waiting rows.pairs kept.mapped slot new_ahead new_waiting step stands kept.stood within stand is) pairs (ap length turned) free

    -- at the same free times
    pub changed_seen : new_rows.free ≡ rows.free → (value : Option Timed) → option_map (when_free rows.free (pair_here rows.pairs waiting slot)) (merged new_ahead new_waiting slot) ≡ value → seen_of new_ahead new_waiting new_rows ≡ set seen slot value
    changed_seen free value v =
        ap (λ f. seen_keys f new_rows.pairs new_ahead new_waiting.keys new_waiting.groups) free ∙ ap (λ p. seen_keys rows.free p new_ahead new_waiting.keys new_waiting.groups) pairs ∙ seen_changed ahead waiting rows.pairs kept.mapped slot new_ahead new_waiting step rows.free within value v

    pairs_as : seen_of new_ahead new_waiting new_rows ≡ seen_keys new_rows.free rows.pairs new_ahead new_waiting.keys new_waiting.groups
    pairs_as = ap (λ p. seen_keys new_rows.free p new_ahead new_waiting.keys new_waiting.groups) pairs

    -- at later free times
    pub raised_there : ((q : Pair) → both_free rows.free q ≤ both_free new_rows.free q) → (one : ℕ) → one ≢ slot → key_at (seen_of new_ahead new_waiting new_rows) one ≡ option_map (when_free new_rows.free (pair_here rows.pairs waiting one)) (key_at seen one)
    raised_there later one n =
        ap (λ ks. key_at ks one) pairs_as ∙ seen_there ahead waiting rows.pairs kept.mapped slot new_ahead new_waiting step new_rows.free one n ∙ go (merged ahead waiting one) ∙ sym (ap (option_map (when_free new_rows.free (pair_here rows.pairs waiting one))) (seen_key_of_mapped_slot ahead waiting rows.pairs kept.mapped rows.free one))
      where
        p : Pair
        p = pair_here rows.pairs waiting one

        go : (m : Option Timed) → option_map (when_free new_rows.free p) m ≡ option_map (when_free new_rows.free p) (option_map (when_free rows.free p) m)
        go None = refl
        go (Some k) = ap Some (when_free_absorbs_earlier_when_free rows.free new_rows.free p (later p) k)

    pub gone_there : key_at new_ahead slot ≡ None → key_at new_waiting.keys slot ≡ None → key_at (seen_of new_ahead new_waiting new_rows) slot ≡ None
    gone_there e f =
        ap (λ ks. key_at ks slot) pairs_as ∙ seen_slot ahead waiting rows.pairs kept.mapped slot new_ahead new_waiting step new_rows.free ∙ ap (option_map (when_free new_rows.free (pair_here rows.pairs waiting slot))) (merged_waiting new_ahead new_waiting slot e ∙ f)

    pub size_now : length (seen_of new_ahead new_waiting new_rows) ≡ length seen
    size_now = ap length pairs_as ∙ long_now ahead waiting rows.pairs kept.mapped slot new_ahead new_waiting step new_rows.free ∙ sym seen_length_is_slot_count

  -- a slot leaves, and the resources of its station are held
  pub departed : (slot : ℕ) → slot < length waiting.keys → (new_ahead : List (Option Timed)) (new_waiting : Grouped Timed) → IsStep slot ahead new_ahead waiting new_waiting → (new_rows : Rowed) → AreShown new_waiting new_rows.keys (length new_rows.pairs) → length new_rows.keys ≡ length new_rows.pairs → new_rows.pairs ≡ rows.pairs → new_rows.turned ≡ rows.turned → (cpu side : ℕ) → IsLater rows.free (pair_here rows.pairs waiting slot) cpu side → new_rows.free ≡ held rows.free (pair_here rows.pairs waiting slot) cpu side → key_at new_ahead slot ≡ None → key_at new_waiting.keys slot ≡ None → IsDeparted ahead waiting rows stands slot cpu side new_ahead new_waiting new_rows
  departed slot within new_ahead new_waiting step new_rows shown keyed pairs turned cpu side later free e f = record {
    kept = changed_kept slot within new_ahead new_waiting step new_rows shown keyed pairs turned Nowhere stand_now (ap length free ∙ long);
    each = size_now slot within new_ahead new_waiting step new_rows shown keyed pairs turned Nowhere stand_now;
    gone = gone_there slot within new_ahead new_waiting step new_rows shown keyed pairs turned Nowhere stand_now e f;
    raised = raised_there slot within new_ahead new_waiting step new_rows shown keyed pairs turned Nowhere stand_now (λ q. subst (λ x. both_free rows.free q ≤ both_free x q) (sym free) (pair_not_free_earlier_when_held rows.free (pair_here rows.pairs waiting slot) cpu side later q));
    groups = step.groups;
    pairs = pairs;
    turned = turned;
    free = free;
  }
    where
      stand_now : Nowhere ≡ stand_of (key_at new_ahead slot) (key_at new_waiting.keys slot)
      stand_now = sym (ap (λ o. stand_of o (key_at new_waiting.keys slot)) e ∙ ap (stand_of None) f)

      long : length (held rows.free (pair_here rows.pairs waiting slot) cpu side) ≡ length rows.free
      long = length-set (set rows.free (pair_here rows.pairs waiting slot).cpu cpu) (pair_here rows.pairs waiting slot).side side ∙ length-set rows.free (pair_here rows.pairs waiting slot).cpu cpu

  pub ahead_departed : (slot : ℕ) (k : Timed) → key_at ahead slot ≡ Some k → slot < length waiting.keys → (new_ahead : List (Option Timed)) → new_ahead ≡ set ahead slot None → (station : ℕ) → slice_get waiting.groups slot ≡ Some station → (cpu side : ℕ) → IsLater rows.free (pair_here rows.pairs waiting slot) cpu side → (new_rows : Rowed) → new_rows ≡ record { keys = rows.keys; pairs = rows.pairs; turned = rows.turned; free = held rows.free (pair_at rows.pairs station) cpu side } → IsDeparted ahead waiting rows stands slot cpu side new_ahead waiting new_rows
  ahead_departed slot k has within new_ahead taken station member cpu side later new_rows is_new = departed slot within new_ahead waiting step new_rows (subst (λ (r : Rowed). AreShown waiting r.keys (length r.pairs)) (sym is_new) kept.shown) (subst (λ (r : Rowed). length r.keys ≡ length r.pairs) (sym is_new) kept.keyed) (ap (λ (r : Rowed). r.pairs) is_new) (ap (λ (r : Rowed). r.turned) is_new) cpu side later (ap (λ (r : Rowed). r.free) is_new ∙ ap (λ p. held rows.free p cpu side) pair_is) gone idle
    where
      idle : key_at waiting.keys slot ≡ None
      idle = kept.mapped.apart slot k has

      step : IsStep slot ahead new_ahead waiting waiting
      step = subst (λ x. IsStep slot ahead x waiting waiting) (sym taken) (step_ahead ahead waiting rows.pairs kept.mapped slot None within idle)

      gone : key_at new_ahead slot ≡ None
      gone = ap (λ ks. key_at ks slot) taken ∙ ahead_key_after_set ahead waiting rows.pairs kept.mapped slot None within

      pair_is : pair_at rows.pairs station ≡ pair_here rows.pairs waiting slot
      pair_is = ap (pair_at rows.pairs) (same_Some station (slice_index waiting.groups slot) (sym member ∙ station_of ahead waiting rows.pairs kept.mapped slot within))

  -- the least key of a station after one of its slots left
  module _ (slot station : ℕ) (member : slice_get waiting.groups slot ≡ Some station) (within : slot < length waiting.keys) (new_waiting : Grouped Timed) (taken : new_waiting ≡ record { keys = set waiting.keys slot None; groups = waiting.groups }) (least : Option Timed) (none : is_some least ≡ false → IsEmptyGroup new_waiting station) (some : IfSome least (IsLeastOf event_before new_waiting station)) where
    zero_left : (one : ℕ) (k : Timed) → key_at new_waiting.keys one ≡ Some k → k.time ≡ 0
    zero_left one k e = go (cases_eq one slot)
      where
        go : (one ≡ slot) ⊎ (one ≢ slot) → k.time ≡ 0
        go (inl s) =
            absurd (none-some k (sym (ap (λ (g : Grouped Timed). key_at g.keys slot) taken ∙ get_or-set_same waiting.keys slot None None within) ∙ ap (key_at new_waiting.keys) (sym s) ∙ e))
        go (inr n) =
            (kept.mapped.waits one k (sym (ap (λ (g : Grouped Timed). key_at g.keys one) taken ∙ get_or-set_other waiting.keys slot one None None n) ∙ e)).0

    pub left_zero : IfSome least (λ k. k.time ≡ 0)
    left_zero = go least some
      where
        go : (o : Option Timed) → IfSome o (IsLeastOf event_before new_waiting station) → IfSome o (λ k. k.time ≡ 0)
        go None s = s
        go (Some k) s = zero_left s.slot k s.has

    left_head : IsHead new_waiting station 0 least
    left_head = go least none some
      where
        go : (o : Option Timed) → (is_some o ≡ false → IsEmptyGroup new_waiting station) → IfSome o (IsLeastOf event_before new_waiting station) → IsHead new_waiting station 0 o
        go None n s = n refl
        go (Some k) n s =
            let zero = zero_left s.slot k s.has in
            (subst (IsLeastOf event_before new_waiting station) (sym (at_own_time_is_itself k 0 zero)) s, zero)

    pub left_shown : AreShown new_waiting (set rows.keys station least) (length rows.pairs)
    left_shown = shown_after_new_head waiting slot station member within None new_waiting taken rows.keys (length rows.pairs) (omega (arith, kept.mapped.within slot station member, kept.keyed)) kept.shown least left_head

    -- the resources of its station are held when it leaves
    module _ (new_rows : Rowed) (cpu side : ℕ) (later : IsLater rows.free (pair_here rows.pairs waiting slot) cpu side) where
      pair_is : pair_at rows.pairs station ≡ pair_here rows.pairs waiting slot
      pair_is = ap (pair_at rows.pairs) (same_Some station (slice_index waiting.groups slot) (sym member ∙ station_of ahead waiting rows.pairs kept.mapped slot within))

      pub left_departed : key_at ahead slot ≡ None → new_rows ≡ record { keys = set rows.keys station least; pairs = rows.pairs; turned = rows.turned; free = held rows.free (pair_at rows.pairs station) cpu side } → IsDeparted ahead waiting rows stands slot cpu side ahead new_waiting new_rows
      left_departed idle is_new = departed slot within ahead new_waiting step new_rows shown_now keyed_now (ap (λ (r : Rowed). r.pairs) is_new) (ap (λ (r : Rowed). r.turned) is_new) cpu side later (ap (λ (r : Rowed). r.free) is_new ∙ ap (λ p. held rows.free p cpu side) pair_is) idle gone_now
        where
          step : IsStep slot ahead ahead waiting new_waiting
          step = step_waiting ahead waiting rows.pairs kept.mapped slot ahead None new_waiting within refl (λ one n. refl) idle (λ k e. absurd (none-some k e)) taken

          gone_now : key_at new_waiting.keys slot ≡ None
          gone_now = waiting_key_after_set ahead waiting rows.pairs kept.mapped slot None new_waiting within taken

          shown_now : AreShown new_waiting new_rows.keys (length new_rows.pairs)
          shown_now = subst (λ (r : Rowed). AreShown new_waiting r.keys (length r.pairs)) (sym is_new) left_shown

          keyed_now : length new_rows.keys ≡ length new_rows.pairs
          keyed_now = subst (λ (r : Rowed). length r.keys ≡ length r.pairs) (sym is_new) (length-set rows.keys station least ∙ kept.keyed)

  pub found_within : (slot : ℕ) → IsFound ahead waiting (Some slot) → slot < length waiting.keys
  found_within slot (inl sole) = omega (arith, key_within ahead slot sole.key sole.has, kept.mapped.each)
  found_within slot (inr sole) = key_within waiting.keys slot sole.key sole.has

  pub ahead_no_more_after_departure : (slot : ℕ) → slot < length waiting.keys → count_ahead (set stands slot Nowhere) ≤ count_ahead stands
  ahead_no_more_after_departure slot within =
      let moved = count_ahead_after_stand_set stands slot (slice_index_or stands slot Nowhere) Nowhere (omega (arith, within, kept.stood.each)) refl in
      omega (arith, moved)

  -- an action that waits for nothing happens
  module _ (slot : ℕ) (sole : IsSoleLeast event_before ahead slot) (new_ahead : List (Option Timed)) (taken : new_ahead ≡ set ahead slot None) where
    taken_within : slot < length waiting.keys
    taken_within = omega (arith, key_within ahead slot sole.key sole.has, kept.mapped.each)

    taken_idle : key_at waiting.keys slot ≡ None
    taken_idle = kept.mapped.apart slot sole.key sole.has

    taken_step : IsStep slot ahead new_ahead waiting waiting
    taken_step = subst (λ x. IsStep slot ahead x waiting waiting) (sym taken) (step_ahead ahead waiting rows.pairs kept.mapped slot None taken_within taken_idle)

    taken_gone : key_at new_ahead slot ≡ None
    taken_gone = ap (λ ks. key_at ks slot) taken ∙ ahead_key_after_set ahead waiting rows.pairs kept.mapped slot None taken_within

    taken_stand : Nowhere ≡ stand_of (key_at new_ahead slot) (key_at waiting.keys slot)
    taken_stand = sym (ap (λ o. stand_of o (key_at waiting.keys slot)) taken_gone ∙ ap (stand_of None) taken_idle)

    pub taken_kept : IsKept new_ahead waiting rows (set stands slot Nowhere)
    taken_kept = changed_kept slot taken_within new_ahead waiting taken_step rows kept.shown kept.keyed refl refl Nowhere taken_stand refl

    pub taken_seen : seen_of new_ahead waiting rows ≡ set seen slot None
    taken_seen = changed_seen slot taken_within new_ahead waiting taken_step rows kept.shown kept.keyed refl refl Nowhere taken_stand refl None (ap (option_map (when_free rows.free (pair_here rows.pairs waiting slot))) (merged_waiting new_ahead waiting slot taken_gone ∙ taken_idle))

  -- a slot gets a key at its own time
  module _ (slot : ℕ) (within : slot < length waiting.keys) (idle : key_at seen slot ≡ None) (key : Timed) where
    module _ (new_ahead : List (Option Timed)) (put : new_ahead ≡ set ahead slot (Some key)) where
      put_step : IsStep slot ahead new_ahead waiting waiting
      put_step = subst (λ x. IsStep slot ahead x waiting waiting) (sym put) (step_ahead ahead waiting rows.pairs kept.mapped slot (Some key) within (not_waiting_if_no_seen_key slot idle))

      put_here : key_at new_ahead slot ≡ Some key
      put_here = ap (λ ks. key_at ks slot) put ∙ ahead_key_after_set ahead waiting rows.pairs kept.mapped slot (Some key) within

      put_stand : Ahead ≡ stand_of (key_at new_ahead slot) (key_at waiting.keys slot)
      put_stand = sym (ap (λ o. stand_of o (key_at waiting.keys slot)) put_here)

      pub put_kept : IsKept new_ahead waiting rows (set stands slot Ahead)
      put_kept = changed_kept slot within new_ahead waiting put_step rows kept.shown kept.keyed refl refl Ahead put_stand refl

      pub put_seen : seen_of new_ahead waiting rows ≡ set seen slot (Some (when_free rows.free (pair_here rows.pairs waiting slot) key))
      put_seen = changed_seen slot within new_ahead waiting put_step rows kept.shown kept.keyed refl refl Ahead put_stand refl (Some (when_free rows.free (pair_here rows.pairs waiting slot) key)) (ap (option_map (when_free rows.free (pair_here rows.pairs waiting slot))) (merged_ahead new_ahead waiting slot key put_here))

    pub put_more : count_ahead (set stands slot Ahead) ≡ count_ahead stands + 1
    put_more =
        let moved = count_ahead_after_stand_set stands slot Nowhere Ahead (omega (arith, within, kept.stood.each)) (stands_nowhere_if_no_seen_key slot idle) in
        omega (arith, moved)

    pub wait_same : count_ahead (set stands slot Waiting) ≡ count_ahead stands
    wait_same =
        let moved = count_ahead_after_stand_set stands slot Nowhere Waiting (omega (arith, within, kept.stood.each)) (stands_nowhere_if_no_seen_key slot idle) in
        omega (arith, moved)

    -- or waits with its station at once
    module _ (waits : holds_cpu key.class ≡ true) (late : key.time ≤ both_free rows.free (pair_here rows.pairs waiting slot)) (new_waiting : Grouped Timed) (put : new_waiting ≡ record { keys = set waiting.keys slot (Some (at_time 0 key)); groups = waiting.groups }) (new_rows : Rowed) (shown : AreShown new_waiting new_rows.keys (length new_rows.pairs)) (keyed : length new_rows.keys ≡ length new_rows.pairs) (pairs : new_rows.pairs ≡ rows.pairs) (turned : new_rows.turned ≡ rows.turned) (free : new_rows.free ≡ rows.free) where
      wait_step : IsStep slot ahead ahead waiting new_waiting
      wait_step = step_waiting ahead waiting rows.pairs kept.mapped slot ahead (Some (at_time 0 key)) new_waiting within refl (λ one n. refl) (not_ahead_if_no_seen_key slot idle) (λ k e. let same = same_Some (at_time 0 key) k e in (sym (ap (λ (t : Timed). t.time) same), ap (λ (t : Timed). holds_cpu t.class) (sym same) ∙ waits)) put

      wait_here : key_at new_waiting.keys slot ≡ Some (at_time 0 key)
      wait_here = waiting_key_after_set ahead waiting rows.pairs kept.mapped slot (Some (at_time 0 key)) new_waiting within put

      wait_stand : Waiting ≡ stand_of (key_at ahead slot) (key_at new_waiting.keys slot)
      wait_stand = sym (ap (λ o. stand_of o (key_at new_waiting.keys slot)) (not_ahead_if_no_seen_key slot idle) ∙ ap (stand_of None) wait_here)

      pub wait_kept : IsKept ahead new_waiting new_rows (set stands slot Waiting)
      wait_kept = changed_kept slot within ahead new_waiting wait_step new_rows shown keyed pairs turned Waiting wait_stand (ap length free)

      pub wait_seen : seen_of ahead new_waiting new_rows ≡ set seen slot (Some (when_free rows.free (pair_here rows.pairs waiting slot) key))
      wait_seen = changed_seen slot within ahead new_waiting wait_step new_rows shown keyed pairs turned Waiting wait_stand free (Some (when_free rows.free (pair_here rows.pairs waiting slot) key)) (ap (option_map (when_free rows.free (pair_here rows.pairs waiting slot))) (merged_waiting ahead new_waiting slot (not_ahead_if_no_seen_key slot idle) ∙ wait_here) ∙ ap Some (own_time_forgotten_if_free_later rows.free (pair_here rows.pairs waiting slot) key waits late))
