-- A slot that was ahead waits with its station.
use Rattle.std.proofs.Common.{◌≡◌, ◌≢◌, ◌⊎◌, ◌<◌, ◌≤◌, ◌+◌, ℕ, true, List, length, set, slice_get, slice_index, slice_index_or, Option, Some, None, sym, ap, ◌∙◌, subst, arith, inl, inr}
use Rattle.std.specs.Option.{option_map}
use Rattle.std.proofs.lemmas.Bool.{cases_eq}
use Rattle.std.proofs.lemmas.List.{get_or-set_same, get_or-set_other, length-set}
use Rattle.std.proofs.lemmas.List.Sums.{sum_by-set}
use Rattle.std.proofs.lemmas.Option.{same_Some}
use Rattle.goal_graph.specs.declared.action.Timed.{Timed}
use Rattle.sim_queue.specs.Map.{key_at}
use Rattle.sim_queue.proofs.ForCallers.{same_maps, key_within}
use Rattle.sim_queue.specs.Groups.{Grouped}
use Rattle.sim_resources.specs.declared.pair.Pair.{Pair}
use Rattle.sim_stations.specs.declared.key_place.KeyPlace.{KeyPlace}
use Rattle.sim_stations.specs.declared.key_place.KeyPlace.TheVariants.{Nowhere, Ahead, Waiting}
use Rattle.sim_stations.specs.Stations.{holds_cpu, at_time, one_ahead, count_ahead, both_free, when_free, pair_at}
use Rattle.sim_stations.specs.Rows.{Rowed}
use Rattle.sim_stations.specs.Kept.{seen_keys, seen_of, stand_of, AreMapped, AreShown, AreStands, IsKept}
use Rattle.sim_stations.proofs.Times.{own_time_forgotten_if_free_later}
use Rattle.sim_stations.proofs.Slots.{IsStep, merged, merged_ahead, merged_waiting, pair_here, seen_key_of_mapped_slot, seen_keys_length_of_mapped, station_of, still_mapped, seen_there, seen_slot, long_now, stood_now, step_waiting, waiting_key_after_set}

-- the resources are the same, and the least keys of the stations are those of the slots that wait now
pub kept_with_new_slots_and_rows :
    (ahead : List (Option Timed)) (waiting : Grouped Timed) (rows : Rowed) (stands : List KeyPlace)
    → (new_ahead : List (Option Timed)) (new_waiting : Grouped Timed) (new_rows : Rowed) (new_stands : List KeyPlace)
    → IsKept ahead waiting rows stands
    → length new_waiting.keys ≡ length waiting.keys
    → AreMapped new_ahead new_waiting rows.pairs
    → AreShown new_waiting new_rows.keys (length new_rows.pairs)
    → length new_rows.keys ≡ length new_rows.pairs
    → AreStands new_stands new_ahead new_waiting
    → new_rows.pairs ≡ rows.pairs
    → length new_rows.turned ≡ length rows.turned
    → length new_rows.free ≡ length rows.free
    → IsKept new_ahead new_waiting new_rows new_stands
kept_with_new_slots_and_rows ahead waiting rows stands new_ahead new_waiting new_rows new_stands kept long mapped shown keyed stood pairs turned free = record {
  mapped = subst (AreMapped new_ahead new_waiting) (sym pairs) mapped;
  shown = shown;
  stood = stood;
  keyed = keyed;
  placed = turned ∙ kept.placed ∙ ap length (sym pairs);
  few_stations = omega (arith, kept.few_stations, long, ap length pairs);
  few_resources = omega (arith, kept.few_resources, long, free);
}

-- the place of one slot changes
pub count_ahead_after_stand_set : (stands : List KeyPlace) (slot : ℕ) (was now : KeyPlace) → slot < length stands → slice_index_or stands slot Nowhere ≡ was → count_ahead (set stands slot now) + one_ahead was ≡ count_ahead stands + one_ahead now
count_ahead_after_stand_set stands slot was now l e =
    ap (λ s. count_ahead (set stands slot now) + one_ahead s) (sym e) ∙ sum_by-set one_ahead stands slot now Nowhere l

module _ (ahead : List (Option Timed)) (waiting : Grouped Timed) (rows : Rowed) (stands : List KeyPlace) (kept : IsKept ahead waiting rows stands) (slot : ℕ) (key : Timed) (has : key_at ahead slot ≡ Some key) where
  slot_within_waiting_keys : slot < length waiting.keys
  slot_within_waiting_keys = omega (arith, key_within ahead slot key has, kept.mapped.each)

  was_ahead : slice_index_or stands slot Nowhere ≡ Ahead
  was_ahead = kept.stood.tells slot ∙ ap (λ o. stand_of o (key_at waiting.keys slot)) has

  pub one_fewer_ahead_after_join : count_ahead (set stands slot Waiting) + 1 ≡ count_ahead stands
  one_fewer_ahead_after_join =
      let moved = count_ahead_after_stand_set stands slot Ahead Waiting (omega (arith, slot_within_waiting_keys, kept.stood.each)) was_ahead in
      omega (arith, moved)

  module _ (waits : holds_cpu key.class ≡ true) (late : (station : ℕ) → slice_get waiting.groups slot ≡ Some station → key.time ≤ both_free rows.free (pair_at rows.pairs station)) (new_ahead : List (Option Timed)) (new_waiting : Grouped Timed) (new_rows : Rowed) (taken : new_ahead ≡ set ahead slot None) (put : new_waiting ≡ record { keys = set waiting.keys slot (Some (at_time 0 key)); groups = waiting.groups }) (shown : AreShown new_waiting new_rows.keys (length new_rows.pairs)) (keyed : length new_rows.keys ≡ length new_rows.pairs) (pairs : new_rows.pairs ≡ rows.pairs) (turned : new_rows.turned ≡ rows.turned) (free : new_rows.free ≡ rows.free) where
    idle_now : key_at new_ahead slot ≡ None
    idle_now = ap (λ ks. key_at ks slot) taken ∙ get_or-set_same ahead slot None None (key_within ahead slot key has)

    step : IsStep slot ahead new_ahead waiting new_waiting
    step = step_waiting ahead waiting rows.pairs kept.mapped slot new_ahead (Some (at_time 0 key)) new_waiting slot_within_waiting_keys (ap length taken ∙ length-set ahead slot None) (λ one n. ap (λ ks. key_at ks one) taken ∙ get_or-set_other ahead slot one None None n) idle_now (λ k e. let same = same_Some (at_time 0 key) k e in (sym (ap (λ (t : Timed). t.time) same), ap (λ (t : Timed). holds_cpu t.class) (sym same) ∙ waits)) put

    has_now : key_at new_waiting.keys slot ≡ Some (at_time 0 key)
    has_now = waiting_key_after_set ahead waiting rows.pairs kept.mapped slot (Some (at_time 0 key)) new_waiting slot_within_waiting_keys put

    stand_now : Waiting ≡ stand_of (key_at new_ahead slot) (key_at new_waiting.keys slot)
    stand_now = sym (ap (λ o. stand_of o (key_at new_waiting.keys slot)) idle_now ∙ ap (stand_of None) has_now)

    pub joined_kept : IsKept new_ahead new_waiting new_rows (set stands slot Waiting)
    joined_kept = kept_with_new_slots_and_rows ahead waiting rows stands new_ahead new_waiting new_rows (set stands slot Waiting) kept step.each_waiting (still_mapped ahead waiting rows.pairs kept.mapped slot new_ahead new_waiting step) shown keyed (stood_now ahead waiting rows.pairs kept.mapped slot new_ahead new_waiting step stands kept.stood slot_within_waiting_keys Waiting stand_now) pairs (ap length turned) (ap length free)

    abbrev pair : Pair
    pair = pair_here rows.pairs waiting slot

    same_here : option_map (when_free rows.free pair) (merged new_ahead new_waiting slot) ≡ option_map (when_free rows.free pair) (merged ahead waiting slot)
    same_here =
        let left : merged new_ahead new_waiting slot ≡ Some (at_time 0 key) = merged_waiting new_ahead new_waiting slot idle_now ∙ has_now in
        let right : merged ahead waiting slot ≡ Some key = merged_ahead ahead waiting slot key has in
        let free_then : key.time ≤ both_free rows.free pair = late (slice_index waiting.groups slot) (station_of ahead waiting rows.pairs kept.mapped slot slot_within_waiting_keys) in
        ap (option_map (when_free rows.free pair)) left ∙ ap Some (own_time_forgotten_if_free_later rows.free pair key waits free_then) ∙ sym (ap (option_map (when_free rows.free pair)) right)

    abbrev now : List (Option Timed)
    now = seen_keys rows.free rows.pairs new_ahead new_waiting.keys new_waiting.groups

    each : (i : ℕ) → (i ≡ slot) ⊎ (i ≢ slot) → key_at now i ≡ key_at (seen_of ahead waiting rows) i
    each i (inl e) =
        ap (key_at now) e ∙ seen_slot ahead waiting rows.pairs kept.mapped slot new_ahead new_waiting step rows.free ∙ same_here ∙ sym (seen_key_of_mapped_slot ahead waiting rows.pairs kept.mapped rows.free slot) ∙ ap (key_at (seen_of ahead waiting rows)) (sym e)
    each i (inr n) =
        seen_there ahead waiting rows.pairs kept.mapped slot new_ahead new_waiting step rows.free i n ∙ sym (seen_key_of_mapped_slot ahead waiting rows.pairs kept.mapped rows.free i)

    pub joined_seen : seen_of new_ahead new_waiting new_rows ≡ seen_of ahead waiting rows
    joined_seen =
        ap (λ f. seen_keys f new_rows.pairs new_ahead new_waiting.keys new_waiting.groups) free ∙ ap (λ p. seen_keys rows.free p new_ahead new_waiting.keys new_waiting.groups) pairs ∙ same_maps now (seen_of ahead waiting rows) (long_now ahead waiting rows.pairs kept.mapped slot new_ahead new_waiting step rows.free ∙ sym (seen_keys_length_of_mapped ahead waiting rows.pairs kept.mapped rows.free)) (λ i l. each i (cases_eq i slot))
