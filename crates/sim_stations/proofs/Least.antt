-- The key that is tried first, if it is at the earliest time of its action, is the least.
use Rattle.std.proofs.Common.{◌≡◌, ◌≢◌, ◌⊎◌, ◌<◌, ◌≤◌, ℕ, max, Bool, true, false, not, List, length, slice_get, slice_index, Option, Some, None, refl, sym, ap, ◌∙◌, subst, arith, inl, inr}
use Rattle.std.specs.Option.{option_map}
use Rattle.std.proofs.lemmas.Bool.{cases_eq}
use Rattle.std.proofs.lemmas.Option.{same_Some, slice_get_within, none-some}
use Rattle.goal_graph.specs.declared.action.OpId.{OpId}
use Rattle.goal_graph.specs.declared.action.Timed.{Timed}
use Rattle.goal_graph.specs.Schedule.{Plan, operations}
use Rattle.goal_graph.proofs.ForCallers.{operations_at_two_places_differ}
use Rattle.sim_order.specs.Events.{event_before}
use Rattle.sim_order.specs.EventLaws.{event_laws}
use Rattle.sim_queue.specs.Map.{key_at, IsEmptyMap, IsLeast, IsSoleLeast}
use Rattle.sim_queue.proofs.ForCallers.{not_before_transitive, key_within}
use Rattle.sim_queue.specs.Groups.{Grouped, IsLeastOf, IsSoleLeastOf}
use Rattle.sim_resources.specs.declared.pair.Pair.{Pair}
use Rattle.sim_stations.specs.declared.key_place.KeyPlace.{KeyPlace}
use Rattle.sim_stations.specs.Stations.{holds_cpu, at_time, both_free, earliest, when_free, pair_at, AreOfSlots}
use Rattle.sim_stations.specs.Rows.{Rowed, side_of, turned_at, shown, IsHead}
use Rattle.sim_stations.specs.Kept.{IsKept, seen_of, IsFound, IsSeenFirst, IsFirstOfAll}
use Rattle.sim_stations.proofs.Heads.{same_time_orders_alike, at_own_time_is_itself}
use Rattle.sim_stations.proofs.Times.{not_before_at_later_time, not_earlier, when_free_from_time_zero, earliest_waits}
use Rattle.sim_stations.proofs.Slots.{merged, merged_ahead, merged_waiting, pair_here, seen_key_of_mapped_slot, not_ahead, station_of}

-- a resource of a pair is free when both are, at the latest
pub one_free_within_both_free : (free : List ℕ) (p : Pair) (b : Bool) → slice_index free (side_of p b) ≤ both_free free p
one_free_within_both_free free p false = omega arith
one_free_within_both_free free p true = omega arith

-- if one is free before both are, the other is free later
pub other_free_later_than_one : (free : List ℕ) (p : Pair) (b : Bool) → slice_index free (side_of p b) < both_free free p → slice_index free (side_of p b) < slice_index free (side_of p (not b))
other_free_later_than_one free p false l = omega (arith, l)
other_free_later_than_one free p true l = omega (arith, l)

module _ (ahead : List (Option Timed)) (waiting : Grouped Timed) (rows : Rowed) (stands : List KeyPlace) (kept : IsKept ahead waiting rows stands) where
  abbrev seen : List (Option Timed)
  seen = seen_of ahead waiting rows

  abbrev pair_for : ℕ → Pair
  pair_for i = pair_here rows.pairs waiting i

  seen_key_is_merged_key_when_free : (i : ℕ) → key_at seen i ≡ option_map (when_free rows.free (pair_for i)) (merged ahead waiting i)
  seen_key_is_merged_key_when_free i = seen_key_of_mapped_slot ahead waiting rows.pairs kept.mapped rows.free i

  pub seen_ahead : (slot : ℕ) (k : Timed) → key_at ahead slot ≡ Some k → key_at seen slot ≡ Some (when_free rows.free (pair_for slot) k)
  seen_ahead slot k e =
      seen_key_is_merged_key_when_free slot ∙ ap (option_map (when_free rows.free (pair_for slot))) (merged_ahead ahead waiting slot k e)

  pub seen_waiting : (slot : ℕ) (k : Timed) → key_at waiting.keys slot ≡ Some k → key_at seen slot ≡ Some (when_free rows.free (pair_for slot) k)
  seen_waiting slot k e =
      seen_key_is_merged_key_when_free slot ∙ ap (option_map (when_free rows.free (pair_for slot))) (merged_waiting ahead waiting slot (not_ahead ahead waiting rows.pairs kept.mapped slot k e) ∙ e)

  shown_at : (station : ℕ) (w : Timed) → key_at rows.keys station ≡ Some w → shown rows station ≡ Some (at_time (slice_index rows.free (side_of (pair_at rows.pairs station) (turned_at rows.turned station))) w)
  shown_at station w e =
      ap (option_map (at_time (slice_index rows.free (side_of (pair_at rows.pairs station) (turned_at rows.turned station))))) e

  -- the key of a waiting slot is not before what its station shows
  record IsAfterShown (slot : ℕ) (k : Timed) : Type 0 where
    station : ℕ
    head : Timed
    shows : shown rows station ≡ Some head
    not_before : event_before (when_free rows.free (pair_for slot) k) head ≡ false

  after_shown : (slot : ℕ) (k : Timed) → key_at waiting.keys slot ≡ Some k → IsAfterShown slot k
  after_shown slot k e = go (key_at rows.keys station) refl (kept.shown station (kept.mapped.within slot station member))
    where
      station : ℕ
      station = slice_index waiting.groups slot

      member : slice_get waiting.groups slot ≡ Some station
      member = station_of ahead waiting rows.pairs kept.mapped slot (key_within waiting.keys slot k e)

      own : (k.time ≡ 0) × (holds_cpu k.class ≡ true)
      own = kept.mapped.waits slot k e

      time : ℕ
      time = slice_index rows.free (side_of (pair_at rows.pairs station) (turned_at rows.turned station))

      go : (o : Option Timed) → key_at rows.keys station ≡ o → IsHead waiting station 0 o → IsAfterShown slot k
      go None f empty = absurd (none-some k (sym (empty slot member) ∙ e))
      go (Some w) f is =
          let zero : at_time 0 k ≡ k = at_own_time_is_itself k 0 own.0 in
          let below : event_before (at_time time k) (at_time time w) ≡ false = same_time_orders_alike time k w ∙ ap (λ x. event_before x (at_time 0 w)) zero ∙ is.0.least slot k member e in
          let true_is : when_free rows.free (pair_for slot) k ≡ at_time (both_free rows.free (pair_for slot)) k = ap (when_free rows.free (pair_for slot)) (sym zero) ∙ when_free_from_time_zero rows.free (pair_for slot) k own.1 in
          record {
            station = station;
            head = at_time time w;
            shows = shown_at station w f;
            not_before = ap (λ x. event_before x (at_time time w)) true_is ∙ not_before_at_later_time (both_free rows.free (pair_for slot)) (at_time time k) (at_time time w) (one_free_within_both_free rows.free (pair_for slot) (turned_at rows.turned station)) below;
          }

  module _ (key : Timed) (is_ahead : Bool) (first : IsFirstOfAll ahead rows key is_ahead) where
    -- no key is before it
    pub none_before : (slot : ℕ) (k : Timed) → key_at seen slot ≡ Some k → event_before k key ≡ false
    none_before slot k e = go (key_at ahead slot) (key_at waiting.keys slot) refl refl
      where
        go : (a w : Option Timed) → key_at ahead slot ≡ a → key_at waiting.keys slot ≡ w → event_before k key ≡ false
        go (Some m) w f g =
            let same : k ≡ when_free rows.free (pair_for slot) m = same_Some k (when_free rows.free (pair_for slot) m) (sym e ∙ seen_ahead slot m f) in
            ap (λ x. event_before x key) same ∙ not_before_at_later_time (earliest rows.free (pair_for slot) m) m key (not_earlier rows.free (pair_for slot) m) (first.least_ahead slot m f)
        go None (Some m) f g =
            let same : k ≡ when_free rows.free (pair_for slot) m = same_Some k (when_free rows.free (pair_for slot) m) (sym e ∙ seen_waiting slot m g) in
            let after = after_shown slot m g in
            ap (λ x. event_before x key) same ∙ not_before_transitive event_before event_laws (when_free rows.free (pair_for slot) m) after.head key after.not_before (first.least_shown after.station after.head after.shows)
        go None None f g =
            absurd (none-some k (sym (seen_key_is_merged_key_when_free slot ∙ ap (option_map (when_free rows.free (pair_for slot))) (merged_waiting ahead waiting slot f ∙ g)) ∙ e))

    pub in_ahead : is_ahead ≡ true → (slot : ℕ) × (key_at ahead slot ≡ Some key)
    in_ahead e = subst (IsSeenFirst ahead rows key) e first.seen

    -- a key that a station shows belongs to a slot that waits with it
    pub record IsShownOf : Type 0 where
      pub slot : ℕ
      pub station : ℕ
      pub own : Timed
      pub member : slice_get waiting.groups slot ≡ Some station
      pub has : key_at waiting.keys slot ≡ Some own
      pub row : key_at rows.keys station ≡ Some own
      pub zero : own.time ≡ 0
      pub waits : holds_cpu own.class ≡ true
      pub is : key ≡ at_time (slice_index rows.free (side_of (pair_at rows.pairs station) (turned_at rows.turned station))) own
      pub least : IsLeastOf event_before waiting station own

    pub shown_of : is_ahead ≡ false → IsShownOf
    shown_of e = start (subst (IsSeenFirst ahead rows key) e first.seen)
      where
        start : (station : ℕ) × (shown rows station ≡ Some key) → IsShownOf
        start is = go (key_at rows.keys is.0) refl
          where
            time : ℕ
            time = slice_index rows.free (side_of (pair_at rows.pairs is.0) (turned_at rows.turned is.0))

            found : (w : Timed) → key_at rows.keys is.0 ≡ Some w → IsHead waiting is.0 0 (Some w) → IsShownOf
            found w f head =
                let zero : at_time 0 w ≡ w = at_own_time_is_itself w 0 head.1 in
                let has : key_at waiting.keys head.0.slot ≡ Some w = head.0.has ∙ ap Some zero in
                record {
                  slot = head.0.slot;
                  station = is.0;
                  own = w;
                  member = head.0.member;
                  has = has;
                  row = f;
                  zero = head.1;
                  waits = (kept.mapped.waits head.0.slot w has).1;
                  is = same_Some key (at_time time w) (sym is.1 ∙ shown_at is.0 w f);
                  least = subst (IsLeastOf event_before waiting is.0) zero head.0;
                }

            go : (o : Option Timed) → key_at rows.keys is.0 ≡ o → IsShownOf
            go None f =
                absurd (none-some key (sym (ap (option_map (at_time time)) f) ∙ is.1))
            go (Some w) f =
                found w f (subst (IsHead waiting is.0 0) f (kept.shown is.0 (omega (arith, key_within rows.keys is.0 w f, kept.keyed))))

    -- the slot of its operation
    module _ (plans : List Plan) (of_slots : AreOfSlots (operations plans) seen) (slot : ℕ) (is_slot : slice_get (operations plans) slot ≡ Some key.op) where
      same_slot : (one : ℕ) (k : Timed) → key_at seen one ≡ Some k → k.op ≡ key.op → one ≡ slot
      same_slot one k e f = go (cases_eq one slot)
        where
          go : (one ≡ slot) ⊎ (one ≢ slot) → one ≡ slot
          go (inl s) = s
          go (inr d) = absurd (operations_at_two_places_differ plans one slot k.op key.op (of_slots one k e) is_slot d f)

      pub slot_within : slot < length waiting.keys
      slot_within = go is_ahead refl
        where
          go : (b : Bool) → is_ahead ≡ b → slot < length waiting.keys
          go true e =
              let was = in_ahead e in
              let same : was.0 ≡ slot = same_slot was.0 (when_free rows.free (pair_for was.0) key) (seen_ahead was.0 key was.1) refl in
              omega (arith, same, key_within ahead was.0 key was.1, kept.mapped.each)
          go false e =
              let was = shown_of e in
              let same : was.slot ≡ slot = same_slot was.slot (when_free rows.free (pair_for was.slot) was.own) (seen_waiting was.slot was.own was.has) (sym (ap (λ (x : Timed). x.op) was.is)) in
              omega (arith, same, key_within waiting.keys was.slot was.own was.has)

      -- a key equal to this one belongs to the slot
      no_other : (one : ℕ) (k : Timed) → key_at seen one ≡ Some k → (m : Timed) → m.op ≡ k.op → m ≡ key → one ≡ slot
      no_other one k e m f g = same_slot one k e (sym f ∙ ap (λ (x : Timed). x.op) g)

      pub ahead_slot : is_ahead ≡ true → key_at ahead slot ≡ Some key
      ahead_slot e =
          let was = in_ahead e in
          let same : was.0 ≡ slot = same_slot was.0 (when_free rows.free (pair_for was.0) key) (seen_ahead was.0 key was.1) refl in
          ap (key_at ahead) (sym same) ∙ was.1

      pub shown_slot : (e : is_ahead ≡ false) → (shown_of e).slot ≡ slot
      shown_slot e =
          let was = shown_of e in
          same_slot was.slot (when_free rows.free (pair_for was.slot) was.own) (seen_waiting was.slot was.own was.has) (sym (ap (λ (x : Timed). x.op) was.is))

      -- the slot is the first of those ahead
      pub sole_ahead : is_ahead ≡ true → IsSoleLeast event_before ahead slot
      sole_ahead e = record { key = key; has = ahead_slot e; first = λ one k f. go one k f (event_before key k) refl }
        where
          go : (one : ℕ) (k : Timed) → key_at ahead one ≡ Some k → (b : Bool) → event_before key k ≡ b → (one ≡ slot) ⊎ (event_before key k ≡ true)
          go one k f true g = inr g
          go one k f false g =
              let same : k ≡ key = event_laws.total k key (first.least_ahead one k f) g in
              inl (no_other one (when_free rows.free (pair_for one) k) (seen_ahead one k f) k refl same)

      -- or the first of those that wait with its station
      pub sole_waiting : (e : is_ahead ≡ false) → IsSoleLeastOf event_before waiting slot
      sole_waiting e = record {
        key = was.own;
        has = ap (key_at waiting.keys) (sym (shown_slot e)) ∙ was.has;
        first = λ one k f g. go one k f g (event_before was.own k) refl;
      }
        where
          was : IsShownOf
          was = shown_of e

          go : (one : ℕ) (k : Timed) → slice_get waiting.groups one ≡ slice_get waiting.groups slot → key_at waiting.keys one ≡ Some k → (b : Bool) → event_before was.own k ≡ b → (one ≡ slot) ⊎ (event_before was.own k ≡ true)
          go one k f g true h = inr h
          go one k f g false h =
              let member : slice_get waiting.groups one ≡ Some was.station = f ∙ ap (slice_get waiting.groups) (sym (shown_slot e)) ∙ was.member in
              let same : k ≡ was.own = event_laws.total k was.own (was.least.least one k member g) h in
              inl (same_slot one (when_free rows.free (pair_for one) k) (seen_waiting one k g) (ap (λ (x : Timed). x.op) same ∙ sym (ap (λ (x : Timed). x.op) was.is)))

      pub found_slot : IsFound ahead waiting (Some slot)
      found_slot = go is_ahead refl
        where
          go : (b : Bool) → is_ahead ≡ b → IsFound ahead waiting (Some slot)
          go true e = inl (sole_ahead e)
          go false e = inr (sole_waiting e)

      -- the pair of the slot, by its station
      module _ (station : ℕ) (member : slice_get waiting.groups slot ≡ Some station) where
        pair_is : pair_for slot ≡ pair_at rows.pairs station
        pair_is = ap (pair_at rows.pairs) (same_Some (slice_index waiting.groups slot) station (sym (station_of ahead waiting rows.pairs kept.mapped slot slot_in) ∙ member))
          where
            slot_in : slot < length waiting.keys
            slot_in = omega (arith, slice_get_within waiting.groups slot station member, kept.mapped.grouped)

        station_is : (e : is_ahead ≡ false) → (shown_of e).station ≡ station
        station_is e =
            same_Some (shown_of e).station station (sym (shown_of e).member ∙ ap (slice_get waiting.groups) (shown_slot e) ∙ member)

        -- if it is at the earliest time, it is the slot's key, and the least
        pub least_found : when_free rows.free (pair_at rows.pairs station) key ≡ key → IsLeast event_before seen slot key
        least_found due = record { has = go is_ahead refl; least = none_before }
          where
            go : (b : Bool) → is_ahead ≡ b → key_at seen slot ≡ Some key
            go true e = seen_ahead slot key (ahead_slot e) ∙ ap Some (ap (λ p. when_free rows.free p key) pair_is ∙ due)
            go false e =
                let was = shown_of e in
                let p : Pair = pair_at rows.pairs station in
                let has : key_at seen slot ≡ Some (when_free rows.free (pair_for slot) was.own) = seen_waiting slot was.own (ap (key_at waiting.keys) (sym (shown_slot e)) ∙ was.has) in
                let waits : holds_cpu key.class ≡ true = ap (λ (x : Timed). holds_cpu x.class) was.is ∙ was.waits in
                let time_is : max key.time (both_free rows.free p) ≡ key.time = sym (earliest_waits rows.free p key waits) ∙ ap (λ (x : Timed). x.time) due in
                let at_place : key.time ≡ slice_index rows.free (side_of (pair_at rows.pairs was.station) (turned_at rows.turned was.station)) = ap (λ (x : Timed). x.time) was.is in
                let p_is : pair_at rows.pairs was.station ≡ p = ap (pair_at rows.pairs) (station_is e) in
                let bound = one_free_within_both_free rows.free (pair_at rows.pairs was.station) (turned_at rows.turned was.station) in
                let both_is : both_free rows.free (pair_at rows.pairs was.station) ≡ both_free rows.free p = ap (both_free rows.free) p_is in
                let same : both_free rows.free p ≡ key.time = omega (arith, time_is, at_place, bound, both_is) in
                let zero : at_time 0 was.own ≡ was.own = at_own_time_is_itself was.own 0 was.zero in
                let own_is : when_free rows.free p was.own ≡ at_time (both_free rows.free p) was.own = ap (when_free rows.free p) (sym zero) ∙ when_free_from_time_zero rows.free p was.own was.waits in
                let back : at_time key.time was.own ≡ key = ap (λ t. at_time t was.own) at_place ∙ sym was.is in
                has ∙ ap Some (ap (λ q. when_free rows.free q was.own) pair_is ∙ own_is ∙ ap (λ t. at_time t was.own) same ∙ back)

        -- a key that a station shows too early
        pub row_key : is_ahead ≡ false → key_at rows.keys station ≡ Some (at_time 0 key)
        row_key e =
            let was = shown_of e in
            let zero : at_time 0 key ≡ was.own = ap (at_time 0) was.is ∙ at_own_time_is_itself was.own 0 was.zero in
            ap (key_at rows.keys) (sym (station_is e)) ∙ was.row ∙ ap Some (sym zero)

        pub turn_late : is_ahead ≡ false → key.time < both_free rows.free (pair_at rows.pairs station) → slice_index rows.free (side_of (pair_at rows.pairs station) (turned_at rows.turned station)) < slice_index rows.free (side_of (pair_at rows.pairs station) (not (turned_at rows.turned station)))
        turn_late e l =
            let was = shown_of e in
            let at_place : key.time ≡ slice_index rows.free (side_of (pair_at rows.pairs station) (turned_at rows.turned station)) = ap (λ (x : Timed). x.time) was.is ∙ ap (λ s. slice_index rows.free (side_of (pair_at rows.pairs s) (turned_at rows.turned s))) (station_is e) in
            other_free_later_than_one rows.free (pair_at rows.pairs station) (turned_at rows.turned station) (omega (arith, l, at_place))

    -- some slot has a key
    pub not_empty : IsEmptyMap seen → ⊥
    not_empty empty = go is_ahead refl
      where
        go : (b : Bool) → is_ahead ≡ b → ⊥
        go true e =
            let was = in_ahead e in none-some (when_free rows.free (pair_for was.0) key) (sym (empty was.0) ∙ seen_ahead was.0 key was.1)
        go false e =
            let was = shown_of e in
            none-some (when_free rows.free (pair_for was.slot) was.own) (sym (empty was.slot) ∙ seen_waiting was.slot was.own was.has)

    -- the operation of the key belongs to some slot
    pub listed : (ops : List OpId) → AreOfSlots ops seen → (slot : ℕ) × (slice_get ops slot ≡ Some key.op)
    listed ops of_slots = go is_ahead refl
      where
        go : (b : Bool) → is_ahead ≡ b → (slot : ℕ) × (slice_get ops slot ≡ Some key.op)
        go true e = let was = in_ahead e in (was.0, of_slots was.0 (when_free rows.free (pair_for was.0) key) (seen_ahead was.0 key was.1))
        go false e =
            let was = shown_of e in
            (was.slot, of_slots was.slot (when_free rows.free (pair_for was.slot) was.own) (seen_waiting was.slot was.own was.has) ∙ ap Some (sym (ap (λ (x : Timed). x.op) was.is)))

  -- if neither has a key, no slot has one
  pub seen_empty_if_both_empty : IsEmptyMap ahead → IsEmptyMap rows.keys → IsEmptyMap seen
  seen_empty_if_both_empty none no_row slot = go (key_at waiting.keys slot) refl
    where
      go : (o : Option Timed) → key_at waiting.keys slot ≡ o → key_at seen slot ≡ None
      go None e =
          seen_key_is_merged_key_when_free slot ∙ ap (option_map (when_free rows.free (pair_for slot))) (merged_waiting ahead waiting slot (none slot) ∙ e)
      go (Some k) e =
          let after = after_shown slot k e in
          absurd (none-some after.head (sym (ap (option_map (at_time (slice_index rows.free (side_of (pair_at rows.pairs after.station) (turned_at rows.turned after.station))))) (no_row after.station)) ∙ after.shows))
