-- The least key that a station shows is the least of the heads.
use Rattle.std.proofs.Common.{◌≡◌, ◌⊎◌, ◌<◌, ℕ, Bool, true, false, not, List, Option, Some, None, length, slice_get, slice_index, refl, sym, ap, ◌∙◌, subst, arith, inl, inr}
use Rattle.std.specs.Option.{option_map}
use Rattle.std.proofs.lemmas.Option.{same_Some, slice_get-get_or, none-some}
use Rattle.goal_graph.specs.declared.action.Timed.{Timed}
use Rattle.sim_order.specs.Events.{event_before}
use Rattle.sim_order.specs.EventLaws.{event_laws}
use Rattle.sim_queue.specs.Map.{key_at, IsEmptyMap, IsLeast}
use Rattle.sim_queue.proofs.ForCallers.{not_before_transitive, key_within}
use Rattle.sim_queue.specs.Groups.{Grouped, IsLeastOf}
use Rattle.sim_resources.specs.declared.pair.Pair.{Pair}
use Rattle.sim_stations.specs.Stations.{at_time, pair_at}
use Rattle.sim_stations.specs.Rows.{Rowed, place_in, side_of, seen, turned_at, shown, IsFirst, IsHead, IsInRows, AreHeads}
use Rattle.sim_stations.proofs.Sides.{IsPlace, index_in_sides_is_place}
use Rattle.sim_stations.proofs.Seen.{station_key_at_turned_place, station_keys_length}
use Rattle.sim_stations.proofs.Heads.{same_time_orders_alike, at_own_time_is_itself}
use Rattle.sim_stations.proofs.InRows.{pair_at_station, row_keys_are_two_per_station, side_resource_exists, group_at_place_is_side_resource}

same_or_not : (b c : Bool) → (b ≡ c) ⊎ (b ≡ not c)
same_or_not false false = inl refl
same_or_not true true = inl refl
same_or_not false true = inr refl
same_or_not true false = inr refl

module _ (rows : Grouped Timed) (heads : List (Option Timed)) (pairs : List Pair) (turned : List Bool) (free : List ℕ) (inside : IsInRows rows pairs turned free) (are : AreHeads rows heads free) where
  abbrev keys : List (Option Timed)
  keys = seen turned rows.keys

  abbrev all : Rowed
  all = record { keys = keys; pairs = pairs; turned = turned; free = free }

  -- a station with a key is in the row of a resource
  record IsStanding (s : ℕ) (k : Timed) : Type 0 where
    pair : Pair
    at : slice_get pairs s ≡ Some pair
    has : key_at rows.keys (place_in s (turned_at turned s)) ≡ Some k
    there : slice_get rows.groups (place_in s (turned_at turned s)) ≡ Some (side_of pair (turned_at turned s))
    exists : side_of pair (turned_at turned s) < length free

  keyed_station_is_in_row : (s : ℕ) (k : Timed) → key_at keys s ≡ Some k → IsStanding s k
  keyed_station_is_in_row s k e =
      let l : s < length pairs = omega (arith, key_within keys s k e, station_keys_length turned rows.keys (row_keys_are_two_per_station rows heads pairs turned free inside are), inside.both) in
      let p : Pair = pair_at pairs s in
      let at : slice_get pairs s ≡ Some p = slice_get-get_or pairs s (record { cpu = 0; side = 0 }) l in
      record {
        pair = p;
        at = at;
        has = sym (station_key_at_turned_place turned rows.keys (row_keys_are_two_per_station rows heads pairs turned free inside are) s) ∙ e;
        there = group_at_place_is_side_resource rows heads pairs turned free inside are s p (turned_at turned s) at;
        exists = side_resource_exists rows heads pairs turned free inside are s p (turned_at turned s) at;
      }

  pub seen_empty_if_heads_empty : IsEmptyMap heads → IsEmptyMap keys
  seen_empty_if_heads_empty none s = go (key_at keys s) refl
    where
      go : (o : Option Timed) → key_at keys s ≡ o → o ≡ None
      go None e = refl
      go (Some k) e =
          let t = keyed_station_is_in_row s k e in
          let empty = subst (IsHead rows (side_of t.pair (turned_at turned s)) (slice_index free (side_of t.pair (turned_at turned s)))) (none (side_of t.pair (turned_at turned s))) (are.headed (side_of t.pair (turned_at turned s)) t.exists) in
          absurd (none-some k (sym (empty (place_in s (turned_at turned s)) t.there) ∙ t.has))

  -- the head of a resource is the key of a station in its row
  record IsOfHead (r : ℕ) (h : Timed) : Type 0 where
    station : ℕ
    pair : Pair
    at : slice_get pairs station ≡ Some pair
    side : r ≡ side_of pair (turned_at turned station)
    has : key_at keys station ≡ Some (at_time 0 h)
    time : h.time ≡ slice_index free r

  headed_at : (r : ℕ) (h : Timed) → key_at heads r ≡ Some h → IsHead rows r (slice_index free r) (Some h)
  headed_at r h e =
      subst (IsHead rows r (slice_index free r)) e (are.headed r (omega (arith, key_within heads r h e, are.each)))

  head_is_key_of_station : (r : ℕ) (h : Timed) → key_at heads r ≡ Some h → IsOfHead r h
  head_is_key_of_station r h e = go (index_in_sides_is_place pairs i r (sym (ap (λ gs. slice_get gs i) inside.groups) ∙ is.0.member))
    where
      is : IsLeastOf event_before rows r (at_time 0 h) × (h.time ≡ slice_index free r)
      is = headed_at r h e

      i : ℕ
      i = is.0.slot

      go : IsPlace pairs i r → IsOfHead r h
      go p = cases (same_or_not p.turned (turned_at turned p.station))
        where
          cases : (p.turned ≡ turned_at turned p.station) ⊎ (p.turned ≡ not (turned_at turned p.station)) → IsOfHead r h
          cases (inl same) = record {
            station = p.station;
            pair = p.pair;
            at = p.at;
            side = p.side ∙ ap (side_of p.pair) same;
            has = station_key_at_turned_place turned rows.keys (row_keys_are_two_per_station rows heads pairs turned free inside are) p.station ∙ ap (λ b. key_at rows.keys (place_in p.station b)) (sym same) ∙ ap (key_at rows.keys) (sym p.place) ∙ is.0.has;
            time = is.1;
          }
          cases (inr differ) =
              absurd (none-some (at_time 0 h) (sym (inside.elsewhere p.station) ∙ ap (λ b. key_at rows.keys (place_in p.station b)) (sym differ) ∙ ap (key_at rows.keys) (sym p.place) ∙ is.0.has))

  pub seen_not_empty_if_head : (r : ℕ) (h : Timed) → key_at heads r ≡ Some h → IsEmptyMap keys → ⊥
  seen_not_empty_if_head r h e empty = let o = head_is_key_of_station r h e in none-some (at_time 0 h) (sym (empty o.station) ∙ o.has)

  shown_key_is_at_side_free_time : (s : ℕ) (p : Pair) (k : Timed) → slice_get pairs s ≡ Some p → key_at keys s ≡ Some k → shown all s ≡ Some (at_time (slice_index free (side_of p (turned_at turned s))) k)
  shown_key_is_at_side_free_time s p k at has =
      ap (λ x. option_map (at_time (slice_index free (side_of x (turned_at turned s)))) (key_at keys s)) (pair_at_station pairs s p at) ∙ ap (option_map (at_time (slice_index free (side_of p (turned_at turned s))))) has

  -- what a station shows is not before the head of its resource
  record IsNotBefore (k : Timed) : Type 0 where
    resource : ℕ
    head : Timed
    is_head : key_at heads resource ≡ Some head
    not_before : event_before k head ≡ false

  shown_key_is_not_before_head : (s : ℕ) (w : Timed) → key_at keys s ≡ Some w → (k : Timed) → shown all s ≡ Some k → IsNotBefore k
  shown_key_is_not_before_head s w e k f = go (key_at heads r) refl (are.headed r t.exists)
    where
      t : IsStanding s w
      t = keyed_station_is_in_row s w e

      r : ℕ
      r = side_of t.pair (turned_at turned s)

      k_is : k ≡ at_time (slice_index free r) w
      k_is = same_Some k (at_time (slice_index free r) w) (sym f ∙ shown_key_is_at_side_free_time s t.pair w t.at e)

      w_zero : at_time 0 w ≡ w
      w_zero = at_own_time_is_itself w 0 (inside.at_zero (place_in s (turned_at turned s)) w t.has)

      go : (o : Option Timed) → key_at heads r ≡ o → IsHead rows r (slice_index free r) o → IsNotBefore k
      go None g empty = absurd (none-some w (sym (empty (place_in s (turned_at turned s)) t.there) ∙ t.has))
      go (Some h) g is = record {
        resource = r;
        head = h;
        is_head = g;
        not_before = ap (λ x. event_before x h) k_is ∙ ap (event_before (at_time (slice_index free r) w)) (sym (at_own_time_is_itself h (slice_index free r) is.1)) ∙ same_time_orders_alike (slice_index free r) w h ∙ ap (λ x. event_before x (at_time 0 h)) w_zero ∙ is.0.least (place_in s (turned_at turned s)) w t.there t.has;
      }

  pub first_shown : (r : ℕ) (h : Timed) → IsLeast event_before heads r h → IsFirst all h
  first_shown r h least = record {
    station = o.station;
    has = shown_key_is_at_side_free_time o.station o.pair (at_time 0 h) o.at o.has ∙ ap (λ x. Some (at_time (slice_index free x) h)) (sym o.side) ∙ ap Some (at_own_time_is_itself h (slice_index free r) o.time);
    least = λ one k e. others one k e (key_at keys one) refl;
  }
    where
      o : IsOfHead r h
      o = head_is_key_of_station r h least.has

      others : (one : ℕ) (k : Timed) → shown all one ≡ Some k → (w : Option Timed) → key_at keys one ≡ w → event_before k h ≡ false
      others one k e None f =
          absurd (none-some k (sym (ap (option_map (at_time (slice_index free (side_of (pair_at pairs one) (turned_at turned one))))) f) ∙ e))
      others one k e (Some w) f =
          let c = shown_key_is_not_before_head one w f k e in
          not_before_transitive event_before event_laws k c.head h c.not_before (least.least c.resource c.head c.is_head)
