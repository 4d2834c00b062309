-- Rows in which no station has a key.
use Rattle.std.proofs.Common.{◌≡◌, ◌*◌, ◌<◌, ◌^◌, ℕ, Bool, true, false, not, List, Option, None, length, replicate, get_or, slice_index, refl, sym, ap, ◌∙◌, subst, arith}
use Rattle.std.proofs.lemmas.List.{length-replicate}
use Rattle.std.proofs.lemmas.Option.{slice_get-get_or, none-some}
use Rattle.goal_graph.specs.declared.action.Timed.{Timed}
use Rattle.sim_queue.specs.Map.{no_keys}
use Rattle.sim_queue.proofs.ForCallers.{key_at_no_keys, same_maps}
use Rattle.sim_queue.specs.Groups.{Grouped}
use Rattle.sim_resources.specs.declared.pair.Pair.{Pair}
use Rattle.sim_stations.specs.Stations.{DoExist}
use Rattle.sim_stations.specs.Rows.{Rowed, sides, place_in, side_of, seen, turned_at, IsHead, IsInRows, AreHeads}
use Rattle.sim_stations.proofs.Sides.{IsPlace, index_in_sides_is_place, sides_length}
use Rattle.sim_stations.proofs.Seen.{station_key_at_turned_place, station_keys_length}

pub sides_within : (pairs : List Pair) (resources : ℕ) → DoExist pairs resources → (k d : ℕ) → k < length (sides pairs) → get_or (sides pairs) k d < resources
sides_within pairs resources exist k d l = go (index_in_sides_is_place pairs k (get_or (sides pairs) k d) (slice_get-get_or (sides pairs) k d l))
  where
    side : (p : Pair) (b : Bool) → (p.cpu < resources) × (p.side < resources) → side_of p b < resources
    side p false e = e.0
    side p true e = e.1

    go : IsPlace pairs k (get_or (sides pairs) k d) → get_or (sides pairs) k d < resources
    go q = omega (arith, q.side, side q.pair q.turned (exist q.station q.pair q.at))

module _ (pairs : List Pair) (resources : ℕ) (exist : DoExist pairs resources) (few : 2 * length pairs < 2 ^ 32) (many : resources < 2 ^ 32) where
  abbrev idle : Grouped Timed
  idle = record { keys = no_keys (length (sides pairs)); groups = sides pairs }

  abbrev none_turned : List Bool
  none_turned = replicate (length pairs) false

  abbrev at_zero : List ℕ
  at_zero = replicate resources 0

  long_free : length at_zero ≡ resources
  long_free = length-replicate {A = ℕ} resources 0

  long_keys : length idle.keys ≡ 2 * length pairs
  long_keys = length-replicate {A = Option Timed} (length (sides pairs)) None ∙ sides_length pairs

  long_here : length none_turned ≡ length pairs
  long_here = length-replicate {A = Bool} (length pairs) false

  inside : IsInRows idle pairs none_turned at_zero
  inside = record {
    groups = refl;
    each = long_keys;
    both = long_here;
    few = few;
    exist = λ s p e. let was = exist s p e in (omega (arith, was.0, long_free), omega (arith, was.1, long_free));
    elsewhere = λ s. key_at_no_keys (length (sides pairs)) (place_in s (not (turned_at none_turned s)));
    at_zero = λ slot k e. absurd (none-some k (sym (key_at_no_keys (length (sides pairs)) slot) ∙ e));
  }

  empty_heads_of_idle_rows : AreHeads idle (no_keys resources) at_zero
  empty_heads_of_idle_rows = record {
    each = length-replicate {A = Option Timed} resources None ∙ sym long_free;
    few = omega (arith, many, long_free);
    headed = λ r l. subst (IsHead idle r (slice_index at_zero r)) (sym (key_at_no_keys resources r)) (λ slot e. key_at_no_keys (length (sides pairs)) slot);
  }

  no_station_seen_at_start : seen none_turned idle.keys ≡ no_keys (length pairs)
  no_station_seen_at_start = same_maps (seen none_turned idle.keys) (no_keys (length pairs)) (station_keys_length none_turned idle.keys (omega (arith, long_keys, long_here)) ∙ long_here ∙ sym (length-replicate {A = Option Timed} (length pairs) None)) (λ s l. station_key_at_turned_place none_turned idle.keys (omega (arith, long_keys, long_here)) s ∙ key_at_no_keys (length (sides pairs)) (place_in s (turned_at none_turned s)) ∙ sym (key_at_no_keys (length pairs) s))

  module _ (rows : Grouped Timed) (heads : List (Option Timed)) (kept : List Pair) (turned : List Bool) (free : List ℕ) (r : rows ≡ idle) (h : heads ≡ no_keys resources) (p : kept ≡ pairs) (t : turned ≡ none_turned) (f : free ≡ at_zero) where
    pub new_inside : IsInRows rows kept turned free
    new_inside =
        subst (λ x. IsInRows x kept turned free) (sym r) (subst (λ x. IsInRows idle x turned free) (sym p) (subst (λ x. IsInRows idle pairs x free) (sym t) (subst (IsInRows idle pairs none_turned) (sym f) inside)))

    pub new_heads : AreHeads rows heads free
    new_heads =
        subst (λ x. AreHeads x heads free) (sym r) (subst (λ x. AreHeads idle x free) (sym h) (subst (AreHeads idle (no_keys resources)) (sym f) empty_heads_of_idle_rows))

    keys : seen turned rows.keys ≡ no_keys (length pairs)
    keys = ap (λ x. seen x rows.keys) t ∙ ap (λ (x : Grouped Timed). seen none_turned x.keys) r ∙ no_station_seen_at_start

    abbrev view : Rowed
    view = record { keys = seen turned rows.keys; pairs = kept; turned = turned; free = free }

    pub new_rowed : view ≡ record { keys = no_keys (length pairs); pairs = pairs; turned = none_turned; free = at_zero }
    new_rowed i = record { keys = keys i; pairs = p i; turned = t i; free = f i }
