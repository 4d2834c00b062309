-- Rows of stations, after the key of one changed, after one switched, or after resources were held.
use Rattle.std.proofs.Common.{◌≡◌, ◌≢◌, ◌⊎◌, ◌*◌, ◌^◌, ◌<◌, ℕ, Bool, true, false, not, List, Option, Some, None, length, set, slice_get, slice_index, slice_index_or, IfSome, sym, ap, ◌∙◌, subst, arith, inl, inr}
use Rattle.std.proofs.lemmas.Bool.{cases_eq}
use Rattle.std.proofs.lemmas.List.{get_or-set_same, get_or-set_other, get_or_read, length-set}
use Rattle.std.proofs.lemmas.Option.{same_Some, slice_get-get_or, slice_get_within, get_or_from_slice_get, none-some}
use Rattle.goal_graph.specs.declared.action.Timed.{Timed}
use Rattle.sim_queue.specs.Map.{key_at}
use Rattle.sim_queue.specs.Groups.{Grouped}
use Rattle.sim_resources.specs.declared.pair.Pair.{Pair}
use Rattle.sim_stations.specs.Stations.{pair_at, held, held_by, AreKnown, AreTimesOf}
use Rattle.sim_stations.specs.Rows.{place_in, side_of, seen, turned_at, IsHead, IsTold, AreBothTold, IsInRows, AreHeads}
use Rattle.sim_stations.proofs.Sides.{side_at_station_place, equal_places_same_station, equal_places_same_side, place_within, not_same, not_not}
use Rattle.sim_stations.proofs.Seen.{station_key_at_turned_place, seen_written, seen_turned}
use Rattle.sim_stations.proofs.Heads.{head_stays}

-- the pair of a station, as the code reads it
pub pair_at_station : (pairs : List Pair) (s : ℕ) (p : Pair) → slice_get pairs s ≡ Some p → pair_at pairs s ≡ p
pair_at_station pairs s p e = get_or_from_slice_get pairs s p (record { cpu = 0; side = 0 }) e

-- a station's pair and its place, as the code reads them
pub pair_read : (pairs : List Pair) (s : ℕ) (p : Pair) → s < length pairs → p ≡ slice_index_or pairs s p → slice_get pairs s ≡ Some p
pair_read pairs s p l e = slice_get-get_or pairs s p l ∙ ap Some (sym e)

pub turned_read : (turned : List Bool) (s : ℕ) (b : Bool) → s < length turned → b ≡ slice_index_or turned s b → b ≡ turned_at turned s
turned_read turned s b l e = get_or_read turned s b l e false

-- the rows after the key at a place changed
abbrev pub with_key : Grouped Timed → ℕ → Option Timed → Grouped Timed
with_key rows place value = record { keys = set rows.keys place value; groups = rows.groups }

-- a key that exists has time 0
pub existing_key_is_at_zero : (o : Option Timed) → IfSome o (λ k. k.time ≡ 0) → (k : Timed) → o ≡ Some k → k.time ≡ 0
existing_key_is_at_zero o h k e = subst (λ x. IfSome x (λ k. k.time ≡ 0)) e h

-- there are as many resources as before
pub held_long : (free : List ℕ) (p : Pair) (cpu side : ℕ) → length (held free p cpu side) ≡ length free
held_long free p cpu side = length-set (set free p.cpu cpu) p.side side ∙ length-set free p.cpu cpu

-- what contracts say of the pair of a station holds of the pair that the code reads
pub known_for_pair_read : (times : List ℕ) (pairs : List Pair) (s : ℕ) (p : Pair) → slice_get pairs s ≡ Some p → AreKnown times (pair_at pairs s) → AreKnown times p
known_for_pair_read times pairs s p at known = subst (AreKnown times) (pair_at_station pairs s p at) known

pub times_for_pair_read : (times free : List ℕ) (pairs : List Pair) (s : ℕ) (p : Pair) → slice_get pairs s ≡ Some p → AreTimesOf times free (pair_at pairs s) → AreTimesOf times free p
times_for_pair_read times free pairs s p at has = subst (AreTimesOf times free) (pair_at_station pairs s p at) has

-- a list that has the times of a pair has a time for both its resources
pub times_known : (times free : List ℕ) (p : Pair) → AreTimesOf times free p → AreKnown times p
times_known times free p has = record {
  has_cpu = slice_get_within times p.cpu (slice_index free p.cpu) has.cpu_time;
  has_side = slice_get_within times p.side (slice_index free p.side) has.side_time;
}

-- so it has one for the resource at which a station of the pair waits
pub resource_waited_at_is_known : (times : List ℕ) (p : Pair) (b : Bool) → AreKnown times p → side_of p b < length times
resource_waited_at_is_known times p false known = known.has_cpu
resource_waited_at_is_known times p true known = known.has_side

-- two lists have the same times for a pair
pub record AreSameTimes (times free : List ℕ) (p : Pair) : Type 0 where
  pub cpu : slice_index times p.cpu ≡ slice_index free p.cpu
  pub side : slice_index times p.side ≡ slice_index free p.side

pub times_known_are_same : (times free : List ℕ) (p : Pair) → AreTimesOf times free p → AreSameTimes times free p
times_known_are_same times free p has = record {
  cpu = get_or_from_slice_get times p.cpu (slice_index free p.cpu) 0 has.cpu_time;
  side = get_or_from_slice_get times p.side (slice_index free p.side) 0 has.side_time;
}

-- once a pair is held by these times, they are those at which it is free, also where both its resources are one
pub times_held_are_same : (times free : List ℕ) (p : Pair) → p.cpu < length free → p.side < length free → AreSameTimes times (held_by free p times) p
times_held_are_same times free p l m = record { cpu = go (cases_eq p.cpu p.side); side = sym at_side }
  where
    c : ℕ
    c = slice_index times p.cpu

    s : ℕ
    s = slice_index times p.side

    at_side : slice_index (held_by free p times) p.side ≡ s
    at_side = get_or-set_same (set free p.cpu c) p.side s 0 (omega (arith, m, length-set free p.cpu c))

    go : (p.cpu ≡ p.side) ⊎ (p.cpu ≢ p.side) → slice_index times p.cpu ≡ slice_index (held_by free p times) p.cpu
    go (inl e) = ap (slice_index times) e ∙ sym at_side ∙ ap (slice_index (held_by free p times)) (sym e)
    go (inr n) = sym (get_or-set_other (set free p.cpu c) p.side p.cpu s 0 n ∙ get_or-set_same free p.cpu c 0 l)

-- a head that is updated by one of two such lists is updated by the other
pub head_updated_by_same_times : (rows : Grouped Timed) (times free : List ℕ) (old new : List (Option Timed)) (p : Pair) (b : Bool) → AreSameTimes times free p → IsTold rows times old new (side_of p b) → IsTold rows free old new (side_of p b)
head_updated_by_same_times rows times free old new p b same told = record {
  each = told.each;
  here = subst (λ t. IsHead rows (side_of p b) t (key_at new (side_of p b))) (at b) told.here;
  others = told.others;
}
  where
    at : (b : Bool) → slice_index times (side_of p b) ≡ slice_index free (side_of p b)
    at false = same.cpu
    at true = same.side

-- so are both heads of the pair
pub both_heads_updated_by_same_times : (rows : Grouped Timed) (times free : List ℕ) (old new : List (Option Timed)) (p : Pair) → AreSameTimes times free p → AreBothTold rows times old new p → AreBothTold rows free old new p
both_heads_updated_by_same_times rows times free old new p same told = record {
  each = told.each;
  cpu = subst (λ t. IsHead rows p.cpu t (key_at new p.cpu)) same.cpu told.cpu;
  side = subst (λ t. IsHead rows p.side t (key_at new p.side)) same.side told.side;
  others = told.others;
}

-- the heads after both resources of a pair were held; the others stay
pub heads_after_pair_held : (rows : Grouped Timed) (heads : List (Option Timed)) (free : List ℕ) (p : Pair) → length heads ≡ length free → length free < 2 ^ 32 → (cpu side : ℕ) (now : List (Option Timed)) → AreBothTold rows (held free p cpu side) heads now p → ((r : ℕ) → r < length free → r ≢ p.cpu → r ≢ p.side → IsHead rows r (slice_index free r) (key_at heads r)) → AreHeads rows now (held free p cpu side)
heads_after_pair_held rows heads free p each few cpu side now told others = record {
  each = told.each ∙ each ∙ sym (held_long free p cpu side);
  few = omega (arith, few, held_long free p cpu side);
  headed = λ r l. go r (omega (arith, l, held_long free p cpu side)) (cases_eq r p.cpu) (cases_eq r p.side);
}
  where
    go : (r : ℕ) → r < length free → (r ≡ p.cpu) ⊎ (r ≢ p.cpu) → (r ≡ p.side) ⊎ (r ≢ p.side) → IsHead rows r (slice_index (held free p cpu side) r) (key_at now r)
    go r l (inl e) b = subst (λ x. IsHead rows x (slice_index (held free p cpu side) x) (key_at now x)) (sym e) told.cpu
    go r l (inr n) (inl e) = subst (λ x. IsHead rows x (slice_index (held free p cpu side) x) (key_at now x)) (sym e) told.side
    go r l (inr n) (inr m) =
        let stays : slice_index (held free p cpu side) r ≡ slice_index free r = get_or-set_other (set free p.cpu cpu) p.side r side 0 m ∙ get_or-set_other free p.cpu r cpu 0 n in
        subst (IsHead rows r (slice_index (held free p cpu side) r)) (sym (told.others r n m)) (subst (λ t. IsHead rows r t (key_at heads r)) (sym stays) (others r l n m))

module _ (rows : Grouped Timed) (heads : List (Option Timed)) (pairs : List Pair) (turned : List Bool) (free : List ℕ) (inside : IsInRows rows pairs turned free) (are : AreHeads rows heads free) where
  -- the rows stay valid after a hold, which changes no key
  pub held_inside : (p : Pair) (cpu side : ℕ) → IsInRows rows pairs turned (held free p cpu side)
  held_inside p cpu side = record {
    groups = inside.groups;
    each = inside.each;
    both = inside.both;
    few = inside.few;
    exist = λ t q e. let was = inside.exist t q e in (omega (arith, was.0, held_long free p cpu side), omega (arith, was.1, held_long free p cpu side));
    elsewhere = inside.elsewhere;
    at_zero = inside.at_zero;
  }

  pub held_heads : (p : Pair) (cpu side : ℕ) (now : List (Option Timed)) → AreBothTold rows (held free p cpu side) heads now p → AreHeads rows now (held free p cpu side)
  held_heads p cpu side now told = heads_after_pair_held rows heads free p are.each are.few cpu side now told (λ r l n m. are.headed r l)

  pub row_keys_are_two_per_station : length rows.keys ≡ 2 * length turned
  row_keys_are_two_per_station = omega (arith, inside.each, inside.both)

  pub side_resource_exists : (s : ℕ) (p : Pair) (b : Bool) → slice_get pairs s ≡ Some p → side_of p b < length free
  side_resource_exists s p false e = (inside.exist s p e).0
  side_resource_exists s p true e = (inside.exist s p e).1

  pub group_at_place_is_side_resource : (s : ℕ) (p : Pair) (b : Bool) → slice_get pairs s ≡ Some p → slice_get rows.groups (place_in s b) ≡ Some (side_of p b)
  group_at_place_is_side_resource s p b e = ap (λ gs. slice_get gs (place_in s b)) inside.groups ∙ side_at_station_place pairs s b p e

  module _ (s : ℕ) (p : Pair) (at : slice_get pairs s ≡ Some p) where
    station_in : s < length turned
    station_in = omega (arith, slice_get_within pairs s p at, inside.both)

    pub place_ok : (b : Bool) → place_in s b < length rows.keys
    place_ok b = omega (arith, place_within s (length turned) b station_in, row_keys_are_two_per_station)

    -- a slot of another resource is another slot
    apart : (b : Bool) (slot r : ℕ) → r ≢ side_of p b → slice_get rows.groups slot ≡ Some r → slot ≢ place_in s b
    apart b slot r n e same =
        n (same_Some r (side_of p b) (sym e ∙ ap (slice_get rows.groups) same ∙ group_at_place_is_side_resource s p b at))

    -- One key is changed at the place of the station.
    module _ (value : Option Timed) (zero : (k : Timed) → value ≡ Some k → k.time ≡ 0) (new : Grouped Timed) (is_new : new ≡ with_key rows (place_in s (turned_at turned s)) value) where
      abbrev here : ℕ
      here = place_in s (turned_at turned s)

      keys_are : new.keys ≡ set rows.keys here value
      keys_are = ap (λ (g : Grouped Timed). g.keys) is_new

      groups_are : new.groups ≡ rows.groups
      groups_are = ap (λ (g : Grouped Timed). g.groups) is_new

      key_there : (slot : ℕ) → slot ≢ here → key_at new.keys slot ≡ key_at rows.keys slot
      key_there slot n = ap (λ ks. key_at ks slot) keys_are ∙ get_or-set_other rows.keys here slot value None n

      key_here : key_at new.keys here ≡ value
      key_here = ap (λ ks. key_at ks here) keys_are ∙ get_or-set_same rows.keys here value None (place_ok (turned_at turned s))

      pub written_zero : (slot : ℕ) (k : Timed) → key_at new.keys slot ≡ Some k → k.time ≡ 0
      written_zero slot k e = go (cases_eq slot here)
        where
          go : (slot ≡ here) ⊎ (slot ≢ here) → k.time ≡ 0
          go (inl same) = zero k (sym key_here ∙ ap (key_at new.keys) (sym same) ∙ e)
          go (inr n) = inside.at_zero slot k (sym (key_there slot n) ∙ e)

      pub written_inside : (now : List ℕ) → length now ≡ length free → IsInRows new pairs turned now
      written_inside now l = record {
        groups = groups_are ∙ inside.groups;
        each = ap length keys_are ∙ length-set rows.keys here value ∙ inside.each;
        both = inside.both;
        few = inside.few;
        exist = λ t q e. let was = inside.exist t q e in (omega (arith, was.0, l), omega (arith, was.1, l));
        elsewhere = λ t. key_there (place_in t (not (turned_at turned t))) (λ e. differ t e) ∙ inside.elsewhere t;
        at_zero = written_zero;
      }
        where
          differ : (t : ℕ) → place_in t (not (turned_at turned t)) ≡ here → ⊥
          differ t e =
              let same : t ≡ s = equal_places_same_station t s (not (turned_at turned t)) (turned_at turned s) e in
              let side : not (turned_at turned t) ≡ turned_at turned s = equal_places_same_side t s (not (turned_at turned t)) (turned_at turned s) e in
              not_same (turned_at turned s) (ap (λ i. not (turned_at turned i)) (sym same) ∙ side)

      -- the heads of the other resources stay
      pub head_there : (r time : ℕ) (head : Option Timed) → r ≢ side_of p (turned_at turned s) → IsHead rows r time head → IsHead new r time head
      head_there r time head n =
          head_stays rows new groups_are r (λ slot e. key_there slot (apart (turned_at turned s) slot r n e)) time head

      pub written_heads : (now : List (Option Timed)) → IsTold new free heads now (side_of p (turned_at turned s)) → AreHeads new now free
      written_heads now told = record {
        each = told.each ∙ are.each;
        few = are.few;
        headed = λ r l. go r l (cases_eq r (side_of p (turned_at turned s)));
      }
        where
          go : (r : ℕ) → r < length free → (r ≡ side_of p (turned_at turned s)) ⊎ (r ≢ side_of p (turned_at turned s)) → IsHead new r (slice_index free r) (key_at now r)
          go r l (inl e) = subst (λ x. IsHead new x (slice_index free x) (key_at now x)) (sym e) told.here
          go r l (inr n) =
              subst (IsHead new r (slice_index free r)) (sym (told.others r n)) (head_there r (slice_index free r) (key_at heads r) n (are.headed r l))

      pub written_seen : seen turned new.keys ≡ set (seen turned rows.keys) s value
      written_seen = ap (seen turned) keys_are ∙ seen_written turned rows.keys row_keys_are_two_per_station s station_in value

      -- so are they after its resources were also held
      pub left_heads : (cpu side : ℕ) (now : List (Option Timed)) → AreBothTold new (held free p cpu side) heads now p → AreHeads new now (held free p cpu side)
      left_heads cpu side now told = heads_after_pair_held new heads free p are.each are.few cpu side now told (λ r l n m. head_there r (slice_index free r) (key_at heads r) (not_here r (turned_at turned s) n m) (are.headed r l))
        where
          not_here : (r : ℕ) (b : Bool) → r ≢ p.cpu → r ≢ p.side → r ≢ side_of p b
          not_here r false n m = n
          not_here r true n m = m

    -- the key of the station is at time 0
    pub key_zero : (key : Timed) → key_at (seen turned rows.keys) s ≡ Some key → key.time ≡ 0
    key_zero key has = inside.at_zero (place_in s (turned_at turned s)) key (sym (station_key_at_turned_place turned rows.keys row_keys_are_two_per_station s) ∙ has)

    -- The station switches with its key.
    module _ (key : Timed) (has : key_at (seen turned rows.keys) s ≡ Some key) (mid new : Grouped Timed) (is_mid : mid ≡ with_key rows (place_in s (turned_at turned s)) None) (is_new : new ≡ with_key mid (place_in s (not (turned_at turned s))) (Some key)) where
      abbrev from : ℕ
      from = place_in s (turned_at turned s)

      abbrev to : ℕ
      to = place_in s (not (turned_at turned s))

      abbrev over : List Bool
      over = set turned s (not (turned_at turned s))

      keys_over : new.keys ≡ set (set rows.keys from None) to (Some key)
      keys_over =
          ap (λ (g : Grouped Timed). g.keys) is_new ∙ ap (λ (g : Grouped Timed). set g.keys to (Some key)) is_mid

      groups_over : new.groups ≡ rows.groups
      groups_over = ap (λ (g : Grouped Timed). g.groups) is_new ∙ ap (λ (g : Grouped Timed). g.groups) is_mid

      apart_over : to ≢ from
      apart_over e = not_same (turned_at turned s) (equal_places_same_side s s (not (turned_at turned s)) (turned_at turned s) e)

      stays_over : (slot : ℕ) → slot ≢ from → slot ≢ to → key_at new.keys slot ≡ key_at rows.keys slot
      stays_over slot n m =
          ap (λ ks. key_at ks slot) keys_over ∙ get_or-set_other (set rows.keys from None) to slot (Some key) None m ∙ get_or-set_other rows.keys from slot None None n

      key_from : key_at new.keys from ≡ None
      key_from =
          ap (λ ks. key_at ks from) keys_over ∙ get_or-set_other (set rows.keys from None) to from (Some key) None (λ e. apart_over (sym e)) ∙ get_or-set_same rows.keys from None None (place_ok (turned_at turned s))

      key_to : key_at new.keys to ≡ Some key
      key_to =
          ap (λ ks. key_at ks to) keys_over ∙ get_or-set_same (set rows.keys from None) to (Some key) None (omega (arith, place_ok (not (turned_at turned s)), length-set rows.keys from None))

      pub turned_zero : (slot : ℕ) (k : Timed) → key_at new.keys slot ≡ Some k → k.time ≡ 0
      turned_zero slot k e = go (cases_eq slot from) (cases_eq slot to)
        where
          go : (slot ≡ from) ⊎ (slot ≢ from) → (slot ≡ to) ⊎ (slot ≢ to) → k.time ≡ 0
          go (inl same) b = no_time (sym key_from ∙ ap (key_at new.keys) (sym same) ∙ e)
            where
              no_time : None ≡ Some k → k.time ≡ 0
              no_time f = absurd (none-some k f)
          go (inr n) (inl same) = ap (λ (x : Timed). x.time) (same_Some k key (sym e ∙ ap (key_at new.keys) same ∙ key_to)) ∙ key_zero key has
          go (inr n) (inr m) = inside.at_zero slot k (sym (stays_over slot n m) ∙ e)

      pub turned_inside : IsInRows new pairs over free
      turned_inside = record {
        groups = groups_over ∙ inside.groups;
        each = ap length keys_over ∙ length-set (set rows.keys from None) to (Some key) ∙ length-set rows.keys from None ∙ inside.each;
        both = length-set turned s (not (turned_at turned s)) ∙ inside.both;
        few = inside.few;
        exist = inside.exist;
        elsewhere = λ t. go t (cases_eq t s);
        at_zero = turned_zero;
      }
        where
          now_here : turned_at over s ≡ not (turned_at turned s)
          now_here = get_or-set_same turned s (not (turned_at turned s)) false station_in

          back : place_in s (not (turned_at over s)) ≡ from
          back = ap (λ b. place_in s (not b)) now_here ∙ ap (place_in s) (not_not (turned_at turned s))

          go : (t : ℕ) → (t ≡ s) ⊎ (t ≢ s) → key_at new.keys (place_in t (not (turned_at over t))) ≡ None
          go t (inl e) = ap (λ x. key_at new.keys (place_in x (not (turned_at over x)))) e ∙ ap (key_at new.keys) back ∙ key_from
          go t (inr n) =
              let stays : turned_at over t ≡ turned_at turned t = get_or-set_other turned s t (not (turned_at turned s)) false n in
              ap (λ b. key_at new.keys (place_in t (not b))) stays ∙ stays_over (place_in t (not (turned_at turned t))) (λ e. n (equal_places_same_station t s (not (turned_at turned t)) (turned_at turned s) e)) (λ e. n (equal_places_same_station t s (not (turned_at turned t)) (not (turned_at turned s)) e)) ∙ inside.elsewhere t

      pub turned_heads : (now : List (Option Timed)) → AreBothTold new free heads now p → AreHeads new now free
      turned_heads now told = record {
        each = told.each ∙ are.each;
        few = are.few;
        headed = λ r l. go r l (cases_eq r p.cpu) (cases_eq r p.side);
      }
        where
          not_here : (r : ℕ) (b : Bool) → r ≢ p.cpu → r ≢ p.side → r ≢ side_of p b
          not_here r false n m = n
          not_here r true n m = m

          go : (r : ℕ) → r < length free → (r ≡ p.cpu) ⊎ (r ≢ p.cpu) → (r ≡ p.side) ⊎ (r ≢ p.side) → IsHead new r (slice_index free r) (key_at now r)
          go r l (inl e) b = subst (λ x. IsHead new x (slice_index free x) (key_at now x)) (sym e) told.cpu
          go r l (inr n) (inl e) = subst (λ x. IsHead new x (slice_index free x) (key_at now x)) (sym e) told.side
          go r l (inr n) (inr m) =
              subst (IsHead new r (slice_index free r)) (sym (told.others r n m)) (head_stays rows new groups_over r (λ slot e. stays_over slot (apart (turned_at turned s) slot r (not_here r (turned_at turned s) n m) e) (apart (not (turned_at turned s)) slot r (not_here r (not (turned_at turned s)) n m) e)) (slice_index free r) (key_at heads r) (are.headed r l))

      pub turned_seen : seen over new.keys ≡ seen turned rows.keys
      turned_seen =
          ap (seen over) keys_over ∙ ap (λ v. seen over (set (set rows.keys from None) to v)) (sym has) ∙ seen_turned turned rows.keys row_keys_are_two_per_station s station_in
