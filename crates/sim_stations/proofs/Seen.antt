-- The keys of stations, from the entries at their places in the rows.
use Rattle.std.proofs.Common.{◌≡◌, ◌≢◌, ◌⊎◌, ◌*◌, ◌<◌, ℕ, zero, suc, Bool, true, false, not, List, [], ◌∷◌, length, set, Option, None, refl, sym, ap, ◌∙◌, arith, inl, inr}
use Rattle.std.proofs.lemmas.Bool.{cases_eq}
use Rattle.std.proofs.lemmas.List.{get_or-set_same, get_or-set_other, length-set}
use Rattle.goal_graph.specs.declared.action.Timed.{Timed}
use Rattle.sim_queue.specs.Map.{key_at}
use Rattle.sim_queue.proofs.ForCallers.{same_maps}
use Rattle.sim_stations.specs.Rows.{place_in, seen, turned_at}
use Rattle.sim_stations.proofs.Sides.{equal_places_same_station, place_within}

place_of_next_station : (s : ℕ) (b : Bool) → suc (suc (place_in s b)) ≡ place_in (suc s) b
place_of_next_station s b = omega arith

pub station_key_at_turned_place : (turned : List Bool) (keys : List (Option Timed)) → length keys ≡ 2 * length turned → (s : ℕ) → key_at (seen turned keys) s ≡ key_at keys (place_in s (turned_at turned s))
unfolding seen
station_key_at_turned_place [] [] l s = refl
station_key_at_turned_place (false ∷ turned) (a ∷ b ∷ keys) l zero = refl
station_key_at_turned_place (true ∷ turned) (a ∷ b ∷ keys) l zero = refl
station_key_at_turned_place (false ∷ turned) (a ∷ b ∷ keys) l (suc s) =
    station_key_at_turned_place turned keys (omega (arith, l)) s ∙ ap (key_at (a ∷ b ∷ keys)) (place_of_next_station s (turned_at turned s))
station_key_at_turned_place (true ∷ turned) (a ∷ b ∷ keys) l (suc s) =
    station_key_at_turned_place turned keys (omega (arith, l)) s ∙ ap (key_at (a ∷ b ∷ keys)) (place_of_next_station s (turned_at turned s))
station_key_at_turned_place [] (a ∷ keys) l s = absurd (omega (arith, l))
station_key_at_turned_place (t ∷ turned) [] l s = absurd (omega (arith, l))
station_key_at_turned_place (t ∷ turned) (a ∷ []) l s = absurd (omega (arith, l))

pub station_keys_length : (turned : List Bool) (keys : List (Option Timed)) → length keys ≡ 2 * length turned → length (seen turned keys) ≡ length turned
unfolding seen
station_keys_length [] [] l = refl
station_keys_length (false ∷ turned) (a ∷ b ∷ keys) l = ap suc (station_keys_length turned keys (omega (arith, l)))
station_keys_length (true ∷ turned) (a ∷ b ∷ keys) l = ap suc (station_keys_length turned keys (omega (arith, l)))
station_keys_length [] (a ∷ keys) l = absurd (omega (arith, l))
station_keys_length (t ∷ turned) [] l = absurd (omega (arith, l))
station_keys_length (t ∷ turned) (a ∷ []) l = absurd (omega (arith, l))

module _ (turned : List Bool) (keys : List (Option Timed)) (long : length keys ≡ 2 * length turned) (s : ℕ) (within : s < length turned) where
  abbrev place_of_key : ℕ
  place_of_key = place_in s (turned_at turned s)

  pub place_of_key_within : place_of_key < length keys
  place_of_key_within = omega (arith, long, place_within s (length turned) (turned_at turned s) within)

  -- the key of a station is changed at its place
  pub seen_written : (value : Option Timed) → seen turned (set keys place_of_key value) ≡ set (seen turned keys) s value
  seen_written value = same_maps (seen turned (set keys place_of_key value)) (set (seen turned keys) s value) (station_keys_length turned (set keys place_of_key value) (length-set keys place_of_key value ∙ long) ∙ sym (station_keys_length turned keys long) ∙ sym (length-set (seen turned keys) s value)) (λ i l. each i (cases_eq i s))
    where
      now : (i : ℕ) → key_at (seen turned (set keys place_of_key value)) i ≡ key_at (set keys place_of_key value) (place_in i (turned_at turned i))
      now i = station_key_at_turned_place turned (set keys place_of_key value) (length-set keys place_of_key value ∙ long) i

      each : (i : ℕ) → (i ≡ s) ⊎ (i ≢ s) → key_at (seen turned (set keys place_of_key value)) i ≡ key_at (set (seen turned keys) s value) i
      each i (inl e) =
          let left : key_at (seen turned (set keys place_of_key value)) s ≡ value = now s ∙ get_or-set_same keys place_of_key value None place_of_key_within in
          let right : key_at (set (seen turned keys) s value) s ≡ value = get_or-set_same (seen turned keys) s value None (omega (arith, within, station_keys_length turned keys long)) in
          ap (key_at (seen turned (set keys place_of_key value))) e ∙ left ∙ sym right ∙ ap (key_at (set (seen turned keys) s value)) (sym e)
      each i (inr n) =
          now i ∙ get_or-set_other keys place_of_key (place_in i (turned_at turned i)) value None (λ e. n (equal_places_same_station i s (turned_at turned i) (turned_at turned s) e)) ∙ sym (station_key_at_turned_place turned keys long i) ∙ sym (get_or-set_other (seen turned keys) s i value None n)

  abbrev place_after_switch : ℕ
  place_after_switch = place_in s (not (turned_at turned s))

  abbrev turned_after_switch : List Bool
  turned_after_switch = set turned s (not (turned_at turned s))

  abbrev keys_after_switch : Option Timed → List (Option Timed)
  keys_after_switch value = set (set keys place_of_key None) place_after_switch value

  abbrev value : Option Timed
  value = key_at (seen turned keys) s

  -- a station switches, with its key
  pub seen_turned : seen turned_after_switch (keys_after_switch (key_at (seen turned keys) s)) ≡ seen turned keys
  seen_turned = same_maps (seen turned_after_switch (keys_after_switch value)) (seen turned keys) (station_keys_length turned_after_switch (keys_after_switch value) long_now ∙ length-set turned s (not (turned_at turned s)) ∙ sym (station_keys_length turned keys long)) (λ i l. each i (cases_eq i s))
    where
      length_moved : length (keys_after_switch value) ≡ length keys
      length_moved = length-set (set keys place_of_key None) place_after_switch value ∙ length-set keys place_of_key None

      long_now : length (keys_after_switch value) ≡ 2 * length turned_after_switch
      long_now = omega (arith, length_moved, long, length-set turned s (not (turned_at turned s)))

      now : (i : ℕ) → key_at (seen turned_after_switch (keys_after_switch value)) i ≡ key_at (keys_after_switch value) (place_in i (turned_at turned_after_switch i))
      now i = station_key_at_turned_place turned_after_switch (keys_after_switch value) long_now i

      turned_here : turned_at turned_after_switch s ≡ not (turned_at turned s)
      turned_here = get_or-set_same turned s (not (turned_at turned s)) false within

      there_in : place_after_switch < length (set keys place_of_key None)
      there_in =
          omega (arith, long, length-set keys place_of_key None, place_within s (length turned) (not (turned_at turned s)) within)

      each : (i : ℕ) → (i ≡ s) ⊎ (i ≢ s) → key_at (seen turned_after_switch (keys_after_switch value)) i ≡ key_at (seen turned keys) i
      each i (inl e) =
          let left : key_at (seen turned_after_switch (keys_after_switch value)) s ≡ value = now s ∙ ap (λ b. key_at (keys_after_switch value) (place_in s b)) turned_here ∙ get_or-set_same (set keys place_of_key None) place_after_switch value None there_in in
          ap (key_at (seen turned_after_switch (keys_after_switch value))) e ∙ left ∙ ap (key_at (seen turned keys)) (sym e)
      each i (inr n) =
          let stays : turned_at turned_after_switch i ≡ turned_at turned i = get_or-set_other turned s i (not (turned_at turned s)) false n in
          now i ∙ ap (λ b. key_at (keys_after_switch value) (place_in i b)) stays ∙ get_or-set_other (set keys place_of_key None) place_after_switch (place_in i (turned_at turned i)) value None (λ e. n (equal_places_same_station i s (turned_at turned i) (not (turned_at turned s)) e)) ∙ get_or-set_other keys place_of_key (place_in i (turned_at turned i)) None None (λ e. n (equal_places_same_station i s (turned_at turned i) (turned_at turned s) e)) ∙ sym (station_key_at_turned_place turned keys long i)
