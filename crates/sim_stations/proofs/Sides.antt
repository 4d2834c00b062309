-- The resources of stations, one pair after another.
use Rattle.std.proofs.Common.{◌≡◌, ◌≢◌, ◌*◌, ◌<◌, ◌≤◌, ℕ, zero, suc, Bool, true, false, not, List, [], ◌∷◌, ◌++◌, length, Some, slice_get, refl, sym, ap, arith}
use Rattle.std.specs.Option.{option_map}
use Rattle.std.proofs.lemmas.Option.{same_Some, slice_get_within}
use Rattle.sim_resources.specs.declared.pair.Pair.{Pair}
use Rattle.sim_stations.specs.Moves.{one_if}
use Rattle.sim_stations.specs.Rows.{sides, place_in, side_of}

abbrev cpu_of : Pair → ℕ
cpu_of p = p.cpu

abbrev second_of : Pair → ℕ
second_of p = p.side

pub sides_length : (pairs : List Pair) → length (sides pairs) ≡ 2 * length pairs
sides_length [] = refl
sides_length (p ∷ pairs) = omega (arith, sides_length pairs)

pub sides_append : (xs ys : List Pair) → sides (xs ++ ys) ≡ sides xs ++ sides ys
sides_append [] ys = refl
sides_append (x ∷ xs) ys = ap (λ ns. x.cpu ∷ x.side ∷ ns) (sides_append xs ys)

side_at_equal_place : (pairs : List Pair) (s : ℕ) (b : Bool) (p : Pair) → slice_get pairs s ≡ Some p → (i : ℕ) → i ≡ place_in s b → slice_get (sides pairs) i ≡ Some (side_of p b)
side_at_equal_place [] s b p e i h = absurd (omega (arith, slice_get_within [] s p e))
side_at_equal_place (q ∷ pairs) zero false p e zero h = ap (option_map cpu_of) e
side_at_equal_place (q ∷ pairs) zero false p e (suc i) h = absurd (omega (arith, h))
side_at_equal_place (q ∷ pairs) zero true p e zero h = absurd (omega (arith, h))
side_at_equal_place (q ∷ pairs) zero true p e (suc zero) h = ap (option_map second_of) e
side_at_equal_place (q ∷ pairs) zero true p e (suc (suc i)) h = absurd (omega (arith, h))
side_at_equal_place (q ∷ pairs) (suc s) b p e zero h = absurd (omega (arith, h))
side_at_equal_place (q ∷ pairs) (suc s) b p e (suc zero) h = absurd (omega (arith, h))
side_at_equal_place (q ∷ pairs) (suc s) b p e (suc (suc i)) h = side_at_equal_place pairs s b p e i (omega (arith, h))

-- the resource at a place of a station
pub side_at_station_place : (pairs : List Pair) (s : ℕ) (b : Bool) (p : Pair) → slice_get pairs s ≡ Some p → slice_get (sides pairs) (place_in s b) ≡ Some (side_of p b)
side_at_station_place pairs s b p e = side_at_equal_place pairs s b p e (place_in s b) refl

-- a place belongs to a station, on one of its sides
pub record IsPlace (pairs : List Pair) (i r : ℕ) : Type 0 where
  pub station : ℕ
  pub turned : Bool
  pub pair : Pair
  pub at : slice_get pairs station ≡ Some pair
  pub place : i ≡ place_in station turned
  pub side : r ≡ side_of pair turned

pub index_in_sides_is_place : (pairs : List Pair) (i r : ℕ) → slice_get (sides pairs) i ≡ Some r → IsPlace pairs i r
index_in_sides_is_place [] i r e = absurd (omega (arith, slice_get_within [] i r e))
index_in_sides_is_place (p ∷ pairs) zero r e = record { station = 0; turned = false; pair = p; at = refl; place = refl; side = same_Some r p.cpu (sym e) }
index_in_sides_is_place (p ∷ pairs) (suc zero) r e = record { station = 0; turned = true; pair = p; at = refl; place = refl; side = same_Some r p.side (sym e) }
index_in_sides_is_place (p ∷ pairs) (suc (suc i)) r e =
    let q = index_in_sides_is_place pairs i r e in
    record { station = suc q.station; turned = q.turned; pair = q.pair; at = q.at; place = omega (arith, q.place); side = q.side }

pub one_if_le : (b : Bool) → one_if b ≤ 1
one_if_le false = omega arith
one_if_le true = omega arith

-- places differ
pub equal_places_same_station : (s t : ℕ) (b c : Bool) → place_in s b ≡ place_in t c → s ≡ t
equal_places_same_station s t b c e = omega (arith, e, one_if_le b, one_if_le c)

pub equal_places_same_side : (s t : ℕ) (b c : Bool) → place_in s b ≡ place_in t c → b ≡ c
equal_places_same_side s t false false e = refl
equal_places_same_side s t true true e = refl
equal_places_same_side s t false true e = absurd (omega (arith, e))
equal_places_same_side s t true false e = absurd (omega (arith, e))

pub not_not : (b : Bool) → not (not b) ≡ b
not_not false = refl
not_not true = refl

pub not_same : (b : Bool) → not b ≢ b
not_same false e = absurd (cc)
not_same true e = absurd (cc)

pub place_within : (s n : ℕ) (b : Bool) → s < n → place_in s b < 2 * n
place_within s n b l = omega (arith, l, one_if_le b)
