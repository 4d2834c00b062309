-- Parcels whose values are stored as sums, as contracts see them.
use Rattle.std.proofs.Common.{ℕ, zero, suc, replicate, ◌≡◌, ◌<◌, List, [], ◌∷◌, length, set, get_or, All, Option, Some, None, refl, sym, ap, ap₂, ◌∙◌, subst, arith}
use Rattle.std.specs.Option.{option_map}
use Rattle.std.proofs.lemmas.List.{map-set}
use Rattle.std.proofs.Math.ListN.{get_or-map, length-map}
use Rattle.std.proofs.lemmas.List.Elements.{All-head, All-tail, All-set}
use Rattle.goal_graph.specs.Schedule.{Plan}
use Rattle.goal_graph.specs.Action.{Act}
use Rattle.goal_blocks.specs.Values.{Value, Store}
use Rattle.goal_values.specs.Sums.{HasGrown}
use Rattle.goal_values.specs.Summed.{Summed, IsPayload}
use Rattle.goal_values.proofs.ForCallers.{payload_stays}
use Rattle.goal_certify.specs.declared.walk.parcel.Parcel.{Parcel}
use Rattle.goal_certify.specs.Carried.{ParcelValues, values_of_parcel, values_of_parcels, IsKnown, IsCarrying, IsHolding}

-- making more sums leaves the values of a parcel
parcel_values_stay : (old new : List Value) → HasGrown old new → (o : Option Parcel) → IsKnown old o → (option_map (values_of_parcel new) o ≡ option_map (values_of_parcel old) o) × IsKnown new o
parcel_values_stay old new grown None known = (refl, tt)
parcel_values_stay old new grown (Some p) known =
    let stays = payload_stays old new grown p.payload known in
    (ap (λ (vs : List Value). Some (record { payload = vs; size = p.size })) stays.0, stays.1)

all_parcel_values_stay : (old new : List Value) → HasGrown old new → (ps : List (Option Parcel)) → All (IsKnown old) ps → values_of_parcels new ps ≡ values_of_parcels old ps
all_parcel_values_stay old new grown [] known = refl
all_parcel_values_stay old new grown (o ∷ ps) known =
    ap₂ (λ (t : Option ParcelValues) (ts : List (Option ParcelValues)). t ∷ ts) (parcel_values_stay old new grown o (All-head (IsKnown old) o ps known)).0 (all_parcel_values_stay old new grown ps (All-tail (IsKnown old) o ps known))

module _ (plans : List Plan) (first : Store) (h : List Act) (parcels : List (Option Parcel)) where
  -- the same parcels are held after more sums were made
  pub holding_grown : (s t : Summed) (before : List Act) (count total : ℕ) → IsHolding plans first before s parcels count → HasGrown s.sums t.sums → IsCarrying plans first h t.kept (values_of_parcels s.sums parcels) total → IsHolding plans first h t parcels total
  holding_grown s t before count total holding grown carrying = record {
    carrying = subst (λ (ts : List (Option ParcelValues)). IsCarrying plans first h t.kept ts total) (sym (all_parcel_values_stay s.sums t.sums grown parcels holding.known)) carrying;
    known = λ k d inside. (parcel_values_stay s.sums t.sums grown _ (holding.known k d inside)).1;
  }

  -- the same where one parcel is another, or none
  pub holding_set : (s t : Summed) (before : List Act) (count total j : ℕ) (o : Option Parcel) (new : List (Option Parcel)) → new ≡ set parcels j o → IsHolding plans first before s parcels count → t.sums ≡ s.sums → IsKnown s.sums o → IsCarrying plans first h t.kept (set (values_of_parcels s.sums parcels) j (option_map (values_of_parcel s.sums) o)) total → IsHolding plans first h t new total
  holding_set s t before count total j o new put holding same known carrying = subst (λ (ps : List (Option Parcel)). IsHolding plans first h t ps total) (sym put) (record {
    carrying = subst (λ (ts : List (Option ParcelValues)). IsCarrying plans first h t.kept ts total) (sym (map-set (option_map (values_of_parcel s.sums)) parcels j o) ∙ ap (λ (vs : List Value). values_of_parcels vs (set parcels j o)) (sym same)) carrying;
    known = subst (λ (vs : List Value). All (IsKnown vs) (set parcels j o)) (sym same) (All-set (IsKnown s.sums) parcels j o known holding.known);
  })

-- the values at the place of a parcel
module _ (sums : List Value) (parcels : List (Option Parcel)) (j : ℕ) (inside : j < length (values_of_parcels sums parcels)) where
  parcel_index_in_bounds : j < length parcels
  parcel_index_in_bounds = omega (arith, inside, length-map parcels (option_map (values_of_parcel sums)))

  parcel_values_map : get_or (values_of_parcels sums parcels) j None ≡ option_map (values_of_parcel sums) (get_or parcels j None)
  parcel_values_map = get_or-map (option_map (values_of_parcel sums)) parcels j None

  pub parcel_values_at : (p : Parcel) → get_or parcels j None ≡ Some p → get_or (values_of_parcels sums parcels) j None ≡ Some (values_of_parcel sums p)
  parcel_values_at p e = parcel_values_map ∙ ap (option_map (values_of_parcel sums)) e

  pub parcel_known_at : All (IsKnown sums) parcels → (p : Parcel) → get_or parcels j None ≡ Some p → IsPayload sums p.payload
  parcel_known_at known p e = subst (IsKnown sums) e (known j None parcel_index_in_bounds)

  -- where a parcel has values, the parcel exists
  pub parcel_with_values : (t : ParcelValues) → get_or (values_of_parcels sums parcels) j None ≡ Some t → (p : Parcel) × (get_or parcels j None ≡ Some p)
  parcel_with_values t e = go (get_or parcels j None) (sym parcel_values_map ∙ e)
    where
      go : (o : Option Parcel) → option_map (values_of_parcel sums) o ≡ Some t → (p : Parcel) × (o ≡ Some p)
      go None w = cc
      go (Some p) w = (p, refl)

-- without parcels there are no parcel values
pub no_parcel_values : (sums : List Value) (n : ℕ) → values_of_parcels sums (replicate n None) ≡ replicate n None
no_parcel_values sums zero = refl
no_parcel_values sums (suc n) = ap (λ (ts : List (Option ParcelValues)). None ∷ ts) (no_parcel_values sums n)
