-- The walk with its values at its start and at its end.
use Rattle.std.proofs.Common.{⊎_elim, ℕ, zero, suc, ◌^◌, ◌<◌, ◌≤◌, ◌≡◌, ◌⊎◌, inl, inr, Bool, true, false, cond, nat_lt, List, [], ◌∷◌, length, map, replicate, All, Option, None, refl, sym, ap, ◌∙◌, subst, arith}
use Rattle.std.specs.List.{sum_by}
use Rattle.std.proofs.lemmas.Bool.{both_ways, cases_Bool, ltb-true}
use Rattle.std.proofs.lemmas.List.Sums.{sum_by-cons}
use Rattle.std.proofs.lemmas.List.Elements.{All-replicate}
use Rattle.goal_limits.specs.Limits.{weight_limit}
use Rattle.goal_graph.specs.declared.action.OpId.{OpId}
use Rattle.goal_graph.specs.declared.action.Class.TheVariants.{Data}
use Rattle.goal_graph.specs.Schedule.{Plan, operations}
use Rattle.goal_graph.specs.Action.{Act}
use Rattle.goal_graph.proofs.ForCallers.{happened_none}
use Rattle.goal_limits.specs.declared.collective.Collective.{Collective}
use Rattle.goal_blocks.specs.declared.cert_fault.CertFault.TheVariants.{Weight, Wrong, NoMemory}
use Rattle.goal_blocks.specs.declared.cert_fault.CertFault.{CertFault}
use Rattle.goal_graph.specs.Interleaving.{IsInterleaving}
use Rattle.goal_blocks.specs.Collectives.{wanted, wanted_at}
use Rattle.goal_blocks.specs.Segments.{exchange, initial_in, wanted_in}
use Rattle.goal_blocks.specs.Walk.{no_send, TakesFirst, IsWalk}
use Rattle.goal_blocks.specs.Values.{Value, Store, Held, held_after, value}
use Rattle.goal_blocks.specs.Weight.{stored, carried, weight}
use Rattle.goal_blocks.specs.Faults.{IsLeast, SlotAt, slot_key, IsFirstTooHeavy}
use Rattle.goal_values.specs.Kept.{Kept, values}
use Rattle.goal_values.specs.Summed.{Summed}
use Rattle.goal_certify.specs.declared.walk.parcel.Parcel.{Parcel}
use Rattle.goal_certify.specs.Stages.{HasNone, IsFirstOf}
use Rattle.goal_certify.specs.Left.{IsLeft}
use Rattle.goal_certify.specs.Carried.{ParcelValues, values_of_parcels, parcel_size, parcel_under_way, IsKnown, IsCarrying, IsHolding, IsOver}
use Rattle.goal_certify.proofs.Carried.{carried_kept}
use Rattle.goal_certify.proofs.Carrying.{weight_opened}
use Rattle.goal_certify.proofs.Holding.{no_parcel_values}
use Rattle.goal_certify.proofs.ValueStage.{weight_first, values_none, wrong_first}

module _ (plans : List Plan) (first : Store) where
  abbrev start : Held
  start = held_after plans no_send first []

  start_store : (start).store ≡ first
  unfolding held_after
  start_store = refl

  -- nothing is under way
  no_parcel_at_start : (m : OpId) → parcel_under_way plans [] start m ≡ None
  no_parcel_at_start m = rw (happened_none Data m) refl

  parcels_at_start_are_none : (xs : List OpId) → map (parcel_under_way plans [] start) xs ≡ replicate (length xs) None
  parcels_at_start_are_none [] = refl
  parcels_at_start_are_none (x ∷ xs) = λ i. no_parcel_at_start x i ∷ parcels_at_start_are_none xs i

  none_carried : (n : ℕ) → sum_by parcel_size (replicate n None) ≡ 0
  none_carried zero = refl
  none_carried (suc n) =
      let more = sum_by-cons parcel_size None (replicate n None) in
      let rest = none_carried n in omega (arith, more, rest)

  start_carried : carried plans [] start ≡ 0
  start_carried =
      carried_kept plans [] start ∙ ap (λ (ps : List (Option ParcelValues)). sum_by parcel_size ps) (parcels_at_start_are_none (operations plans)) ∙ none_carried (length (operations plans))

  start_weight : weight plans [] start ≡ stored (length plans) first
  start_weight =
      let opened = weight_opened plans [] start in
      omega (arith, opened, start_carried, ap (stored (length plans)) start_store)

  pub carrying_at_start : (s : Kept) (parcels : List (Option ParcelValues)) → values s ≡ first → s.ranks ≡ length plans → parcels ≡ replicate (length (operations plans)) None → stored (length plans) first ≤ weight_limit → IsCarrying plans first [] s parcels 0
  carrying_at_start s parcels is ranks none light = record {
    values_are = is ∙ sym start_store;
    ranks = ranks;
    parcels_are = none ∙ sym (parcels_at_start_are_none (operations plans));
    counted = sym start_carried;
    light = omega (arith, light, start_weight);
  }

  pub started_heavy : (wanted : ℕ → ℕ → Value → Bool) (total : ℕ) → total ≡ stored (length plans) first → weight_limit < total → IsFirstOf plans first wanted 7 9 (Weight total)
  started_heavy wanted total is over =
      weight_first plans first wanted [] total tt tt (start_weight ∙ sym is, over)

-- a value that differs from the wanted one is at one of the ranks
unwanted_value_is_at_a_rank : (what : Collective) (ranks r k : ℕ) (v : Value) → wanted what ranks r k v ≡ false → r < ranks
unfolding wanted
unwanted_value_is_at_a_rank what ranks r k v unwanted = go (nat_lt r ranks) refl unwanted
  where
    go : (b : Bool) → nat_lt r ranks ≡ b → cond b (wanted_at what ranks r k v) true ≡ false → r < ranks
    go true e q = ltb-true r ranks e
    go false e q = absurd (both_ways true q refl)

-- the walk is at its end with these values
pub left_at_end : (plans : List Plan) (first : Store) (w : List Act) (s : Kept) (parcels : List (Option ParcelValues)) (count : ℕ) → IsWalk plans w → IsCarrying plans first w s parcels count → IsLeft plans first s
left_at_end plans first w s parcels count is_walk so_far = record {
  walk = w;
  is_walk = is_walk;
  values_are = so_far.values_are;
  ranks = so_far.ranks;
  light = so_far.light;
}

module _ (plans : List Plan) (what : Collective) (width block : ℕ) (s : Kept) (left : IsLeft plans (initial_in what width block (length plans)) s) where
  abbrev first : Store
  first = initial_in what width block (length plans)

  abbrev wish : ℕ → ℕ → Value → Bool
  wish = wanted_in what width block (length plans)

  abbrev w : List Act
  w = left.walk

  -- what is read of the store is what the walk leaves
  wanted_at_end : (rank slot : ℕ) → wanted_in what width block s.ranks rank slot (values s rank slot) ≡ wish rank slot (value plans no_send first w rank slot)
  wanted_at_end rank slot =
      ap (λ (n : ℕ). wanted_in what width block n rank slot (values s rank slot)) left.ranks ∙ ap (λ (v : Store). wish rank slot (v rank slot)) left.values_are

  pub no_value_fault_if_all_wanted : ((rank slot : ℕ) → wanted_in what width block s.ranks rank slot (values s rank slot) ≡ true) → HasNone plans first wish 7 9
  no_value_fault_if_all_wanted right =
      values_none plans first wish w left.is_walk left.light (λ rank slot inside. sym (wanted_at_end rank slot) ∙ right rank slot)

  pub least_wrong_slot_is_first_fault : (rank slot : ℕ) → IsLeast slot_key (λ (a : SlotAt). wanted_in what width block s.ranks a.rank a.slot (values s a.rank a.slot) ≡ false) (record { rank = rank; slot = slot }) → IsFirstOf plans first wish 7 9 (Wrong rank slot)
  least_wrong_slot_is_first_fault rank slot least =
      let unwanted = sym (wanted_at_end rank slot) ∙ least.holds in
      wrong_first plans first wish w left.is_walk left.light rank slot (unwanted_value_is_at_a_rank what (length plans) rank (exchange width block slot) _ unwanted) unwanted (λ other less inside. ⊎_elim (λ e. e) (λ e. absurd (least.none_less other less (wanted_at_end other.rank other.slot ∙ e))) (cases_Bool (wish other.rank other.slot (value plans no_send first w other.rank other.slot))))

-- what stopped the walk with its values is the first fault of the last two kinds, whatever is wanted
pub no_memory_or_first_fault_if_over : (plans : List Plan) (first : Store) (h : List Act) (fault : CertFault) → IsInterleaving plans no_send h → TakesFirst plans h → IsOver (λ total. IsFirstTooHeavy plans first h total) fault → (fault ≡ NoMemory) ⊎ ((wanted : ℕ → ℕ → Value → Bool) → IsFirstOf plans first wanted 7 9 fault)
no_memory_or_first_fault_if_over plans store h fault run takes (inl e) = inl e
no_memory_or_first_fault_if_over plans store h fault run takes (inr over) =
    inr (λ wanted. subst (λ (f : CertFault). IsFirstOf plans store wanted 7 9 f) (sym over.1) (weight_first plans store wanted h over.0 run takes over.2))

-- before the first step nothing is under way
module _ (plans : List Plan) (first : Store) (s : Summed) (parcels : List (Option Parcel)) (is : values s.kept ≡ first) (ranks : s.kept.ranks ≡ length plans) (none : parcels ≡ replicate (length (operations plans)) None) (light : stored (length plans) first ≤ weight_limit) where
  pub holding_at_start : (h : List Act) → h ≡ [] → IsHolding plans first h s parcels 0
  holding_at_start h start = record {
    carrying = subst (λ (acts : List Act). IsCarrying plans first acts s.kept (values_of_parcels s.sums parcels) 0) (sym start) (carrying_at_start plans first s.kept (values_of_parcels s.sums parcels) is ranks (ap (values_of_parcels s.sums) none ∙ no_parcel_values s.sums (length (operations plans))) light);
    known = subst (All (IsKnown s.sums)) (sym none) (All-replicate (IsKnown s.sums) (length (operations plans)) None tt);
  }
