-- The laws of the list of stuck operations.
use Rattle.std.proofs.Common.{◌≡◌, ◌≤◌, ◌⊎◌, inl, inr, true, not, List, [], ◌∷◌, length, map, filter, Contains, AllPairs, refl, sym, ap, ◌∙◌, subst, arith}
use Rattle.std.proofs.lemmas.Bool.{not-true}
use Rattle.std.proofs.lemmas.List.Elements.{All-contains}
use Rattle.std.proofs.lemmas.List.Kept.{AllPairs-filter}
use Rattle.goal_graph.specs.declared.action.OpId.{OpId}
use Rattle.goal_graph.specs.declared.action.Stuck.{Stuck}
use Rattle.goal_graph.specs.declared.action.Timed.{Timed}
use Rattle.goal_graph.specs.declared.action.Why.TheVariants as why
use Rattle.goal_graph.specs.declared.plan.Need.{Need}
use Rattle.goal_graph.specs.Schedule.{Plan, needs, needed, operations}
use Rattle.goal_graph.specs.Action.{plain}
use Rattle.goal_graph.specs.Fault.{IsOp, IsAccepted}
use Rattle.goal_graph.specs.Allowed.{has_started}
use Rattle.goal_graph.specs.Interleaving.{IsInterleaving, IsCompleteInterleaving}
use Rattle.goal_graph.specs.Order.{IsBefore}
use Rattle.goal_graph.specs.Laws.{IsTaken}
use Rattle.goal_graph.proofs.ForCallers.{listed_places, operations_in_order, needs-exist, contains_source}
use Rattle.sim_params.specs.Costs.{CostModel, is_eager}
use Rattle.sim_params.specs.Run.{IsRun, IsFinished}
use Rattle.sim_params.proofs.ForCallers.{run_interleaving, complete_interleaving, op_is_unmet, partner_is_absent, op_is_stuck, partner_is_stuck, partners_of_alone_taken}
use Rattle.sim_stuck.specs.StuckList.{with_reason, stuck_list}
use Rattle.sim_stuck.specs.Laws.{ops_of, IsInOrder, NamesListed, ListsStuck, AloneAreAlone}
use Rattle.sim_params.specs.Stuck.{are_fit, lacks_end}
use Rattle.sim_params.specs.Laws.{IsStuck}
use Rattle.sim_stuck.proofs.Kept.{contains_kept, kept_contained}

module _ (plans : List Plan) (costs : CostModel) (h : List Timed) where
  ops_of_reasons : (xs : List OpId) → ops_of (map (with_reason plans costs h) xs) ≡ xs
  ops_of_reasons [] = refl
  ops_of_reasons (x ∷ xs) = ap (λ (ys : List OpId). x ∷ ys) (ops_of_reasons xs)

  -- the operations that are listed are those without an end
  ops_listed : ops_of (stuck_list plans costs h) ≡ filter (lacks_end plans costs h) (operations plans)
  unfolding stuck_list
  ops_listed = ops_of_reasons (filter (lacks_end plans costs h) (operations plans))

  -- a stuck operation with its reason is one of the schedule
  listed_is_stuck_op_with_reason : (s : Stuck) → Contains (stuck_list plans costs h) s → (x : OpId) × Contains (operations plans) x × (lacks_end plans costs h x ≡ true) × (with_reason plans costs h x ≡ s)
  unfolding stuck_list
  listed_is_stuck_op_with_reason s c =
      let source = contains_source (with_reason plans costs h) (filter (lacks_end plans costs h) (operations plans)) s c in
      let kept = kept_contained (lacks_end plans costs h) (operations plans) source.0 source.1 in
      (source.0, kept.0, kept.1, source.2)

  pub lists_stuck : ListsStuck plans costs h (stuck_list plans costs h)
  lists_stuck x = (to, from)
    where
      to : Contains (ops_of (stuck_list plans costs h)) x → IsOp plans x × IsStuck plans (is_eager plans costs) (plain h) x
      to c =
          let kept = kept_contained (lacks_end plans costs h) (operations plans) x (subst (λ (xs : List OpId). Contains xs x) ops_listed c) in
          ((listed_places plans x).0 kept.0, not-true _ kept.1)

      from : IsOp plans x × IsStuck plans (is_eager plans costs) (plain h) x → Contains (ops_of (stuck_list plans costs h)) x
      from (is_op, stuck) =
          subst (λ (xs : List OpId). Contains xs x) (sym ops_listed) (contains_kept (lacks_end plans costs h) (operations plans) x ((listed_places plans x).1 is_op) (ap not stuck))

  pub in_order : IsInOrder (stuck_list plans costs h)
  in_order =
      subst (AllPairs IsBefore) (sym ops_listed) (AllPairs-filter IsBefore (lacks_end plans costs h) (operations plans) (operations_in_order plans))

  pub names_listed : IsAccepted plans → IsInterleaving plans (is_eager plans costs) (plain h) → NamesListed (stuck_list plans costs h)
  names_listed accepted each s y c e = (lists_stuck y).1 (go e)
    where
      go : (s.why ≡ why.Op y) ⊎ (s.why ≡ why.Partner y) → IsOp plans y × IsStuck plans (is_eager plans costs) (plain h) y
      go (inl e) =
          let l = listed_is_stuck_op_with_reason s c in
          let named = ap (λ (t : Stuck). t.why) l.3 ∙ e in
          let unmet = op_is_unmet plans (is_eager plans costs) (plain h) l.0 y named in
          let exist = needs-exist plans l.0 accepted.plain ((listed_places plans l.0).0 l.1) in
          let found = All-contains (λ (d : Need). IsOp plans (needed l.0 d)) (needs plans l.0) unmet.need exist unmet.listed in
          (subst (IsOp plans) (sym unmet.names) found, op_is_stuck plans (is_eager plans costs) (plain h) l.0 y each named)
      go (inr e) =
          let l = listed_is_stuck_op_with_reason s c in
          let named = ap (λ (t : Stuck). t.why) l.3 ∙ e in
          let absent = partner_is_absent plans (is_eager plans costs) (plain h) l.0 y named in
          ((listed_places plans y).0 absent.listed, partner_is_stuck plans (is_eager plans costs) (plain h) l.0 y each named)

  pub alone_are_alone : IsCompleteInterleaving plans (is_eager plans costs) (plain h) → AloneAreAlone plans costs h (stuck_list plans costs h)
  alone_are_alone complete s y c e fit =
      let l = listed_is_stuck_op_with_reason s c in
      let same = ap (λ (t : Stuck). t.op) l.3 in
      let alone = ap (λ (t : Stuck). t.why) l.3 ∙ e in
      subst (λ (z : OpId). (has_started plans y (plain h) ≡ true) × IsTaken plans (plain h) y z) same (partners_of_alone_taken plans (is_eager plans costs) (plain h) complete l.0 y (not-true _ l.2) alone (subst (λ (z : OpId). are_fit plans (is_eager plans costs) z y ≡ true) (sym same) fit))

-- nothing is listed if all operations have an end
pub none_listed : (plans : List Plan) (costs : CostModel) (h : List Timed) (stuck : List OpId) (list : List Stuck) → length stuck ≤ 0 → list ≡ [] → list ≡ map (with_reason plans costs h) stuck
none_listed plans costs h [] list none e = e
none_listed plans costs h (x ∷ xs) list none e = absurd (omega (arith, none))

-- the list of all operations without an end, of a schedule that was read
module _ (plans read : List Plan) (costs : CostModel) (h : List Timed) (stuck : List OpId) (list : List Stuck) (same : plans ≡ read) (are_all : stuck ≡ filter (lacks_end plans costs h) (operations plans)) (listed : list ≡ map (with_reason plans costs h) stuck) where
  pub list_is_stuck_list : list ≡ stuck_list read costs h
  unfolding stuck_list
  list_is_stuck_list =
      listed ∙ ap (map (with_reason plans costs h)) are_all ∙ ap (λ (ps : List Plan). map (with_reason ps costs h) (filter (lacks_end ps costs h) (operations ps))) same

  pub list_stuck : ListsStuck read costs h list
  list_stuck = subst (λ (xs : List Stuck). ListsStuck read costs h xs) (sym list_is_stuck_list) (lists_stuck read costs h)

  pub list_order : IsInOrder list
  list_order = subst (λ (xs : List Stuck). IsInOrder xs) (sym list_is_stuck_list) (in_order read costs h)

  pub list_named : IsAccepted plans → IsRun plans costs h → NamesListed list
  list_named accepted run =
      subst (λ (xs : List Stuck). NamesListed xs) (sym list_is_stuck_list) (subst (λ (ps : List Plan). NamesListed (stuck_list ps costs h)) same (names_listed plans costs h accepted (run_interleaving plans costs h run)))

  pub list_alone : IsRun plans costs h → IsFinished plans costs h → AloneAreAlone read costs h list
  list_alone run finished =
      subst (λ (xs : List Stuck). AloneAreAlone read costs h xs) (sym list_is_stuck_list) (subst (λ (ps : List Plan). AloneAreAlone ps costs h (stuck_list ps costs h)) same (alone_are_alone plans costs h (complete_interleaving plans costs h (record { run = run; finished = finished }))))
