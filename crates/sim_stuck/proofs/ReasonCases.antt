-- The reason of an operation, as the code finds it: first among its needs, then among the operations that have not
-- started.
use Rattle.std.proofs.Common.{◌≡◌, ◌||◌, Bool, not, List, All, AllPairs, Option, Some, None, find, filter, refl, sym, ap, ◌∙◌, subst}
use Rattle.std.specs.Option.{option_map}
use Rattle.std.proofs.lemmas.Option.{same_Some}
use Rattle.std.proofs.lemmas.List.Elements.{All-filter}
use Rattle.std.proofs.lemmas.List.Kept.{AllPairs-filter}
use Rattle.goal_graph.specs.declared.action.OpId.{OpId}
use Rattle.goal_graph.specs.declared.action.Why.TheVariants as why
use Rattle.goal_graph.specs.declared.plan.Need.{Need}
use Rattle.goal_graph.specs.Schedule.{Plan, needed, operations}
use Rattle.goal_graph.specs.Action.{Act}
use Rattle.goal_graph.specs.Matching.{fits}
use Rattle.goal_graph.specs.Allowed.{has_started, is_met}
use Rattle.goal_graph.specs.Fault.{IsOp}
use Rattle.goal_graph.specs.Order.{IsBefore}
use Rattle.goal_graph.proofs.ForCallers.{listed_exist, operations_in_order}
use Rattle.sim_params.specs.Stuck.{first_unmet, first_absent, partner_or_alone, reason_by, reason}
use Rattle.sim_stuck.specs.declared.partner.Firsts.{Firsts}
use Rattle.sim_stuck.specs.Patterns.{AreFirsts}
use Rattle.sim_stuck.proofs.Kept.{find_in_filtered}

abbrev pub is_unstarted : List Plan → List Act → OpId → Bool
is_unstarted plans h y = not (has_started plans y h)

module _ (plans : List Plan) (eager : OpId → Bool) (h : List Act) where
  -- what x needs of d has not happened
  abbrev pub is_unmet : OpId → Need → Bool
  is_unmet x d = not (is_met plans eager h d.when (needed x d))

  module _ (x : OpId) where
    -- a need that has not happened is the reason
    pub unmet_reason : (y : OpId) → Some y ≡ option_map (needed x) (first_unmet plans eager h x) → why.Op y ≡ reason plans eager h x
    unfolding reason
    unmet_reason y e = go (first_unmet plans eager h x) e
      where
        go : (o : Option Need) → Some y ≡ option_map (needed x) o → why.Op y ≡ reason_by plans eager h x o
        go None e = absurd (cc e)
        go (Some d) e = ap why.Op (same_Some y (needed x d) e)

    -- if all needs have happened, the reason is the first that fits among those that have not started
    pub met_reason : (read : List Plan) (firsts : Firsts) (r : Option OpId) → read ≡ plans → AreFirsts plans (filter (is_unstarted plans h) (operations plans)) firsts
        → None ≡ option_map (needed x) (first_unmet plans eager h x)
        → ((ids : List OpId) → AllPairs IsBefore ids → AreFirsts read ids firsts → r ≡ find (λ (y : OpId). fits read x y || fits read y x) ids)
        → partner_or_alone plans eager r ≡ reason plans eager h x
    unfolding reason first_absent
    met_reason read firsts r same are e f =
        ap (partner_or_alone plans eager) (found ∙ ap (λ (ps : List Plan). find (λ (y : OpId). fits ps x y || fits ps y x) absent) same ∙ find_in_filtered (λ (y : OpId). fits plans x y || fits plans y x) (is_unstarted plans h) (operations plans)) ∙ go (first_unmet plans eager h x) e
      where
        absent : List OpId
        absent = filter (is_unstarted plans h) (operations plans)

        found : r ≡ find (λ (y : OpId). fits read x y || fits read y x) absent
        found = f absent (AllPairs-filter IsBefore (is_unstarted plans h) (operations plans) (operations_in_order plans)) (subst (λ (ps : List Plan). AreFirsts ps absent firsts) (sym same) are)

        go : (o : Option Need) → None ≡ option_map (needed x) o → partner_or_alone plans eager (first_absent plans eager h x) ≡ reason_by plans eager h x o
        go None e = refl
        go (Some d) e = absurd (cc e)

-- operations that a filter keeps of all exist
pub picked_exist : (p : OpId → Bool) (plans read : List Plan) (ids : List OpId) → read ≡ plans → ids ≡ filter p (operations plans) → All (IsOp read) ids
picked_exist p plans read ids same is =
    subst (λ (xs : List OpId). All (IsOp read) xs) (sym is) (subst (λ (ps : List Plan). All (IsOp ps) (filter p (operations plans))) (sym same) (All-filter p (IsOp plans) (operations plans) (listed_exist plans plans (operations plans) refl refl)))

-- the first of those that have not started, by pattern
pub firsts_of_unstarted : (plans read : List Plan) (h : List Act) (ids : List OpId) (firsts : Firsts) → read ≡ plans → ids ≡ filter (is_unstarted plans h) (operations plans) → AreFirsts read ids firsts → AreFirsts plans (filter (is_unstarted plans h) (operations plans)) firsts
firsts_of_unstarted plans read h ids firsts same is are =
    subst (λ (xs : List OpId). AreFirsts plans xs firsts) is (subst (λ (ps : List Plan). AreFirsts ps ids firsts) same are)
