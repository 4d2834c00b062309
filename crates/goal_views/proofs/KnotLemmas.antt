-- What the search for knots requires of stuck operations.
use Rattle.std.proofs.Common.{◌≡◌, ◌≤◌, ◌⊎◌, inl, inr, List, [], ◌∷◌, length, filter, count_by, Some, refl, ap, ◌∙◌, arith}
use Rattle.std.proofs.lemmas.List.{length-map}
use Rattle.std.proofs.lemmas.List.Sums.{length-filter, count_by-le-length}
use Rattle.goal_graph.specs.declared.action.OpId.{OpId}
use Rattle.goal_graph.specs.declared.action.Timed.{Timed}
use Rattle.goal_graph.specs.declared.action.Stuck.{Stuck}
use Rattle.goal_graph.specs.declared.action.Why.{Why}
use Rattle.goal_graph.specs.declared.action.Why.TheVariants.{Op, Partner, Alone}
use Rattle.goal_graph.specs.Schedule.{Plan, operations}
use Rattle.sim_params.specs.Costs.{CostModel}
use Rattle.sim_params.specs.Stuck.{lacks_end}
use Rattle.sim_stuck.specs.StuckList.{stuck_list, with_reason}
use Rattle.sim_stuck.specs.StuckText.{stuck_text}
use Rattle.sim_stuck.specs.Laws.{NamesListed}
use Rattle.sim_cycles.specs.Knots.{named}
use Rattle.sim_cycles.specs.Laws.{NamesListed as NamesAreListed}

-- at most all operations are stuck
pub few_stuck : (plans : List Plan) (costs : CostModel) (h : List Timed) → length (stuck_list plans costs h) ≤ length (operations plans)
unfolding stuck_list
few_stuck plans costs h =
    omega (arith, length-map (filter (lacks_end plans costs h) (operations plans)) (with_reason plans costs h), length-filter (lacks_end plans costs h) (operations plans), count_by-le-length (lacks_end plans costs h) (operations plans))

-- the number of stuck operations is that of operations without an end
pub count_stuck : (plans : List Plan) (costs : CostModel) (h : List Timed)
    → length (stuck_list plans costs h) ≡ count_by (lacks_end plans costs h) (operations plans)
unfolding stuck_list
count_stuck plans costs h =
    length-map (filter (lacks_end plans costs h) (operations plans)) (with_reason plans costs h) ∙ length-filter (lacks_end plans costs h) (operations plans)

-- the text of an empty list of stuck operations is empty
no_line : (list : List Stuck) → length list ≡ 0 → [] ≡ stuck_text list
unfolding stuck_text
no_line [] is = refl
no_line (s ∷ list) is = absurd (omega (arith, is))

-- if each operation has an end, the text of stuck operations is empty
pub no_stuck_line : (plans : List Plan) (costs : CostModel) (h : List Timed) → count_by (lacks_end plans costs h) (operations plans) ≡ 0
    → [] ≡ stuck_text (stuck_list plans costs h)
no_stuck_line plans costs h none = no_line (stuck_list plans costs h) (count_stuck plans costs h ∙ none)

-- an operation that a reason names is a need or a partner
named_cases : (w : Why) (y : OpId) → named w ≡ Some y → (w ≡ Op y) ⊎ (w ≡ Partner y)
named_cases (Op x) y e = let same : x ≡ y = cc in inl (ap Op same)
named_cases (Partner x) y e = let same : x ≡ y = cc in inr (ap Partner same)
named_cases Alone y e = absurd (cc)

pub names_listed : (list : List Stuck) → NamesListed list → NamesAreListed list
names_listed list all s y c e = all s y c (named_cases s.why y e)
