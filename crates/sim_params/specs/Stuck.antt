-- Stuck operations, and the reason for each.
use Rattle.std.specs.Prelude.{◌||◌, ◌&&◌, Bool, not, nat_lt, count_by, List, Option, Some, None}
use Rattle.std.specs.List.{find}
use Rattle.goal_graph.specs.declared.action.OpId.{OpId}
use Rattle.goal_graph.specs.declared.action.Timed.{Timed}
use Rattle.goal_graph.specs.declared.action.Why.{Why}
use Rattle.goal_graph.specs.declared.action.Why.TheVariants as why
use Rattle.goal_graph.specs.declared.plan.Need.{Need}
use Rattle.goal_graph.specs.Schedule.{Plan, needs, needed, operations}
use Rattle.goal_graph.specs.Action.{Act, plain}
use Rattle.goal_graph.specs.Matching.{fits}
use Rattle.goal_graph.specs.Allowed.{has_started, has_ended, is_met}
use Rattle.sim_params.specs.Costs.{CostModel, is_eager}

module _ (plans : List Plan) (eager : OpId → Bool) where
  -- the first need of x that is not met, in the order of the dependencies
  unfoldable pub first_unmet : List Act → OpId → Option Need
  first_unmet h x = find (λ (d : Need). not (is_met plans eager h d.when (needed x d))) (needs plans x)

  -- x and y fit, one a send and the other a receive
  abbrev pub are_fit : OpId → OpId → Bool
  are_fit x y = fits plans x y || fits plans y x

  -- the least operation that fits x and has not started
  unfoldable pub first_absent : List Act → OpId → Option OpId
  first_absent h x = find (λ (y : OpId). are_fit x y && not (has_started plans y h)) (operations plans)

  abbrev pub partner_or_alone : Option OpId → Why
  partner_or_alone (Some y) = why.Partner y
  partner_or_alone None = why.Alone

  abbrev pub reason_by : List Act → OpId → Option Need → Why
  reason_by h x (Some d) = why.Op (needed x d)
  reason_by h x None = partner_or_alone (first_absent h x)

  -- the reason for a stuck operation: its first unmet need; or else the least fitting operation that never starts; or
  -- else it is alone
  unfoldable pub reason : List Act → OpId → Why
  reason h x = reason_by h x (first_unmet h x)

-- The same for a run: which operations have no end.
module _ (plans : List Plan) (costs : CostModel) (h : List Timed) where
  -- x has no end
  abbrev pub lacks_end : OpId → Bool
  lacks_end x = not (has_ended plans (is_eager plans costs) x (plain h))

  -- some operation has no end
  abbrev pub is_stuck : Bool
  is_stuck = nat_lt 0 (count_by lacks_end (operations plans))
