use Rattle.std.proofs.Common.{◌≡◌, drop, find}
use Rattle.goal_graph.specs.Action.{plain}
use Rattle.sim_params.specs.Costs.{is_eager}
use Rattle.sim_params.specs.Stuck.{first_unmet}
use Rattle.sim_stuck.proofs.ReasonCases.{is_unmet}
use Rattle.sim_stuck.proofs.reasons.first_unmet.Given as goal

-- what the needs so far name has happened
abbrev pub invariant-loop-need : goal.invariant-loop-need
invariant-loop-need g l =
    find (is_unmet l.engine.plans (is_eager l.engine.plans (g.C.Costs.model l.engine.costs)) (plain l.engine.history) l.id) (drop l.need-index l.need-items) ≡ first_unmet l.engine.plans (is_eager l.engine.plans (g.C.Costs.model l.engine.costs)) (plain l.engine.history) l.id
