use Rattle.std.proofs.Common.{◌≡◌, filter, take}
use Rattle.goal_graph.specs.Action.{plain}
use Rattle.sim_stuck.proofs.ReasonCases.{is_unstarted}
use Rattle.sim_stuck.proofs.reasons.unstarted.Given as goal

-- those so far that have not started
abbrev pub invariant-loop-id : goal.invariant-loop-id
invariant-loop-id g l =
    l.ids.items ≡ filter (is_unstarted l.engine.plans (plain l.engine.history)) (take l.id-index l.id-items)
