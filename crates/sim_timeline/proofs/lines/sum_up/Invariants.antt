use Rattle.std.proofs.Common.{◌≤◌, take}
use Rattle.goal_graph.specs.Schedule.{operations}
use Rattle.sim_timeline.specs.Pages.{IsSummary, before_rank}
use Rattle.sim_timeline.proofs.lines.sum_up.Given as goal

-- the summary of the ranks so far
abbrev pub invariant-loop-rank : goal.invariant-loop-rank
invariant-loop-rank g l =
    let count = before_rank l.sched l.rank in
    IsSummary l.sched (g.C.Costs.model l.engine.costs) l.engine.history (take count (operations l.sched)) l.summary.stuck l.summary.unmatched l.summary.finish × (l.summary.stuck ≤ count) × (l.summary.unmatched ≤ count)
