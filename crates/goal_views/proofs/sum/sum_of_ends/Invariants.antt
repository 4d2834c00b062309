use Rattle.std.proofs.Common.{◌≡◌, ◌≤◌, ◌*◌, ◌^◌, take}
use Rattle.std.specs.List.{sum_by}
use Rattle.sim_timeline.specs.Timeline.{end_or_zero}
use Rattle.goal_views.proofs.sum.sum_of_ends.Given as goal

-- the ends of the operations so far, each of which is below 2^64
abbrev pub invariant-loop-id : goal.invariant-loop-id
invariant-loop-id g l =
    (l.sum ≡ sum_by (end_or_zero l.engine.plans (g.C.Costs.model l.engine.costs) l.engine.history) (take l.id-index l.id-items)) × (l.sum ≤ l.id-index * 2 ^ 64)
