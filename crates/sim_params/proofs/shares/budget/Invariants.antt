use Rattle.std.proofs.Common.{◌≡◌, take, sum_by}
use Rattle.sim_params.specs.Budget.{share}
use Rattle.sim_params.proofs.shares.budget.Given as goal

abbrev pub invariant-loop-id : goal.invariant-loop-id
invariant-loop-id g l =
    l.sum ≡ sum_by (share l.sched (g.C.Costs.model l.costs)) (take l.id-index l.id-items)
