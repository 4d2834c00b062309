use Rattle.std.proofs.Common.{◌≡◌, ◌++◌, drop}
use Rattle.sim_waits.specs.WaitsText.{rank_lines}
use Rattle.sim_waits.proofs.ranks.put_ranks.Given as goal

-- the lines so far and those that are left are all
abbrev pub invariant-loop-rank : goal.invariant-loop-rank
invariant-loop-rank g l =
    l.out ++ rank_lines l.engine.plans (g.C.Costs.model l.engine.costs) l.engine.history l.rank (drop l.rank l.engine.plans) ≡ l.initial.out ++ rank_lines l.engine.plans (g.C.Costs.model l.engine.costs) l.engine.history 0 l.engine.plans
