use Rattle.sim_waits.proofs.RankLemmas.{IsSummed}
use Rattle.sim_waits.proofs.ranks.rank_waits.Given as goal

-- the sums over the operations so far, with the rest
abbrev pub invariant-loop-op : goal.invariant-loop-op
invariant-loop-op g l =
    IsSummed l.engine.plans (g.C.Costs.model l.engine.costs) l.engine.history l.rank l.op l.waits.ended l.waits.total
