use Rattle.std.proofs.Common.{◌≡◌, take, count_by}
use Rattle.sim_params.specs.Stuck.{lacks_end}
use Rattle.sim_stuck.proofs.stuck.is_stuck.Given as goal

-- none of the operations so far lacks its end
abbrev pub invariant-loop-id : goal.invariant-loop-id
invariant-loop-id g l =
    count_by (lacks_end l.engine.plans (g.C.Costs.model l.engine.costs) l.engine.history) (take l.id-index l.id-items) ≡ 0
