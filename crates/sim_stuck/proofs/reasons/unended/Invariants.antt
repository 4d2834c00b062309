use Rattle.std.proofs.Common.{◌≡◌, filter, take}
use Rattle.sim_params.specs.Stuck.{lacks_end}
use Rattle.sim_stuck.proofs.reasons.unended.Given as goal

-- those so far that have no end
abbrev pub invariant-loop-id : goal.invariant-loop-id
invariant-loop-id g l =
    l.ids.items ≡ filter (lacks_end l.engine.plans (g.C.Costs.model l.engine.costs) l.engine.history) (take l.id-index l.id-items)
