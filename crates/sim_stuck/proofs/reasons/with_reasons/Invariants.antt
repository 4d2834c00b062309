use Rattle.std.proofs.Common.{◌≡◌, map, take}
use Rattle.sim_stuck.specs.StuckList.{with_reason}
use Rattle.sim_stuck.proofs.reasons.with_reasons.Given as goal

-- the operations so far, each with its reason
abbrev pub invariant-loop-id : goal.invariant-loop-id
invariant-loop-id g l =
    l.list.items ≡ map (with_reason l.engine.plans (g.C.Costs.model l.engine.costs) l.engine.history) (take l.id-index l.ids)
