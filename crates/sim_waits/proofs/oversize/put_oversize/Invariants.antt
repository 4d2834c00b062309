use Rattle.std.proofs.Common.{◌≡◌, ◌++◌, take}
use Rattle.std.specs.List.{flat_map}
use Rattle.sim_waits.specs.WaitsText.{oversize_of}
use Rattle.sim_waits.proofs.oversize.put_oversize.Given as goal

-- the lines so far
abbrev pub invariant-loop-id : goal.invariant-loop-id
invariant-loop-id g l =
    l.out ≡ l.initial.out ++ flat_map (oversize_of l.engine.plans (g.C.Costs.model l.engine.costs) l.engine.history) (take l.id-index l.id-items)
