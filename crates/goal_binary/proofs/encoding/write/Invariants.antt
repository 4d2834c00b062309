use Rattle.std.proofs.Common.{◌≡◌, ◌++◌, take}
use Rattle.std.specs.List.{flat_map}
use Rattle.goal_binary.specs.File.{header, spelled_rank}
use Rattle.goal_binary.proofs.encoding.write.Given as goal

-- the header, and the records of the ranks so far
abbrev pub invariant-loop-plan : goal.invariant-loop-plan
invariant-loop-plan l = l.out.items ≡ header l.layout l.sched ++ flat_map (spelled_rank l.layout) (take l.plan-index l.plans)
