use Rattle.std.proofs.Common.{◌≡◌, ◌++◌, take}
use Rattle.std.specs.List.{flat_map}
use Rattle.goal_binary.specs.File.{spelled_op}
use Rattle.goal_binary.proofs.encoding.put_ops.Given as goal

abbrev pub invariant-loop-op : goal.invariant-loop-op
invariant-loop-op l = l.out.items ≡ l.initial.out.items ++ flat_map (spelled_op l.layout) (take l.op-index l.ops)
