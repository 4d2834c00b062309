use Rattle.std.proofs.Common.{arith}
use Rattle.goal_blocks.proofs.Powers.{power_decides}
use Rattle.goal_blocks.proofs.making.has_power.Goals as goal

pub returns-in-Allreduce : goal.returns-in-Allreduce
returns-in-Allreduce c =
    power_decides c.args.what c.args.ranks c.is_power_of_two.result c.in-Allreduce.is (omega arith) c.is_power_of_two.ensures
