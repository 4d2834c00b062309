use Rattle.std.proofs.Common.{arith}
use Rattle.goal_blocks.proofs.ForCallers.{low_is_lowest}
use Rattle.goal_rooted.proofs.tree.part.Goals as goal

pub power-requires : goal.power-requires
power-requires c =
    let lowest = low_is_lowest c.args.rank (omega arith) (omega arith) in
    omega (arith, lowest.few, c.low.ensures)

pub returns-clause-within : goal.returns-clause-within
returns-clause-within c =
    let lowest = low_is_lowest c.args.rank (omega arith) (omega arith) in
    let is = rw c.low.ensures at c.power.ensures in
    omega (arith, lowest.within, is)
