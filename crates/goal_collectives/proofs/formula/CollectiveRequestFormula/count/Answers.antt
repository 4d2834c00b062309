use Rattle.std.proofs.Common.{◌-◌, arith}
use Rattle.goal_blocks.proofs.ForCallers.{digits_few}
use Rattle.goal_collectives.proofs.formula.CollectiveRequestFormula.count.Goals as goal

pub overflow_mul-result : goal.overflow_mul-result
overflow_mul-result c =
    let ranks_few = c.args.self.now.few_ranks in
    let few = digits_few (c.args.self.now.ranks - 1) 32 (omega arith) (omega arith) in
    omega arith
