use Rattle.std.proofs.Common.{◌-◌, sym, ◌∙◌, arith}
use Rattle.goal_blocks.proofs.ForCallers.{digits_few}
use Rattle.goal_collectives.proofs.Cases.{bcast_count_root, bcast_count_other}
use Rattle.goal_collectives.proofs.steps.bcast_count.Goals as goal

pub returns-then-rank-eq0 : goal.returns-then-rank-eq0
returns-then-rank-eq0 c = c.digits-rounds.ensures ∙ sym (bcast_count_root c.args.ranks c.args.rank c.if-rank-eq0.true)

pub overflow_add-result : goal.overflow_add-result
overflow_add-result c =
    let few = digits_few (c.args.ranks - 1 - c.args.rank) 16 (omega arith) (omega arith) in
    omega arith

pub returns : goal.returns
returns c = rw (bcast_count_other c.args.ranks c.args.rank (omega arith)) (omega arith)
