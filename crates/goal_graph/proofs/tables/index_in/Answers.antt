-- The first place of the rank, and the number in it.
use Rattle.std.proofs.Common.{arith, sym}
use Rattle.goal_graph.proofs.Places.{IsOp-located, index_of-below, index_of-starts}
use Rattle.goal_graph.proofs.tables.index_in.Goals as goal

pub bounds-starts-id : goal.bounds-starts-id
bounds-starts-id c =
    omega (arith, (IsOp-located c.args.plans.now c.args.id c.requires.exists).rank_in, c.requires.starts.one_each)

pub overflow_add-result : goal.overflow_add-result
overflow_add-result c =
    let located = IsOp-located c.args.plans.now c.args.id c.requires.exists in
    omega (arith, index_of-below c.args.plans.now c.args.id located, index_of-starts c.args.plans.now c.args.id located c.args.starts.now c.requires.starts)

pub returns : goal.returns
returns c =
    let located = IsOp-located c.args.plans.now c.args.id c.requires.exists in
    sym (index_of-starts c.args.plans.now c.args.id located c.args.starts.now c.requires.starts)
