-- Operations are tried in order.
use Rattle.std.proofs.lemmas.List.Elements.{All-more}
use Rattle.goal_graph.specs.Fault.{op_fault}
use Rattle.goal_graph.specs.Widths.{IsOpInWidth}
use Rattle.goal_graph.proofs.FirstFault.{first_fault-found, first_fault-more, first_fault-end}
use Rattle.goal_graph.proofs.check.first_op_fault.Goals as goal

pub returns-in-Some-clause-fault : goal.returns-in-Some-clause-fault
returns-in-Some-clause-fault c =
    first_fault-found (op_fault c.args.ranks c.args.rank) c.args.ops.now c.loop-number.number _ _ c.loop-number-test.true c.loop-number.invariant.none_yet c.in-Some.ensures.fault

pub loop-number-preserved : goal.loop-number-preserved
loop-number-preserved c = record {
  none_yet = first_fault-more (op_fault c.args.ranks c.args.rank) c.args.ops.now c.loop-number.number _ c.loop-number-test.true c.loop-number.invariant.none_yet c.in_default.ensures.fault;
  widths = All-more IsOpInWidth c.args.ops.now c.loop-number.number _ c.loop-number-test.true c.loop-number.invariant.widths c.in_default.ensures.width;
}

pub returns-clause-fault : goal.returns-clause-fault
returns-clause-fault c = first_fault-end (op_fault c.args.ranks c.args.rank) c.args.ops.now c.loop-number.number c.loop-number-test.false c.loop-number.invariant.none_yet
