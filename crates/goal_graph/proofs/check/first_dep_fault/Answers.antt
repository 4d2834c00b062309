-- Dependencies are tried in order.
use Rattle.goal_graph.specs.Fault.{dep_fault}
use Rattle.goal_graph.proofs.FirstFault.{first_fault-found, first_fault-more, first_fault-end}
use Rattle.goal_graph.proofs.check.first_dep_fault.Goals as goal

pub returns-in-Some : goal.returns-in-Some
returns-in-Some c =
    first_fault-found (dep_fault c.args.ops c.args.rank) c.args.deps.now c.loop-number.number _ _ c.loop-number-test.true c.loop-number.invariant c.in-Some.ensures

pub loop-number-preserved : goal.loop-number-preserved
loop-number-preserved c =
    first_fault-more (dep_fault c.args.ops c.args.rank) c.args.deps.now c.loop-number.number _ c.loop-number-test.true c.loop-number.invariant c.in_default.ensures

pub returns : goal.returns
returns c = first_fault-end (dep_fault c.args.ops c.args.rank) c.args.deps.now c.loop-number.number c.loop-number-test.false c.loop-number.invariant
