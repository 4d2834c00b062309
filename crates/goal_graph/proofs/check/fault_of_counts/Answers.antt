-- The numbers are tried in order.
use Rattle.goal_graph.proofs.Plain.{count_fault-empty, count_fault-ranks, count_fault-rest}
use Rattle.goal_graph.proofs.check.fault_of_counts.Goals as goal

pub returns-then-is_empty : goal.returns-then-is_empty
returns-then-is_empty c = rw c.from-limit.ensures (count_fault-empty c.args.plans.now c.if-is_empty.ensures)

pub returns-in-Some : goal.returns-in-Some
returns-in-Some c = count_fault-ranks c.args.plans.now c.if-is_empty.ensures _ c.in-Some.ensures

pub returns : goal.returns
returns c =
    rw (c.or-2.ensures, c.or.ensures, c.fault_of_number-2.ensures, c.fault_of_number-3.ensures, c.fault_of_number-4.ensures, c.totals_of-totals.ensures.ops, c.totals_of-totals.ensures.deps, c.totals_of-totals.ensures.notes)
    (count_fault-rest c.args.plans.now c.if-is_empty.ensures c.in_default.ensures)
