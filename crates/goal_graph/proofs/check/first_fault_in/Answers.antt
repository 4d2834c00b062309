-- The operations come first, then the dependencies, then the notes.
use Rattle.std.proofs.Common.{◌∙◌}
use Rattle.goal_graph.proofs.FirstFault.{rank_fault-op, rank_fault-dep, rank_fault-note}
use Rattle.goal_graph.proofs.check.first_fault_in.Goals as goal

pub returns-in-Some-clause-fault : goal.returns-in-Some-clause-fault
returns-in-Some-clause-fault c =
    rw (← c.plan.view_is) (rank_fault-op c.args.ranks c.args.rank _ _ (rw c.deref.ensures.value at c.in-Some.ensures.fault))

pub returns-in-Some-first_dep_fault-clause-fault : goal.returns-in-Some-first_dep_fault-clause-fault
returns-in-Some-first_dep_fault-clause-fault c =
    let ops = rw c.deref.ensures.value at c.in_default.ensures.fault in
    let deps = rw (c.len.ensures ∙ c.plan.inside.ops.ok.0, c.deref-2.ensures.value) at c.in-Some-first_dep_fault.ensures in
    rw (← c.plan.view_is) (rank_fault-dep c.args.ranks c.args.rank _ _ ops deps)

pub returns-clause-fault : goal.returns-clause-fault
returns-clause-fault c =
    let ops = rw c.deref.ensures.value at c.in_default.ensures.fault in
    let deps = rw (c.len.ensures ∙ c.plan.inside.ops.ok.0, c.deref-2.ensures.value) at c.in_default-first_dep_fault.ensures in
    let notes = rw (c.deref-3.ensures.value, c.deref-4.ensures.value) at c.first_note_fault.ensures.fault in
    rw (← c.plan.view_is) (notes ∙ rank_fault-note c.args.ranks c.args.rank _ ops deps)
