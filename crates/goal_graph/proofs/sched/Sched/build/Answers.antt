-- The plans of the tables have few ranks and operations.
use Rattle.std.proofs.Common.{◌≡◌, List, Some, None, Err, refl, sym, ap, subst, inl, inr}
use Rattle.goal_graph.specs.declared.fault.PlanFault.{PlanFault}
use Rattle.goal_graph.specs.declared.fault.PlanFault.TheVariants.{Cycle}
use Rattle.goal_graph.specs.Schedule.{Plan}
use Rattle.goal_graph.specs.Fault.{plain_fault, IsFirstCycle, IsCycle}
use Rattle.goal_graph.specs.Search.{IsFirstOfAll}
use Rattle.goal_graph.proofs.Faults.{IsFault-unique}
use Rattle.goal_graph.proofs.ListingLemmas.{few_ranks, few_operations}
use Rattle.goal_graph.proofs.sched.Sched.build.Goals as goal

pub list_operations-requires-clause-ranks : goal.list_operations-requires-clause-ranks
list_operations-requires-clause-ranks c =
    few_ranks c.plans.result.now c.in_ok-tables.tables c.plans.ensures.plans c.plans.ensures.plain

pub list_operations-requires-clause-few : goal.list_operations-requires-clause-few
list_operations-requires-clause-few c =
    few_operations c.plans.result.now c.in_ok-tables.tables c.plans.ensures.plans c.plans.ensures.plain

-- the operation that is named is the first without a depth, and there is one such fault alone
pub returns-in-Some-2-clause-faults : goal.returns-in-Some-2-clause-faults
returns-in-Some-2-clause-faults c = λ fault is_fault.
    let op = c.in-Some-2.field-0 in
    let first : IsFirstOfAll c.in_ok-tables.tables (Some op) = subst (IsFirstOfAll c.in_ok-tables.tables) c.in-Some-2.is c.in_ok-rank.ensures in
    let found : IsFirstCycle c.args.plans.items op = subst (λ (plans : List Plan). IsFirstCycle plans op) c.in_ok-tables.ensures first in
    let plain : plain_fault c.args.plans.items ≡ None = rw c.deref.ensures.value at (sym c.in_default.ensures.fault) in
    let cycle : IsCycle c.args.plans.items (Cycle op.rank op.op) = record { op = op; named = refl; first = found } in
    inl (ap (λ (f : PlanFault). Err f) (IsFault-unique c.args.plans.items (Cycle op.rank op.op) fault (inr (plain, cycle)) is_fault))
