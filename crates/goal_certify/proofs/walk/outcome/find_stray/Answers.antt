-- What the walk leaves in the blocks of other segments.
use Rattle.std.proofs.Common.{List, length, sym, ap, subst}
use Rattle.goal_graph.specs.Schedule.{Plan}
use Rattle.goal_blocks.specs.Certification.{HasEqualLengths}
use Rattle.goal_certify.specs.Left.{IsLeftIn, IsTooMuchIn}
use Rattle.goal_certify.proofs.Apart.{certified_fault_is_no_memory, none_answer, some_answer}
use Rattle.goal_certify.proofs.walk.outcome.find_stray.Goals as goal

pub final_values-requires-clause-lengths : goal.final_values-requires-clause-lengths
final_values-requires-clause-lengths c =
    subst HasEqualLengths (sym c.in-Ok.ensures.plans) c.requires.certified.lengths

pub returns-in-Ok-final_values-clause-none : goal.returns-in-Ok-final_values-clause-none
returns-in-Ok-final_values-clause-none c =
    let kept = c.in-Ok-final_values.store.kept in
    let left = subst (λ (ps : List Plan). IsLeftIn c.args.what c.args.segment ps kept) c.in-Ok.ensures.plans c.in-Ok-final_values.ensures.left in
    none_answer c.args.sched.now c.args.what c.args.segment.width c.args.count c.args.segment.block c.laws_of_faults.ensures.fault_excludes_certified c.requires.certified kept left c.first_stray.result _ (ap (λ (ps : List Plan). length ps) c.plans.ensures.plans) c.first_stray.ensures.none

pub returns-in-Ok-final_values-clause-some : goal.returns-in-Ok-final_values-clause-some
returns-in-Ok-final_values-clause-some c =
    let kept = c.in-Ok-final_values.store.kept in
    let left = subst (λ (ps : List Plan). IsLeftIn c.args.what c.args.segment ps kept) c.in-Ok.ensures.plans c.in-Ok-final_values.ensures.left in
    some_answer c.args.sched.now c.args.what c.args.segment.width c.args.count c.args.segment.block c.laws_of_faults.ensures.fault_excludes_certified c.requires.certified kept left c.first_stray.result _ (ap (λ (ps : List Plan). length ps) c.plans.ensures.plans) c.first_stray.ensures.least

pub returns-clause-fault : goal.returns-clause-fault
returns-clause-fault c =
    certified_fault_is_no_memory c.args.sched.now c.args.what c.args.segment.width c.args.count c.args.segment.block c.laws_of_faults.ensures.fault_excludes_certified c.requires.certified c.in-Err.fault (subst (λ (ps : List Plan). IsTooMuchIn c.args.what c.args.segment ps c.in-Err.fault) c.in-Ok.ensures.plans c.in-Err.ensures.fault)
