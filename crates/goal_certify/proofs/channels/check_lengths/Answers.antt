use Rattle.std.proofs.Common.{length, ap, refl, arith}
use Rattle.goal_graph.specs.declared.action.OpId.{OpId}
use Rattle.goal_blocks.specs.declared.cert_fault.CertFault.TheVariants.{Lengths}
use Rattle.goal_blocks.specs.Faults.{HaveOtherLengths}
use Rattle.goal_certify.proofs.StageLemmas.{free_lengths, stopped_by}
use Rattle.goal_certify.proofs.InOrder.{none_so_far_with_next, none_if_none_in_list, least_if_first_that_holds, place_read}
use Rattle.goal_certify.proofs.Passes.{lengths_exists}
use Rattle.goal_certify.proofs.channels.check_lengths.Goals as goal

pub returns-in-Some-clause-fault : goal.returns-in-Some-clause-fault
returns-in-Some-clause-fault c =
    let at = place_read _ _ _ (record { rank = 0; op = 0 }) c.operations-id-items.ensures.all c.loop-id-test.true in
    let least = c.in-Some.ensures.least in
    stopped_by _ 4 (Lengths _ _) refl (λ first wanted. (least_if_first_that_holds c.args.sched.now (λ m. (x : OpId) × HaveOtherLengths c.args.sched.now m x) _ _ c.loop-id.invariant at (c.in-Some.recv, least.holds) (lengths_exists c.args.sched.now), least))

pub loop-id-preserved : goal.loop-id-preserved
loop-id-preserved c =
    let at = place_read _ _ _ (record { rank = 0; op = 0 }) c.operations-id-items.ensures.all c.loop-id-test.true in
    let none = c.in_default.ensures.none in
    none_so_far_with_next c.args.sched.now (λ m. (x : OpId) × HaveOtherLengths c.args.sched.now m x) _ _ c.loop-id.invariant at (λ d. none d.0 d.1)

pub returns-clause-free : goal.returns-clause-free
returns-clause-free c =
    free_lengths c.args.sched.now (λ m x d. none_if_none_in_list c.args.sched.now (λ m. (x : OpId) × HaveOtherLengths c.args.sched.now m x) _ c.loop-id.invariant (omega (arith, c.loop-id-test.false, ap length c.operations-id-items.ensures.all)) (lengths_exists c.args.sched.now) m (x, d))
