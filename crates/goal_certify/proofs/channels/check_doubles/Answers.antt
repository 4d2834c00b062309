use Rattle.std.proofs.Common.{length, ap, refl, arith}
use Rattle.goal_graph.specs.declared.action.OpId.{OpId}
use Rattle.goal_blocks.specs.declared.cert_fault.CertFault.TheVariants.{DoubleChannel}
use Rattle.goal_blocks.specs.Faults.{AreDouble}
use Rattle.goal_certify.proofs.StageLemmas.{free_double, stopped_by}
use Rattle.goal_certify.proofs.InOrder.{none_so_far_with_next, none_if_none_in_list, least_if_first_that_holds, place_read}
use Rattle.goal_certify.proofs.Passes.{double_exists}
use Rattle.goal_certify.proofs.channels.check_doubles.Goals as goal

pub returns-in-Some-clause-fault : goal.returns-in-Some-clause-fault
returns-in-Some-clause-fault c =
    let at = place_read _ _ _ (record { rank = 0; op = 0 }) c.operations-id-items.ensures.all c.loop-id-test.true in
    let least = c.in-Some.ensures.least in
    stopped_by _ 2 (DoubleChannel _ _) refl (λ first wanted. (least_if_first_that_holds c.args.sched.now (λ x. (y : OpId) × AreDouble c.args.sched.now y x) _ _ c.loop-id.invariant at (c.in-Some.first, least.holds) (double_exists c.args.sched.now), least))

pub loop-id-preserved : goal.loop-id-preserved
loop-id-preserved c =
    let at = place_read _ _ _ (record { rank = 0; op = 0 }) c.operations-id-items.ensures.all c.loop-id-test.true in
    let none = c.in_default.ensures.none in
    none_so_far_with_next c.args.sched.now (λ x. (y : OpId) × AreDouble c.args.sched.now y x) _ _ c.loop-id.invariant at (λ d. none d.0 d.1)

pub returns-clause-free : goal.returns-clause-free
returns-clause-free c =
    free_double c.args.sched.now (λ y x d. none_if_none_in_list c.args.sched.now (λ x. (y : OpId) × AreDouble c.args.sched.now y x) _ c.loop-id.invariant (omega (arith, c.loop-id-test.false, ap length c.operations-id-items.ensures.all)) (double_exists c.args.sched.now) x (y, d))
