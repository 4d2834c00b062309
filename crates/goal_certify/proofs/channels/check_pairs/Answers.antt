use Rattle.std.proofs.Common.{length, ap, refl, arith}
use Rattle.std.proofs.lemmas.Bool.{both_ways}
use Rattle.goal_blocks.specs.declared.cert_fault.CertFault.TheVariants.{Unpaired}
use Rattle.goal_blocks.specs.Faults.{IsUnpaired}
use Rattle.goal_certify.proofs.StageLemmas.{free_unpaired, stopped_by}
use Rattle.goal_certify.proofs.InOrder.{none_so_far_with_next, none_if_none_in_list, least_if_first_that_holds, place_read}
use Rattle.goal_certify.proofs.Passes.{unpaired_exists}
use Rattle.goal_certify.proofs.channels.check_pairs.Goals as goal

pub returns-then-is_unpaired-clause-fault : goal.returns-then-is_unpaired-clause-fault
returns-then-is_unpaired-clause-fault c =
    let at = place_read _ _ _ (record { rank = 0; op = 0 }) c.operations-id-items.ensures.all c.loop-id-test.true in
    stopped_by _ 3 (Unpaired _) refl (λ first wanted. least_if_first_that_holds c.args.sched.now (IsUnpaired c.args.sched.now) _ _ c.loop-id.invariant at (c.if-is_unpaired.ensures.0 refl) (unpaired_exists c.args.sched.now))

pub loop-id-preserved : goal.loop-id-preserved
loop-id-preserved c =
    let at = place_read _ _ _ (record { rank = 0; op = 0 }) c.operations-id-items.ensures.all c.loop-id-test.true in
    none_so_far_with_next c.args.sched.now (IsUnpaired c.args.sched.now) _ _ c.loop-id.invariant at (λ p. both_ways _ refl (c.if-is_unpaired.ensures.1 p))

pub returns-clause-free : goal.returns-clause-free
returns-clause-free c =
    free_unpaired c.args.sched.now (none_if_none_in_list c.args.sched.now (IsUnpaired c.args.sched.now) _ c.loop-id.invariant (omega (arith, c.loop-id-test.false, ap length c.operations-id-items.ensures.all)) (unpaired_exists c.args.sched.now))
