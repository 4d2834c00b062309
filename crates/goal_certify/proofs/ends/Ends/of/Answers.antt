use Rattle.std.proofs.Common.{ap, sym, subst, arith, length}
use Rattle.goal_certify.proofs.InOrder.{place_read}
use Rattle.goal_certify.proofs.EndLemmas.{end_read}
use Rattle.goal_certify.proofs.EndSearch.{AreCollected, collected_none, collected_skip, collected_more, collected_all}
use Rattle.goal_certify.proofs.ends.Ends.of.Goals as goal
use Rattle.goal_certify.proofs.ends.Ends.of.Goals.{in-Some+in_ok-push-in-Some, in-None}

pub loop-id-init : goal.loop-id-init
loop-id-init c = subst (AreCollected _ 0) (sym c.in_ok-sorted.ensures.items) (collected_none _)

pub loop-id-preserved : goal.loop-id-preserved
loop-id-preserved c =
    let at = place_read _ _ _ (record { rank = 0; op = 0 }) c.operations-id-items.ensures.all c.loop-id-test.true in
    elim c.match-of.branch [
      | in-Some+in_ok-push-in-Some w ↦
          rw (w.sorted-is, w.in_ok-push-in-Some.ensures.items) (collected_more _ _ _ _ _ c.loop-id.invariant at (end_read _ _ _ _ c.op.ensures.op w.in-Some.ensures))
      | in-None w ↦
          rw w.sorted-is (collected_skip _ _ _ _ c.loop-id.invariant at (end_read _ _ _ _ c.op.ensures.op w.in-None.ensures))
    ]

pub returns : goal.returns
returns c =
    collected_all _ _ _ _ c.loop-id.invariant (omega (arith, c.loop-id-test.false, ap length c.operations-id-items.ensures.all)) c.sort_unstable.ensures.permutation
