use Rattle.std.proofs.Common.{refl, arith}
use Rattle.goal_graph.proofs.ForCallers.{kind_from_op}
use Rattle.sim_stuck.proofs.Least.{firsts_after_put}
use Rattle.sim_stuck.proofs.partner.Firsts.of.Goals as goal

pub loop-left-preserved : goal.loop-left-preserved
loop-left-preserved c =
    (omega (arith, c.loop-left.invariant.0), firsts_after_put c.args.sched.now c.args.ids.now _ c.loop-left.left (record { rank = 0; op = 0 }) c.op.result.now.kind c.loop-left.firsts c.put.new.self (omega (arith, c.loop-left-test.true)) c.loop-left.invariant.0 c.loop-left.invariant.1 (kind_from_op _ _ _ _ c.op.ensures.op refl) c.in_ok-put.ensures.sends c.in_ok-put.ensures.receives)
