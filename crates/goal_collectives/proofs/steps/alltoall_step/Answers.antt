use Rattle.std.proofs.Common.{arith}
use Rattle.goal_collectives.proofs.Cases.{shift_own, shift_sends, shift_receives}
use Rattle.goal_collectives.proofs.steps.alltoall_step.Goals as goal

pub returns-then-number-eq0 : goal.returns-then-number-eq0
returns-then-number-eq0 c = rw c.sum.ensures (shift_own c.args.ranks c.args.bytes c.args.rank c.args.number c.if-number-eq0.true)

pub returns-then-number-eq1 : goal.returns-then-number-eq1
returns-then-number-eq1 c =
    rw (c.send.ensures, c.slot.ensures, c.ahead-to.ensures.is)
    (shift_sends c.args.ranks c.args.bytes c.args.rank c.args.number c.if-number-eq1.true)

pub returns : goal.returns
returns c =
    rw (c.receive.ensures, c.slot-2.ensures, c.back-from.ensures.is)
    (shift_receives c.args.ranks c.args.bytes c.args.rank c.args.number (omega arith) (omega arith))
