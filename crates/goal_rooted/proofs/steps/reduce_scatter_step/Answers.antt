use Rattle.std.proofs.Common.{arith}
use Rattle.goal_rooted.proofs.RootedCases.{part_sends, part_receives, part_sums}
use Rattle.goal_rooted.proofs.steps.reduce_scatter_step.Goals as goal

pub returns-then-number-eq0 : goal.returns-then-number-eq0
returns-then-number-eq0 c =
    rw (c.send.ensures, c.slot.ensures, c.ahead-to.ensures.is, c.back-slot.ensures.is, c.before_round.ensures)
    (part_sends c.args.ranks c.args.bytes c.args.rank c.args.number c.if-number-eq0.true)

pub returns-then-number-eq1 : goal.returns-then-number-eq1
returns-then-number-eq1 c =
    rw (c.receive.ensures, c.slot-then-number-eq1.ensures, c.back-from.ensures.is, c.back-slot-2.ensures.is)
    (part_receives c.args.ranks c.args.bytes c.args.rank c.args.number c.if-number-eq1.true)

pub returns : goal.returns
returns c =
    rw (c.sum.ensures, c.back-slot-2.ensures.is)
    (part_sums c.args.ranks c.args.bytes c.args.rank c.args.number (omega arith) (omega arith))
