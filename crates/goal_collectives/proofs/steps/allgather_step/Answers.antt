use Rattle.std.proofs.Common.{arith}
use Rattle.goal_blocks.specs.Steps.{needs_of}
use Rattle.goal_collectives.proofs.Cases.{ring_sends, ring_receives}
use Rattle.goal_collectives.proofs.steps.allgather_step.Goals as goal

pub returns-then-number-eq0 : goal.returns-then-number-eq0
returns-then-number-eq0 c =
    rw (c.send.ensures, c.slot.ensures, c.ahead-to.ensures.is, c.back-slot.ensures.is)
    (ring_sends c.args.ranks c.args.bytes c.args.rank c.args.number (needs_of c.before_send.result) c.if-number-eq0.true c.before_send.ensures.root c.before_send.ensures.others)

pub returns : goal.returns
returns c =
    rw (c.receive.ensures, c.slot-2.ensures, c.back-from.ensures.is, c.back-slot-2.ensures.is)
    (ring_receives c.args.ranks c.args.bytes c.args.rank c.args.number (omega arith))
