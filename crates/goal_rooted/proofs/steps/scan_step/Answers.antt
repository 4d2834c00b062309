use Rattle.std.proofs.Common.{arith}
use Rattle.goal_rooted.proofs.RootedCases.{scan_begins, scan_receives, scan_sums, scan_sends}
use Rattle.goal_rooted.proofs.steps.scan_step.Goals as goal

pub returns-then-rank-eq0 : goal.returns-then-rank-eq0
returns-then-rank-eq0 c = rw (c.send.ensures, c.slot.ensures) (scan_begins c.args.bytes c.args.rank c.args.number c.if-rank-eq0.true)

pub returns-in-0 : goal.returns-in-0
returns-in-0 c = rw (c.receive.ensures, c.slot-in-0.ensures) (scan_receives c.args.bytes c.args.rank c.args.number (omega arith) (omega arith))

pub returns-in-1 : goal.returns-in-1
returns-in-1 c = rw c.sum.ensures (scan_sums c.args.bytes c.args.rank c.args.number (omega arith) (omega arith))

pub returns-in_default : goal.returns-in_default
returns-in_default c = rw (c.send-in_default.ensures, c.slot-in_default.ensures) (scan_sends c.args.bytes c.args.rank c.args.number (omega arith) (omega arith))
