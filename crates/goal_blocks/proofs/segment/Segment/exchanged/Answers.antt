-- Each branch is a case of the exchange.
use Rattle.std.proofs.Common.{sym, inl, inr, arith}
use Rattle.goal_blocks.proofs.Exchange.{exchange_of_first_block, exchange_of_block, exchange_outside_blocks}
use Rattle.goal_blocks.proofs.segment.Segment.exchanged.Goals as goal
use Rattle.goal_blocks.proofs.segment.Segment.exchanged.Goals.{else-slot-from-via-then-slot-from+else-slot-from-2, else-slot-from-via-else-slot-from}

pub returns-then-slot-self : goal.returns-then-slot-self
returns-then-slot-self c =
    sym (exchange_of_first_block c.args.self.width c.args.self.block c.args.slot c.if-slot-self.true)

pub returns-then-slot-from-2 : goal.returns-then-slot-from-2
returns-then-slot-from-2 c =
    sym (exchange_of_block c.args.self.width c.args.self.block c.args.slot c.if-slot-self.false c.if-slot-from.true (omega (arith, c.if-slot-from.true, c.if-slot-from-2.true)))

pub returns-else-slot-from : goal.returns-else-slot-from
returns-else-slot-from c = elim c.else-slot-from.branch [
  | else-slot-from-via-then-slot-from+else-slot-from-2 w ↦ sym (exchange_outside_blocks c.args.self.width c.args.self.block c.args.slot c.if-slot-self.false (inr (omega arith)))
  | else-slot-from-via-else-slot-from w ↦ sym (exchange_outside_blocks c.args.self.width c.args.self.block c.args.slot c.if-slot-self.false (inl (omega arith)))
]
