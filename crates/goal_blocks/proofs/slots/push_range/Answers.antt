use Rattle.std.proofs.Common.{◌+◌, ◌-◌, arith}
use Rattle.goal_blocks.proofs.SlotRanges.{length_of_slots_from, pushed_range}
use Rattle.goal_blocks.proofs.slots.push_range.Goals as goal

pub returns-clause-more : goal.returns-clause-more
returns-clause-more c = pushed_range c.args.ranges.now.items c.push.new.self.items c.args.range c.in_ok-push.ensures.ok

pub returns-clause-few : goal.returns-clause-few
returns-clause-few c = omega (arith, length_of_slots_from c.args.range.lo (c.args.range.hi + 1 - c.args.range.lo))

pub returns-in_err-push-clause-few : goal.returns-in_err-push-clause-few
returns-in_err-push-clause-few c = omega (arith, length_of_slots_from c.args.range.lo (c.args.range.hi + 1 - c.args.range.lo))
