use Rattle.std.proofs.Common.{◌+◌, ◌-◌, arith}
use Rattle.goal_blocks.proofs.SlotRanges.{length_of_slots_from}
use Rattle.goal_blocks.proofs.slots.SlotRange.count.Goals as goal

pub returns-clause-count : goal.returns-clause-count
returns-clause-count c =
    omega (arith, length_of_slots_from c.args.self.lo (c.args.self.hi + 1 - c.args.self.lo), c.saturating_sub.ensures, c.from.ensures, c.end.ensures.end)
