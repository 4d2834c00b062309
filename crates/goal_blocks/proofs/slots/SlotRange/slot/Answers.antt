use Rattle.std.proofs.Common.{◌+◌, ◌-◌, sym, arith}
use Rattle.goal_blocks.proofs.SlotRanges.{length_of_slots_from, get_of_slots_from}
use Rattle.goal_blocks.proofs.slots.SlotRange.slot.Goals as goal

pub overflow_cast-result : goal.overflow_cast-result
overflow_cast-result c = omega (arith, c.requires, length_of_slots_from c.args.self.lo (c.args.self.hi + 1 - c.args.self.lo))

pub overflow_add-result : goal.overflow_add-result
overflow_add-result c = omega (arith, c.requires, length_of_slots_from c.args.self.lo (c.args.self.hi + 1 - c.args.self.lo))

pub returns : goal.returns
returns c =
    sym (get_of_slots_from c.args.self.lo (c.args.self.hi + 1 - c.args.self.lo) c.args.i (omega (arith, c.requires, length_of_slots_from c.args.self.lo (c.args.self.hi + 1 - c.args.self.lo))))
