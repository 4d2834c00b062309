use Rattle.std.proofs.Common.{ap, length, arith}
use Rattle.goal_blocks.specs.Stored.{values}
use Rattle.goal_blocks.proofs.SlotSums.{slot_length_at_most_stored}
use Rattle.goal_blocks.proofs.store.Store.size_at.Goals as goal

pub returns-clause-size : goal.returns-clause-size
returns-clause-size c = ap length c.value_at.ensures.value

pub returns-clause-part : goal.returns-clause-part
returns-clause-part c =
    let size = ap length c.value_at.ensures.value in
    let most = slot_length_at_most_stored c.args.self.now.ranks c.args.rank c.args.slot (values c.args.self.now) c.requires.rank (omega (arith, c.ranges.slot)) in
    omega (arith, size, most)
