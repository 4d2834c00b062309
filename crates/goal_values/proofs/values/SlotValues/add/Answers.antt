use Rattle.std.proofs.Common.{ap, ap₂, length, arith}
use Rattle.goal_blocks.specs.Weight.{stored}
use Rattle.goal_values.specs.Kept.{values}
use Rattle.goal_blocks.proofs.ForCallers.{slot_length_at_most_stored, length_merge}
use Rattle.goal_values.specs.Sums.{meaning}
use Rattle.goal_values.proofs.values.SlotValues.add.Goals as goal

pub sum_of-requires-clause-room : goal.sum_of-requires-clause-room
sum_of-requires-clause-room c =
    omega (arith, ap length c.term_at-own.ensures.value, ap length c.term_at-other.ensures.value, slot_length_at_most_stored c.args.self.now.kept.ranks c.args.rank c.args.to (values c.args.self.now.kept) c.requires.rank (omega (arith, c.ranges.to)), slot_length_at_most_stored c.args.self.now.kept.ranks c.args.rank c.args.from (values c.args.self.now.kept) c.requires.rank (omega (arith, c.ranges.from)), c.requires.light)

pub put-requires-clause-room : goal.put-requires-clause-room
put-requires-clause-room c =
    omega (arith, ap₂ stored c.in_ok-sum.ensures.ranks c.in_ok-sum.ensures.values, ap length c.in_ok-sum.ensures.sum, length_merge (meaning c.args.self.now.sums c.term_at-own.result) (meaning c.args.self.now.sums c.term_at-other.result), ap length c.term_at-own.ensures.value, ap length c.term_at-other.ensures.value, slot_length_at_most_stored c.args.self.now.kept.ranks c.args.rank c.args.to (values c.args.self.now.kept) c.requires.rank (omega (arith, c.ranges.to)), slot_length_at_most_stored c.args.self.now.kept.ranks c.args.rank c.args.from (values c.args.self.now.kept) c.requires.rank (omega (arith, c.ranges.from)), c.requires.light)
