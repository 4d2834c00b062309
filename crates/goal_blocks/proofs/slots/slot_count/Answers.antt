use Rattle.std.proofs.Common.{ap, arith, length, take, get_or, length-append}
use Rattle.std.proofs.lemmas.List.{take_all}
use Rattle.goal_blocks.specs.SlotRanges.{slots_in, slots_of}
use Rattle.goal_blocks.proofs.SlotRanges.{slots_more}
use Rattle.goal_blocks.proofs.slots.slot_count.Goals as goal

pub loop-range-preserved : goal.loop-range-preserved
loop-range-preserved c =
    let more = slots_more c.args.ranges.now c.loop-range.range-index (record { lo = 0; hi = 0 }) c.loop-range-test.true in
    omega (arith, ap length more, length-append (slots_in (take c.loop-range.range-index c.args.ranges.now)) (slots_of (get_or c.args.ranges.now c.loop-range.range-index (record { lo = 0; hi = 0 }))), c.count.ensures.count, c.saturating_add-count.ensures, c.loop-range.invariant)

pub returns : goal.returns
returns c =
    let all = ap (λ rs. length (slots_in rs)) (take_all c.loop-range.range-index c.args.ranges.now c.loop-range-test.false) in
    omega (arith, all)
