use Rattle.std.proofs.Common.{◌<◌, length, refl, ◌∙◌, arith}
use Rattle.goal_blocks.proofs.SlotRanges.{next_range, next_slot, no_slot_left_at_end}
use Rattle.goal_blocks.proofs.slots.SlotIter.next.Goals as goal

pub loop-self-init : goal.loop-self-init
loop-self-init c = record { left = refl; low = c.self.invariant }

pub invariant_of-self : goal.invariant_of-self
invariant_of-self c = c.loop-self.invariant.low

pub returns-in_default : goal.returns-in_default
returns-in_default c =
    let s = c.loop-self.self-inside in
    no_slot_left_at_end s.ranges.now s.next s.end c.args.self.now (c.loop-self.invariant.left ∙ c.self.view_is) c.in_default.ensures.cases c.loop-self-test.true

pub loop-self-smaller : goal.loop-self-smaller
loop-self-smaller c =
    let smaller : length c.in-Some.rest.now < length c.loop-self.self-inside.ranges.now = omega (arith, c.in-Some.ensures.cases.1) in
    smaller

pub loop-self-preserved : goal.loop-self-preserved
loop-self-preserved c =
    let s = c.loop-self.self-inside in
    record {
      left = next_range s.ranges.now s.next s.end _ c.loop-self.invariant.left c.in-Some.range.now c.in-Some.rest.now c.from-self-inside.result c.end-self-inside.result c.in-Some.ensures.cases.0 c.loop-self-test.true c.from-self-inside.ensures c.end-self-inside.ensures.end;
      low = c.end-self-inside.ensures.low;
    }

pub overflow_cast-slot : goal.overflow_cast-slot
overflow_cast-slot c = omega (arith, c.loop-self.invariant.low, c.loop-self-test.false)

pub invariant_of-self-2 : goal.invariant_of-self-2
invariant_of-self-2 c = c.loop-self.invariant.low

pub returns : goal.returns
returns c =
    let s = c.loop-self.self-inside in
    next_slot s.ranges.now s.next s.end c.args.self.now (c.loop-self.invariant.left ∙ c.self.view_is) c.loop-self-test.false
