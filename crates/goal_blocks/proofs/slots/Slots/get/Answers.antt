use Rattle.std.proofs.Common.{ℕ, List, ◌≡◌, ◌<◌, ◌≤◌, ◌-◌, ◌+◌, ◌++◌, length, drop, get_or, ap, sym, ◌∙◌, arith, length-append}
use Rattle.std.proofs.lemmas.List.{get_or_append_left}
use Rattle.goal_blocks.specs.SlotRanges.{SlotRange, slots_in, slots_of}
use Rattle.goal_blocks.proofs.SlotRanges.{slots_in_remaining_ranges, get_after_first_range}
use Rattle.goal_blocks.proofs.slots.Slots.get.Goals as goal

pub loop-range-init : goal.loop-range-init
loop-range-init c =
    let same : slots_in c.as_slice-range-items.result.now ≡ c.args.self.now = ap slots_in c.as_slice-range-items.ensures ∙ c.self.view_is in
    record { inside = omega (arith, ap length same, c.requires); same = ap (λ (ks : List ℕ). get_or ks c.args.i 0) same }

pub loop-range-preserved : goal.loop-range-preserved
loop-range-preserved c =
    let ranges = c.as_slice-range-items.result.now in
    let i = c.loop-range.range-index in
    let left = c.loop-range.left in
    let range : SlotRange = get_or ranges i (record { lo = 0; hi = 0 }) in
    let opened : slots_in (drop i ranges) ≡ slots_of range ++ slots_in (drop (i + 1) ranges) = slots_in_remaining_ranges ranges i (record { lo = 0; hi = 0 }) c.loop-range-test.true in
    let past : length (slots_of range) ≤ left = omega (arith, c.if-left-count.false, c.count-count.ensures.count) in
    let less : left - c.count-count.result ≡ left - length (slots_of range) = ap (λ (n : ℕ). left - n) c.count-count.ensures.count in
    record {
      inside = omega (arith, c.loop-range.invariant.inside, ap length opened, length-append (slots_of range) (slots_in (drop (i + 1) ranges)), c.count-count.ensures.count, past);
      same =
          ap (λ (n : ℕ). get_or (slots_in (drop (i + 1) ranges)) n 0) less ∙ sym (get_after_first_range range (slots_in (drop (i + 1) ranges)) left past)
          ∙ sym (ap (λ (ks : List ℕ). get_or ks left 0) opened) ∙ c.loop-range.invariant.same;
    }

pub returns-then-left-count : goal.returns-then-left-count
returns-then-left-count c =
    let ranges = c.as_slice-range-items.result.now in
    let i = c.loop-range.range-index in
    let left = c.loop-range.left in
    let range : SlotRange = get_or ranges i (record { lo = 0; hi = 0 }) in
    let opened : slots_in (drop i ranges) ≡ slots_of range ++ slots_in (drop (i + 1) ranges) = slots_in_remaining_ranges ranges i (record { lo = 0; hi = 0 }) c.loop-range-test.true in
    let here : left < length (slots_of range) = omega (arith, c.if-left-count.true, c.count-count.ensures.count) in
    c.slot.ensures ∙ sym (get_or_append_left (slots_of range) (slots_in (drop (i + 1) ranges)) 0 left here)
    ∙ sym (ap (λ (ks : List ℕ). get_or ks left 0) opened) ∙ c.loop-range.invariant.same
