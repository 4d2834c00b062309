use Rattle.std.proofs.Common.{ap, length, arith, ◌∙◌}
use Rattle.goal_values.specs.Kept.{values}
use Rattle.goal_values.specs.Sums.{meaning}
use Rattle.goal_values.specs.Summed.{Summed}
use Rattle.goal_blocks.proofs.ForCallers.{slot_length_at_most_stored}
use Rattle.goal_values.proofs.values.SlotValues.size_at.Goals as goal

pub returns-clause-size : goal.returns-clause-size
returns-clause-size c = c.size.ensures ∙ ap (λ (u : Summed). length (meaning u.sums c.term_at.result)) c.self.view_is ∙ ap length c.term_at.ensures.value

pub returns-clause-part : goal.returns-clause-part
returns-clause-part c =
    let size = c.size.ensures ∙ ap (λ (u : Summed). length (meaning u.sums c.term_at.result)) c.self.view_is ∙ ap length c.term_at.ensures.value in
    let most = slot_length_at_most_stored c.args.self.now.kept.ranks c.args.rank c.args.slot (values c.args.self.now.kept) c.requires (omega (arith, c.ranges.slot)) in
    omega (arith, size, most)
