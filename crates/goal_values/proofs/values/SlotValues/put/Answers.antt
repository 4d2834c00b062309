use Rattle.std.proofs.Common.{ap, sym, subst, ◌∙◌, ◌<◌, length, arith}
use Rattle.goal_blocks.specs.Values.{set_slot}
use Rattle.goal_blocks.proofs.ForCallers.{slot_length_at_most_stored}
use Rattle.goal_values.specs.Kept.{values, first_values}
use Rattle.goal_values.specs.Sums.{meaning, IsBelow}
use Rattle.goal_values.specs.Summed.{Summed, kept_in}
use Rattle.goal_values.proofs.Keeping.{values_after, values_same, sound_after, sound_same, size_of_old_or_first_term, old_or_first_term_is_below}
use Rattle.goal_values.proofs.SlotRows.{on_err}
use Rattle.goal_values.proofs.values.SlotValues.put.Goals as goal

pub size-before-requires : goal.size-before-requires
size-before-requires c =
    subst (IsBelow _) (sym c.unwrap_or.ensures) (old_or_first_term_is_below c.self.inside.what c.self.inside.ranks c.self.inside.segment c.self.inside.sums c.self.inside.written c.args.rank c.args.slot c.in_ok-old.old c.first_at-first.result c.in_ok-old.ensures.old (c.first_at-first.ensures.below _) c.self.invariant.below)

pub overflow_sub-self : goal.overflow_sub-self
overflow_sub-self c =
    let first = c.first_at-first.ensures.value c.self.inside.sums ∙ ap (λ (u : Summed). first_values u.kept c.args.rank c.args.slot) (sym c.self.view_is) in
    let before = c.size-before.ensures ∙ ap (λ t. length (meaning c.self.inside.sums t)) c.unwrap_or.ensures ∙ size_of_old_or_first_term c.self.inside.what c.self.inside.ranks c.self.inside.segment c.self.inside.sums c.self.inside.written c.args.rank c.args.slot c.in_ok-old.old c.first_at-first.result c.in_ok-old.ensures.old first in
    let most = slot_length_at_most_stored c.self.inside.ranks c.args.rank c.args.slot (values (kept_in c.self.inside.what c.self.inside.ranks c.self.inside.segment c.self.inside.sums c.self.inside.written)) (subst (λ (u : Summed). c.args.rank < u.kept.ranks) (sym c.self.view_is) c.requires.rank) (omega (arith, c.ranges.slot)) in
    omega (arith, before, most, c.self.invariant.held_is)

pub invariant_of-self-2 : goal.invariant_of-self-2
invariant_of-self-2 c =
    let first = c.first_at-first.ensures.value c.self.inside.sums ∙ ap (λ (u : Summed). first_values u.kept c.args.rank c.args.slot) (sym c.self.view_is) in
    let before = c.size-before.ensures ∙ ap (λ t. length (meaning c.self.inside.sums t)) c.unwrap_or.ensures ∙ size_of_old_or_first_term c.self.inside.what c.self.inside.ranks c.self.inside.segment c.self.inside.sums c.self.inside.written c.args.rank c.args.slot c.in_ok-old.old c.first_at-first.result c.in_ok-old.ensures.old first in
    sound_after c.self.inside.what c.self.inside.ranks c.self.inside.segment c.self.inside.sums c.self.inside.written c.insert.new.self c.args.rank c.args.slot c.args.term c.in_ok-old.ensures.set c.self.inside.held _ (subst (λ (u : Summed). c.args.rank < u.kept.ranks) (sym c.self.view_is) c.requires.rank) (omega (arith, c.ranges.slot)) (subst (λ (u : Summed). IsBelow (length u.sums) c.args.term) (sym c.self.view_is) c.requires.below) c.self.invariant (omega (arith, before, c.size-size.ensures))

pub returns-clause-set : goal.returns-clause-set
returns-clause-set c =
    values_after c.self.inside.what c.self.inside.ranks c.self.inside.segment c.self.inside.sums c.self.inside.written c.insert.new.self c.args.rank c.args.slot c.args.term c.in_ok-old.ensures.set ∙ ap (λ (u : Summed). set_slot c.args.rank c.args.slot (meaning u.sums c.args.term) (values u.kept)) c.self.view_is

pub invariant_of-self : goal.invariant_of-self
invariant_of-self c =
    sound_same c.self.inside.what c.self.inside.ranks c.self.inside.segment c.self.inside.sums c.self.inside.written c.insert.new.self c.self.inside.held c.in_err-old.ensures.unchanged c.self.invariant

pub returns-in_err-old-clause-unchanged : goal.returns-in_err-old-clause-unchanged
returns-in_err-old-clause-unchanged c =
    on_err _ c.from_residual.result (values_same c.self.inside.what c.self.inside.ranks c.self.inside.segment c.self.inside.sums c.self.inside.written c.insert.new.self c.in_err-old.ensures.unchanged ∙ ap (λ (u : Summed). values u.kept) c.self.view_is)
