use Rattle.std.proofs.Common.{rules, ap, sym, ◌∙◌, ◌≡◌, ◌<◌, length, arith, subst}
use Rattle.goal_blocks.specs.Stored.{Kept, values}
use Rattle.goal_blocks.proofs.StoreFacts.{kept_of_cells, absent_means_not_written, value_or_first_is_value, slot_length_at_most_held, sound_after, put_values, put_still, set_after, held_is_stored_count}
use Rattle.goal_blocks.proofs.store.Store.put.Goals as goal

pub overflow_sub-self : goal.overflow_sub-self
overflow_sub-self c =
    let all = held_is_stored_count c.self.inside.what c.self.inside.ranks c.self.inside.written c.args.self.now c.self.view_is c.args.rank c.args.slot c.self.inside.held c.self.invariant in
    let few = slot_length_at_most_held c.self.inside.what c.self.inside.ranks c.self.inside.written c.args.self.now c.self.view_is c.args.rank c.args.slot c.self.inside.held c.self.invariant c.requires.rank (omega (arith, c.ranges.slot)) in
    let was = ap length (value_or_first_is_value c.self.inside.what c.self.inside.ranks c.self.inside.written c.args.self.now c.self.view_is c.args.rank c.args.slot c.in_ok-old.old c.first_at-first.result c.in_ok-old.ensures.old c.first_at-first.ensures) in
    omega (arith, all, few, was, c.size_before.ensures)

pub returns-in_err-old-clause-absent : goal.returns-in_err-old-clause-absent
returns-in_err-old-clause-absent c =
    let absent = absent_means_not_written c.self.inside.what c.self.inside.ranks c.self.inside.written c.args.self.now c.self.view_is c.args.rank c.args.slot c.in_err-old.ensures.absent in
    search rules

pub invariant_of-self-2 : goal.invariant_of-self-2
invariant_of-self-2 c =
    let was = ap length (value_or_first_is_value c.self.inside.what c.self.inside.ranks c.self.inside.written c.args.self.now c.self.view_is c.args.rank c.args.slot c.in_ok-old.old c.first_at-first.result c.in_ok-old.ensures.old c.first_at-first.ensures) in
    let size : c.size_before.result ≡ length (values (kept_of_cells c.self.inside.what c.self.inside.ranks c.self.inside.written) c.args.rank c.args.slot) = c.size_before.ensures ∙ was ∙ ap (λ (t : Kept). length (values t c.args.rank c.args.slot)) (sym c.self.view_is) in
    sound_after c.self.inside.what c.self.inside.ranks c.self.inside.written c.insert.new.self c.args.rank c.args.slot c.args.value c.in_ok-old.ensures.updates.0 c.self.inside.held _ (subst (λ (t : Kept). c.args.rank < t.ranks) (sym c.self.view_is) c.requires.rank) (omega (arith, c.ranges.slot)) c.requires.sorted c.self.invariant (omega (arith, size, c.len-size.ensures))

pub returns-clause-set : goal.returns-clause-set
returns-clause-set c =
    put_values c.self.inside.what c.self.inside.ranks c.self.inside.written c.insert.new.self c.args.rank c.args.slot c.args.value c.in_ok-old.ensures.updates.0 c.args.self.now c.self.view_is

pub returns-clause-is_set : goal.returns-clause-is_set
returns-clause-is_set c =
    set_after c.self.inside.what c.self.inside.ranks c.self.inside.written c.insert.new.self c.args.rank c.args.slot c.args.value c.in_ok-old.ensures.updates.0

pub returns-clause-still : goal.returns-clause-still
returns-clause-still c =
    put_still c.self.inside.what c.self.inside.ranks c.self.inside.written c.insert.new.self c.args.rank c.args.slot c.args.value c.in_ok-old.ensures.updates.0 c.args.self.now c.self.view_is
