use Rattle.std.proofs.Common.{ap, sym, ◌∙◌}
use Rattle.goal_blocks.specs.Values.{Value, set_slot}
use Rattle.goal_blocks.specs.Stored.{values}
use Rattle.goal_blocks.proofs.SlotSums.{set_slot_to_own_value}
use Rattle.goal_blocks.proofs.StoreFacts.{is_set_there, is_some_false_is_none, read_contribution, first_there}
use Rattle.goal_blocks.proofs.store.Store.make_room.Goals as goal

pub returns-then-contains_key-clause-is_set : goal.returns-then-contains_key-clause-is_set
returns-then-contains_key-clause-is_set c =
    is_set_there c.self.inside.what c.self.inside.ranks c.self.inside.written c.args.self.now c.self.view_is c.args.rank c.args.slot (sym c.contains_key.ensures ∙ c.if-contains_key.true)

pub returns-clause-same : goal.returns-clause-same
returns-clause-same c =
    let none = is_some_false_is_none _ (sym c.contains_key.ensures ∙ c.if-contains_key.false) in
    let copied = c.in_ok-value.ensures.items ∙ read_contribution c.first_at-first.result _ c.as_slice.ensures ∙ first_there c.self.inside.what c.self.inside.ranks c.self.inside.written c.args.self.now c.self.view_is c.args.rank c.args.slot c.first_at-first.result none c.first_at-first.ensures in
    c.in_ok-put.ensures.set ∙ ap (λ (v : Value). set_slot c.args.rank c.args.slot v (values c.args.self.now)) copied
    ∙ set_slot_to_own_value c.args.rank c.args.slot (values c.args.self.now)
