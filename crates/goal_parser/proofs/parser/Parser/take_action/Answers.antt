use Rattle.std.proofs.Common.{refl, sym, ◌∙◌}
use Rattle.goal_parser.specs.Actions.{op_of}
use Rattle.goal_parser.proofs.KindLaws.{takes_action, refuses_action, within_action, items_end_actions_alike, action_begins_item}
use Rattle.goal_parser.proofs.parser.Parser.take_action.Goals as goal

pub returns-then-is_too_many-clause-fault : goal.returns-then-is_too_many-clause-fault
returns-then-is_too_many-clause-fault c = λ memory. refuses_action c.args.self.now c.args.token.now c.in_ok-next.next c.in_ok-next.ensures.ok c.requires.action
    (sym c.is_too_many.ensures ∙ c.if-is_too_many.true)

pub take-requires-2 : goal.take-requires-2
take-requires-2 c = record { within = within_action c.args.self.now.state c.args.self.now.draft.option c.args.token.now.kind c.requires.action }

pub returns-clause-ok : goal.returns-clause-ok
returns-clause-ok c =
    let old = c.args.self.now in
    let kind = c.args.token.now.kind in
    takes_action old _ c.args.token.now c.in_ok-next.next c.in_ok-next.ensures.ok c.requires.action
    (sym c.is_too_many.ensures ∙ c.if-is_too_many.false)
    refl refl c.take.ensures.counted c.take-2.ensures.taken refl
    (c.in_ok-end_action.ensures ∙ items_end_actions_alike old.state kind (op_of old.draft) old.block.ops.items (action_begins_item kind c.requires.action)) refl refl
