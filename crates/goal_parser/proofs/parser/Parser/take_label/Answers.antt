use Rattle.std.proofs.Common.{refl, sym, ◌∙◌}
use Rattle.goal_lexer.specs.declared.tokens.Token.{Token}
use Rattle.goal_lexer.specs.declared.tokens.TokenKind.TheVariants as token
use Rattle.goal_parser.specs.Actions.{op_of}
use Rattle.goal_parser.proofs.KindLaws.{refuses_entry, takes_earlier, takes_label, items_end_actions_alike}
use Rattle.goal_parser.proofs.parser.Parser.take_label.Goals as goal

pub returns-in_default-clause-fault : goal.returns-in_default-clause-fault
returns-in_default-clause-fault c end memory =
    let label = c.args.label.now in
    let t : Token = record { kind = token.Label label; start = c.args.at; end = end } in
    refuses_entry c.args.self.now t (sym (c.label_entry.ensures label) ∙ c.in_default.is)

pub returns-in_ok-end_dep-in-Label-clause-ok : goal.returns-in_ok-end_dep-in-Label-clause-ok
returns-in_ok-end_dep-in-Label-clause-ok c end =
    let label = c.args.label.now in
    let t : Token = record { kind = token.Label label; start = c.args.at; end = end } in
    takes_earlier c.args.self.now _ t c.in-Some.next label (sym (c.label_entry.ensures label) ∙ c.in-Some.is) refl c.in-Label.is
    refl refl refl refl refl refl refl c.in_ok-end_dep-in-Label.ensures

pub returns-in_ok-end_action-in_default-state-clause-ok : goal.returns-in_ok-end_action-in_default-state-clause-ok
returns-in_ok-end_action-in_default-state-clause-ok c end =
    let old = c.args.self.now in
    let label = c.args.label.now in
    let t : Token = record { kind = token.Label label; start = c.args.at; end = end } in
    takes_label old _ t c.in-Some.next label (sym (c.label_entry.ensures label) ∙ c.in-Some.is) refl c.in_default-state.not-Label
    refl refl refl refl c.begin.ensures
    (c.in_ok-end_action-in_default-state.ensures ∙ items_end_actions_alike old.state (token.Label label) (op_of old.draft) old.block.ops.items refl) refl refl
