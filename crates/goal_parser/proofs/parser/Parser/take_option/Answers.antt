use Rattle.std.proofs.Common.{sym, ◌∙◌}
use Rattle.goal_parser.proofs.KindLaws.{takes_option, refuses_option, within_option}
use Rattle.goal_parser.proofs.parser.Parser.take_option.Goals as goal

pub returns-then-has_option-clause-fault : goal.returns-then-has_option-clause-fault
returns-then-has_option-clause-fault c = λ memory. refuses_option c.args.self.now c.args.token.now c.in_ok-next.next c.in_ok-next.ensures.ok c.requires.option
    (sym c.has_option.ensures ∙ c.if-has_option.true)

pub take-requires : goal.take-requires
take-requires c = record { within = within_option c.args.self.now.state c.args.self.now.draft.option c.args.token.now.kind c.requires.option }

pub returns-clause-ok : goal.returns-clause-ok
returns-clause-ok c = takes_option c.args.self.now c.args.token.now c.in_ok-next.next c.take.new.self c.in_ok-next.ensures.ok c.requires.option
    (sym c.has_option.ensures ∙ c.if-has_option.false) c.take.ensures.taken
