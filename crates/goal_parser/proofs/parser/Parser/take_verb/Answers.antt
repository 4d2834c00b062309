use Rattle.std.proofs.Common.{sym, ◌∙◌}
use Rattle.goal_parser.proofs.KindLaws.{takes_verb, refuses_verb}
use Rattle.goal_parser.proofs.parser.Parser.take_verb.Goals as goal

pub returns-then-is_too_many-clause-fault : goal.returns-then-is_too_many-clause-fault
returns-then-is_too_many-clause-fault c = λ memory. refuses_verb c.args.self.now c.args.token.now c.in_ok-next.next c.in_ok-next.ensures.ok c.requires.verb
    (sym c.is_too_many.ensures ∙ c.if-is_too_many.true)

pub returns-clause-ok : goal.returns-clause-ok
returns-clause-ok c = takes_verb c.args.self.now c.args.token.now c.in_ok-next.next c.take.new.self c.take_verb.new.self c.in_ok-next.ensures.ok c.requires.verb
    (sym c.is_too_many.ensures ∙ c.if-is_too_many.false) c.take.ensures.counted c.take_verb.ensures
