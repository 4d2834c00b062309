use Rattle.std.proofs.Common.{refl, sym}
use Rattle.goal_parser.specs.Items.{defined_of, used_of}
use Rattle.goal_parser.proofs.KindLaws.{takes_close, refuses_close}
use Rattle.goal_parser.proofs.parser.Parser.take_close.Goals as goal

pub returns-in-Some-clause-fault : goal.returns-in-Some-clause-fault
returns-in-Some-clause-fault c = λ memory. refuses_close c.args.self.now c.args.token.now c.in_ok-next.next c.in-Some.at c.in_ok-next.ensures.ok c.requires.close
    (λ before taken. sym (c.in-Some.ensures (defined_of before) (used_of before) taken.names.labels))

pub returns-clause-ok : goal.returns-clause-ok
returns-clause-ok c = takes_close c.args.self.now _ c.args.token.now c.in_ok-next.next c.in_ok-plan.plan c.in_ok-next.ensures.ok c.requires.close
    (λ before taken. sym (c.in_default.ensures (defined_of before) (used_of before) taken.names.labels))
    refl refl refl refl refl c.in_ok-plan.ensures.ops c.in_ok-plan.ensures.names c.in_ok-plan.ensures.plan c.put.ensures
