use Rattle.std.proofs.Common.{sym, ◌∙◌}
use Rattle.goal_parser.proofs.KindLaws.{takes_size, refuses_size, within_size}
use Rattle.goal_parser.proofs.parser.Parser.take_size.Goals as goal

pub returns-then-not-number_within-clause-fault : goal.returns-then-not-number_within-clause-fault
returns-then-not-number_within-clause-fault c = λ memory. refuses_size c.args.self.now c.args.token.now c.in_ok-next.next c.args.value c.in_ok-next.ensures.ok c.requires.size
    (sym c.number_within.ensures ∙ c.if-not-number_within.true)

pub take-requires : goal.take-requires
take-requires c = record {
  within = within_size c.args.self.now.state c.args.self.now.draft.option c.args.token.now.kind c.args.value c.requires.size
      (sym c.number_within.ensures ∙ c.if-not-number_within.false);
}

pub returns-clause-ok : goal.returns-clause-ok
returns-clause-ok c = takes_size c.args.self.now c.args.token.now c.in_ok-next.next c.take.new.self c.args.value c.in_ok-next.ensures.ok c.requires.size
    (sym c.number_within.ensures ∙ c.if-not-number_within.false) c.take.ensures.taken
