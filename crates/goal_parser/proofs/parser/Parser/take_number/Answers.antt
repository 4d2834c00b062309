use Rattle.std.proofs.Common.{refl, sym, ◌∙◌}
use Rattle.goal_parser.specs.Numbers.{is_within}
use Rattle.goal_parser.proofs.KindLaws.{refuses_number, takes_number, takes_low, takes_high, within_number}
use Rattle.goal_parser.proofs.parser.Parser.take_number.Goals as goal

pub returns-then-not-number_within-clause-fault : goal.returns-then-not-number_within-clause-fault
returns-then-not-number_within-clause-fault c = λ memory. refuses_number c.args.self.now c.args.token.now c.in_ok-next.next c.args.value c.in_ok-next.ensures.ok c.requires.number
    (sym c.number_within.ensures ∙ c.if-not-number_within.true)

pub take_number-requires : goal.take_number-requires
unfolding is_within
take_number-requires c = (c.args.self.now.draft.option, sym c.number_within.ensures ∙ c.if-not-number_within.false)

pub end_note-requires : goal.end_note-requires
unfolding is_within
end_note-requires c = (c.args.self.now.draft.option, sym c.number_within.ensures ∙ c.if-not-number_within.false)

pub take-requires : goal.take-requires
take-requires c = record {
  within = within_number c.args.self.now.state c.args.self.now.draft.option c.args.token.now.kind c.args.value c.requires.number
      (sym c.number_within.ensures ∙ c.if-not-number_within.false);
}

pub returns-in-Note1-clause-ok : goal.returns-in-Note1-clause-ok
returns-in-Note1-clause-ok c = takes_low c.args.self.now c.args.token.now c.in_ok-next.next c.args.value c.in_ok-next.ensures.ok c.requires.number
    (sym c.number_within.ensures ∙ c.if-not-number_within.false) _ c.in-Note1.is refl refl refl refl c.take_number.ensures refl refl

pub returns-in_ok-end_note-in-Note3-clause-ok : goal.returns-in_ok-end_note-in-Note3-clause-ok
returns-in_ok-end_note-in-Note3-clause-ok c = takes_high c.args.self.now c.args.token.now c.in_ok-next.next c.args.value c.in_ok-next.ensures.ok c.requires.number
    (sym c.number_within.ensures ∙ c.if-not-number_within.false) _ c.in-Note3.is refl refl refl refl refl refl refl c.in_ok-end_note-in-Note3.ensures

pub returns-in_default-clause-ok : goal.returns-in_default-clause-ok
returns-in_default-clause-ok c = takes_number c.args.self.now c.args.token.now c.in_ok-next.next c.args.value c.in_ok-next.ensures.ok c.requires.number
    (sym c.number_within.ensures ∙ c.if-not-number_within.false) c.take.new.self
    c.in_default.not-Ranks c.in_default.not-Block c.in_default.not-Note1 c.in_default.not-Note3 c.take.ensures.taken

pub take_rank_count-requires : goal.take_rank_count-requires
take_rank_count-requires c = record { next = c.in_ok-next.ensures.ok; number = c.requires.number; within = sym c.number_within.ensures ∙ c.if-not-number_within.false; here = c.in-Ranks.is }

pub take_rank-requires : goal.take_rank-requires
take_rank-requires c = record { next = c.in_ok-next.ensures.ok; number = c.requires.number; within = sym c.number_within.ensures ∙ c.if-not-number_within.false; here = c.in-Block.is }
