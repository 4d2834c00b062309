use Rattle.std.proofs.Common.{◌∷◌, map, string_bytes, sym, ap, ◌∙◌}
use Rattle.goal_words.specs.Reading.{key_of, with_value, parts_in}
use Rattle.goal_words.proofs.RoleLemmas.{parts_in_option_and_value, parts_in_joined_option, parts_in_unknown_option}
use Rattle.goal_words.proofs.WordsLeftLemmas.{parts_after_option_with_value, option_without_value, unknown_option_without_equals_sign_fails}
use Rattle.goal_words.proofs.words_left.WordsLeft.past_option.Goals as goal

pub returns-in_err-value-in-Some-clause-left : goal.returns-in_err-value-in-Some-clause-left
returns-in_err-value-in-Some-clause-left c =
    rw c.from_residual.ensures
    (option_without_value c.args.self.taken c.args.self.given c.args.word.now c.in-Some.key c.args.others.now (sym c.in-Some.ensures) c.in_err-value-in-Some.ensures.cases)

pub returns-in_err-option-in-None-clause-left : goal.returns-in_err-option-in-None-clause-left
returns-in_err-option-in-None-clause-left c =
    rw c.from_residual-in_err-option-in-None.ensures
    (unknown_option_without_equals_sign_fails c.args.self.taken c.args.self.given c.args.word.now (map string_bytes c.args.others.now) c.requires (sym c.in-None.ensures) c.in_err-option-in-None.ensures)

pub returns-in_err-key_of-in-None-clause-left : goal.returns-in_err-key_of-in-None-clause-left
returns-in_err-key_of-in-None-clause-left c =
    rw c.from_residual-in_err-key_of-in-None.ensures
    (parts_in_unknown_option c.args.self.taken c.args.self.given c.args.word.now (map string_bytes c.args.others.now) c.requires (sym c.in-None.ensures)
    (ap (key_of c.args.self.taken) (sym c.in_ok-option-in-None.ensures.0) ∙ sym c.in_err-key_of-in-None.ensures))

pub returns-in_ok-value-in-Some-clause-left : goal.returns-in_ok-value-in-Some-clause-left
returns-in_ok-value-in-Some-clause-left c =
    parts_after_option_with_value c.with.result (with_value c.args.self.given c.in-Some.key c.as_str.result.now) c.args.self.taken c.in_ok-value-in-Some.later.now
    (parts_in c.args.self.taken c.args.self.given (c.args.word.now ∷ map string_bytes c.args.others.now))
    (rw (c.in_ok-value-in-Some.ensures.cases.0, c.as_str.ensures.value)
    (parts_in_option_and_value c.args.self.taken c.args.self.given c.args.word.now (string_bytes c.in_ok-value-in-Some.value.now) c.in-Some.key (map string_bytes c.in_ok-value-in-Some.later.now) (sym c.in-Some.ensures)))
    c.with.ensures

pub returns-in_ok-key_of-in-None-clause-left : goal.returns-in_ok-key_of-in-None-clause-left
returns-in_ok-key_of-in-None-clause-left c =
    parts_after_option_with_value c.with-in-None.result (with_value c.args.self.given c.in_ok-key_of-in-None.field-0 c.in_ok-option-in-None.value.now) c.args.self.taken c.args.others.now
    (parts_in c.args.self.taken c.args.self.given (c.args.word.now ∷ map string_bytes c.args.others.now))
    (rw c.in_ok-option-in-None.ensures.1
    (parts_in_joined_option c.args.self.taken c.args.self.given c.args.word.now c.in_ok-key_of-in-None.field-0 (map string_bytes c.args.others.now) c.requires (sym c.in-None.ensures)
    (ap (key_of c.args.self.taken) (sym c.in_ok-option-in-None.ensures.0) ∙ sym c.in_ok-key_of-in-None.ensures)))
    c.with-in-None.ensures
