use Rattle.std.proofs.Common.{ℕ, ◌+◌, sym, ap, ◌∙◌}
use Rattle.sim_classes.specs.Left.{Left}
use Rattle.sim_classes.specs.Form.{Value, read_by_form, or_fault}
use Rattle.sim_classes.proofs.FormRead.{value_next, value_other, value_end, syntax_faults_at_equal_places}
use Rattle.sim_classes.proofs.words.Words.number.Goals as goal

pub returns-in-Some-numeral_value-clause-next : goal.returns-in-Some-numeral_value-clause-next
returns-in-Some-numeral_value-clause-next c =
    λ test rest. ap (read_by_form (Value test rest) c.args.self.now.place) c.in-Some.ensures.word
    ∙ value_next test rest c.args.self.now.place c.in-Some.word.now c.take.new.self.words c.in-Some-numeral_value.value c.in-Some-numeral_value.ensures
    ∙ ap (λ (p : ℕ). or_fault (test c.in-Some-numeral_value.value) p (read_by_form (rest c.in-Some-numeral_value.value) (c.args.self.now.place + 1) c.take.new.self.words)) (ap (λ (l : Left). l.place) (sym c.self.view_is))
    ∙ ap (λ (p : ℕ). or_fault (test c.in-Some-numeral_value.value) c.self.inside.place (read_by_form (rest c.in-Some-numeral_value.value) p c.take.new.self.words)) (sym c.in-Some.ensures.place)

pub returns-in-None-numeral_value-clause-fault : goal.returns-in-None-numeral_value-clause-fault
returns-in-None-numeral_value-clause-fault c =
    λ test rest. ap (read_by_form (Value test rest) c.args.self.now.place) c.in-Some.ensures.word
    ∙ value_other test rest c.args.self.now.place c.in-Some.word.now c.take.new.self.words c.in-None-numeral_value.ensures
    ∙ syntax_faults_at_equal_places (ap (λ (l : Left). l.place) (sym c.self.view_is))

pub returns-in-None-clause-fault : goal.returns-in-None-clause-fault
returns-in-None-clause-fault c =
    λ test rest. ap (read_by_form (Value test rest) c.args.self.now.place) c.in-None.ensures.end
    ∙ value_end test rest c.args.self.now.place
    ∙ syntax_faults_at_equal_places (ap (λ (l : Left). l.place) (sym c.self.view_is))
