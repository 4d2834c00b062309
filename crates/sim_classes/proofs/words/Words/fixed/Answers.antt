use Rattle.std.proofs.Common.{ℕ, sym, ap, ◌∙◌}
use Rattle.std.specs.Prelude.{bytes_eq}
use Rattle.sim_classes.specs.Left.{Left}
use Rattle.sim_classes.specs.Form.{Fixed, read_by_form}
use Rattle.sim_classes.proofs.FormRead.{fixed_next, fixed_other, fixed_end, syntax_faults_at_equal_places}
use Rattle.sim_classes.proofs.words.Words.fixed.Goals as goal

pub returns-then-eq-clause-next : goal.returns-then-eq-clause-next
returns-then-eq-clause-next c =
    λ rest. ap (read_by_form (Fixed c.args.word.now rest) c.args.self.now.place) c.in-Some.ensures.word
    ∙ fixed_next c.args.word.now c.in-Some.found.now c.take.new.self.words c.args.self.now.place rest (ap (bytes_eq c.in-Some.found.now) (sym c.as_bytes.ensures.value) ∙ sym c.eq.ensures ∙ c.if-eq.true)
    ∙ ap (λ (p : ℕ). read_by_form rest p c.take.new.self.words) (sym c.in-Some.ensures.place)

pub returns-else-eq-clause-fault : goal.returns-else-eq-clause-fault
returns-else-eq-clause-fault c =
    λ rest. ap (read_by_form (Fixed c.args.word.now rest) c.args.self.now.place) c.in-Some.ensures.word
    ∙ fixed_other c.args.word.now c.in-Some.found.now c.take.new.self.words c.args.self.now.place rest (ap (bytes_eq c.in-Some.found.now) (sym c.as_bytes.ensures.value) ∙ sym c.eq.ensures ∙ c.if-eq.false)
    ∙ syntax_faults_at_equal_places (ap (λ (l : Left). l.place) (sym c.self.view_is))

pub returns-in-None-clause-fault : goal.returns-in-None-clause-fault
returns-in-None-clause-fault c =
    λ rest. ap (read_by_form (Fixed c.args.word.now rest) c.args.self.now.place) c.in-None.ensures.end
    ∙ fixed_end c.args.word.now c.args.self.now.place rest
    ∙ syntax_faults_at_equal_places (ap (λ (l : Left). l.place) (sym c.self.view_is))
