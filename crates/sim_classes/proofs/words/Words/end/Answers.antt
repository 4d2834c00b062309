use Rattle.std.proofs.Common.{sym, ap, ◌∙◌}
use Rattle.sim_classes.specs.Left.{Left}
use Rattle.sim_classes.specs.Form.{End, read_by_form}
use Rattle.sim_classes.proofs.FormRead.{end_other, syntax_faults_at_equal_places}
use Rattle.sim_classes.proofs.words.Words.end.Goals as goal

pub returns-in-Some-clause-fault : goal.returns-in-Some-clause-fault
returns-in-Some-clause-fault c =
    λ m. ap (read_by_form (End m) c.args.self.now.place) c.in-Some.ensures.word
    ∙ end_other m c.args.self.now.place c.in-Some.field-0.now c.take.new.self.words
    ∙ syntax_faults_at_equal_places (ap (λ (l : Left). l.place) (sym c.self.view_is))
