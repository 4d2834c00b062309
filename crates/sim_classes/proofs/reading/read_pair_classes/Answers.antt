use Rattle.std.proofs.Common.{ℕ, List, None, ◌∙◌}
use Rattle.std.proofs.lemmas.Result.{err_from_is_err_and}
use Rattle.sim_params.specs.Costs.{Numbers}
use Rattle.sim_classes.specs.Machine.{machine_with}
use Rattle.sim_classes.specs.Form.{Form, triples}
use Rattle.sim_classes.proofs.reading.read_pair_classes.Goals as goal

-- what follows the number of pairs
abbrev form_after_pair_count : List Numbers → ℕ → ℕ → List ℕ → ℕ → Form
form_after_pair_count numbers inside usual nodes k = triples k (machine_with numbers inside usual nodes (λ a b. None))

pub returns-in_err-count-clause-fault : goal.returns-in_err-count-clause-fault
returns-in_err-count-clause-fault c =
    let p = err_from_is_err_and c.from_residual-in_err-count.result c.from_residual-in_err-count.ensures.1 in
    rw (p.1, p.2)
    (λ pair_classes numbers inside usual nodes few.
    c.in_ok-fixed.ensures.next _ ∙ c.in_err-count.ensures.fault (form_after_pair_count numbers inside usual nodes))

pub returns-in_err-pairs-clause-fault : goal.returns-in_err-pairs-clause-fault
returns-in_err-pairs-clause-fault c =
    let p = err_from_is_err_and c.from_residual-in_err-pairs.result c.from_residual-in_err-pairs.ensures.1 in
    rw (p.1, p.2)
    (λ pair_classes numbers inside usual nodes few.
    c.in_ok-fixed.ensures.next _ ∙ c.in_ok-count.ensures.next (form_after_pair_count numbers inside usual nodes) ∙ c.in_err-pairs.ensures.fault pair_classes numbers inside usual nodes few)
