-- Each law is a lemma.
use Rattle.goal_graph.proofs.Exists.{listed_kind}
use Rattle.goal_graph.proofs.Complete.{paired_ended, ready_waits, fitting_taken}
use Rattle.goal_graph.proofs.laws.laws_of_complete_interleavings.Goals as goal

pub returns-clause-paired_has_ended : goal.returns-clause-paired_has_ended
returns-clause-paired_has_ended c = λ plans eager h x done. paired_ended plans eager h done x

pub returns-clause-ready_waits : goal.returns-clause-ready_waits
returns-clause-ready_waits c = λ plans eager h x done there. ready_waits plans eager h done x (listed_kind plans x there)

pub returns-clause-fitting_is_taken : goal.returns-clause-fitting_is_taken
returns-clause-fitting_is_taken c = λ plans eager h x y done. fitting_taken plans eager h done x y
