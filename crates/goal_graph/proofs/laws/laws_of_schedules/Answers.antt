-- Each law is a lemma.
use Rattle.goal_graph.proofs.Plain.{plain-counts}
use Rattle.goal_graph.proofs.Accepted.{plain-op_at}
use Rattle.goal_graph.proofs.Exists.{listed_places, operations_in_order, operations_differ}
use Rattle.goal_graph.proofs.laws.laws_of_schedules.Goals as goal

pub returns-clause-counts_are_within : goal.returns-clause-counts_are_within
returns-clause-counts_are_within c = λ plans accepted. plain-counts plans accepted.plain

pub returns-clause-values_are_within : goal.returns-clause-values_are_within
returns-clause-values_are_within c = λ plans x o accepted. plain-op_at plans accepted.plain x o

pub returns-clause-operations_are_listed : goal.returns-clause-operations_are_listed
returns-clause-operations_are_listed c = listed_places

pub returns-clause-operations_in_order : goal.returns-clause-operations_in_order
returns-clause-operations_in_order c = λ plans. (operations_in_order plans, operations_differ plans)
