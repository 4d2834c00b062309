-- Each law is a lemma.
use Rattle.goal_graph.proofs.Order.{before_irreflexive, before_transitive, before_cases, less_irreflexive, less_transitive, key_cases, key-injective, less_decides}
use Rattle.goal_graph.proofs.laws.laws_of_orders.Goals as goal

pub returns-clause-operation_not_before_itself : goal.returns-clause-operation_not_before_itself
returns-clause-operation_not_before_itself c = before_irreflexive

pub returns-clause-operations_transitive : goal.returns-clause-operations_transitive
returns-clause-operations_transitive c = before_transitive

pub returns-clause-one_operation_is_before : goal.returns-clause-one_operation_is_before
returns-clause-one_operation_is_before c = before_cases

pub returns-clause-not_less_than_itself : goal.returns-clause-not_less_than_itself
returns-clause-not_less_than_itself c = less_irreflexive

pub returns-clause-transitive : goal.returns-clause-transitive
returns-clause-transitive c = less_transitive

pub returns-clause-one_is_less : goal.returns-clause-one_is_less
returns-clause-one_is_less c = key_cases

pub returns-clause-key_tells_action : goal.returns-clause-key_tells_action
returns-clause-key_tells_action c = key-injective

pub returns-clause-tested : goal.returns-clause-tested
returns-clause-tested c = less_decides
