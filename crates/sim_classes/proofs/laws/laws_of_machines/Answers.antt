-- Each law is a lemma.
use Rattle.sim_classes.proofs.ClassLaws.{class_of_exists, alike_costs, own_inside, one_node_inside}
use Rattle.sim_classes.proofs.Whole.{machine_whole}
use Rattle.sim_classes.proofs.laws.laws_of_machines.Goals as goal

pub returns-clause-there : goal.returns-clause-there
returns-clause-there c = class_of_exists

pub returns-clause-alike : goal.returns-clause-alike
returns-clause-alike c = alike_costs

pub returns-clause-own : goal.returns-clause-own
returns-clause-own c = own_inside

pub returns-clause-one_node : goal.returns-clause-one_node
returns-clause-one_node c = one_node_inside

pub returns-clause-whole : goal.returns-clause-whole
returns-clause-whole c = machine_whole
