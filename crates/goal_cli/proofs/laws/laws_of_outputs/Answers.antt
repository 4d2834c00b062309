use Rattle.goal_words.specs.declared.request.RunView.TheVariants.{Printed}
use Rattle.goal_views.proofs.ForCallers.{shown_run_is_unique}
use Rattle.goal_cli.proofs.OutputLemmas.{same_output, compiled_again, nodes_output_is_sim_output}
use Rattle.goal_cli.proofs.laws.laws_of_outputs.Goals as goal

pub returns-clause-one_run : goal.returns-clause-one_run
returns-clause-one_run c = shown_run_is_unique Printed

pub returns-clause-same_output : goal.returns-clause-same_output
returns-clause-same_output c =
    same_output c.laws_of_faults.ensures.fault_excludes_certified c.laws_of_faults.ensures.one_first_fault

pub returns-clause-compiled_again : goal.returns-clause-compiled_again
returns-clause-compiled_again c = compiled_again

pub returns-clause-alike : goal.returns-clause-alike
returns-clause-alike c = nodes_output_is_sim_output c.laws_of_machines.ensures.whole c.laws_of_machines.ensures.alike
