use Rattle.goal_words.specs.Requests.{pricing, requested}
use Rattle.goal_cli.specs.declared.pages.Output.{Output}
use Rattle.goal_cli.specs.Output.{Input, IsOutput}
use Rattle.goal_cli.specs.WithoutWork.{IsGathered}
use Rattle.goal_cli.specs.Pages.{text_of}
use Rattle.goal_cli.specs.Stop.{IsRunAtCosts}
use Rattle.goal_cli.proofs.StopLemmas.{if_ok, is_run_output}
use Rattle.goal_cli.proofs.output.output_of.Goals as goal

pub returns-in-Run-clause-output : goal.returns-in-Run-clause-output
returns-in-Run-clause-output c =
    let s = c.args.request.now in
    let sched = c.args.sched.now in
    let machine = c.args.machine.now in
    if_ok c.run_costed.result (λ (output : Output). IsRunAtCosts (pricing s.costs) c.in-Run.how machine sched (text_of output) output.ending)
    (λ (output : Output). (input : Input) → IsGathered (requested s) sched machine input → IsOutput (requested s) input (text_of output) output.ending)
    (λ output paid input work. is_run_output (requested s) input sched machine c.in-Run.how (text_of output) output.ending c.in-Run.is work paid)
    c.run_costed.ensures.paid
