use Rattle.std.proofs.Common.{ℕ, List}
use Rattle.sim_params.specs.Numbers.{numbers}
use Rattle.goal_words.specs.Words.{ByNumbers, ByMachine}
use Rattle.goal_cli.specs.declared.output.Stop.{Stop}
use Rattle.goal_cli.specs.Stop.{IsRunRefused}
use Rattle.goal_cli.proofs.StopLemmas.{if_err}
use Rattle.goal_cli.proofs.output.run_counted.Goals as goal

pub returns-in-Params-clause-stop : goal.returns-in-Params-clause-stop
returns-in-Params-clause-stop g c =
    let p = ByNumbers (numbers c.in-Params.params) in
    rw c.in-Params.is
    (if_err c.run_with.result (λ (stop : Stop). (text : List ℕ) → IsRunRefused p text c.args.sched.now stop)
    (λ (stop : Stop). IsRunRefused p c.args.text.now c.args.sched.now stop) (λ stop all. all c.args.text.now) c.run_with.ensures.stop)

pub returns-in-Machine-clause-stop : goal.returns-in-Machine-clause-stop
returns-in-Machine-clause-stop g c =
    rw c.in-Machine.is
    (if_err c.run_on.result (λ (stop : Stop). (name : List ℕ) → IsRunRefused (ByMachine name) c.args.text.now c.args.sched.now stop)
    (λ (stop : Stop). IsRunRefused (ByMachine c.in-Machine.field-0) c.args.text.now c.args.sched.now stop) (λ stop all. all c.in-Machine.field-0)
    c.run_on.ensures.stop)
