-- From the parts of a command to its output, or to why it has none.
use Rattle.std.proofs.Common.{◌≡◌, ℕ, ◌≤◌, List, length, Option, Some, None, Result, IfOk, IfErr, refl, sym, ap, ◌∙◌, subst}
use Rattle.std.specs.declared.result.Result.TheVariants.{Ok, Err}
use Rattle.goal_limits.specs.declared.limits.TheConstants.{MAX_INPUT}
use Rattle.goal_graph.specs.Schedule.{Plan}
use Rattle.sim_params.specs.Costs.{CostModel}
use Rattle.sim_classes.specs.Form as form
use Rattle.goal_words.specs.declared.request.RunView.{RunView}
use Rattle.goal_words.specs.declared.request.View.{View}
use Rattle.goal_words.specs.declared.request.View.TheVariants as view
use Rattle.goal_words.specs.Words.{Command, Pricing, ByNumbers, ByMachine, Unpriced}
use Rattle.goal_words.specs.Requests.{ShowsRun, PricedFor}
use Rattle.goal_cli.specs.declared.answer.Ending.{Ending}
use Rattle.goal_cli.specs.declared.answer.Refusal.TheVariants.{TooLong, Text, File, Machine, MachineRanks, Generator, Budget}
use Rattle.goal_cli.specs.declared.output.Stop.{Stop}
use Rattle.goal_cli.specs.declared.output.Stop.TheVariants.{Refused, NoMemory}
use Rattle.goal_cli.specs.Output.{Input, IsCosted, IsShownAs, IsOutput, EndsAs}
use Rattle.goal_cli.specs.WithoutWork.{IsGathered}
use Rattle.goal_cli.specs.Stop.{IsStop, IsRunAtCosts, IsRunRefused}

-- what holds at an error, and what holds otherwise
pub if_err : {A E : Type 0} (r : Result A E) (P Q : E → Type 0) → ((e : E) → P e → Q e) → IfErr r P → IfErr r Q
if_err (Ok a) P Q f h = tt
if_err (Err e) P Q f h = f e h

pub if_ok : {A E : Type 0} (r : Result A E) (P Q : A → Type 0) → ((a : A) → P a → Q a) → IfOk r P → IfOk r Q
if_ok (Ok a) P Q f h = f a h
if_ok (Err e) P Q f h = tt

-- a run that is shown
pub is_run_output : (c : Command) (input : Input) (sched : List Plan) (text : List ℕ) (how : RunView) (output : List ℕ) (e : Ending)
    → c.view ≡ view.Run how → IsGathered c sched text input → IsRunAtCosts c.costs how text sched output e → IsOutput c input output e
is_run_output c input sched text how output e is work paid = record {
  sched = sched;
  has = record {
    from = work.0;
    costs = Some paid.costs;
    costed = subst (λ (t : List ℕ). IsCosted c.costs t sched (Some paid.costs)) (sym work.1) paid.costed;
    fits = paid.fits;
  };
  shown = subst (λ (v : View). IsShownAs v (Some paid.costs) sched output e) (sym is) paid.shown;
}
