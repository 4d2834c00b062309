-- Why a command has no output.
use Rattle.std.specs.Prelude.{ℕ, ◌≡◌, ◌≢◌, ◌<◌, ◌≤◌, ◌^◌, List, length, true, is_some, Some, Ok, Err}
use Rattle.goal_graph.specs.Schedule.{Plan}
use Rattle.sim_params.specs.Costs.{CostModel}
use Rattle.sim_params.specs.Budget.{budget}
use Rattle.sim_classes.specs.Machine.{MachineModel}
use Rattle.sim_classes.specs.Form as form
use Rattle.sim_classes.specs.declared.fault.MachineFault.TheVariants as sayings
use Rattle.sim_state.specs.declared.fault.EngineFault.{EngineFault}
use Rattle.sim_state.specs.declared.fault.EngineFault.TheVariants as faults
use Rattle.goal_words.specs.declared.request.RunView.{RunView}
use Rattle.goal_words.specs.Words.{Command, Pricing}
use Rattle.goal_cli.specs.declared.answer.Ending.{Ending}
use Rattle.goal_cli.specs.declared.answer.Refusal.TheVariants as refusal
use Rattle.goal_cli.specs.declared.output.Stop.{Stop}
use Rattle.goal_cli.specs.declared.output.Stop.TheVariants.{Refused, NoMemory}
use Rattle.goal_cli.specs.Output.{machine_named, Input, IsCosted, IsRunShown, IsRefused}

-- a command has no output for this reason; it may always be out of memory
abbrev pub IsStop : Command → Input → Stop → Type 0
IsStop c input (Refused refusal) = IsRefused c input refusal
IsStop c input NoMemory = Unit {0}

-- why a command has no output if its engine is not built
abbrev pub stop_of : EngineFault → Stop
stop_of (faults.Budget sum) = Refused (refusal.Budget sum)
stop_of faults.NoMemory = NoMemory

-- the run of a schedule is shown, with the costs of its parameters or of the machine in this text
pub record IsRunAtCosts (p : Pricing) (how : RunView) (text : List ℕ) (sched : List Plan) (output : List ℕ) (e : Ending) : Type 0 where
  pub costs : CostModel
  pub costed : IsCosted p text sched (Some costs)
  pub fits : budget sched costs < 2 ^ 63
  pub shown : IsRunShown how costs sched output e

-- or it is not, for this reason; it may always be out of memory
abbrev pub IsRunRefused : Pricing → List ℕ → List Plan → Stop → Type 0
IsRunRefused p text sched (Refused (refusal.Machine fault)) =
    (is_some (machine_named p) ≡ true) × (fault ≢ sayings.NoMemory) × (form.machine text ≡ Err fault)
IsRunRefused p text sched (Refused (refusal.MachineRanks ranks)) =
    (is_some (machine_named p) ≡ true) × ((m : MachineModel) × (form.machine text ≡ Ok m) × (ranks ≡ length m.nodes)) × (ranks ≢ length sched)
IsRunRefused p text sched (Refused (refusal.Budget sum)) =
    (costs : CostModel) × IsCosted p text sched (Some costs) × (sum ≡ budget sched costs) × (2 ^ 63 ≤ sum)
IsRunRefused p text sched (Refused _) = ⊥
IsRunRefused p text sched NoMemory = Unit {0}
