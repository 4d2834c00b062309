-- What a command reads, what it writes, and why it refuses. Each part is defined once: the source gives the schedule,
-- the costs its prices, and the view what is written and how that ends.
use Rattle.std.specs.Prelude.{ℕ, ◌≡◌, ◌≢◌, ◌⊎◌, ◌<◌, ◌≤◌, ◌^◌, Bool, true, false, List, length, Option, Some, None, is_some, IfSome, IsSomeAnd, Ok, Err}
use Rattle.goal_limits.specs.Limits.{input_limit}
use Rattle.goal_graph.specs.Schedule.{Plan}
use Rattle.sim_params.specs.Costs.{Numbers, CostModel, log_gops}
use Rattle.sim_params.specs.Budget.{budget}
use Rattle.sim_classes.specs.Machine.{MachineModel, costs_of}
use Rattle.sim_classes.specs.Form as form
use Rattle.sim_classes.specs.declared.fault.MachineFault.{MachineFault}
use Rattle.sim_classes.specs.declared.fault.MachineFault.TheVariants as sayings
use Rattle.goal_parser.specs.Reads as text
use Rattle.goal_print.specs.Canonical.{canonical}
use Rattle.goal_binary.specs.File.{file}
use Rattle.goal_limits.specs.declared.collective.Collective.{Collective}
use Rattle.goal_blocks.specs.Generated.{made, IsPossible}
use Rattle.goal_blocks.specs.declared.gen_fault.GenFault.{GenFault}
use Rattle.goal_blocks.specs.declared.gen_fault.GenFault.TheVariants as gen
use Rattle.goal_blocks.specs.GenFaults.{IsGenFault}
use Rattle.goal_collectives.specs.Probe.{probed}
use Rattle.goal_words.specs.declared.request.Source.{Source}
use Rattle.goal_words.specs.declared.request.Source.TheVariants as source
use Rattle.goal_words.specs.declared.request.RunView.{RunView}
use Rattle.goal_words.specs.declared.request.View.{View}
use Rattle.goal_words.specs.declared.request.View.TheVariants as view
use Rattle.goal_words.specs.Words.{Command, Pricing, ByNumbers, ByMachine, Unpriced}
use Rattle.goal_views.specs.Views.{IsShownRun}
use Rattle.goal_input.specs.Input.{IsReadAs, IsTextFault, IsFaultOfFile}
use Rattle.goal_cli.specs.declared.answer.Ending.{Ending}
use Rattle.goal_cli.specs.declared.answer.Ending.TheVariants as ending
use Rattle.goal_cli.specs.declared.answer.Refusal.{Refusal}
use Rattle.goal_cli.specs.declared.answer.Refusal.TheVariants as refusal
use Rattle.goal_cli.specs.Verdict.{IsVerdictOn}

-- The name of the file with the schedule; None if the schedule is generated.
abbrev pub named_by : Source → Option (List ℕ)
named_by (source.File name) = Some name
named_by (source.Made what ranks bytes) = None
named_by (source.Drawn rounds seed) = None

-- the name of the file with the machine, if there is one
abbrev pub machine_named : Pricing → Option (List ℕ)
machine_named (ByNumbers numbers) = None
machine_named (ByMachine name) = Some name
machine_named Unpriced = None

abbrev pub input_of : Command → Option (List ℕ)
input_of c = named_by c.source

abbrev pub machine_of : Command → Option (List ℕ)
machine_of c = machine_named c.costs

abbrev pub HasInput : Command → Type 0
HasInput c = is_some (input_of c) ≡ true

abbrev pub HasMachine : Command → Type 0
HasMachine c = is_some (machine_of c) ≡ true

-- What a command reads: the bytes of the schedule's file and of the machine's; empty if there is no such file.
pub record Input : Type 0 where
  pub schedule : List ℕ
  pub machine : List ℕ

abbrev pub input_with : List ℕ → List ℕ → Input
input_with schedule machine = record { schedule = schedule; machine = machine }

-- the collective has a schedule for this number of ranks, with messages of `bytes` bytes, and this is it
pub record IsMade (what : Collective) (ranks bytes : ℕ) (sched : List Plan) : Type 0 where
  pub possible : IsPossible what ranks
  pub made : sched ≡ made what ranks bytes

-- the schedule of a source, with this text of its file
abbrev pub IsFrom : Source → List ℕ → List Plan → Type 0
IsFrom (source.File name) text sched = IsReadAs text sched
IsFrom (source.Made what ranks bytes) text sched = IsMade what ranks bytes sched
IsFrom (source.Drawn rounds seed) text sched = sched ≡ probed rounds seed

-- the text describes a machine with a node for each rank of the schedule
pub record IsMachineFor (text : List ℕ) (sched : List Plan) (m : MachineModel) : Type 0 where
  pub short : length text ≤ input_limit
  pub said : form.machine text ≡ Ok m
  pub ranks : length m.nodes ≡ length sched

-- the costs of its actions, with this text of the machine; None if it is not run
abbrev pub IsCosted : Pricing → List ℕ → List Plan → Option CostModel → Type 0
IsCosted (ByNumbers numbers) text sched costs = costs ≡ Some (log_gops numbers)
IsCosted (ByMachine name) text sched costs = (m : MachineModel) × IsMachineFor text sched m × (costs ≡ Some (costs_of m))
IsCosted Unpriced text sched costs = costs ≡ None

-- A command has an output: there is a schedule with its costs, and if it is run, its time budget is at most
-- 2^63-1.
pub record HasOutput (c : Command) (input : Input) (sched : List Plan) : Type 0 where
  pub from : IsFrom c.source input.schedule sched
  pub costs : Option CostModel
  pub costed : IsCosted c.costs input.machine sched costs
  pub fits : IfSome costs (λ k. budget sched k < 2 ^ 63)

-- the input means a schedule, whose time budget with these costs is at most 2^63-1
pub record CanRun (costs : CostModel) (input : List ℕ) (sched : List Plan) : Type 0 where
  pub read : IsReadAs input sched
  pub fits : budget sched costs < 2 ^ 63

-- the same with the costs of these parameters, and with those of a machine in a text, which has a node for each rank
abbrev pub HasRun : Numbers → List ℕ → List Plan → Type 0
HasRun numbers input sched = CanRun (log_gops numbers) input sched

abbrev pub HasRunOn : MachineModel → List ℕ → List ℕ → List Plan → Type 0
HasRunOn m schedule machine sched = CanRun (costs_of m) schedule sched × IsMachineFor machine sched m

-- how a command ends by its run
abbrev pub ending_if : Bool → Ending
ending_if true = ending.Stuck
ending_if false = ending.Done

-- the output shows the run of the schedule in this way, with this ending
pub record IsRunShown (how : RunView) (costs : CostModel) (sched : List Plan) (output : List ℕ) (e : Ending) : Type 0 where
  pub stuck : Bool
  pub run : IsShownRun how costs sched output stuck
  pub ends : e ≡ ending_if stuck

-- the output is the canonical text of the schedule, and reading it gives the schedule back
pub record IsText (sched : List Plan) (output : List ℕ) : Type 0 where
  pub shown : output ≡ canonical sched
  pub read_back : text.reads output ≡ text.plans sched

-- the output is its compiled file, and means the same schedule
pub record IsCompiled (sched : List Plan) (output : List ℕ) : Type 0 where
  pub compiled : output ≡ file sched
  pub again : IsReadAs output sched

-- the output shows the schedule in this view, run with these costs if it is run, with this ending: a row for each view
abbrev pub IsShownAs : View → Option CostModel → List Plan → List ℕ → Ending → Type 0
IsShownAs (view.Run how) costs sched output e = IsSomeAnd costs (λ k. IsRunShown how k sched output e)
IsShownAs view.Text costs sched output e = IsText sched output × (e ≡ ending.Done)
IsShownAs (view.File name) costs sched output e = IsCompiled sched output × (e ≡ ending.Done)
IsShownAs (view.Verdict what) costs sched output e = IsVerdictOn what sched output e

-- The output of a command for its input, and how it ends. A command without an input reads nothing.
pub record IsOutput (c : Command) (input : Input) (output : List ℕ) (e : Ending) : Type 0 where
  pub sched : List Plan
  pub has : HasOutput c input sched
  pub shown : IsShownAs c.view has.costs sched output e

-- the endings of a view: a run may have a stuck operation, and a verdict may be a fault
abbrev pub EndsAs : View → Ending → Type 0
EndsAs (view.Run how) e = (stuck : Bool) × (e ≡ ending_if stuck)
EndsAs view.Text e = e ≡ ending.Done
EndsAs (view.File name) e = e ≡ ending.Done
EndsAs (view.Verdict what) e = (e ≡ ending.Done) ⊎ (e ≡ ending.NotCertified)

abbrev pub MayEnd : Command → Ending → Type 0
MayEnd c e = EndsAs c.view e

-- a collective has no schedule for this number of ranks, for this first reason
pub record IsNotMade (what : Collective) (ranks : ℕ) (fault : GenFault) : Type 0 where
  pub told : fault ≢ gen.NoMemory
  pub first : IsGenFault what ranks fault

-- a source has no schedule for this reason, whatever its file
abbrev pub IsNotFrom : Source → GenFault → Type 0
IsNotFrom (source.File name) fault = ⊥
IsNotFrom (source.Made what ranks bytes) fault = IsNotMade what ranks fault
IsNotFrom (source.Drawn rounds seed) fault = ⊥

-- there is a schedule, and its machine, which is not too long, has this first fault
pub record IsMachineFault (c : Command) (input : Input) (fault : MachineFault) : Type 0 where
  pub sched : List Plan
  pub from : IsFrom c.source input.schedule sched
  pub short : length input.machine ≤ input_limit
  pub told : fault ≢ sayings.NoMemory
  pub first : form.machine input.machine ≡ Err fault

-- or the machine has a node for each of `ranks` ranks, which is not the schedule's number of ranks
pub record IsForOtherRanks (c : Command) (input : Input) (ranks : ℕ) : Type 0 where
  pub sched : List Plan
  pub known : MachineModel
  pub from : IsFrom c.source input.schedule sched
  pub short : length input.machine ≤ input_limit
  pub said : form.machine input.machine ≡ Ok known
  pub ranks_are : ranks ≡ length known.nodes
  pub other : ranks ≢ length sched

-- there is a schedule to run, whose time budget with its costs is this sum, and more than 2^63-1
pub record IsOverBudget (c : Command) (input : Input) (sum : ℕ) : Type 0 where
  pub sched : List Plan
  pub from : IsFrom c.source input.schedule sched
  pub costs : CostModel
  pub costed : IsCosted c.costs input.machine sched (Some costs)
  pub sum_is : sum ≡ budget sched costs
  pub over : 2 ^ 63 ≤ sum

-- a file has more than 2^27 bytes
abbrev pub IsTooLong : Command → Input → Type 0
IsTooLong c input = (HasInput c × (input_limit < length input.schedule)) ⊎ (HasMachine c × (input_limit < length input.machine))

-- Why the command refuses its input or its words: the first of these that applies. A fault of the source comes only if
-- the machine is not too long.
abbrev pub IsRefused : Command → Input → Refusal → Type 0
IsRefused c input refusal.TooLong = IsTooLong c input
IsRefused c input (refusal.Text fault) = HasInput c × (length input.machine ≤ input_limit) × IsTextFault input.schedule fault
IsRefused c input (refusal.File fault) = HasInput c × (length input.machine ≤ input_limit) × IsFaultOfFile input.schedule fault
IsRefused c input (refusal.Generator fault) = (length input.machine ≤ input_limit) × IsNotFrom c.source fault
IsRefused c input (refusal.Machine fault) = HasMachine c × IsMachineFault c input fault
IsRefused c input (refusal.MachineRanks ranks) = HasMachine c × IsForOtherRanks c input ranks
IsRefused c input (refusal.Budget sum) = IsOverBudget c input sum
