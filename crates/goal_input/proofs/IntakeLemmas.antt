-- What is known of an input that has come.
use Rattle.std.proofs.Common.{◌≡◌, ◌<◌, ◌≤◌, ℕ, Bool, List, [], ◌∷◌, length, IfErr, Result, arith}
use Rattle.std.specs.declared.result.Result.TheVariants.{Ok, Err}
use Rattle.goal_limits.specs.declared.limits.TheConstants.{MAX_INPUT}
use Rattle.goal_base.specs.Device.{HostState, SameReadCounts}
use Rattle.goal_input.specs.Input.{is_compiled}
use Rattle.goal_input.specs.declared.input_fault.InputFault.{InputFault}
use Rattle.goal_input.specs.declared.input_fault.InputFault.TheVariants as input_fault
use Rattle.goal_input.specs.declared.intake.Intake.{Intake}
use Rattle.goal_input.specs.InputFaults.{IsFaultIn, CountsReading}
use Rattle.goal_input.specs.Intake.{Begins, Stands}

-- an input that has a byte has a first one
pub nonempty_input_begins : (b : Bool) (input : List ℕ) → 0 < length input → is_compiled input ≡ b → Begins b input
nonempty_input_begins b [] some is = absurd (omega arith)
nonempty_input_begins b (x ∷ xs) some is = is

-- an input that was read to its end had no fault of the host
pub counts_at_end : {A : Type 0} (result : Result A InputFault) (a b : HostState) (faulted : Type 0) (kept : Intake) (input : List ℕ)
    → SameReadCounts a b → IfErr result (λ why. (input : List ℕ) → length input ≤ MAX_INPUT → Stands kept input → IsFaultIn input why)
    → length input ≤ MAX_INPUT → Stands kept input → CountsReading result a b faulted
counts_at_end (Ok sched) a b faulted kept input same why short stands = same
counts_at_end (Err input_fault.Fault) a b faulted kept input same why short stands = absurd (why input short stands)
counts_at_end (Err input_fault.TooLong) a b faulted kept input same why short stands = same
counts_at_end (Err (input_fault.Text fault)) a b faulted kept input same why short stands = same
counts_at_end (Err (input_fault.File fault)) a b faulted kept input same why short stands = same
counts_at_end (Err input_fault.NoMemory) a b faulted kept input same why short stands = same
