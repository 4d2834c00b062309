-- Why a file gives no schedule.
use Rattle.std.specs.Prelude.{ℕ, ◌≢◌, ◌<◌, List, length, Result, Ok, Err}
use Rattle.goal_limits.specs.Limits.{input_limit}
use Rattle.goal_base.specs.Device.{HostState, Later, KeepsFiles, SameReadCounts}
use Rattle.goal_parser.specs.declared.faults.TextFault.TheVariants as text
use Rattle.goal_binary.specs.declared.fault.FileFault.TheVariants as file
use Rattle.goal_input.specs.declared.input_fault.InputFault.{InputFault}
use Rattle.goal_input.specs.declared.input_fault.InputFault.TheVariants as input_fault
use Rattle.goal_input.specs.Input.{IsTextFault, IsFaultOfFile, ForFile}

-- an input gives no schedule for this reason; any input may run out of memory
abbrev pub IsFaultIn : List ℕ → InputFault → Type 0
IsFaultIn input input_fault.Fault = ⊥
IsFaultIn input input_fault.TooLong = input_limit < length input
IsFaultIn input (input_fault.Text fault) = IsTextFault input fault
IsFaultIn input (input_fault.File fault) = IsFaultOfFile input fault
IsFaultIn input input_fault.NoMemory = Unit {0}

-- A file gives no schedule for this reason. Out of memory is always possible, and is not a fault of a text or of a
-- compiled file; `CountsReading` says when the host has a fault.
abbrev pub IsInputFault : HostState → List ℕ → InputFault → Type 0
IsInputFault host name input_fault.Fault = Unit {0}
IsInputFault host name input_fault.TooLong = ForFile host name (λ input. IsFaultIn input input_fault.TooLong)
IsInputFault host name (input_fault.Text fault) = (fault ≢ text.NoMemory) × ForFile host name (λ input. IsTextFault input fault)
IsInputFault host name (input_fault.File fault) = (fault ≢ file.NoMemory) × ForFile host name (λ input. IsFaultOfFile input fault)
IsInputFault host name input_fault.NoMemory = Unit {0}

-- the counts of reading after a schedule was read: for Fault as `faulted` says, and unchanged otherwise
abbrev pub CountsReading : {A : Type 0} → Result A InputFault → HostState → HostState → Type 0 → Type 0
CountsReading (Ok a) old new faulted = SameReadCounts old new
CountsReading (Err input_fault.Fault) old new faulted = faulted
CountsReading (Err input_fault.TooLong) old new faulted = SameReadCounts old new
CountsReading (Err (input_fault.Text fault)) old new faulted = SameReadCounts old new
CountsReading (Err (input_fault.File fault)) old new faulted = SameReadCounts old new
CountsReading (Err input_fault.NoMemory) old new faulted = SameReadCounts old new

-- A schedule was read from a file, or the reading was refused. No file and no output changes.
pub record ReadsSchedule {A : Type 0} (result : Result A InputFault) (old new : HostState) (faulted : Type 0) : Type 0 where
  pub counts : CountsReading result old new faulted
  pub kept : KeepsFiles old new
  pub later : Later old new
