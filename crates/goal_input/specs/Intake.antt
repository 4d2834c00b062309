-- What is kept of an input that comes in pieces.
use Rattle.std.specs.Prelude.{ℕ, ◌≡◌, ◌≢◌, ◌+◌, ◌≤◌, ◌==◌, Bool, true, false, List, [], ◌∷◌, length}
use Rattle.goal_limits.specs.Limits.{input_limit}
use Rattle.goal_base.specs.Device.{HostState}
use Rattle.goal_base.specs.DeviceCalls.{Takes}
use Rattle.goal_parser.specs.declared.faults.TextFault.TheVariants as text
use Rattle.goal_binary.specs.declared.fault.FileFault.TheVariants as file
use Rattle.goal_input.specs.declared.input_fault.InputFault.{InputFault}
use Rattle.goal_input.specs.declared.input_fault.InputFault.TheVariants as input_fault
use Rattle.goal_input.specs.declared.intake.Intake.{Intake}
use Rattle.goal_input.specs.declared.intake.Intake.TheVariants as intake
use Rattle.goal_input.specs.Input.{IsTextFault, IsFaultOfFile}
use Rattle.goal_input.specs.InputFaults.{IsFaultIn}
use Rattle.goal_input.specs.Follows.{Follows}

-- the input has a first byte, and `compiled` says whether it is that of a compiled file
abbrev pub Begins : Bool → List ℕ → Type 0
Begins compiled [] = ⊥
Begins compiled (b ∷ bs) = (b == 137) ≡ compiled

-- this is kept of these bytes
abbrev pub Stands : Intake → List ℕ → Type 0
Stands intake.Nothing input = input ≡ []
Stands (intake.Text reader) input = Begins false input × Follows reader input
Stands (intake.File bytes) input = Begins true input × (bytes.items ≡ input)

-- with this piece, at most one byte more has come than an input may have
abbrev pub HasRoom : Intake → List ℕ → Type 0
HasRoom kept piece = (input : List ℕ) × Stands kept input × (length input + length piece ≤ input_limit + 1)

-- `count` bytes were read from the input of a host, and this is kept of them
pub record HasTaken (old new : HostState) (kept : Intake) (count : ℕ) : Type 0 where
  pub input : List ℕ
  pub counted : length input ≡ count
  pub stands : Stands kept input
  pub takes : Takes old new input

-- the rest of the open input gives no schedule for this reason; `IsInputFault` says the same of a file
abbrev pub IsRestFault : HostState → InputFault → Type 0
IsRestFault host input_fault.Fault = Unit {0}
IsRestFault host input_fault.TooLong = host.tells ≡ true → IsFaultIn host.rest input_fault.TooLong
IsRestFault host (input_fault.Text fault) = (fault ≢ text.NoMemory) × (host.tells ≡ true → IsTextFault host.rest fault)
IsRestFault host (input_fault.File fault) = (fault ≢ file.NoMemory) × (host.tells ≡ true → IsFaultOfFile host.rest fault)
IsRestFault host input_fault.NoMemory = Unit {0}
