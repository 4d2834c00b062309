-- The meaning of an input's bytes: the plans of a schedule, given as a compiled file or as a text.
use Rattle.std.specs.Prelude.{ℕ, ◌≡◌, ◌≢◌, ◌≤◌, ◌==◌, Bool, true, false, List, [], ◌∷◌, length, Ok, Some}
use Rattle.goal_limits.specs.Limits.{input_limit}
use Rattle.goal_graph.specs.Schedule.{Plan}
use Rattle.goal_graph.specs.Fault.{IsAccepted}
use Rattle.goal_parser.specs.declared.faults.TextFault.{TextFault}
use Rattle.goal_parser.specs.declared.faults.TextFault.TheVariants as text
use Rattle.goal_parser.specs.Reads.{reads, plans, IsFaultOf}
use Rattle.goal_binary.specs.declared.fault.FileFault.{FileFault}
use Rattle.goal_binary.specs.declared.fault.FileFault.TheVariants as file
use Rattle.goal_binary.specs.Meaning.{meaning, IsFileFault}
use Rattle.goal_base.specs.Device.{HostState, file_of}

-- a compiled file begins with the byte 0x89; any other input, also an empty one, is a text
abbrev pub is_compiled : List ℕ → Bool
is_compiled [] = false
is_compiled (b ∷ bs) = b == 137

abbrev pub SaysBy : Bool → List ℕ → List Plan → Type 0
SaysBy true input sched = meaning input ≡ Ok sched
SaysBy false input sched = reads input ≡ plans sched

-- the input has at most 2^27 bytes, and means this accepted schedule
pub record IsReadAs (input : List ℕ) (sched : List Plan) : Type 0 where
  pub short : length input ≤ input_limit
  pub says : SaysBy (is_compiled input) input sched
  pub accepted : IsAccepted sched

-- the input has at most 2^27 bytes and is a text, and this is its first fault or that of its plans
pub record IsTextFault (input : List ℕ) (fault : TextFault) : Type 0 where
  pub short : length input ≤ input_limit
  pub form : is_compiled input ≡ false
  pub told : fault ≢ text.NoMemory
  pub first : IsFaultOf (reads input) fault

-- the same for a compiled file
pub record IsFaultOfFile (input : List ℕ) (fault : FileFault) : Type 0 where
  pub short : length input ≤ input_limit
  pub form : is_compiled input ≡ true
  pub told : fault ≢ file.NoMemory
  pub first : IsFileFault input fault

-- where the contents of the host are known, the file exists, and P holds of its bytes
abbrev pub ForFile : HostState → List ℕ → (List ℕ → Type 0) → Type 0
ForFile host name P = host.tells ≡ true → (input : List ℕ) × (file_of host name ≡ Some input) × P input

-- where the contents of the host are known and the file exists, P holds of its bytes
abbrev pub IfFile : HostState → List ℕ → (List ℕ → Type 0) → Type 0
IfFile host name P = host.tells ≡ true → (input : List ℕ) → file_of host name ≡ Some input → P input
