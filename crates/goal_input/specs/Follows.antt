-- The state of a text reader after the bytes that it was given.
use Rattle.std.specs.Prelude.{ℕ, ◌≡◌, ◌≢◌, ◌++◌, List, length, Option, Some, None}
use Rattle.goal_parser.specs.declared.faults.TextFault.{TextFault}
use Rattle.goal_parser.specs.declared.faults.TextFault.TheVariants as text
use Rattle.goal_parser.specs.declared.pieces.TextReader.{TextReader}
use Rattle.goal_parser.specs.Reads.{reads, faulty}
use Rattle.goal_parser.specs.TextRead.{HasRead, bytes_read, fault_met}

-- it has read them, or has met the fault of each text that begins with them
abbrev pub FollowsAt : Option TextFault → TextReader → List ℕ → Type 0
FollowsAt None r input = HasRead r input × (bytes_read r ≡ length input)
FollowsAt (Some fault) r input = (fault ≢ text.NoMemory) × ((more : List ℕ) → reads (input ++ more) ≡ faulty fault)

abbrev pub Follows : TextReader → List ℕ → Type 0
Follows r input = FollowsAt (fault_met r) r input
