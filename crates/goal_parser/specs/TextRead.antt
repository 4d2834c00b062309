-- The texts that a reader in pieces has read.
use Rattle.std.specs.Prelude.{◌≡◌, ℕ, List, Option, None}
use Rattle.goal_parser.specs.declared.pieces.TextReader.{TextReader}
use Rattle.goal_parser.specs.declared.faults.TextFault.{TextFault}
use Rattle.goal_parser.specs.Reader.{StandsFor}

-- the number of bytes taken
abbrev pub bytes_read : TextReader → ℕ
bytes_read r = r.reader.place

-- the fault that was met, if any
abbrev pub fault_met : TextReader → Option TextFault
fault_met r = r.fault

-- It has read the text: it met no fault, and its state is what the text gives.
pub record HasRead (r : TextReader) (text : List ℕ) : Type 0 where
  pub faultless : r.fault ≡ None
  pub stands : StandsFor r.reader text
