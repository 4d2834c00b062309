-- With which number the program ends.
use Rattle.std.specs.Prelude.{ℕ}
use Rattle.std.specs.declared.io.ErrorKind.{ErrorKind}
use Rattle.std.specs.declared.io.ErrorKind.TheVariants.{OutOfMemory}
use Rattle.goal_cli.specs.declared.answer.Status.{Status}
use Rattle.goal_cli.specs.declared.answer.Status.TheVariants as status

-- the number of a status
abbrev pub number_of : Status → ℕ
number_of status.Done = 0
number_of status.Stuck = 1
number_of status.BadLine = 2
number_of status.Refused = 3
number_of status.ReadFault = 4
number_of status.WriteFault = 5
number_of status.NotCertified = 6
number_of status.NoMemory = 7

-- the number where the system does not hand over the words, by the kind of its error
abbrev pub number_without_words : ErrorKind → ℕ
number_without_words OutOfMemory = 7
number_without_words _ = 8
