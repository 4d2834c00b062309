-- The bytes so far were read.
use Rattle.std.proofs.Common.{◌≡◌}
use Rattle.goal_parser.specs.TextRead.{bytes_read}
use Rattle.goal_tests.proofs.parser.read_by_bytes.Given as goal

abbrev pub invariant-loop-place : goal.invariant-loop-place
invariant-loop-place l = bytes_read l.reader ≡ l.place
