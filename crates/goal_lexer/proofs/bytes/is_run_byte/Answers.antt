use Rattle.std.proofs.Common.{arith}
use Rattle.goal_lexer.proofs.RunBytes.{marked_iff_run_byte}
use Rattle.goal_lexer.proofs.bytes.is_run_byte.Goals as goal

pub returns : goal.returns
returns c = marked_iff_run_byte c.args.byte (omega (arith, c.ranges.byte))
