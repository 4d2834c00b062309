use Rattle.std.proofs.Common.{◌<◌, length, arith, false-eqb}
use Rattle.goal_lexer.proofs.FoundAheadLaws.{colon_found}
use Rattle.goal_lexer.proofs.ahead.begins_with_colon.Goals as goal

pub returns-then-not-is_empty : goal.returns-then-not-is_empty
returns-then-not-is_empty c is place =
    let rest = c.args.rest.now in
    let some : 0 < length rest = omega (arith, false-eqb (length rest) 0 c.if-not-is_empty.ensures) in
    colon_found rest some is place
