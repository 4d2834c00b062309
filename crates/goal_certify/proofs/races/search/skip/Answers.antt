use Rattle.std.proofs.Common.{arith}
use Rattle.goal_certify.proofs.Rows.{no_word}
use Rattle.goal_certify.proofs.races.search.skip.Goals as goal

pub returns-then-shared-first-eq0-clause-none : goal.returns-then-shared-first-eq0-clause-none
returns-then-shared-first-eq0-clause-none c y low high =
    no_word c.args.shared.now c.args.first y _ c.if-shared-first-eq0.true (omega arith)
