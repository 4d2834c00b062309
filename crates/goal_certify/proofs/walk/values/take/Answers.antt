use Rattle.std.proofs.Common.{arith}
use Rattle.goal_certify.proofs.Places.{rank_below}
use Rattle.goal_certify.proofs.walk.values.take.Goals as goal

pub write-requires-clause-rank : goal.write-requires-clause-rank
write-requires-clause-rank c =
    omega (arith, rank_below c.args.table.now c.args.recv c.requires.exists, c.requires.ranks)
