use Rattle.std.proofs.Common.{◌∙◌, arith}
use Rattle.goal_collectives.proofs.Cases.{round_of_third, allreduce_by_rounds}
use Rattle.goal_collectives.proofs.steps.allreduce_step.Goals as goal

pub flipped-other-requires-clause-round : goal.flipped-other-requires-clause-round
flipped-other-requires-clause-round c =
    let round = round_of_third c.args.ranks c.args.number c.requires.few c.requires.number in
    omega (arith, round.0)

pub round_step-requires : goal.round_step-requires
round_step-requires c =
    let round = round_of_third c.args.ranks c.args.number c.requires.few c.requires.number in
    omega (arith, round.0)

pub returns : goal.returns
returns c =
    rw c.flipped-other.ensures at c.round_step.ensures
    ∙ allreduce_by_rounds c.args.bytes c.args.rank c.args.number
