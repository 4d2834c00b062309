use Rattle.std.proofs.Common.{◌∙◌, arith}
use Rattle.goal_collectives.proofs.Cases.{round_of_third, barrier_by_rounds}
use Rattle.goal_collectives.proofs.steps.barrier_step.Goals as goal

pub power-distance-requires : goal.power-distance-requires
power-distance-requires c =
    let round = round_of_third c.args.ranks c.args.number c.requires.few c.requires.number in
    omega (arith, round.0)

pub ahead-to-requires-clause-steps : goal.ahead-to-requires-clause-steps
ahead-to-requires-clause-steps c =
    let round = round_of_third c.args.ranks c.args.number c.requires.few c.requires.number in
    omega (arith, round.1, c.power-distance.ensures)

pub back-from-requires-clause-steps : goal.back-from-requires-clause-steps
back-from-requires-clause-steps c =
    let round = round_of_third c.args.ranks c.args.number c.requires.few c.requires.number in
    omega (arith, round.1, c.power-distance.ensures)

pub round_step-requires : goal.round_step-requires
round_step-requires c =
    let round = round_of_third c.args.ranks c.args.number c.requires.few c.requires.number in
    omega (arith, round.0)

pub returns : goal.returns
returns c =
    rw (c.ahead-to.ensures.is, c.back-from.ensures.is, c.power-distance.ensures) at c.round_step.ensures
    ∙ barrier_by_rounds c.args.ranks c.args.bytes c.args.rank c.args.number
