use Rattle.std.proofs.Common.{refl, arith}
use Rattle.goal_rooted.proofs.RootedCases.{round_has_child}
use Rattle.goal_rooted.proofs.steps.give_step.Goals as goal

pub power-size-requires : goal.power-size-requires
power-size-requires c =
    let child = round_has_child c.args.ranks c.args.rank c.args.round c.requires.few c.requires.rank c.requires.round in
    omega (arith, child.few)

pub overflow_add-child : goal.overflow_add-child
overflow_add-child c =
    let child = round_has_child c.args.ranks c.args.rank c.args.round c.requires.few c.requires.rank c.requires.round in
    omega (arith, child.child, c.power-size.ensures)

pub ahead-to-requires-clause-rank : goal.ahead-to-requires-clause-rank
ahead-to-requires-clause-rank c =
    let child = round_has_child c.args.ranks c.args.rank c.args.round c.requires.few c.requires.rank c.requires.round in
    omega (arith, child.child, c.power-size.ensures)

pub share-requires-clause-rank : goal.share-requires-clause-rank
share-requires-clause-rank c =
    let child = round_has_child c.args.ranks c.args.rank c.args.round c.requires.few c.requires.rank c.requires.round in
    omega (arith, child.child, c.power-size.ensures)

pub share-requires-clause-size : goal.share-requires-clause-size
share-requires-clause-size c =
    let child = round_has_child c.args.ranks c.args.rank c.args.round c.requires.few c.requires.rank c.requires.round in
    omega (arith, child.child, c.power-size.ensures)

pub returns : goal.returns
returns c = rw (c.send.ensures, c.ahead-to.ensures.is, c.share.ensures.moves, c.share.ensures.adds, c.power-size.ensures) refl
