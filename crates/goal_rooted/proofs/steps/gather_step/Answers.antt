use Rattle.std.proofs.Common.{arith}
use Rattle.goal_blocks.proofs.ForCallers.{gather_sends, gather_hears}
use Rattle.goal_rooted.proofs.RootedCases.{round_has_child}
use Rattle.goal_rooted.proofs.steps.gather_step.Goals as goal

pub returns-then-rounds-number : goal.returns-then-rounds-number
returns-then-rounds-number c =
    rw (c.send.ensures, c.parent-to.ensures, c.low.ensures, c.share-slots.ensures.moves, c.share-slots.ensures.adds, c.part.ensures.is, c.children-rounds.ensures)
    (gather_sends c.args.ranks c.args.root c.args.bytes c.args.rank c.args.number (omega (arith, c.children-rounds.ensures)))

pub power-size-requires : goal.power-size-requires
power-size-requires c =
    let child = round_has_child c.args.ranks c.args.rank c.args.number c.requires.few c.requires.rank (omega (arith, c.children-rounds.ensures)) in
    omega (arith, child.few)

pub overflow_add-child : goal.overflow_add-child
overflow_add-child c =
    let child = round_has_child c.args.ranks c.args.rank c.args.number c.requires.few c.requires.rank (omega (arith, c.children-rounds.ensures)) in
    omega (arith, child.child, c.power-size.ensures)

pub ahead-from-requires-clause-rank : goal.ahead-from-requires-clause-rank
ahead-from-requires-clause-rank c =
    let child = round_has_child c.args.ranks c.args.rank c.args.number c.requires.few c.requires.rank (omega (arith, c.children-rounds.ensures)) in
    omega (arith, child.child, c.power-size.ensures)

pub share-requires-clause-rank : goal.share-requires-clause-rank
share-requires-clause-rank c =
    let child = round_has_child c.args.ranks c.args.rank c.args.number c.requires.few c.requires.rank (omega (arith, c.children-rounds.ensures)) in
    omega (arith, child.child, c.power-size.ensures)

pub share-requires-clause-size : goal.share-requires-clause-size
share-requires-clause-size c =
    let child = round_has_child c.args.ranks c.args.rank c.args.number c.requires.few c.requires.rank (omega (arith, c.children-rounds.ensures)) in
    omega (arith, child.child, c.power-size.ensures)

pub returns : goal.returns
returns c =
    rw (c.receive.ensures, c.ahead-from.ensures.is, c.share.ensures.moves, c.share.ensures.adds, c.power-size.ensures)
    (gather_hears c.args.ranks c.args.root c.args.bytes c.args.rank c.args.number (omega (arith, c.children-rounds.ensures)))
