use Rattle.std.proofs.Common.{◌/◌, arith}
use Rattle.goal_blocks.proofs.ForCallers.{rounds_few, reduce_sends, reduce_hears, reduce_sums}
use Rattle.goal_rooted.proofs.RootedCases.{round_has_child}
use Rattle.goal_rooted.proofs.steps.reduce_step.Goals as goal

pub earlier_sum-requires : goal.earlier_sum-requires
earlier_sum-requires c = omega (arith, rounds_few c.args.ranks c.requires.few c.args.rank, c.children-rounds.ensures)

pub returns-then-rounds-round : goal.returns-then-rounds-round
returns-then-rounds-round c =
    rw (c.send.ensures, c.slot.ensures, c.parent-to.ensures, c.low.ensures, c.earlier_sum.ensures, c.children-rounds.ensures)
    (reduce_sends c.args.ranks c.args.root c.args.bytes c.args.rank c.args.number (omega (arith, c.children-rounds.ensures)))

pub power-requires : goal.power-requires
power-requires c =
    let child = round_has_child c.args.ranks c.args.rank (c.args.number / 2) c.requires.few c.requires.rank (omega (arith, c.children-rounds.ensures)) in
    omega (arith, child.few)

pub overflow_add-rank : goal.overflow_add-rank
overflow_add-rank c =
    let child = round_has_child c.args.ranks c.args.rank (c.args.number / 2) c.requires.few c.requires.rank (omega (arith, c.children-rounds.ensures)) in
    omega (arith, child.child, c.power.ensures)

pub ahead-child-requires-clause-rank : goal.ahead-child-requires-clause-rank
ahead-child-requires-clause-rank c =
    let child = round_has_child c.args.ranks c.args.rank (c.args.number / 2) c.requires.few c.requires.rank (omega (arith, c.children-rounds.ensures)) in
    omega (arith, child.child, c.power.ensures)

pub returns-then-number-eq0 : goal.returns-then-number-eq0
returns-then-number-eq0 c =
    rw (c.receive.ensures, c.slot-then-number-eq0.ensures, c.ahead-child.ensures.is, c.power.ensures)
    (reduce_hears c.args.ranks c.args.root c.args.bytes c.args.rank c.args.number (omega (arith, c.children-rounds.ensures)) c.if-number-eq0.true)

pub before_sum-requires : goal.before_sum-requires
before_sum-requires c =
    let child = round_has_child c.args.ranks c.args.rank (c.args.number / 2) c.requires.few c.requires.rank (omega (arith, c.children-rounds.ensures)) in
    omega (arith, child.few)

pub returns : goal.returns
returns c =
    rw (c.sum.ensures, c.before_sum.ensures)
    (reduce_sums c.args.ranks c.args.root c.args.bytes c.args.rank c.args.number (omega (arith, c.children-rounds.ensures)) (omega arith))
