use Rattle.std.proofs.Common.{◌∙◌, arith}
use Rattle.goal_collectives.proofs.Cases.{bcast_at_root, bcast_receives, bcast_sends, root_round, other_round, own_round}
use Rattle.goal_collectives.proofs.steps.bcast_step.Goals as goal

pub bcast_send-requires-clause-round : goal.bcast_send-requires-clause-round
bcast_send-requires-clause-round c =
    let round = root_round c.args.ranks c.args.rank c.args.number c.requires.few c.requires.rank c.if-rank-eq0.true c.requires.number in
    omega arith

pub bcast_send-requires-clause-child : goal.bcast_send-requires-clause-child
bcast_send-requires-clause-child c =
    (root_round c.args.ranks c.args.rank c.args.number c.requires.few c.requires.rank c.if-rank-eq0.true c.requires.number).child

pub returns-then-rank-eq0 : goal.returns-then-rank-eq0
returns-then-rank-eq0 c =
    c.bcast_send.ensures ∙ bcast_at_root c.args.ranks c.args.root c.args.bytes c.args.rank c.args.number c.if-rank-eq0.true

pub overflow_sub-round : goal.overflow_sub-round
overflow_sub-round c =
    let own = own_round c.args.rank (omega arith) (omega arith) in
    omega arith

pub power-requires : goal.power-requires
power-requires c =
    let own = own_round c.args.rank (omega arith) (omega arith) in
    omega arith

pub overflow_sub-rank : goal.overflow_sub-rank
overflow_sub-rank c =
    let own = own_round c.args.rank (omega arith) (omega arith) in
    let is = rw c.digits-own.ensures at c.power.ensures in
    omega (arith, own.parent, is)

pub returns-then-number-eq0 : goal.returns-then-number-eq0
returns-then-number-eq0 c =
    rw (c.receive.ensures, c.slot.ensures, c.ahead-parent.ensures.is, c.power.ensures, c.digits-own.ensures)
    (bcast_receives c.args.ranks c.args.root c.args.bytes c.args.rank c.args.number (omega arith) c.if-number-eq0.true)

pub overflow_add-own : goal.overflow_add-own
overflow_add-own c =
    let round = other_round c.args.ranks c.args.rank c.args.number c.requires.few c.requires.rank (omega arith) (omega arith) c.requires.number in
    omega arith

pub bcast_send-requires-2-clause-round : goal.bcast_send-requires-2-clause-round
bcast_send-requires-2-clause-round c =
    let round = other_round c.args.ranks c.args.rank c.args.number c.requires.few c.requires.rank (omega arith) (omega arith) c.requires.number in
    omega arith

pub bcast_send-requires-2-clause-child : goal.bcast_send-requires-2-clause-child
bcast_send-requires-2-clause-child c =
    rw c.digits-own.ensures (other_round c.args.ranks c.args.rank c.args.number c.requires.few c.requires.rank (omega arith) (omega arith) c.requires.number).child

pub returns : goal.returns
returns c =
    rw c.digits-own.ensures at c.bcast_send-2.ensures
    ∙ bcast_sends c.args.ranks c.args.root c.args.bytes c.args.rank c.args.number (omega arith) (omega arith)
