use Rattle.std.proofs.Common.{sym, ◌∙◌, arith}
use Rattle.sim_params.proofs.SharesLemmas.{send_bytes_within_limit, share_calc, share_recv, share_eager, share_rendezvous}
use Rattle.sim_params.proofs.shares.share.Goals as goal
use Rattle.goal_graph.proofs.ForCallers.{kind_from_op}

pub message_share-requires : goal.message_share-requires
message_share-requires g c =
    send_bytes_within_limit c.op.result.now c.in-Send.bytes c.in-Send.to c.in-Send.tag c.op.ensures.value c.in-Send.is

pub eager-requires : goal.eager-requires
eager-requires g c =
    send_bytes_within_limit c.op.result.now c.in-Send.bytes c.in-Send.to c.in-Send.tag c.op.ensures.value c.in-Send.is

pub returns-in-Calc : goal.returns-in-Calc
returns-in-Calc g c =
    c.from.ensures ∙ sym (share_calc c.args.sched.now (g.C.Costs.model c.args.costs.now) c.args.id c.in-Calc.nanos (kind_from_op _ _ _ _ c.op.ensures.op c.in-Calc.is))

pub returns-then-eager : goal.returns-then-eager
returns-then-eager g c =
    c.from-message.ensures ∙ c.message_share.ensures ∙ sym (share_eager c.args.sched.now (g.C.Costs.model c.args.costs.now) c.args.id c.in-Send.bytes c.in-Send.to c.in-Send.tag (kind_from_op _ _ _ _ c.op.ensures.op c.in-Send.is) (cc))

pub returns-else-eager : goal.returns-else-eager
returns-else-eager g c =
    let whole = share_rendezvous c.args.sched.now (g.C.Costs.model c.args.costs.now) c.args.id c.in-Send.bytes c.in-Send.to c.in-Send.tag (kind_from_op _ _ _ _ c.op.ensures.op c.in-Send.is) (cc) in
    omega (arith, whole, c.from-message.ensures, c.message_share.ensures, c.from-else-eager.ensures, c.request_share.ensures)

pub returns-in-Recv : goal.returns-in-Recv
returns-in-Recv g c =
    sym (share_recv c.args.sched.now (g.C.Costs.model c.args.costs.now) c.args.id c.in-Recv.bytes c.in-Recv.from c.in-Recv.tag (kind_from_op _ _ _ _ c.op.ensures.op c.in-Recv.is))
