use Rattle.std.proofs.Common.{subst, sym, ap₂, ◌∙◌, max}
use Rattle.goal_graph.specs.declared.action.Class.TheVariants.{Begin}
use Rattle.goal_graph.specs.Schedule.{IsSend}
use Rattle.sim_state.proofs.Views.{free_at_view}
use Rattle.sim_state.proofs.EnabledLemmas.{send_begins, unready_not_enabled, ready_enabled, send_time}
use Rattle.sim_state.proofs.state.RunState.begin_of_send.Goals as goal
use Rattle.goal_graph.proofs.ForCallers.{send_is_op}

pub ready-requires-clause-exists : goal.ready-requires-clause-exists
ready-requires-clause-exists g c = send_is_op _ c.args.send c.requires.op

pub returns-in_err-ready : goal.returns-in_err-ready
returns-in_err-ready g c =
    c.from_residual.ensures ∙ unready_not_enabled _ _ _ c.args.send Begin (send_begins _ _ _ c.args.send c.requires.op) c.ready.result c.ready.ensures c.in_err-ready.was

pub begin_at-requires : goal.begin_at-requires
begin_at-requires g c =
    let free = free_at_view g.C.Costs.model _ _ _ c.self.view_is c.self.invariant.free in
    subst (λ plans. IsSend plans c.args.send) (sym free.same_plans) c.requires.op

pub returns : goal.returns
returns g c =
    let free = free_at_view g.C.Costs.model _ _ _ c.self.view_is c.self.invariant.free in
    ready_enabled _ _ _ c.args.send Begin (send_begins _ _ _ c.args.send c.requires.op) c.requires.fresh c.ready.result c.in_ok-ready.ready c.begin_at.result c.ready.ensures c.in_ok-ready.was (λ e. c.begin_at.ensures ∙ ap₂ max (sym e) (ap₂ max (free.cpus c.args.send) (free.senders c.args.send)) ∙ sym (send_time _ _ _ c.args.send c.requires.op))
