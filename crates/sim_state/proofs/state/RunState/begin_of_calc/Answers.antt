use Rattle.std.proofs.Common.{subst, sym, ap₂, ◌∙◌, max}
use Rattle.goal_graph.specs.declared.action.Class.TheVariants.{Begin}
use Rattle.goal_graph.specs.Fault.{IsOp}
use Rattle.sim_state.proofs.Places.{calc_is_op}
use Rattle.sim_state.proofs.Views.{free_at_view}
use Rattle.sim_state.proofs.EnabledLemmas.{calc_begins, begun_not_enabled, unready_not_enabled, ready_enabled, calc_time}
use Rattle.sim_state.proofs.state.RunState.begin_of_calc.Goals as goal

pub has_started-requires : goal.has_started-requires
has_started-requires g c = calc_is_op _ c.args.calc c.requires

pub returns-then-has_started : goal.returns-then-has_started
returns-then-has_started g c =
    begun_not_enabled _ _ _ c.args.calc Begin (calc_begins _ _ _ c.args.calc c.requires) (sym c.has_started.ensures ∙ c.if-has_started.true)

pub ready-requires-clause-exists : goal.ready-requires-clause-exists
ready-requires-clause-exists g c = calc_is_op _ c.args.calc c.requires

pub returns-in_err-ready : goal.returns-in_err-ready
returns-in_err-ready g c =
    c.from_residual.ensures ∙ unready_not_enabled _ _ _ c.args.calc Begin (calc_begins _ _ _ c.args.calc c.requires) c.ready.result c.ready.ensures c.in_err-ready.was

pub cpu-requires : goal.cpu-requires
cpu-requires g c =
    let free = free_at_view g.C.Costs.model _ _ _ c.self.view_is c.self.invariant.free in
    subst (λ plans. IsOp plans c.args.calc) (sym free.same_plans) (calc_is_op _ c.args.calc c.requires)

pub returns : goal.returns
returns g c =
    let free = free_at_view g.C.Costs.model _ _ _ c.self.view_is c.self.invariant.free in
    ready_enabled _ _ _ c.args.calc Begin (calc_begins _ _ _ c.args.calc c.requires) (sym c.has_started.ensures ∙ c.if-has_started.false) c.ready.result c.in_ok-ready.ready c.max.result c.ready.ensures c.in_ok-ready.was (λ e. c.max.ensures ∙ ap₂ max (sym e) (c.cpu.ensures ∙ free.cpus c.args.calc) ∙ sym (calc_time _ _ _ c.args.calc c.requires))
