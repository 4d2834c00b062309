use Rattle.std.proofs.Common.{List, ◌+◌, Some, None, sym, ap, ◌∙◌, subst, arith}
use Rattle.goal_graph.specs.Fault.{IsOp}
use Rattle.goal_graph.specs.Schedule.{Plan}
use Rattle.sim_state.specs.declared.entry.Times.{Times}
use Rattle.sim_state.proofs.Begun.{calc_fits, calc_known, calc_free, eager_message, eager_over, eager_gap, eager_flight, eager_known, eager_free, large_message, request_over, request_gap, request_flight, request_known, request_free, no_receive}
use Rattle.sim_state.proofs.Changed.{at_fits}
use Rattle.sim_state.proofs.Places.{possible_exists}
use Rattle.sim_state.proofs.state.perform.begin.Goals as goal

pub with_start-times-requires : goal.with_start-times-requires
with_start-times-requires g c =
    at_fits c.args.sched.now (g.C.Costs.model c.args.costs.now) (g.H.History.actions c.args.history.now) c.args.action c.requires.run c.requires.within c.requires.next.possible

pub overflow_add-end : goal.overflow_add-end
overflow_add-end g c =
    omega (arith, calc_fits c.args.sched.now (g.C.Costs.model c.args.costs.now) (g.H.History.actions c.args.history.now) c.args.action c.requires.run c.requires.within c.requires.next.possible c.requires.class c.args.work c.requires.work c.in-Calc.is)

pub hold_cpu-requires : goal.hold_cpu-requires
hold_cpu-requires g c =
    subst (λ (ps : List Plan). IsOp ps c.args.action.op) (sym c.requires.free.same_plans) (possible_exists _ _ _ c.args.action c.requires.next.possible)

pub with_end-requires : goal.with_end-requires
with_end-requires g c =
    calc_fits c.args.sched.now (g.C.Costs.model c.args.costs.now) (g.H.History.actions c.args.history.now) c.args.action c.requires.run c.requires.within c.requires.next.possible c.requires.class c.args.work c.requires.work c.in-Calc.is

pub eager_begin_message-begun-requires : goal.eager_begin_message-begun-requires
eager_begin_message-begun-requires g c = record {
  same_schedule = c.requires.free.same_plans;
  message = eager_message c.args.sched.now (g.C.Costs.model c.args.costs.now) (g.H.History.actions c.args.history.now) c.args.action c.requires.run c.requires.within c.requires.next.possible c.requires.class c.args.work c.requires.work c.in-Eager.is;
  over_fits = eager_over c.args.sched.now (g.C.Costs.model c.args.costs.now) (g.H.History.actions c.args.history.now) c.args.action c.requires.run c.requires.within c.requires.next.possible c.requires.class c.args.work c.requires.work c.in-Eager.is;
  gap_fits = eager_gap c.args.sched.now (g.C.Costs.model c.args.costs.now) (g.H.History.actions c.args.history.now) c.args.action c.requires.run c.requires.within c.requires.next.possible c.requires.class c.args.work c.requires.work c.in-Eager.is;
  flight_fits = eager_flight c.args.sched.now (g.C.Costs.model c.args.costs.now) (g.H.History.actions c.args.history.now) c.args.action c.requires.run c.requires.within c.requires.next.possible c.requires.class c.args.work c.requires.work c.in-Eager.is;
}

pub with_end-requires-in-Eager : goal.with_end-requires-in-Eager
with_end-requires-in-Eager g c =
    omega (arith, c.eager_begin_message-begun.ensures.end, eager_over c.args.sched.now (g.C.Costs.model c.args.costs.now) (g.H.History.actions c.args.history.now) c.args.action c.requires.run c.requires.within c.requires.next.possible c.requires.class c.args.work c.requires.work c.in-Eager.is)

pub with_awaited-requires : goal.with_awaited-requires
with_awaited-requires g c =
    omega (arith, c.eager_begin_message-begun.ensures.arrive, eager_flight c.args.sched.now (g.C.Costs.model c.args.costs.now) (g.H.History.actions c.args.history.now) c.args.action c.requires.run c.requires.within c.requires.next.possible c.requires.class c.args.work c.requires.work c.in-Eager.is)

pub request_to-arrive-requires : goal.request_to-arrive-requires
request_to-arrive-requires g c = record {
  same_schedule = c.requires.free.same_plans;
  goes_to = (_, large_message c.args.sched.now (g.C.Costs.model c.args.costs.now) (g.H.History.actions c.args.history.now) c.args.action c.requires.run c.requires.within c.requires.next.possible c.requires.class c.args.work c.requires.work c.in-Rendezvous.is);
  over_fits = request_over c.args.sched.now (g.C.Costs.model c.args.costs.now) (g.H.History.actions c.args.history.now) c.args.action c.requires.run c.requires.within c.requires.next.possible c.requires.class c.args.work c.requires.work c.in-Rendezvous.is;
  gap_fits = request_gap c.args.sched.now (g.C.Costs.model c.args.costs.now) (g.H.History.actions c.args.history.now) c.args.action c.requires.run c.requires.within c.requires.next.possible c.requires.class c.args.work c.requires.work c.in-Rendezvous.is;
  flight_fits = request_flight c.args.sched.now (g.C.Costs.model c.args.costs.now) (g.H.History.actions c.args.history.now) c.args.action c.requires.run c.requires.within c.requires.next.possible c.requires.class c.args.work c.requires.work c.in-Rendezvous.is;
}

pub with_awaited-requires-in-Rendezvous : goal.with_awaited-requires-in-Rendezvous
with_awaited-requires-in-Rendezvous g c =
    omega (arith, c.request_to-arrive.ensures.arrive, request_flight c.args.sched.now (g.C.Costs.model c.args.costs.now) (g.H.History.actions c.args.history.now) c.args.action c.requires.run c.requires.within c.requires.next.possible c.requires.class c.args.work c.requires.work c.in-Rendezvous.is)

pub unreachable-requires : goal.unreachable-requires
unreachable-requires g c =
    no_receive c.args.sched.now (g.C.Costs.model c.args.costs.now) (g.H.History.actions c.args.history.now) c.args.action c.requires.run c.requires.within c.requires.next.possible c.requires.class c.args.work c.requires.work c.in-Receive.is

pub returns-in-Calc-clause-known : goal.returns-in-Calc-clause-known
returns-in-Calc-clause-known g c =
    calc_known c.args.sched.now (g.C.Costs.model c.args.costs.now) (g.H.History.actions c.args.history.now) c.args.action c.requires.run c.requires.within c.requires.next.possible c.requires.class c.args.work c.requires.work c.in-Calc.is _ (c.with_nothing_awaited.ensures ∙ ap (λ (t : Times). record t { awaited = None }) (c.with_end.ensures ∙ ap (λ (t : Times). record t { end = Some (c.args.action.time + c.args.work.amount) }) (c.with_start-times.ensures ∙ ap (λ (t : Times). record t { start = Some c.args.action.time }) c.requires.times)))

pub returns-in-Calc-clause-free : goal.returns-in-Calc-clause-free
returns-in-Calc-clause-free g c =
    calc_free c.args.sched.now (g.C.Costs.model c.args.costs.now) (g.H.History.actions c.args.history.now) c.args.action c.requires.run c.requires.within c.requires.next.possible c.requires.class c.args.work c.requires.work c.in-Calc.is _ _ c.requires.free c.hold_cpu.ensures

pub returns-in-Eager-clause-known : goal.returns-in-Eager-clause-known
returns-in-Eager-clause-known g c =
    eager_known c.args.sched.now (g.C.Costs.model c.args.costs.now) (g.H.History.actions c.args.history.now) c.args.action c.requires.run c.requires.within c.requires.next.possible c.requires.class c.args.work c.requires.work c.in-Eager.is _ _ c.eager_begin_message-begun.ensures.end c.eager_begin_message-begun.ensures.arrive _ (c.with_awaited.ensures ∙ ap (λ (t : Times). record t { awaited = Some c.eager_begin_message-begun.result.arrive }) (c.with_end-in-Eager.ensures ∙ ap (λ (t : Times). record t { end = Some c.eager_begin_message-begun.result.end }) (c.with_start-times.ensures ∙ ap (λ (t : Times). record t { start = Some c.args.action.time }) c.requires.times)))

pub returns-in-Eager-clause-free : goal.returns-in-Eager-clause-free
returns-in-Eager-clause-free g c =
    eager_free c.args.sched.now (g.C.Costs.model c.args.costs.now) (g.H.History.actions c.args.history.now) c.args.action c.requires.run c.requires.within c.requires.next.possible c.requires.class c.args.work c.requires.work c.in-Eager.is _ _ _ c.eager_begin_message-begun.ensures.end c.requires.free c.eager_begin_message-begun.ensures.holds

pub returns-in-Rendezvous-clause-known : goal.returns-in-Rendezvous-clause-known
returns-in-Rendezvous-clause-known g c =
    request_known c.args.sched.now (g.C.Costs.model c.args.costs.now) (g.H.History.actions c.args.history.now) c.args.action c.requires.run c.requires.within c.requires.next.possible c.requires.class c.args.work c.requires.work c.in-Rendezvous.is _ c.request_to-arrive.ensures.arrive _ (c.with_awaited-in-Rendezvous.ensures ∙ ap (λ (t : Times). record t { awaited = Some c.request_to-arrive.result }) (c.with_start-times.ensures ∙ ap (λ (t : Times). record t { start = Some c.args.action.time }) c.requires.times))

pub returns-in-Rendezvous-clause-free : goal.returns-in-Rendezvous-clause-free
returns-in-Rendezvous-clause-free g c =
    request_free c.args.sched.now (g.C.Costs.model c.args.costs.now) (g.H.History.actions c.args.history.now) c.args.action c.requires.run c.requires.within c.requires.next.possible c.requires.class c.args.work c.requires.work c.in-Rendezvous.is _ _ c.requires.free c.request_to-arrive.ensures.holds
