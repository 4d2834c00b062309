use Rattle.std.proofs.Common.{◌∙◌, sym, ap, get_or, map}
use Rattle.std.proofs.lemmas.List.{take_all}
use Rattle.std.proofs.lemmas.List.Elements.{All-get_or}
use Rattle.goal_graph.specs.declared.action.Why.{Why}
use Rattle.goal_graph.specs.Action.{plain}
use Rattle.goal_graph.specs.Fault.{IsOp}
use Rattle.sim_stuck.specs.StuckList.{with_reason}
use Rattle.sim_stuck.proofs.ReasonCases.{is_unstarted, picked_exist, firsts_of_unstarted}
use Rattle.sim_stuck.proofs.Kept.{map_with_next_element}
use Rattle.sim_stuck.proofs.reasons.with_reasons.Goals as goal

pub of-requires : goal.of-requires
of-requires g c =
    picked_exist (is_unstarted c.args.engine.now.plans (plain c.args.engine.now.history)) c.args.engine.now.plans c.args.sched.now c.deref.result.now (sym c.requires.same) (c.deref.ensures.value ∙ c.in_ok-absent.ensures)

pub reason-requires-clause-firsts : goal.reason-requires-clause-firsts
reason-requires-clause-firsts g c =
    firsts_of_unstarted c.args.engine.now.plans c.args.sched.now (plain c.args.engine.now.history) c.deref.result.now c.in_ok-firsts.firsts (sym c.requires.same) (c.deref.ensures.value ∙ c.in_ok-absent.ensures) c.in_ok-firsts.ensures

pub reason-requires-clause-op : goal.reason-requires-clause-op
reason-requires-clause-op g c =
    All-get_or (IsOp c.args.engine.now.plans) c.args.ids.now c.loop-id.id-index (record { rank = 0; op = 0 }) c.loop-id-test.true c.requires.ops

pub loop-id-preserved : goal.loop-id-preserved
loop-id-preserved g c =
    let f = with_reason c.args.engine.now.plans (g.C.Costs.model c.args.engine.now.costs) c.args.engine.now.history in
    map_with_next_element f c.args.ids.now c.loop-id.id-index (record { rank = 0; op = 0 }) c.loop-id.list.items c.push.new.self.items _ c.loop-id-test.true c.loop-id.invariant c.in_ok-push.ensures.items (ap (λ (why : Why). record { op = get_or c.args.ids.now c.loop-id.id-index (record { rank = 0; op = 0 }); why = why }) c.reason.ensures)

pub returns : goal.returns
returns g c =
    c.loop-id.invariant ∙ ap (map (with_reason c.args.engine.now.plans (g.C.Costs.model c.args.engine.now.costs) c.args.engine.now.history)) (take_all c.loop-id.id-index c.args.ids.now c.loop-id-test.false)
