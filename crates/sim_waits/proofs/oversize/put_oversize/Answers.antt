use Rattle.std.proofs.Common.{◌≡◌, ◌++◌, List, Some, get_or, take, refl, sym, ap, ◌∙◌}
use Rattle.std.specs.List.{flat_map}
use Rattle.std.proofs.lemmas.List.{take_more, take_all, flat_map_more}
use Rattle.goal_graph.specs.declared.action.OpId.{OpId}
use Rattle.goal_graph.specs.Schedule.{Plan, operations}
use Rattle.sim_waits.specs.WaitsText.{oversize_by, oversize_of}
use Rattle.sim_waits.proofs.WaitLemmas.{kind_read}
use Rattle.sim_waits.proofs.oversize.put_oversize.Goals as goal

abbrev none : OpId
none = record { rank = 0; op = 0 }

pub loop-id-preserved : goal.loop-id-preserved
unfolding oversize_of
loop-id-preserved g c =
    let plans = c.args.engine.now.plans in
    let costs = g.C.Costs.model c.args.engine.now.costs in
    let h = c.args.engine.now.history in
    let items = c.operations-id-items.result.now in
    let i = c.loop-id.id-index in
    let id = get_or items i none in
    let kind = kind_read plans c.sched-in-loop-id.result.now id c.op.result.now c.op.result.now.kind c.sched-in-loop-id.ensures c.op.ensures.op refl in
    let line : oversize_by id (Some c.op.result.now.kind) c.message.result ≡ oversize_of plans costs h id = (λ j. oversize_by id (sym kind j) (c.message.ensures j)) in
    rw (take_more items i none c.loop-id-test.true)
    (c.in_ok-put_receive.ensures ∙ rw (line, c.loop-id.invariant) (flat_map_more (oversize_of plans costs h) c.args.out.now (take i items) id))

pub returns : goal.returns
returns g c =
    let costs = g.C.Costs.model c.args.engine.now.costs in
    let items = c.operations-id-items.result.now in
    c.loop-id.invariant ∙ ap (λ (ids : List OpId). c.args.out.now ++ flat_map (oversize_of c.args.engine.now.plans costs c.args.engine.now.history) ids) (take_all c.loop-id.id-index items c.loop-id-test.false ∙ c.operations-id-items.ensures.all ∙ ap (λ (ps : List Plan). operations ps) c.sched.ensures)
