use Rattle.std.proofs.Common.{List, Vec, Global, All, not, filter, sym, ap, ◌∙◌, subst}
use Rattle.std.proofs.lemmas.List.{take_all}
use Rattle.std.proofs.lemmas.List.Elements.{All-get_or}
use Rattle.goal_graph.specs.declared.action.OpId.{OpId}
use Rattle.goal_graph.specs.Schedule.{Plan, operations}
use Rattle.goal_graph.specs.Fault.{IsOp}
use Rattle.sim_params.specs.Stuck.{lacks_end}
use Rattle.sim_stuck.proofs.Kept.{one_kept, one_left_out}
use Rattle.sim_stuck.proofs.reasons.unended.Goals.{then-not-has_ended+in_ok-push, else-not-has_ended}
use Rattle.sim_stuck.proofs.reasons.unended.Goals as goal

pub has_ended-requires : goal.has_ended-requires
has_ended-requires g c =
    All-get_or (IsOp c.args.engine.now.plans) c.operations-id-items.result.now c.loop-id.id-index (record { rank = 0; op = 0 }) c.loop-id-test.true (subst (λ (plans : List Plan). All (IsOp plans) c.operations-id-items.result.now) c.sched.ensures c.operations-id-items.ensures.exist)

pub loop-id-preserved : goal.loop-id-preserved
loop-id-preserved g c =
    let picks = lacks_end c.args.engine.now.plans (g.C.Costs.model c.args.engine.now.costs) c.args.engine.now.history in
    let ops = c.operations-id-items.result.now in
    elim c.if-not-has_ended.branch [
      | then-not-has_ended+in_ok-push w ↦
          ap (λ (v : Vec OpId Global). v.items) w.ids-is ∙ w.in_ok-push.ensures.items
          ∙ one_kept picks ops c.loop-id.id-index (record { rank = 0; op = 0 }) c.loop-id.ids.items c.loop-id-test.true c.loop-id.invariant (ap not (sym c.has_ended.ensures ∙ w.if-not-has_ended.true))
      | else-not-has_ended w ↦
          ap (λ (v : Vec OpId Global). v.items) w.ids-is
          ∙ one_left_out picks ops c.loop-id.id-index (record { rank = 0; op = 0 }) c.loop-id.ids.items c.loop-id-test.true c.loop-id.invariant (ap not (sym c.has_ended.ensures ∙ w.if-not-has_ended.false))
    ]

pub returns : goal.returns
returns g c =
    let picks = lacks_end c.args.engine.now.plans (g.C.Costs.model c.args.engine.now.costs) c.args.engine.now.history in
    c.loop-id.invariant ∙ ap (filter picks) (take_all c.loop-id.id-index c.operations-id-items.result.now c.loop-id-test.false ∙ c.operations-id-items.ensures.all ∙ ap operations c.sched.ensures)
