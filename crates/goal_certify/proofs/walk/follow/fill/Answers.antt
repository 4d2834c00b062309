use Rattle.std.proofs.Common.{List, get_or, length, ap, ◌∙◌, subst, arith}
use Rattle.std.proofs.lemmas.Option.{slice_get_within}
use Rattle.goal_graph.specs.declared.action.OpId.{OpId}
use Rattle.goal_graph.specs.Schedule.{Plan, operations}
use Rattle.goal_graph.specs.Fault.{IsOp}
use Rattle.goal_certify.proofs.Queue.{queue_after_refresh, fewer_due, all_due, next_due}
use Rattle.goal_certify.proofs.walk.follow.fill.Goals as goal

abbrev none : OpId
none = record { rank = 0; op = 0 }

pub loop-id-init : goal.loop-id-init
loop-id-init c = all_due _ _ _ _ c.requires.each (λ slot y. omega arith)

pub fill_one-requires : goal.fill_one-requires
fill_one-requires c =
    let x = get_or c.operations-id-items.result.now c.loop-id.id-index none in
    record {
      exists = subst (λ (ps : List Plan). IsOp ps x) c.sched.ensures (c.operations-id-items.ensures.exist c.loop-id.id-index none c.loop-id-test.true);
      start = c.requires.start;
      each = c.loop-id.invariant.each;
    }

pub loop-id-preserved : goal.loop-id-preserved
loop-id-preserved c =
    let plans = c.args.state.now.plans in
    let items = c.operations-id-items.ensures.all ∙ ap (λ (ps : List Plan). operations ps) c.sched.ensures in
    let k = c.loop-id.id-index in
    queue_after_refresh plans _ _ _ _ _ _ c.loop-id.invariant c.fill_one.ensures (λ slot y at due differ. next_due plans c.operations-id-items.result.now items k none slot y at due differ)

pub returns : goal.returns
returns c =
    let plans = c.args.state.now.plans in
    let items = c.operations-id-items.ensures.all ∙ ap (λ (ps : List Plan). operations ps) c.sched.ensures in
    fewer_due plans _ _ _ _ c.loop-id.invariant (λ slot y at due. omega (arith, due, slice_get_within (operations plans) slot y at, ap length items, c.loop-id-test.false))
