-- Each rank's lengths are added.
use Rattle.std.proofs.Common.{length, refl, ap, ◌∙◌, arith}
use Rattle.goal_graph.specs.Schedule.{Plan}
use Rattle.goal_graph.specs.Fault.{op_count, dep_count, note_count}
use Rattle.goal_graph.proofs.Places.{op_count-more, dep_count-more, note_count-more}
use Rattle.goal_graph.proofs.check.totals_of.Goals as goal

pub loop-plan-init : goal.loop-plan-init
unfolding op_count dep_count note_count
loop-plan-init c = record { ops = refl; deps = refl; notes = refl; ops_fit = omega arith; deps_fit = omega arith; notes_fit = omega arith }

pub loop-plan-preserved : goal.loop-plan-preserved
loop-plan-preserved c =
    let i = c.loop-plan.invariant in
    let read = c.plan.view_is ∙ c.plan-item.is in
    let ops = c.len.ensures ∙ c.plan.inside.ops.ok.0 ∙ ap (λ (p : Plan). length p.ops) read in
    let deps = c.len-in-loop-plan.ensures ∙ c.plan.inside.deps.ok.0 ∙ ap (λ (p : Plan). length p.deps) read in
    let notes = c.len-in-loop-plan-2.ensures ∙ c.plan.inside.notes.ok.0 ∙ ap (λ (p : Plan). length p.notes) read in
    record {
      ops = omega (arith, i.ops, ops, op_count-more c.args.plans.now c.loop-plan.plan-index c.plan-item.result c.loop-plan-test.true);
      deps = omega (arith, i.deps, deps, dep_count-more c.args.plans.now c.loop-plan.plan-index c.plan-item.result c.loop-plan-test.true);
      notes = omega (arith, i.notes, notes, note_count-more c.args.plans.now c.loop-plan.plan-index c.plan-item.result c.loop-plan-test.true);
      ops_fit = omega (arith, i.ops_fit, c.len.type_inv);
      deps_fit = omega (arith, i.deps_fit, c.len-in-loop-plan.type_inv);
      notes_fit = omega (arith, i.notes_fit, c.len-in-loop-plan-2.type_inv);
    }
