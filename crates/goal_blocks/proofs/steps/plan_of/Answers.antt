use Rattle.std.proofs.Common.{◌≡◌, ◌∙◌, arith}
use Rattle.goal_blocks.proofs.PlanBy.{next_ops, next_deps, next_notes, plan_by_of_equal_parts, no_ops_yet, no_deps_yet, no_notes_yet}
use Rattle.goal_blocks.proofs.steps.plan_of.Goals as goal

pub loop-number-init : goal.loop-number-init
loop-number-init g c =
    let e = g.F.Formula.entry_at c.args.formula.now c.args.rank in
    record {
      ops = c.new-ops.ensures.items ∙ no_ops_yet e;
      deps = c.new-deps.ensures.items ∙ no_deps_yet e;
      notes = c.new-notes.ensures.items ∙ no_notes_yet e;
    }

pub loop-number-preserved : goal.loop-number-preserved
loop-number-preserved g c =
    let e = g.F.Formula.entry_at c.args.formula.now c.args.rank in
    let n = c.loop-number.number in
    let s = c.step-kind.result in
    let i = c.loop-number.invariant in
    record {
      ops = next_ops e n s c.step-kind.ensures c.loop-number.ops.items c.push.new.self.items i.ops c.in_ok-push.ensures.items;
      deps = next_deps e n s c.step-kind.ensures c.loop-number.deps.items c.push_needs.new.deps.items i.deps c.in_ok-push_needs.ensures;
      notes = next_notes e n s c.step-kind.ensures c.loop-number.notes.items c.push_notes.new.notes.items i.notes c.in_ok-push_notes.ensures;
    }

pub returns : goal.returns
returns g c =
    let i = c.loop-number.invariant in
    let end : c.loop-number.number ≡ g.F.Formula.op_count c.args.formula.now c.args.rank = omega (arith, c.count-number-end.ensures) in
    plan_by_of_equal_parts (g.F.Formula.entry_at c.args.formula.now c.args.rank) c.loop-number.number (g.F.Formula.op_count c.args.formula.now c.args.rank)
    (record { ops = c.loop-number.ops.items; deps = c.loop-number.deps.items; notes = c.loop-number.notes.items }) end i.ops i.deps i.notes
