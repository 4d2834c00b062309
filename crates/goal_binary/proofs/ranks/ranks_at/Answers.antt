use Rattle.std.proofs.Common.{◌≡◌, ℕ, List, ◌∷◌, [], ◌++◌, length, Ok, Err, sym, ap, ◌∙◌, arith}
use Rattle.std.proofs.lemmas.Result.{err_from_is_err_and}
use Rattle.goal_graph.specs.Schedule.{Plan}
use Rattle.goal_graph.specs.Fault.{op_count, dep_count, note_count}
use Rattle.goal_binary.specs.declared.layout.Layout.{Layout}
use Rattle.goal_binary.specs.Fields.{Read}
use Rattle.goal_binary.specs.Reading.{rank_at, ranks_at}
use Rattle.goal_binary.proofs.RanksLoop.{op_count-push, dep_count-push, note_count-push, counts_of_no_ranks, next_rank, ranks_continue_after_rank, ranks_end_with_fault, ranks_done}
use Rattle.goal_binary.proofs.ranks.ranks_at.Goals as goal

-- the totals are the counts of the ranks before
next_rank_from_totals : (bytes : List ℕ) (layout : Layout) (before : List Plan) (ops deps notes at : ℕ) (read : Read Plan) → ops ≡ op_count before → deps ≡ dep_count before → notes ≡ note_count before → rank_at bytes layout ops deps notes at ≡ read → next_rank bytes layout before at ≡ read
next_rank_from_totals bytes layout before ops deps notes at read o d n h = rw (← o, ← d, ← n) h

pub loop-init : goal.loop-init
loop-init c =
    rw c.new-plans.ensures.items (record {
      so_far = ap (λ (n : ℕ). ranks_at c.args.bytes.now c.args.layout n [] c.args.at) (omega arith);
      ops = sym counts_of_no_ranks.0;
      deps = sym counts_of_no_ranks.1;
      notes = sym counts_of_no_ranks.2;
    })

pub returns-in_err-plan : goal.returns-in_err-plan
returns-in_err-plan c =
    let i = c.loop.invariant in
    let bytes = c.args.bytes.now in
    let layout = c.args.layout in
    let t = c.loop.totals in
    let p = err_from_is_err_and c.from_residual.result c.from_residual.ensures.1 in
    rw (p.1, p.2) (λ memory. ranks_end_with_fault bytes layout c.in_err-plan.field-0.0 c.loop.plans.items c.args.count c.loop.counter c.loop.place (ranks_at bytes layout c.args.count [] c.args.at) c.loop-test.true
    (next_rank_from_totals bytes layout c.loop.plans.items t.ops t.deps t.notes c.loop.place (Err c.in_err-plan.field-0.0) i.ops i.deps i.notes (c.in_err-plan.ensures.plan memory)) i.so_far)

pub loop-preserved : goal.loop-preserved
loop-preserved c =
    let i = c.loop.invariant in
    let bytes = c.args.bytes.now in
    let layout = c.args.layout in
    let t = c.loop.totals in
    let p = c.in_ok-plan.plan in
    let pushed : c.push.new.self.items ≡ c.loop.plans.items ++ p ∷ [] = c.in_ok-push.ensures.items in
    let ops = c.len.ensures ∙ c.plan.inside.ops.ok.0 ∙ ap (λ (q : Plan). length q.ops) c.plan.view_is in
    let deps = c.len-in-loop.ensures ∙ c.plan.inside.deps.ok.0 ∙ ap (λ (q : Plan). length q.deps) c.plan.view_is in
    let notes = c.len-in-loop-2.ensures ∙ c.plan.inside.notes.ok.0 ∙ ap (λ (q : Plan). length q.notes) c.plan.view_is in
    rw pushed (record {
      so_far = ranks_continue_after_rank bytes layout c.loop.plans.items c.args.count c.loop.counter c.loop.place p c.in_ok-plan.after (ranks_at bytes layout c.args.count [] c.args.at) c.loop-test.true
          (next_rank_from_totals bytes layout c.loop.plans.items t.ops t.deps t.notes c.loop.place (Ok (p, c.in_ok-plan.after)) i.ops i.deps i.notes c.in_ok-plan.ensures.plan) i.so_far;
      ops = omega (arith, i.ops, ops, op_count-push c.loop.plans.items p);
      deps = omega (arith, i.deps, deps, dep_count-push c.loop.plans.items p);
      notes = omega (arith, i.notes, notes, note_count-push c.loop.plans.items p);
    })

pub returns : goal.returns
returns c =
    let bytes = c.args.bytes.now in
    let layout = c.args.layout in
    ranks_done bytes layout c.loop.plans.items c.args.count c.loop.counter c.loop.place (ranks_at bytes layout c.args.count [] c.args.at) c.loop-test.false c.loop.invariant.so_far
