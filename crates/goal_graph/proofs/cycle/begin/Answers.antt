-- One operation after another is counted.
use Rattle.std.proofs.Common.{◌≡◌, ◌+◌, length, ap, ◌∙◌, arith}
use Rattle.std.proofs.lemmas.List.{length_push}
use Rattle.goal_graph.specs.Schedule.{Plan}
use Rattle.goal_graph.proofs.Plain.{plain-counts}
use Rattle.goal_graph.proofs.Places.{no_plan, op_count-more_le, IsOp-below, rank_size}
use Rattle.goal_graph.proofs.Ranges.{length-needs-le}
use Rattle.goal_graph.proofs.Searching.{IsSearch-waits, IsSearch-ready}
use Rattle.goal_graph.proofs.cycle.begin.Goals as goal
use Rattle.goal_graph.proofs.cycle.begin.Goals.{then-count-eq0+in_ok-push-2, else-count-eq0}

pub overflow_cast-ops : goal.overflow_cast-ops
overflow_cast-ops c =
    let size = rank_size c.args.tables.now c.plans.result.now c.args.rank c.index-plans-rank.result c.len-ops.result c.plans.ensures.plans c.requires.rank c.index-plans-rank.is (c.len-ops.ensures ∙ c.plan.inside.ops.ok.0 ∙ ap (λ (p : Plan). length p.ops) c.plan.view_is) in
    omega (arith, size, op_count-more_le c.args.tables.now c.args.rank no_plan c.requires.rank, (plain-counts c.args.tables.now c.requires.plain).ops)

pub needs-requires : goal.needs-requires
needs-requires c =
    let size = rank_size c.args.tables.now c.plans.result.now c.args.rank c.index-plans-rank.result c.len-ops.result c.plans.ensures.plans c.requires.rank c.index-plans-rank.is (c.len-ops.ensures ∙ c.plan.inside.ops.ok.0 ∙ ap (λ (p : Plan). length p.ops) c.plan.view_is) in
    IsOp-below c.args.tables.now _ c.requires.rank (omega (arith, size, c.loop-op-test.true))

pub overflow_cast-count : goal.overflow_cast-count
overflow_cast-count c =
    let few = length-needs-le c.args.tables.now c.requires.plain c.args.rank c.requires.rank c.loop-op.op in
    rw c.needs.ensures (omega (arith, few, (plain-counts c.args.tables.now c.requires.plain).deps))

pub loop-op-preserved : goal.loop-op-preserved
loop-op-preserved c =
    let i = c.loop-op.invariant in
    let counts = rw (← i.counted) at (ap (λ ds. length ds) c.needs.ensures) in
    let counted : length c.push.new.self.items ≡ c.loop-op.op + 1 = rw c.in_ok-push.ensures.items (length_push c.loop-op.missing.items (length c.needs.result.now) ∙ ap (λ n. n + 1) i.counted) in
    elim c.if-count-eq0.branch [
      | then-count-eq0+in_ok-push-2 w ↦ record {
        search =
            rw (c.in_ok-push.ensures.items, w.order-is, w.in_ok-push-2.ensures.items, ← i.counted)
            (IsSearch-ready c.args.tables.now c.args.rank _ _ _ i.search counts w.if-count-eq0.true);
        counted = counted;
      }
      | else-count-eq0 w ↦ record {
        search = rw (c.in_ok-push.ensures.items, w.order-is) (IsSearch-waits c.args.tables.now c.args.rank _ _ _ i.search counts w.if-count-eq0.false);
        counted = counted;
      }
    ]
