-- The operation stands at its number in its rank's list.
use Rattle.std.proofs.Common.{length, get_or, Some, arith, sym, ap, ◌∙◌}
use Rattle.goal_graph.specs.Schedule.{Plan}
use Rattle.goal_graph.proofs.Places.{IsOp-located, op_at-located}
use Rattle.goal_graph.proofs.tables.Tables.op.Goals as goal

pub index-plan-requires : goal.index-plan-requires
index-plan-requires c =
    let located = IsOp-located c.self.inside.plans.items c.args.id (rw c.self.view_is c.requires) in
    omega (arith, located.rank_in, c.self.inside.plans.ok.0)

pub index-requires : goal.index-requires
index-requires c =
    let located = IsOp-located c.self.inside.plans.items c.args.id (rw c.self.view_is c.requires) in
    let ops = ap (λ (p : Plan). length p.ops) (c.plan.view_is ∙ c.index-plan.ensures) in
    omega (arith, located.op_in c.index-plan.result.now, ops, c.plan.inside.ops.ok.0)

pub returns : goal.returns
returns c =
    let located = IsOp-located c.self.inside.plans.items c.args.id (rw c.self.view_is c.requires) in
    let ops = ap (λ (p : Plan). get_or p.ops c.args.id.op c.index.result.now) (c.plan.view_is ∙ c.index-plan.ensures) in
    rw (← c.self.view_is) (op_at-located c.self.inside.plans.items c.args.id located c.index-plan.result.now c.index.result.now ∙ ap (λ o. Some o) (sym (c.index.ensures ∙ ops)))
