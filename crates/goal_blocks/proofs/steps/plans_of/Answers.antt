use Rattle.std.proofs.Common.{◌≡◌, ◌∙◌, sym, arith}
use Rattle.goal_blocks.proofs.PlanBy.{next_rank, made_by_of_equal_count, no_rank_yet}
use Rattle.goal_blocks.proofs.steps.plans_of.Goals as goal

pub loop-rank-init : goal.loop-rank-init
loop-rank-init g c =
    c.new-plans.ensures.items ∙ sym (no_rank_yet (g.F.Formula.op_count c.args.formula.now) (g.F.Formula.entry_at c.args.formula.now))

pub loop-rank-preserved : goal.loop-rank-preserved
loop-rank-preserved g c =
    next_rank (g.F.Formula.op_count c.args.formula.now) (g.F.Formula.entry_at c.args.formula.now) c.loop-rank.rank c.in_ok-plan.plan
    c.loop-rank.plans.items c.push.new.self.items c.loop-rank.invariant c.in_ok-plan.ensures c.in_ok-push.ensures.items

pub returns : goal.returns
returns g c =
    let end : c.loop-rank.rank ≡ g.F.Formula.rank_count c.args.formula.now = omega arith in
    made_by_of_equal_count (g.F.Formula.op_count c.args.formula.now) (g.F.Formula.entry_at c.args.formula.now) c.loop-rank.rank (g.F.Formula.rank_count c.args.formula.now) c.loop-rank.plans.items end c.loop-rank.invariant
