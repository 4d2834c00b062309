-- A rank has at most as many operations as all ranks have.
use Rattle.std.proofs.Common.{◌≡◌, ◌≤◌, Some, length, slice_get, sym, ap, ◌∙◌, refl, arith}
use Rattle.std.proofs.lemmas.Option.{slice_get_read}
use Rattle.goal_graph.specs.Schedule.{Plan}
use Rattle.goal_limits.specs.declared.limits.TheConstants.{MAX_OPS}
use Rattle.goal_graph.proofs.Places.{ops_at_some, few_ops_at}
use Rattle.goal_graph.proofs.sched.Sched.op_count.Goals as goal
use Rattle.goal_graph.proofs.sched.Sched.op_count.Goals.{After-len}

indexed_plan_is_at_rank : (c : After-len) → slice_get c.args.self.now c.args.rank ≡ Some c.index-plans-rank.result
indexed_plan_is_at_rank c = slice_get_read c.args.self.now _ c.args.rank c.index-plans-rank.result refl c.requires (rw c.plans.ensures.plans at c.index-plans-rank.is)

len_result_is_number_of_ops : (c : After-len) → c.len.result ≡ length c.index-plans-rank.result.ops
len_result_is_number_of_ops c = omega (arith, c.plan.inside.ops.ok.0, c.len.ensures, ap (λ (p : Plan). length p.ops) c.plan.view_is)

len_result_within_max_ops : (c : After-len) → c.len.result ≤ MAX_OPS
len_result_within_max_ops c = omega (arith, len_result_is_number_of_ops c, few_ops_at c.args.self.now c.plans.ensures.counts.ops c.args.rank c.index-plans-rank.result (indexed_plan_is_at_rank c))

pub overflow_cast-result : goal.overflow_cast-result
overflow_cast-result c = omega (arith, len_result_within_max_ops c)

pub returns-clause-count : goal.returns-clause-count
returns-clause-count c =
    len_result_is_number_of_ops c ∙ ap length (sym (ops_at_some c.args.self.now c.args.rank c.index-plans-rank.result (indexed_plan_is_at_rank c)))

pub returns-clause-few : goal.returns-clause-few
returns-clause-few c = len_result_within_max_ops c
