use Rattle.std.proofs.Common.{ℕ, ◌≡◌, ◌<◌, true, false, All, take, slice_index_or}
use Rattle.goal_limits.specs.Limits.{certified_op_limit}
use Rattle.goal_graph.specs.declared.plan.Need.{Need}
use Rattle.goal_graph.specs.Schedule.{needs}
use Rattle.goal_certify.specs.Rows.{has}
use Rattle.goal_graph.specs.Search.{op_id}
use Rattle.goal_certify.specs.Before.{AreRows}
use Rattle.goal_certify.proofs.races.before.gather.Given as goal
use Rattle.goal_blocks.proofs.ForCallers.{Leads}

-- the row has what the needs so far lead to
abbrev pub invariant-loop-need : goal.invariant-loop-need
invariant-loop-need l = record {
  rows : AreRows l.sched l.id.rank l.rows (λ k. slice_index_or l.done k false ≡ true);
  row : All (λ (d : Need). (k : ℕ) → k < certified_op_limit → Leads l.sched (op_id l.id.rank k) l.id d → has l.rows l.id.op k ≡ true) (take l.need-index (needs l.sched l.id));
}
