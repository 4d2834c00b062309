-- The time budget: a bound on every time of a run that is known before it.
use Rattle.std.specs.Prelude.{ℕ, ◌+◌, ◌*◌, List, Option, Some, None, if◌then◌else◌, sum_by}
use Rattle.goal_graph.specs.declared.action.OpId.{OpId}
use Rattle.goal_graph.specs.declared.plan.Kind.{Kind}
use Rattle.goal_graph.specs.declared.plan.Kind.TheVariants.{Calc, Send, Recv}
use Rattle.goal_graph.specs.Schedule.{Plan, kind_at, operations}
use Rattle.sim_params.specs.Costs.{CostModel}

module _ (costs : CostModel) where
  -- the most that a message of `bytes` bytes may add to the times
  abbrev pub message_share : ℕ → ℕ → ℕ → ℕ
  message_share from to bytes = 2 * (costs.over from to bytes + costs.gap from to bytes) + costs.flight from to bytes

  -- the most that the handshake of a rendezvous message may add
  abbrev pub request_share : ℕ → ℕ → ℕ
  request_share from to = costs.over from to 1 + costs.gap from to 1 + costs.flight from to 1 + costs.latency from to

  -- the most that an operation of a rank may add, by its kind
  abbrev pub share_of : ℕ → Option Kind → ℕ
  share_of from (Some (Calc nanos)) = nanos
  share_of from (Some (Send bytes to tag)) =
      message_share from to bytes + (if costs.eager from to bytes then 0 else request_share from to)
  share_of from (Some (Recv room source tag)) = 0
  share_of from None = 0

module _ (plans : List Plan) (costs : CostModel) where
  -- the share of an operation
  unfoldable pub share : OpId → ℕ
  share x = share_of costs x.rank (kind_at plans x)

  -- the time budget: the sum of the shares
  unfoldable pub budget : ℕ
  budget = sum_by share (operations plans)
