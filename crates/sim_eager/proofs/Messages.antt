-- A message is that of a send, and its size is within its limit.
use Rattle.std.proofs.Common.{◌≡◌, ℕ, ◌<◌, ◌^◌, true, leb-true, List, subst, arith}
use Rattle.goal_graph.specs.declared.action.OpId.{OpId}
use Rattle.goal_graph.specs.declared.plan.Kind.{Kind}
use Rattle.goal_graph.specs.Schedule.{Plan, op_at, IsSend}
use Rattle.goal_graph.specs.Fault.{IsAccepted, value_fits}
use Rattle.goal_graph.specs.Laws.{ValuesAreWithin}
use Rattle.goal_graph.proofs.ForCallers.{value_of_is_some, kind_of_op, send_is_op}
use Rattle.sim_eager.specs.Messages.{IsMessage}

module _ (plans : List Plan) (m : OpId) (to bytes : ℕ) (message : IsMessage plans m to bytes) where
  pub message_is_send : IsSend plans m
  message_is_send = record { bytes = bytes; to = to; tag = message.tag; kind = message.kind }

  pub message_fits : ValuesAreWithin → IsAccepted plans → bytes < 2 ^ 40
  message_fits within accepted =
      let found = value_of_is_some (op_at plans m) (send_is_op plans m message_is_send) in
      let kind = kind_of_op plans m found.0 _ found.1 message.kind in
      let fits = subst (λ (k : Kind). value_fits k found.0.nic ≡ true) kind (within plans m found.0 accepted found.1).0 in
      omega (arith, leb-true bytes _ fits)
