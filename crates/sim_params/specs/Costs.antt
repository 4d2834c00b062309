-- The costs of messages. Times are in nanoseconds, sizes in bytes.
use Rattle.std.specs.Prelude.{ℕ, zero, suc, ◌+◌, ◌-◌, ◌*◌, max, Bool, true, nat_le, Option, Some, None, List, if◌then◌else◌}
use Rattle.goal_graph.specs.declared.action.OpId.{OpId}
use Rattle.goal_graph.specs.declared.plan.Kind.{Kind}
use Rattle.goal_graph.specs.declared.plan.Kind.TheVariants.{Calc, Send, Recv}
use Rattle.goal_graph.specs.Schedule.{Plan, kind_at}

-- The costs of a message, by sending rank, receiving rank and size. `over`: how long it holds a cpu. `gap`: how long it
-- holds a side of a NIC. `flight`: from its start until it arrives. `latency`: from a match until the clear to send
-- (CTS) reaches the sender. `eager`: whether it is sent eagerly.
pub record CostModel : Type 0 where
  pub over : ℕ → ℕ → ℕ → ℕ
  pub gap : ℕ → ℕ → ℕ → ℕ
  pub flight : ℕ → ℕ → ℕ → ℕ
  pub latency : ℕ → ℕ → ℕ
  pub eager : ℕ → ℕ → ℕ → Bool

-- The LogGOPS parameters: latency L, overhead o and gap g in ns; gap per byte G in ns and Gp in ps; overhead per byte O
-- in ns and Op in ps, where Gp and Op are added to G and O; and S, the most bytes that are sent eagerly.
pub record Numbers : Type 0 where
  pub latency : ℕ
  pub overhead : ℕ
  pub gap : ℕ
  pub gap_per_byte : ℕ
  pub gap_picos : ℕ
  pub overhead_per_byte : ℕ
  pub overhead_picos : ℕ
  pub sync : ℕ

-- the bytes of a message without the first
abbrev pub body : ℕ → ℕ
body bytes = bytes - 1

-- the least number up to n that passes a test, or n if no lesser one does
unfoldable pub least_up_to : ℕ → (ℕ → Bool) → ℕ
least_up_to zero test = 0
least_up_to (suc n) test = if test 0 then 0 else suc (least_up_to n (λ k. test (suc k)))

-- picoseconds rounded up to nanoseconds: the least whole number q with picos ≤ 1000 * q
unfoldable pub rounded_up : ℕ → ℕ
rounded_up picos = least_up_to picos (λ q. nat_le picos (1000 * q))

-- the cost of the bytes of a message, in ns and ps for each but the first; the picoseconds are rounded up once
abbrev pub up : ℕ → ℕ → ℕ → ℕ
up nanos picos bytes = nanos * body bytes + rounded_up (picos * body bytes)

-- the costs of LogGOPS, the same for every sender and receiver
abbrev pub log_gops : Numbers → CostModel
log_gops p = record {
  over = λ from to bytes. p.overhead + up p.overhead_per_byte p.overhead_picos bytes;
  gap = λ from to bytes. p.gap + up p.gap_per_byte p.gap_picos bytes;
  flight =
      λ from to bytes.
      p.overhead + max (up p.overhead_per_byte p.overhead_picos bytes) (up p.gap_per_byte p.gap_picos bytes) + p.latency;
  latency = λ from to. p.latency;
  eager = λ from to bytes. nat_le bytes p.sync;
}

-- a cost of a send of this kind, from its rank; 0 for any other kind
abbrev pub cost_of : (ℕ → ℕ → ℕ → ℕ) → ℕ → Option Kind → ℕ
cost_of f from (Some (Send bytes to tag)) = f from to bytes
cost_of f from (Some (Calc nanos)) = 0
cost_of f from (Some (Recv room source tag)) = 0
cost_of f from None = 0

-- the same for a message of one byte, such as a request to send (RTS)
abbrev pub request_of : (ℕ → ℕ → ℕ → ℕ) → ℕ → Option Kind → ℕ
request_of f from (Some (Send bytes to tag)) = f from to 1
request_of f from (Some (Calc nanos)) = 0
request_of f from (Some (Recv room source tag)) = 0
request_of f from None = 0

abbrev pub latency_of : (ℕ → ℕ → ℕ) → ℕ → Option Kind → ℕ
latency_of f from (Some (Send bytes to tag)) = f from to
latency_of f from (Some (Calc nanos)) = 0
latency_of f from (Some (Recv room source tag)) = 0
latency_of f from None = 0

-- any operation other than a send counts as eager
abbrev pub eager_of : (ℕ → ℕ → ℕ → Bool) → ℕ → Option Kind → Bool
eager_of f from (Some (Send bytes to tag)) = f from to bytes
eager_of f from (Some (Calc nanos)) = true
eager_of f from (Some (Recv room source tag)) = true
eager_of f from None = true

-- the costs of one send of a schedule; `_one` are those of its RTS
module _ (plans : List Plan) (costs : CostModel) where
  abbrev pub over : OpId → ℕ
  over m = cost_of costs.over m.rank (kind_at plans m)

  abbrev pub over_one : OpId → ℕ
  over_one m = request_of costs.over m.rank (kind_at plans m)

  abbrev pub gap : OpId → ℕ
  gap m = cost_of costs.gap m.rank (kind_at plans m)

  abbrev pub gap_one : OpId → ℕ
  gap_one m = request_of costs.gap m.rank (kind_at plans m)

  abbrev pub flight : OpId → ℕ
  flight m = cost_of costs.flight m.rank (kind_at plans m)

  abbrev pub flight_one : OpId → ℕ
  flight_one m = request_of costs.flight m.rank (kind_at plans m)

  abbrev pub latency : OpId → ℕ
  latency m = latency_of costs.latency m.rank (kind_at plans m)

  unfoldable pub is_eager : OpId → Bool
  is_eager m = eager_of costs.eager m.rank (kind_at plans m)
