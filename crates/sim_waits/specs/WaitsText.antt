-- The report on waits. Each line ends with a line feed, and numbers are decimal.
use Rattle.std.specs.Prelude.{ℕ, ◌+◌, ◌≡◌, List, [], ◌∷◌, ◌++◌, Option, Some, None, codes, decimal, count_by, nat_lt, if◌then◌else◌}
use Rattle.std.specs.List.{flat_map, sum_by}
use Rattle.goal_base.specs.Text.{line_feed}
use Rattle.goal_graph.specs.declared.action.OpId.{OpId}
use Rattle.goal_graph.specs.declared.action.Timed.{Timed}
use Rattle.goal_graph.specs.declared.plan.Kind.{Kind}
use Rattle.goal_graph.specs.declared.plan.Kind.TheVariants.{Send, Recv}
use Rattle.goal_graph.specs.IdText.{id_text}
use Rattle.goal_graph.specs.Schedule.{Plan, kind_at, places_of_rank, operations}
use Rattle.sim_params.specs.Costs.{CostModel}
use Rattle.sim_params.specs.Times.{mate}
use Rattle.sim_waits.specs.Waits.{ended, wait, wait_or_zero, AreGreatest}

-- how many operations of a rank have ended, and the sum of their waits
abbrev pub rank_line : ℕ → ℕ → ℕ → List ℕ
rank_line rank count total =
    codes "rank " ++ decimal rank ++ codes " ended " ++ decimal count ++ codes " wait " ++ decimal total ++ line_feed

-- an operation and its wait
abbrev pub wait_line : OpId → ℕ → List ℕ
wait_line x nanos = codes "wait " ++ id_text x ++ codes " " ++ decimal nanos ++ line_feed

-- a receive, its room and the size of its message, in bytes
abbrev pub oversize_line : OpId → ℕ → ℕ → List ℕ
oversize_line x room message =
    codes "oversize " ++ id_text x ++ codes " room " ++ decimal room ++ codes " message " ++ decimal message ++ line_feed

-- the line of a receive that takes a message larger than its room; empty for every other operation
abbrev pub oversize_by : OpId → Option Kind → Option Kind → List ℕ
oversize_by x (Some (Recv room from tag)) (Some (Send bytes to with_tag)) =
    if nat_lt room bytes then oversize_line x room bytes else []
oversize_by x _ _ = []

-- the kind of the partner of an operation, if it has one
abbrev pub kind_of_partner : List Plan → Option OpId → Option Kind
kind_of_partner plans None = None
kind_of_partner plans (Some y) = kind_at plans y

module _ (plans : List Plan) (costs : CostModel) (h : List Timed) where
  -- the line of a rank with these operations
  unfoldable pub line_of_rank : ℕ → List OpId → List ℕ
  line_of_rank rank ops =
      rank_line rank (count_by (ended plans costs h) ops) (sum_by (wait_or_zero plans costs h) ops)

  -- the lines of the ranks of these plans, from the number `rank` on
  unfoldable pub rank_lines : ℕ → List Plan → List ℕ
  rank_lines rank [] = []
  rank_lines rank (p ∷ ps) = line_of_rank rank (places_of_rank rank 0 p.ops) ++ rank_lines (rank + 1) ps

  abbrev pub wait_line_of : OpId → List ℕ
  wait_line_of x = wait_line x (wait plans costs h x)

  -- the line of an operation; empty unless it is a receive with a larger message than its room
  unfoldable pub oversize_of : OpId → List ℕ
  oversize_of x = oversize_by x (kind_at plans x) (kind_of_partner plans (mate plans costs h x))

  -- a line for each rank, a line for each of the operations `longest`, and the lines of all receives whose messages are
  -- larger than their room, by rank and number
  unfoldable pub waits_text : List OpId → List ℕ
  waits_text longest =
      rank_lines 0 plans ++ flat_map wait_line_of longest ++ flat_map oversize_of (operations plans)

  -- the report on the waits of a run
  pub record IsWaitsText (text : List ℕ) : Type 0 where
    pub longest : List OpId
    pub greatest : AreGreatest plans costs h longest
    pub lines : text ≡ waits_text longest
