-- The printed run: a line on the whole, then a line for each operation. Each line ends with a line feed, and numbers
-- are decimal.
use Rattle.std.specs.Prelude.{ℕ, ◌&&◌, Bool, true, false, not, List, [], ◌++◌, Option, Some, None, if◌then◌else◌, length, codes, decimal, count_by}
use Rattle.std.specs.List.{flat_map}
use Rattle.goal_base.specs.Text.{line_feed, time_text}
use Rattle.goal_graph.specs.declared.action.OpId.{OpId}
use Rattle.goal_graph.specs.declared.action.Timed.{Timed}
use Rattle.goal_graph.specs.declared.plan.Kind.{Kind}
use Rattle.goal_graph.specs.declared.plan.Kind.TheVariants.{Calc, Send, Recv}
use Rattle.goal_graph.specs.IdText.{id_text}
use Rattle.goal_graph.specs.Schedule.{Plan, kind_at, operations}
use Rattle.goal_graph.specs.Action.{plain}
use Rattle.goal_graph.specs.Matching.{pairs, partner, is_paired}
use Rattle.goal_graph.specs.Allowed.{has_started, has_ended}
use Rattle.sim_params.specs.Costs.{CostModel, is_eager}
use Rattle.sim_params.specs.Times.{end, greatest}
use Rattle.sim_params.specs.Stuck.{lacks_end}
use Rattle.sim_events.specs.Engine.{start_known, end_known}

abbrev pub match_text : Option OpId → List ℕ
match_text None = codes " match -"
match_text (Some y) = codes " match " ++ id_text y

abbrev pub kind_text : Kind → List ℕ
kind_text (Calc nanos) = codes " calc start "
kind_text (Send bytes to tag) = codes " send start "
kind_text (Recv bytes from tag) = codes " recv start "

-- the match of a send or a receive; a calc has none
abbrev pub partner_text : Kind → Option OpId → List ℕ
partner_text (Calc nanos) y = []
partner_text (Send bytes to tag) y = match_text y
partner_text (Recv bytes from tag) y = match_text y

-- the line of an operation of this kind, with its start, its end and its partner
abbrev pub operation_line : OpId → Kind → Option ℕ → Option ℕ → Option OpId → List ℕ
operation_line x kind start end partner =
    codes "op " ++ id_text x ++ kind_text kind
    ++ time_text start ++ codes " end " ++ time_text end ++ partner_text kind partner ++ line_feed

-- the first line: the numbers of ranks, operations, operations without an end and unmatched messages, and the last end
abbrev pub summary_line : ℕ → ℕ → ℕ → ℕ → ℕ → List ℕ
summary_line ranks ops stuck unmatched finish =
    codes "ranks " ++ decimal ranks ++ codes " ops " ++ decimal ops ++ codes " stuck " ++ decimal stuck
    ++ codes " unread " ++ decimal unmatched ++ codes " finish " ++ decimal finish ++ line_feed

abbrev pub is_send : Option Kind → Bool
is_send (Some (Send bytes to tag)) = true
is_send (Some (Calc nanos)) = false
is_send (Some (Recv bytes from tag)) = false
is_send None = false

module _ (plans : List Plan) (costs : CostModel) (h : List Timed) where
  -- x is a send that has begun and is not paired
  abbrev pub is_unmatched : OpId → Bool
  is_unmatched x =
      is_send (kind_at plans x) && has_started plans x (plain h) && not (is_paired (pairs plans (plain h)) x)

  -- the end of x; 0 if it has none
  abbrev pub end_or_zero : OpId → ℕ
  end_or_zero x = if has_ended plans (is_eager plans costs) x (plain h) then end plans costs h x else 0

  unfoldable pub first_line : List ℕ
  first_line =
      summary_line (length plans) (length (operations plans)) (count_by (lacks_end plans costs h) (operations plans))
      (count_by is_unmatched (operations plans)) (greatest end_or_zero (operations plans))

  abbrev pub line_by : OpId → Option Kind → List ℕ
  line_by x None = []
  line_by x (Some kind) =
      operation_line x kind (start_known plans costs h x) (end_known plans costs h x) (partner (pairs plans (plain h)) x)

  -- the line of an operation
  unfoldable pub line_of : OpId → List ℕ
  line_of x = line_by x (kind_at plans x)

  -- the first line, and the lines of all operations, by rank and number
  unfoldable pub timeline : List ℕ
  timeline = first_line ++ flat_map line_of (operations plans)
