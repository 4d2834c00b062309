-- Summaries of some of the operations, and the lines that are left to print.
use Rattle.std.specs.Prelude.{ℕ, ◌≡◌, ◌&&◌, Bool, not, List, length, Option, is_some, take, drop, count_by}
use Rattle.std.specs.List.{flat_map}
use Rattle.goal_graph.specs.declared.action.OpId.{OpId}
use Rattle.goal_graph.specs.declared.action.Timed.{Timed}
use Rattle.goal_graph.specs.declared.plan.Kind.{Kind}
use Rattle.goal_graph.specs.Schedule.{Plan, operations}
use Rattle.sim_params.specs.Costs.{CostModel}
use Rattle.sim_params.specs.Times.{greatest}
use Rattle.sim_params.specs.Stuck.{lacks_end}
use Rattle.sim_timeline.specs.Timeline.{is_send, is_unmatched, end_or_zero, line_of}

-- a send that has begun and is not paired, by its kind, its start and its partner
abbrev pub is_unmatched_send : Option Kind → Option ℕ → Option OpId → Bool
is_unmatched_send kind start partner = is_send kind && is_some start && not (is_some partner)

-- the number of operations of the ranks before this one
abbrev pub before_rank : List Plan → ℕ → ℕ
before_rank plans rank = length (operations (take rank plans))

module _ (plans : List Plan) (costs : CostModel) (h : List Timed) where
  -- the numbers of the first line, if these were all the operations
  pub record IsSummary (ops : List OpId) (stuck unmatched finish : ℕ) : Type 0 where
    pub stuck_is : stuck ≡ count_by (lacks_end plans costs h) ops
    pub unmatched_is : unmatched ≡ count_by (is_unmatched plans costs h) ops
    pub finish_is : finish ≡ greatest (end_or_zero plans costs h) ops

  -- the lines of the operations from the index `done` on, in the order of all
  abbrev pub lines_from : ℕ → List ℕ
  lines_from done = flat_map (line_of plans costs h) (drop done (operations plans))
