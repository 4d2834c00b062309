-- What a view shows of the run of a schedule.
use Rattle.std.specs.Prelude.{ℕ, ◌≡◌, ◌++◌, Bool, List, codes, decimal}
use Rattle.std.specs.List.{sum_by}
use Rattle.goal_base.specs.Text.{line_feed}
use Rattle.goal_graph.specs.declared.action.Timed.{Timed}
use Rattle.goal_graph.specs.Schedule.{Plan, operations}
use Rattle.sim_params.specs.Costs.{CostModel}
use Rattle.sim_params.specs.Run.{IsCompleteRun}
use Rattle.sim_params.specs.Stuck.{is_stuck}
use Rattle.sim_timeline.specs.Timeline.{first_line, timeline, end_or_zero}
use Rattle.sim_cycles.specs.Knots.{knots}
use Rattle.sim_cycles.specs.KnotsText.{knots_text}
use Rattle.sim_stuck.specs.StuckList.{stuck_list}
use Rattle.sim_stuck.specs.StuckText.{stuck_text}
use Rattle.sim_waits.specs.WaitsText.{IsWaitsText}
use Rattle.goal_words.specs.declared.request.RunView.{RunView}
use Rattle.goal_words.specs.declared.request.RunView.TheVariants as view

-- the timeline of a run, and then the lines of its stuck operations, each with its reason
abbrev pub run_text : List Plan → CostModel → List Timed → List ℕ
run_text sched costs history = timeline sched costs history ++ stuck_text (stuck_list sched costs history)

-- the first line of the timeline of a run, and then the lines of the knots of its stuck operations
abbrev pub knots_shown : List Plan → CostModel → List Timed → List ℕ
knots_shown sched costs history = first_line sched costs history ++ knots_text (knots (stuck_list sched costs history))

-- the sum of the ends of all operations that have one
abbrev pub sum_of_ends : List Plan → CostModel → List Timed → ℕ
sum_of_ends sched costs history = sum_by (end_or_zero sched costs history) (operations sched)

-- the first line of the timeline, and the sum of the ends
abbrev pub probe_text : List Plan → CostModel → List Timed → List ℕ
probe_text sched costs history =
    first_line sched costs history ++ (codes "ends " ++ decimal (sum_of_ends sched costs history) ++ line_feed)

-- what a view shows of a run, one line for each view
abbrev pub Shows : RunView → List Plan → CostModel → List Timed → List ℕ → Type 0
Shows view.Printed sched costs history output = output ≡ run_text sched costs history
Shows view.Waits sched costs history output = IsWaitsText sched costs history output
Shows view.Knots sched costs history output = output ≡ knots_shown sched costs history
Shows view.Sum sched costs history output = output ≡ probe_text sched costs history

-- The output is what a view shows of the one complete run of a schedule with these costs, in which at each step the
-- least possible action by time and tie rule happens next. `stuck` says whether an operation of the run has no end.
pub record IsShownRun (how : RunView) (costs : CostModel) (sched : List Plan) (output : List ℕ) (stuck : Bool) : Type 0 where
  pub history : List Timed
  pub complete : IsCompleteRun sched costs history
  pub only : (h : List Timed) → IsCompleteRun sched costs h → h ≡ history
  pub shown : Shows how sched costs history output
  pub stuck_is : stuck ≡ is_stuck sched costs history

-- it is the printed run
abbrev pub IsPrintedRun : CostModel → List Plan → List ℕ → Bool → Type 0
IsPrintedRun costs sched output stuck = IsShownRun view.Printed costs sched output stuck
