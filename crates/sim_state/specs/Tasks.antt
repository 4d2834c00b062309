-- What an operation does, whether a send is eager, and whether an operation is needed.
use Rattle.std.specs.Prelude.{◌≡◌, ◌⊎◌, ◌==◌, Bool, true, not, List, length, Option, Some, None, if◌then◌else◌}
use Rattle.goal_graph.specs.declared.action.OpId.{OpId}
use Rattle.goal_graph.specs.declared.action.Timed.{Timed}
use Rattle.goal_graph.specs.declared.action.Class.TheVariants.{Arrive, Serve, Begin}
use Rattle.goal_graph.specs.declared.plan.Kind.{Kind}
use Rattle.goal_graph.specs.declared.plan.Kind.TheVariants.{Calc, Send, Recv}
use Rattle.goal_graph.specs.declared.plan.Need.{Need}
use Rattle.goal_graph.specs.Schedule.{Plan, kind_at}
use Rattle.goal_graph.specs.Concerned.{waiting_on}
use Rattle.goal_graph.specs.Laws.{IsCalc}
use Rattle.sim_params.specs.Costs.{CostModel, is_eager}
use Rattle.sim_state.specs.declared.task.Task.{Task}
use Rattle.sim_state.specs.declared.task.Task.TheVariants as task
use Rattle.sim_state.specs.declared.work.Work.{Work}

abbrev pub has_any : List Need → Bool
has_any needs = not (length needs == 0)

-- whether another operation needs x
abbrev pub is_needed : List Plan → OpId → Bool
is_needed plans x = has_any (waiting_on plans x)

module _ (plans : List Plan) (costs : CostModel) (x : OpId) where
  -- what x does, if it is of this kind: its nanoseconds or its bytes, the rank to which it sends them, its task, and
  -- whether another operation needs it; for no operation it is a calc of 0 ns
  abbrev pub work_by : Option Kind → Work
  work_by (Some (Calc nanos)) = record { amount = nanos; to = 0; task = task.Calc; is_needed = is_needed plans x }
  work_by (Some (Send bytes to tag)) = record {
    amount = bytes;
    to = to;
    task = if is_eager plans costs x then task.Eager else task.Rendezvous;
    is_needed = is_needed plans x;
  }
  work_by (Some (Recv room from tag)) = record { amount = 0; to = 0; task = task.Receive; is_needed = is_needed plans x }
  work_by None = record { amount = 0; to = 0; task = task.Calc; is_needed = is_needed plans x }

  abbrev pub work_of : Work
  work_of = work_by (kind_at plans x)

  abbrev pub task_of : Task
  task_of = work_of.task

-- the action is the last of its operation: a calc has begun, an eager send has arrived, or a receive took its message
abbrev pub IsLast : List Plan → CostModel → Timed → Type 0
IsLast plans costs a =
    ((a.class ≡ Begin) × IsCalc plans a.op) ⊎ (((a.class ≡ Arrive) × (is_eager plans costs a.op ≡ true)) ⊎ (a.class ≡ Serve))
