use Rattle.std.proofs.Common.{◌≡◌, ◌+◌, ◌*◌, ◌-◌, ◌≤◌, ◌^◌, ℕ, length}
use Rattle.goal_graph.specs.Schedule.{operations}
use Rattle.sim_stations.specs.Stations.{cost_of_waiting}
use Rattle.sim_events.specs.Comparisons.{spent}
use Rattle.sim_events.specs.Cost.{cost_of_actions, reads_of_run}
use Rattle.sim_events.specs.Changes.{HaveChanged, HaveChangedOn}
use Rattle.sim_events.specs.Pending.{IsPendingOf}
use Rattle.sim_events.proofs.pending.run.Given as goal

-- what has been compared is paid by the actions, the changes of place, and the keys that are there
abbrev pub invariant-steps : goal.invariant-steps
invariant-steps g l =
    IsPendingOf g.C.Costs.model l.state l.queue
    × (l.state.plans ≡ l.fn.state.plans)
    × (l.state.costs ≡ l.fn.state.costs)
    × ((k : ℕ) → length (operations l.fn.state.plans) ≤ 2 ^ k
    → l.steps + cost_of_waiting k l.queue.stands + spent k l.fn.queue + cost_of_actions k (length l.fn.state.history) l.fn.moves
    ≤ l.fn.steps + cost_of_waiting k l.fn.queue.stands + spent k l.queue + cost_of_actions k (length l.state.history) l.moves)
    × ((all : ℕ) → HaveChanged l.fn.state.plans l.fn.state.history l.fn.queue all → HaveChangedOn l.state.plans l.state.history l.queue all l.fn.moves l.moves)
    × (l.looks + 8 * length l.fn.state.history ≤ l.fn.looks + 8 * length l.state.history)
    × (l.reads + reads_of_run l.fn.state.plans l.fn.state.history ≡ l.fn.reads + reads_of_run l.state.plans l.state.history)

abbrev pub decreases-steps : goal.decreases-steps
decreases-steps g l = 3 * length (operations l.state.plans) - length l.state.history
