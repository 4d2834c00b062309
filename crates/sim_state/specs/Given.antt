-- The entry of an operation that waits for a moment and gets it.
use Rattle.std.specs.Prelude.{ℕ, ◌≡◌, ◌<◌, ◌-◌, max, List, map, Option}
use Rattle.std.specs.Option.{option_map}
use Rattle.goal_graph.specs.declared.action.OpId.{OpId}
use Rattle.goal_graph.specs.declared.plan.When.{When}
use Rattle.goal_graph.specs.declared.plan.When.TheVariants.{AfterEnd, AfterStart}
use Rattle.goal_graph.specs.Schedule.{Plan, operations}
use Rattle.goal_graph.specs.Entries.{with_entry}
use Rattle.sim_state.specs.declared.entry.OpState.{OpState}
use Rattle.sim_state.specs.declared.entry.Times.{Times}

-- the times of an operation that gets this moment: it awaits the later of both
abbrev pub given_times : ℕ → Times → Times
given_times moment t = record t { awaited = option_map (λ (last : ℕ). max last moment) t.awaited }

-- the entry of y has this moment and waits for one less; the others are those of f
abbrev pub with_given : OpId → ℕ → (OpId → OpState) → OpId → OpState
with_given y moment f =
    with_entry y (record (f y) { times = given_times moment (f y).times; link = record (f y).link { unmet = (f y).link.unmet - 1 } }) f

-- these are the entries of the operations, and y waits for a moment
abbrev pub IsWaiting : List Plan → List OpState → OpId → Type 0
IsWaiting plans entries y =
    (f : OpId → OpState) × (entries ≡ map f (operations plans)) × (0 < (f y).link.unmet)

-- the moment that a need is of, once it is known, of an operation with these times
abbrev pub moment_in : Times → When → Option ℕ
moment_in t AfterStart = t.start
moment_in t AfterEnd = t.end
