-- The entry of an operation at first, and those that an action changes.
use Rattle.std.specs.Prelude.{ℕ, Option, Some, None}
use Rattle.goal_graph.specs.declared.action.OpId.{OpId}
pub use Rattle.goal_graph.specs.Entries.{with_entry}
use Rattle.sim_state.specs.declared.entry.Change.{Change}
use Rattle.sim_state.specs.declared.entry.OpState.{OpState}
use Rattle.sim_state.specs.declared.entry.Times.{Times}
use Rattle.sim_state.specs.declared.work.Work.{Work}

-- an operation with this work that needs `unmet` moments and has done nothing
abbrev pub fresh_entry : Work → ℕ → OpState
fresh_entry work unmet = record {
  work = work;
  times = record { start = None; end = None; awaited = Some 0 };
  link = record { unmet = unmet; partner = None };
}

-- the entry of y has these times, and the others are those of f
abbrev pub with_times : OpId → Times → (OpId → OpState) → OpId → OpState
with_times y times f = with_entry y (record (f y) { times = times }) f

-- the entry of y says that it has been paired with m since `at`, and waits for no moment; the others are those of f
abbrev pub with_pairing : OpId → OpId → ℕ → (OpId → OpState) → OpId → OpState
with_pairing y m at f =
    with_entry y (record (f y) { times = record (f y).times { awaited = Some at }; link = record { unmet = 0; partner = Some m } }) f

-- if y has a partner, the entries of the two say that they have been paired since `at`
abbrev pub with_partner : OpId → Option OpId → ℕ → (OpId → OpState) → OpId → OpState
with_partner y None at f = f
with_partner y (Some m) at f = with_pairing m y at (with_pairing y m at f)

-- the entries after this change of y at the time `at`
abbrev pub with_change : OpId → Change → ℕ → (OpId → OpState) → OpId → OpState
with_change y c at f = with_partner y c.partner at (with_times y c.times f)
