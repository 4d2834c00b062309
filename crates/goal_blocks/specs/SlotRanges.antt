-- Slots as ranges.
use Rattle.std.specs.Prelude.{ℕ, ◌+◌, ◌-◌, ◌==◌, if◌then◌else◌, List, [], ◌∷◌, flat_map}
use Rattle.goal_graph.specs.declared.plan.Note.{Note}
use Rattle.goal_graph.specs.declared.plan.Note.TheVariants.{Moves, Adds}
use Rattle.goal_blocks.specs.Slots.{slots_from}
pub use Rattle.goal_blocks.specs.declared.slots.SlotRange.{SlotRange}

-- the slots of a range, and those of several ranges, one after another
abbrev pub slots_of : SlotRange → List ℕ
slots_of range = slots_from range.lo (range.hi + 1 - range.lo)

abbrev pub slots_in : List SlotRange → List ℕ
slots_in ranges = flat_map slots_of ranges

-- the range of slots that the operation moves, by this note
abbrev pub ranges_by : ℕ → Note → List SlotRange
ranges_by op (Moves of lo hi) = if of == op then record { lo = lo; hi = hi } ∷ [] else []
ranges_by op (Adds of from to) = []
