use Rattle.std.proofs.Common.{ℕ, ◌≡◌, ◌<◌, [], length, take, get_or, flat_map, Vec, Global}
use Rattle.goal_blocks.specs.SlotRanges.{SlotRange, ranges_by}
use Rattle.goal_blocks.proofs.slot_table.moved_of.Given as goal

-- what each operation moves by the notes so far
abbrev pub invariant-loop-note : goal.invariant-loop-note
invariant-loop-note l =
    (length l.moved.items ≡ length l.plan.ops) × ((k : ℕ) (v : Vec SlotRange Global) → k < length l.plan.ops → (get_or l.moved.items k v).items ≡ flat_map (ranges_by k) (take l.note-index l.note-items))

-- nothing yet
abbrev pub invariant-loop : goal.invariant-loop
invariant-loop l =
    (length l.moved.items ≡ l.counter) × ((k : ℕ) (v : Vec SlotRange Global) → k < l.counter → (get_or l.moved.items k v).items ≡ [])
