use Rattle.std.proofs.Common.{ℕ, ◌≡◌, ◌<◌, [], length, take, get_or, flat_map, Vec, Global}
use Rattle.goal_blocks.specs.Slots.{Adding, added_by}
use Rattle.goal_blocks.proofs.slot_table.added_of.Given as goal

-- what each operation adds by the notes so far
abbrev pub invariant-loop-note : goal.invariant-loop-note
invariant-loop-note l =
    (length l.added.items ≡ length l.plan.ops) × ((k : ℕ) (v : Vec Adding Global) → k < length l.plan.ops → (get_or l.added.items k v).items ≡ flat_map (added_by k) (take l.note-index l.note-items))

-- nothing yet
abbrev pub invariant-loop : goal.invariant-loop
invariant-loop l =
    (length l.added.items ≡ l.counter) × ((k : ℕ) (v : Vec Adding Global) → k < l.counter → (get_or l.added.items k v).items ≡ [])
