-- The slots that operations touch, by the notes of their rank, in list order.
use Rattle.std.specs.Prelude.{ℕ, zero, suc, ◌+◌, ◌-◌, ◌==◌, List, [], ◌∷◌, map, flat_map, Option, Some, None, slice_get, unwrap_or, if◌then◌else◌}
use Rattle.std.specs.Option.{option_map}
use Rattle.goal_graph.specs.declared.action.OpId.{OpId}
use Rattle.goal_graph.specs.declared.plan.Kind.{Kind}
use Rattle.goal_graph.specs.declared.plan.Kind.TheVariants.{Calc, Send, Recv}
use Rattle.goal_graph.specs.declared.plan.Note.{Note}
use Rattle.goal_graph.specs.declared.plan.Note.TheVariants.{Moves, Adds}
use Rattle.goal_graph.specs.Schedule.{Plan, kind_at}
pub use Rattle.goal_blocks.specs.declared.slots.Adding.{Adding}

-- n slots from `lo` on
unfoldable pub slots_from : ℕ → ℕ → List ℕ
slots_from lo zero = []
slots_from lo (suc n) = lo ∷ slots_from (lo + 1) n

-- the notes of a rank, or none if the rank does not exist
unfoldable pub notes_at : List Plan → ℕ → List Note
notes_at plans rank = unwrap_or (option_map (λ (p : Plan). p.notes) (slice_get plans rank)) []

abbrev pub moved_by : ℕ → Note → List ℕ
moved_by op (Moves of lo hi) = if of == op then slots_from lo (hi + 1 - lo) else []
moved_by op (Adds of from to) = []

abbrev pub added_by : ℕ → Note → List Adding
added_by op (Moves of lo hi) = []
added_by op (Adds of from to) = if of == op then record { from = from; to = to } ∷ [] else []

-- the slots that a send reads or a receive sets
unfoldable pub slots : List Plan → OpId → List ℕ
slots plans x = flat_map (moved_by x.op) (notes_at plans x.rank)

-- what a calc adds, in order
unfoldable pub adds : List Plan → OpId → List Adding
adds plans x = flat_map (added_by x.op) (notes_at plans x.rank)

abbrev pub written_in : Option Kind → List ℕ → List Adding → List ℕ
written_in (Some (Recv room from tag)) moved added = moved
written_in (Some (Calc nanos)) moved added = map (λ (a : Adding). a.to) added
written_in _ moved added = []

abbrev pub touched_in : Option Kind → List ℕ → List Adding → List ℕ
touched_in (Some (Send bytes to tag)) moved added = moved
touched_in (Some (Recv room from tag)) moved added = moved
touched_in (Some (Calc nanos)) moved added = flat_map (λ (a : Adding). a.from ∷ a.to ∷ []) added
touched_in None moved added = []

-- the slots that an operation writes, and those that it reads or writes
unfoldable pub written : List Plan → OpId → List ℕ
written plans x = written_in (kind_at plans x) (slots plans x) (adds plans x)

unfoldable pub touched : List Plan → OpId → List ℕ
touched plans x = touched_in (kind_at plans x) (slots plans x) (adds plans x)
