-- The entry of a step, as the code gives it.
use Rattle.std.specs.Prelude.{ℕ, Some, None, List, [], ◌∷◌, ◌++◌, map}
use Rattle.std.specs.List.{range_with_len}
use Rattle.goal_blocks.specs.declared.steps.Step.{Step}
use Rattle.goal_blocks.specs.declared.steps.Needs.{Needs}
use Rattle.goal_blocks.specs.declared.steps.Needs.TheVariants.{Nothing, One, Two, Below}
use Rattle.goal_blocks.specs.declared.steps.Effect.{Effect}
use Rattle.goal_blocks.specs.declared.steps.Effect.TheVariants.{Moves, Adds}
use Rattle.goal_graph.specs.declared.plan.Note.{Note}
use Rattle.goal_graph.specs.declared.plan.Note.TheVariants as note
use Rattle.goal_blocks.specs.Slots.{Adding}
use Rattle.goal_blocks.specs.SlotRanges.{SlotRange}
use Rattle.goal_blocks.specs.Entries.{Entry, Span}

abbrev pub needs_of : Needs → List ℕ
needs_of Nothing = []
needs_of (One k) = k ∷ []
needs_of (Two j k) = j ∷ k ∷ []
needs_of (Below n) = range_with_len 0 n

abbrev pub span_of : SlotRange → Span
span_of range = record { lo = range.lo; hi = range.hi }

abbrev pub moves_of : Effect → List Span
moves_of (Moves first None) = span_of first ∷ []
moves_of (Moves first (Some second)) = span_of first ∷ span_of second ∷ []
moves_of (Adds from to) = []

abbrev pub adds_of : Effect → List Adding
adds_of (Moves first second) = []
adds_of (Adds from to) = record { from = from; to = to } ∷ []

-- the notes of operation number `op`
abbrev pub notes_from : ℕ → Effect → List Note
notes_from op effect =
    map (λ (s : Span). note.Moves op s.lo s.hi) (moves_of effect) ++ map (λ (a : Adding). note.Adds op a.from a.to) (adds_of effect)

abbrev pub entry_of : Step → Entry
entry_of s = record { kind = s.kind; needs = needs_of s.needs; moves = moves_of s.effect; adds = adds_of s.effect }
