-- Slots renamed in all notes of a schedule; the names may differ by rank. All else stays.
use Rattle.std.specs.Prelude.{ℕ, ◌+◌, ◌-◌, List, [], ◌∷◌, map}
use Rattle.std.specs.List.{flat_map}
use Rattle.goal_graph.specs.declared.plan.Note.{Note}
use Rattle.goal_graph.specs.declared.plan.Note.TheVariants.{Moves, Adds}
use Rattle.goal_graph.specs.Schedule.{Plan}
use Rattle.goal_blocks.specs.Slots.{Adding, slots_from}

-- a function of rank and slot, applied to the new name of the slot
abbrev pub under : {A : Type 0} → (ℕ → ℕ → ℕ) → (ℕ → ℕ → A) → ℕ → ℕ → A
under name told rank slot = told rank (name rank slot)

abbrev pub renamed_adding : (ℕ → ℕ) → Adding → Adding
renamed_adding name a = record { from = name a.from; to = name a.to }

-- a move of several slots becomes a move of each
abbrev pub renamed_note : (ℕ → ℕ) → Note → List Note
renamed_note name (Moves op lo hi) =
    map (λ (slot : ℕ). Moves op (name slot) (name slot)) (slots_from lo (hi + 1 - lo))
renamed_note name (Adds op from to) = Adds op (name from) (name to) ∷ []

abbrev pub renamed_plan : (ℕ → ℕ) → Plan → Plan
renamed_plan name p = record { ops = p.ops; deps = p.deps; notes = flat_map (renamed_note name) p.notes }

-- the first of these plans belongs to the given rank
unfoldable pub renamed_from : (ℕ → ℕ → ℕ) → ℕ → List Plan → List Plan
renamed_from name rank [] = []
renamed_from name rank (p ∷ ps) = renamed_plan (name rank) p ∷ renamed_from name (rank + 1) ps

abbrev pub renamed : (ℕ → ℕ → ℕ) → List Plan → List Plan
renamed name plans = renamed_from name 0 plans
