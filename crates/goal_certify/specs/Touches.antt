-- Which slots the operations of a rank touch, as a list.
use Rattle.std.specs.Prelude.{ℕ, ◌≡◌, ◌+◌, ◌-◌, ◌<◌, ◌≤◌, Bool, true, false, List, [], ◌∷◌, length, map, Contains, Option, Some, slice_get}
use Rattle.std.specs.Option.{option_map}
use Rattle.goal_limits.specs.Limits.{slot_limit}
use Rattle.goal_graph.specs.declared.plan.Op.{Op}
use Rattle.goal_graph.specs.declared.plan.Kind.{Kind}
use Rattle.goal_graph.specs.declared.plan.Kind.TheVariants.{Calc, Send, Recv}
use Rattle.goal_graph.specs.declared.plan.Note.{Note}
use Rattle.goal_graph.specs.declared.plan.Note.TheVariants.{Moves, Adds}
use Rattle.goal_graph.specs.Schedule.{Plan, ops_at}
use Rattle.goal_blocks.specs.Slots.{slots_from, touched, written}
use Rattle.goal_certify.specs.declared.races.touches.Touch.{Touch}
use Rattle.goal_graph.specs.Search.{op_id}

-- the touches of an operation that reads or writes these slots
unfoldable pub moved : ℕ → Bool → List ℕ → List Touch
moved op writes slots = map (λ (s : ℕ). record { op = op; slot = s; writes = writes }) slots

-- the touches by a note, if its operation is of this kind
abbrev pub touches_in : Option Kind → Note → List Touch
touches_in (Some (Send bytes to tag)) (Moves op lo hi) = moved op false (slots_from lo (hi + 1 - lo))
touches_in (Some (Recv room from tag)) (Moves op lo hi) = moved op true (slots_from lo (hi + 1 - lo))
touches_in (Some (Calc nanos)) (Adds op from to) =
    record { op = op; slot = from; writes = false } ∷ record { op = op; slot = to; writes = true } ∷ []
touches_in _ _ = []

-- the operation that a note names
abbrev pub noted : Note → ℕ
noted (Moves op lo hi) = op
noted (Adds op from to) = op

abbrev pub touches_of : List Op → Note → List Touch
touches_of ops n = touches_in (option_map (λ (o : Op). o.kind) (slice_get ops (noted n))) n

-- the touches of a rank, all of them and no others
pub record AreTouches (plans : List Plan) (rank : ℕ) (touches : List Touch) : Type 0 where
  pub touch : (t : Touch) → Contains touches t → Contains (touched plans (op_id rank t.op)) t.slot
  pub write : (t : Touch) → Contains touches t → t.writes ≡ true → Contains (written plans (op_id rank t.op)) t.slot
  pub all_touched : (k s : ℕ) → Contains (touched plans (op_id rank k)) s → (t : Touch) × Contains touches t × (t.op ≡ k) × (t.slot ≡ s)
  pub all_written : (k s : ℕ) → Contains (written plans (op_id rank k)) s → (t : Touch) × Contains touches t × (t.op ≡ k) × (t.slot ≡ s) × (t.writes ≡ true)
  pub op_below : (t : Touch) → Contains touches t → t.op < length (ops_at plans rank)
  pub slot_low : (t : Touch) → Contains touches t → t.slot ≤ slot_limit
