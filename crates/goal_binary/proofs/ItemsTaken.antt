-- An operation, a dependency or a note that is read has been written so, in both layouts.
use Rattle.std.proofs.Common.{◌≡◌, ℕ, List, Ok}
use Rattle.goal_graph.specs.declared.plan.Op.{Op}
use Rattle.goal_graph.specs.declared.plan.Dep.{Dep}
use Rattle.goal_graph.specs.declared.plan.Note.{Note}
use Rattle.goal_binary.specs.declared.layout.Layout.{Layout}
use Rattle.goal_binary.specs.declared.layout.Layout.TheVariants.{Fixed, Packed}
use Rattle.goal_binary.specs.File.{spelled_op, spelled_dep, spelled_note}
use Rattle.goal_binary.specs.Reading.{op_at, dep_at, note_at}
use Rattle.goal_binary.proofs.Steps.{IsBytes, Takes}
use Rattle.goal_binary.proofs.FixedTaken.{fixed_op_taken, fixed_dep_taken, fixed_note_taken}
use Rattle.goal_binary.proofs.PackedTaken.{packed_op_taken, packed_dep_taken, packed_note_taken}

module _ (bytes : List ℕ) (fits : IsBytes bytes) where
  pub op_taken : (l : Layout) (at : ℕ) (x : Op × ℕ) → op_at bytes l at ≡ Ok x → Takes bytes at (spelled_op l x.0) x.1
  unfolding op_at spelled_op
  op_taken Fixed at x e = fixed_op_taken bytes fits at x e
  op_taken Packed at x e = packed_op_taken bytes fits at x e

  pub dep_taken : (l : Layout) (at : ℕ) (x : Dep × ℕ) → dep_at bytes l at ≡ Ok x → Takes bytes at (spelled_dep l x.0) x.1
  unfolding dep_at spelled_dep
  dep_taken Fixed at x e = fixed_dep_taken bytes fits at x e
  dep_taken Packed at x e = packed_dep_taken bytes fits at x e

  pub note_taken : (l : Layout) (at : ℕ) (x : Note × ℕ) → note_at bytes l at ≡ Ok x → Takes bytes at (spelled_note l x.0) x.1
  unfolding note_at spelled_note
  note_taken Fixed at x e = fixed_note_taken bytes fits at x e
  note_taken Packed at x e = packed_note_taken bytes fits at x e
