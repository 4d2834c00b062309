-- An operation, a dependency or a note that is written is read back, in both layouts; so are lists of them.
use Rattle.std.proofs.Common.{◌≡◌, ℕ, List, [], ◌∷◌, ◌++◌, length, drop, refl, ap, ◌∙◌, append_assoc}
use Rattle.std.specs.List.{flat_map, AllByRecursion}
use Rattle.std.proofs.lemmas.List.Concat.{flat_map-cons}
use Rattle.goal_graph.specs.declared.plan.Op.{Op}
use Rattle.goal_graph.specs.declared.plan.Dep.{Dep}
use Rattle.goal_graph.specs.declared.plan.Note.{Note}
use Rattle.goal_graph.specs.Widths.{IsNoteInWidth}
use Rattle.goal_binary.specs.declared.layout.Layout.{Layout}
use Rattle.goal_binary.specs.declared.layout.Layout.TheVariants.{Fixed, Packed}
use Rattle.goal_binary.specs.Fitting.{OpFits, DepFits}
use Rattle.goal_binary.specs.File.{spelled_op, spelled_dep, spelled_note}
use Rattle.goal_binary.specs.Fields.{Read}
use Rattle.goal_binary.specs.Reading.{list_at, op_at, dep_at, note_at}
use Rattle.goal_binary.proofs.FieldsAgain.{IsReadAs}
use Rattle.goal_binary.proofs.FixedAgain.{fixed_op_again, fixed_dep_again, fixed_note_again}
use Rattle.goal_binary.proofs.PackedAgain.{packed_op_again, packed_dep_again, packed_note_again}

module _ (bytes : List ℕ) where
  pub op_again : (l : Layout) (o : Op) (at : ℕ) (rest : List ℕ) → OpFits o → drop at bytes ≡ spelled_op l o ++ rest → IsReadAs bytes (op_at bytes l at) o rest
  unfolding op_at spelled_op
  op_again Fixed o at rest fits h = fixed_op_again bytes o at rest fits h
  op_again Packed o at rest fits h = packed_op_again bytes o at rest fits h

  pub dep_again : (l : Layout) (d : Dep) (at : ℕ) (rest : List ℕ) → DepFits d → drop at bytes ≡ spelled_dep l d ++ rest → IsReadAs bytes (dep_at bytes l at) d rest
  unfolding dep_at spelled_dep
  dep_again Fixed d at rest fits h = fixed_dep_again bytes d at rest fits h
  dep_again Packed d at rest fits h = packed_dep_again bytes d at rest fits h

  pub note_again : (l : Layout) (n : Note) (at : ℕ) (rest : List ℕ) → IsNoteInWidth n → drop at bytes ≡ spelled_note l n ++ rest → IsReadAs bytes (note_at bytes l at) n rest
  unfolding note_at spelled_note
  note_again Fixed n at rest fits h = fixed_note_again bytes n at rest fits h
  note_again Packed n at rest fits h = packed_note_again bytes n at rest fits h

  pub list_again : {A : Type 0} (item_at : ℕ → Read A) (spelled : A → List ℕ) (P : A → Type 0) → ((x : A) (at : ℕ) (rest : List ℕ) → P x → drop at bytes ≡ spelled x ++ rest → IsReadAs bytes (item_at at) x rest)
      → (xs : List A) (at : ℕ) (rest : List ℕ) → AllByRecursion P xs → drop at bytes ≡ flat_map spelled xs ++ rest → IsReadAs bytes (list_at item_at (length xs) at) xs rest
  unfolding list_at
  list_again item_at spelled P each [] at rest fits h = record { place = at; is = refl; rest_is = h }
  list_again item_at spelled P each (x ∷ xs) at rest fits h =
      let regrouped : flat_map spelled (x ∷ xs) ++ rest ≡ spelled x ++ (flat_map spelled xs ++ rest) = ap (λ (t : List ℕ). t ++ rest) (flat_map-cons spelled x xs) ∙ append_assoc (spelled x) (flat_map spelled xs) rest in
      let a = each x at (flat_map spelled xs ++ rest) fits.0 (h ∙ regrouped) in
      let r = list_again item_at spelled P each xs a.place rest fits.1 a.rest_is in
      record { place = r.place; is = rw (a.is, r.is) refl; rest_is = r.rest_is }
