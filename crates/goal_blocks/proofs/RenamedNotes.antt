-- A schedule whose notes are renamed, operation by operation.
use Rattle.std.proofs.Common.{ℕ, zero, suc, ◌+◌, ◌-◌, ◌==◌, ◌≡◌, Bool, true, false, List, [], ◌∷◌, ◌++◌, length, map, flat_map, Option, Some, None, slice_get, unwrap_or, if◌then◌else◌, refl, sym, ap, ◌∙◌, arith, add-zero, zero-add}
use Rattle.std.specs.Option.{option_map}
use Rattle.std.specs.Prelude.{option_and_then, filter}
use Rattle.std.proofs.lemmas.Grind.{flat_map-append}
use Rattle.std.proofs.lemmas.List.Concat.{flat_map-cons}
use Rattle.std.proofs.lemmas.List.{map-append}
use Rattle.goal_graph.specs.declared.action.OpId.{OpId}
use Rattle.goal_graph.specs.declared.plan.Dep.{Dep}
use Rattle.goal_graph.specs.declared.plan.Note.{Note}
use Rattle.goal_graph.specs.declared.plan.Note.TheVariants.{Moves, Adds}
use Rattle.goal_graph.specs.Schedule.{Plan, op_at, needs, deps_at, earlier_of, places_from, places_of_rank}
use Rattle.goal_blocks.specs.Slots.{Adding, slots_from, moved_by, added_by, notes_at, slots, adds}
use Rattle.goal_blocks.specs.Renamed.{renamed_adding, renamed_note, renamed_plan, renamed_from, renamed}
use Rattle.goal_blocks.specs.Laws.{IsUndoneBy, IsRenamed}

module _ (name : ℕ → ℕ) (op : ℕ) where
  slots_from_of_one_slot : (t : ℕ) → slots_from t (t + 1 - t) ≡ t ∷ []
  unfolding slots_from
  slots_from_of_one_slot t = let one : t + 1 - t ≡ 1 = omega arith in ap (slots_from t) one

  moved_by_single_slot_notes : (of : ℕ) (b : Bool) → (of == op) ≡ b → (ks : List ℕ) → flat_map (moved_by op) (map (λ (s : ℕ). Moves of (name s) (name s)) ks) ≡ map name (if b then ks else [])
  moved_by_single_slot_notes of true e [] = refl
  moved_by_single_slot_notes of false e [] = refl
  moved_by_single_slot_notes of true e (k ∷ ks) =
      let here : moved_by op (Moves of (name k) (name k)) ≡ name k ∷ [] = ap (λ (b : Bool). if b then slots_from (name k) (name k + 1 - name k) else []) e ∙ slots_from_of_one_slot (name k) in
      flat_map-cons (moved_by op) (Moves of (name k) (name k)) (map (λ (s : ℕ). Moves of (name s) (name s)) ks) ∙ λ i. here i ++ moved_by_single_slot_notes of true e ks i
  moved_by_single_slot_notes of false e (k ∷ ks) =
      let here : moved_by op (Moves of (name k) (name k)) ≡ [] = ap (λ (b : Bool). if b then slots_from (name k) (name k + 1 - name k) else []) e in
      flat_map-cons (moved_by op) (Moves of (name k) (name k)) (map (λ (s : ℕ). Moves of (name s) (name s)) ks) ∙ λ i. here i ++ moved_by_single_slot_notes of false e ks i

  moved_renamed : (n : Note) → flat_map (moved_by op) (renamed_note name n) ≡ map name (moved_by op n)
  moved_renamed (Moves of lo hi) = moved_by_single_slot_notes of (of == op) refl (slots_from lo (hi + 1 - lo))
  moved_renamed (Adds of from to) = flat_map-cons (moved_by op) (Adds of (name from) (name to)) []

  added_none : (of : ℕ) (ks : List ℕ) → flat_map (added_by op) (map (λ (s : ℕ). Moves of (name s) (name s)) ks) ≡ []
  added_none of [] = refl
  added_none of (k ∷ ks) =
      flat_map-cons (added_by op) (Moves of (name k) (name k)) (map (λ (s : ℕ). Moves of (name s) (name s)) ks) ∙ added_none of ks

  added_renamed : (n : Note) → flat_map (added_by op) (renamed_note name n) ≡ map (renamed_adding name) (added_by op n)
  added_renamed (Moves of lo hi) = added_none of (slots_from lo (hi + 1 - lo))
  added_renamed (Adds of from to) =
      flat_map-cons (added_by op) (Adds of (name from) (name to)) [] ∙ go (of == op)
    where
      go : (b : Bool) → (if b then record { from = name from; to = name to } ∷ [] else []) ++ [] ≡ map (renamed_adding name) (if b then record { from = from; to = to } ∷ [] else [])
      go true = refl
      go false = refl

  moves_renamed : (ns : List Note) → flat_map (moved_by op) (flat_map (renamed_note name) ns) ≡ map name (flat_map (moved_by op) ns)
  moves_renamed [] = refl
  moves_renamed (n ∷ ns) =
      simp (flat_map-cons, flat_map-append, map-append, moved_renamed n, moves_renamed ns)

  adds_renamed : (ns : List Note) → flat_map (added_by op) (flat_map (renamed_note name) ns) ≡ map (renamed_adding name) (flat_map (added_by op) ns)
  adds_renamed [] = refl
  adds_renamed (n ∷ ns) =
      simp (flat_map-cons, flat_map-append, map-append, added_renamed n, adds_renamed ns)

module _ (name : ℕ → ℕ → ℕ) where
  pub get_renamed : (rank : ℕ) (plans : List Plan) (k : ℕ) → slice_get (renamed_from name rank plans) k ≡ option_map (renamed_plan (name (rank + k))) (slice_get plans k)
  unfolding renamed_from
  get_renamed rank [] k = refl
  get_renamed rank (p ∷ ps) zero =
      ap (λ (r : ℕ). Some (renamed_plan (name r) p)) (sym (add-zero rank))
  get_renamed rank (p ∷ ps) (suc k) =
      let same : rank + 1 + k ≡ rank + suc k = omega arith in
      get_renamed (rank + 1) ps k ∙ ap (λ (r : ℕ). option_map (renamed_plan (name r)) (slice_get ps k)) same

  length_renamed : (rank : ℕ) (plans : List Plan) → length (renamed_from name rank plans) ≡ length plans
  unfolding renamed_from
  length_renamed rank [] = refl
  length_renamed rank (p ∷ ps) = ap suc (length_renamed (rank + 1) ps)

  -- renaming slots keeps the list of operations
  pub places_renamed : (rank at : ℕ) (plans : List Plan) → places_from at (renamed_from name rank plans) ≡ places_from at plans
  unfolding renamed_from places_from
  places_renamed rank at [] = refl
  places_renamed rank at (p ∷ ps) =
      ap (λ (xs : List OpId). places_of_rank at 0 p.ops ++ xs) (places_renamed (rank + 1) (at + 1) ps)

  module _ (plans : List Plan) where
    plan_renamed : (rank : ℕ) → slice_get (renamed name plans) rank ≡ option_map (renamed_plan (name rank)) (slice_get plans rank)
    plan_renamed rank =
        get_renamed 0 plans rank ∙ ap (λ (r : ℕ). option_map (renamed_plan (name r)) (slice_get plans rank)) (zero-add rank)

    notes_renamed : (rank : ℕ) → notes_at (renamed name plans) rank ≡ flat_map (renamed_note (name rank)) (notes_at plans rank)
    unfolding notes_at
    notes_renamed rank =
        ap (λ (o : Option Plan). unwrap_or (option_map (λ (p : Plan). p.notes) o) []) (plan_renamed rank) ∙ go (slice_get plans rank)
      where
        go : (o : Option Plan) → unwrap_or (option_map (λ (p : Plan). p.notes) (option_map (renamed_plan (name rank)) o)) [] ≡ flat_map (renamed_note (name rank)) (unwrap_or (option_map (λ (p : Plan). p.notes) o) [])
        go None = refl
        go (Some p) = refl

    ops_renamed : (x : OpId) → op_at (renamed name plans) x ≡ op_at plans x
    unfolding op_at
    ops_renamed x =
        ap (λ (o : Option Plan). option_and_then (λ (p : Plan). slice_get p.ops x.op) o) (plan_renamed x.rank) ∙ go (slice_get plans x.rank)
      where
        go : (o : Option Plan) → option_and_then (λ (p : Plan). slice_get p.ops x.op) (option_map (renamed_plan (name x.rank)) o) ≡ option_and_then (λ (p : Plan). slice_get p.ops x.op) o
        go None = refl
        go (Some p) = refl

    deps_renamed : (rank : ℕ) → deps_at (renamed name plans) rank ≡ deps_at plans rank
    unfolding deps_at
    deps_renamed rank =
        ap (λ (o : Option Plan). unwrap_or (option_map (λ (p : Plan). p.deps) o) []) (plan_renamed rank) ∙ go (slice_get plans rank)
      where
        go : (o : Option Plan) → unwrap_or (option_map (λ (p : Plan). p.deps) (option_map (renamed_plan (name rank)) o)) [] ≡ unwrap_or (option_map (λ (p : Plan). p.deps) o) []
        go None = refl
        go (Some p) = refl

    needs_renamed : (x : OpId) → needs (renamed name plans) x ≡ needs plans x
    unfolding needs
    needs_renamed x =
        ap (λ (ds : List Dep). map earlier_of (filter (λ (d : Dep). d.later == x.op) ds)) (deps_renamed x.rank)

    slots_renamed : (x : OpId) → slots (renamed name plans) x ≡ map (name x.rank) (slots plans x)
    unfolding slots
    slots_renamed x =
        ap (flat_map (moved_by x.op)) (notes_renamed x.rank) ∙ moves_renamed (name x.rank) x.op (notes_at plans x.rank)

    added_by_renamed : (x : OpId) → adds (renamed name plans) x ≡ map (renamed_adding (name x.rank)) (adds plans x)
    unfolding adds
    added_by_renamed x =
        ap (flat_map (added_by x.op)) (notes_renamed x.rank) ∙ adds_renamed (name x.rank) x.op (notes_at plans x.rank)

    pub renamed_is : IsRenamed name plans (renamed name plans)
    renamed_is = record {
      ranks = length_renamed 0 plans;
      ops = ops_renamed;
      needs = needs_renamed;
      moves = slots_renamed;
      adds = added_by_renamed;
    }

-- a renaming and its inverse
map_of_inverse_renaming : (name old : ℕ → ℕ) → ((k : ℕ) → old (name k) ≡ k) → (ks : List ℕ) → map old (map name ks) ≡ ks
map_of_inverse_renaming name old back [] = refl
map_of_inverse_renaming name old back (k ∷ ks) = λ i. back k i ∷ map_of_inverse_renaming name old back ks i

adds_of_inverse_renaming : (name old : ℕ → ℕ) → ((k : ℕ) → old (name k) ≡ k) → (added : List Adding) → map (renamed_adding old) (map (renamed_adding name) added) ≡ added
adds_of_inverse_renaming name old back [] = refl
adds_of_inverse_renaming name old back (a ∷ more) =
    λ i. record { from = back a.from i; to = back a.to i } ∷ adds_of_inverse_renaming name old back more i

-- renamed back, it is the original
pub renamed_back : (name old : ℕ → ℕ → ℕ) (plans other : List Plan) → IsUndoneBy name old → IsRenamed name plans other → IsRenamed old other plans
renamed_back name old plans other undone is = record {
  ranks = sym is.ranks;
  ops = λ x. sym (is.ops x);
  needs = λ x. sym (is.needs x);
  moves = λ x. sym (map_of_inverse_renaming (name x.rank) (old x.rank) (undone.back x.rank) (slots plans x)) ∙ ap (map (old x.rank)) (sym (is.moves x));
  adds = λ x. sym (adds_of_inverse_renaming (name x.rank) (old x.rank) (undone.back x.rank) (adds plans x)) ∙ ap (map (renamed_adding (old x.rank))) (sym (is.adds x));
}
