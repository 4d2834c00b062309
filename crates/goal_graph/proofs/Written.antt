-- Tables after one of their entries is written.
use Rattle.std.proofs.Common.{◌≡◌, ◌≢◌, false, ℕ, zero, suc, ◌<◌, get_or, ◌⊎◌, List, [], ◌∷◌, length, map, set, Some, slice_get, inl, inr, refl, sym, ap, ap₂, ◌∙◌, arith}
use Rattle.std.proofs.lemmas.Bool.{cond-true, cond-false, false_from_ne_true}
use Rattle.std.proofs.lemmas.Option.{same_Some, slice_get-get_or}
use Rattle.goal_graph.specs.declared.action.OpId.{OpId}
use Rattle.goal_graph.specs.Schedule.{Plan, operations}
use Rattle.goal_graph.specs.Action.{same_op}
use Rattle.goal_graph.proofs.Actions.{same_or_different_op, same_op_from, same_op_true}
use Rattle.goal_graph.proofs.Entries.{slice_get_mapped, operations_at_two_places_differ}
use Rattle.goal_graph.specs.Entries.{with_entry, IsEntryOf, put_entry}

put_table : {E : Type 0} (xs : List OpId) (y : OpId) (e : E) (f : OpId → E) → put_entry xs y e (map f xs) ≡ map (with_entry y e f) xs
put_table [] y e f = refl
put_table (x ∷ xs) y e f = ap (λ es. with_entry y e f x ∷ es) (put_table xs y e f)

-- the table of f
pub put_in_table : {E : Type 0} (xs : List OpId) (y : OpId) (e : E) (f : OpId → E) (entries : List E) → entries ≡ map f xs → put_entry xs y e entries ≡ map (with_entry y e f) xs
put_in_table xs y e f entries table = ap (put_entry xs y e) table ∙ put_table xs y e f

pub length-put : {E : Type 0} (xs : List OpId) (y : OpId) (e : E) (entries : List E) → length (put_entry xs y e entries) ≡ length entries
length-put [] y e entries = refl
length-put (x ∷ xs) y e [] = refl
length-put (x ∷ xs) y e (d ∷ ds) = ap suc (length-put xs y e ds)

-- a slot has the entry that was written, or the one that it had before
pub put_at : {E : Type 0} (xs : List OpId) (y : OpId) (e : E) (entries : List E) (slot : ℕ) (x : OpId) (d : E) → slice_get xs slot ≡ Some x → slice_get (put_entry xs y e entries) slot ≡ Some d → ((x ≡ y) × (d ≡ e)) ⊎ (slice_get entries slot ≡ Some d)
put_at [] y e entries slot x d at here = inr here
put_at (z ∷ zs) y e [] slot x d at here = inr here
put_at (z ∷ zs) y e (k ∷ ks) zero x d at here =
    elim (same_or_different_op z y) [ inl s ↦ inl (sym (same_Some z x at) ∙ s, sym (same_Some _ d here) ∙ cond-true _ _ _ (same_op_from z y s)) | inr o ↦ inr (ap Some (sym (cond-false _ _ _ o)) ∙ here) ]
put_at (z ∷ zs) y e (k ∷ ks) (suc slot) x d at here = put_at zs y e ks slot x d at here

-- if y is not an operation, nothing changes
put_outside_unchanged : {E : Type 0} (xs : List OpId) (y : OpId) (e : E) (entries : List E) → ((j : ℕ) (x : OpId) → slice_get xs j ≡ Some x → same_op x y ≡ false) → put_entry xs y e entries ≡ entries
put_outside_unchanged [] y e entries none = refl
put_outside_unchanged (x ∷ xs) y e [] none = refl
put_outside_unchanged (x ∷ xs) y e (d ∷ ds) none =
    ap₂ (λ k ks. k ∷ ks) (cond-false _ _ _ (none 0 x refl)) (put_outside_unchanged xs y e ds (λ j z at. none (suc j) z at))

put_at_single_place : {E : Type 0} (xs : List OpId) (i : ℕ) (y : OpId) (e : E) (entries : List E) → slice_get xs i ≡ Some y → ((j : ℕ) (x : OpId) → slice_get xs j ≡ Some x → j ≢ i → same_op x y ≡ false) → put_entry xs y e entries ≡ set entries i e
put_at_single_place [] i y e entries at others = absurd (cc)
put_at_single_place (x ∷ xs) zero y e [] at others = refl
put_at_single_place (x ∷ xs) (suc i) y e [] at others = refl
put_at_single_place (x ∷ xs) zero y e (d ∷ ds) at others =
    ap₂ (λ k ks. k ∷ ks) (cond-true _ _ _ (same_op_from x y (same_Some x y at))) (put_outside_unchanged xs y e ds (λ j z there. others (suc j) z there (omega arith)))
put_at_single_place (x ∷ xs) (suc i) y e (d ∷ ds) at others =
    ap₂ (λ k ks. k ∷ ks) (cond-false _ _ _ (others 0 x refl (omega arith))) (put_at_single_place xs i y e ds at (λ j z there differ. others (suc j) z there (omega arith)))

-- an operation has one index, and its entry is written there
pub put_as_set : {E : Type 0} (plans : List Plan) (i : ℕ) (y : OpId) (e : E) (entries : List E) → slice_get (operations plans) i ≡ Some y → put_entry (operations plans) y e entries ≡ set entries i e
put_as_set plans i y e entries at =
    put_at_single_place (operations plans) i y e entries at (λ j x there differ. false_from_ne_true (same_op x y) (λ t. operations_at_two_places_differ plans j i x y there at differ (same_op_true x y t)))

-- an entry of the table of f
pub entry_in_table : {E : Type 0} (plans : List Plan) (entries : List E) (x : OpId) (e : E) (f : OpId → E) → IsEntryOf plans entries x e → entries ≡ map f (operations plans) → e ≡ f x
entry_in_table plans entries x e f here table =
    same_Some e (f x) (sym here.is_entry ∙ ap (λ es. slice_get es here.slot) table ∙ slice_get_mapped f (operations plans) here.slot x here.is_slot)

-- an entry that is read at an index is there
pub slice_get_at : {E : Type 0} (entries : List E) (i : ℕ) (e : E) → i < length entries → e ≡ get_or entries i e → slice_get entries i ≡ Some e
slice_get_at entries i e within is = slice_get-get_or entries i e within ∙ ap Some (sym is)
