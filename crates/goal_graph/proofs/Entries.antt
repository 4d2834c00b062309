-- Tables that have an entry for each item of a list.
use Rattle.std.proofs.Common.{◌≡◌, ◌≢◌, false, ℕ, zero, suc, ◌<◌, List, [], ◌∷◌, length, map, set, replicate, get_or, Some, slice_get, refl, sym, ap, ap₂, ◌∙◌, inl, inr, arith}
use Rattle.std.specs.Option.{option_map}
use Rattle.std.proofs.lemmas.Bool.{cases_order, cond-true, cond-false, false_from_ne_true}
use Rattle.std.proofs.lemmas.Option.{same_Some, slice_get-map, slice_get_within, get_or_from_slice_get}
use Rattle.goal_graph.specs.declared.action.OpId.{OpId}
use Rattle.goal_graph.specs.Schedule.{Plan, operations}
use Rattle.goal_graph.specs.Action.{same_op}
use Rattle.goal_graph.specs.Entries.{with_entry}
use Rattle.goal_graph.proofs.Actions.{same_or_different_op, same_op_true, same_op_from, same_op_itself, same_op_swapped}
use Rattle.goal_graph.proofs.Exists.{operations_differ}

-- the entry of an item
pub slice_get_mapped : {X Y : Type 0} (f : X → Y) (xs : List X) (i : ℕ) (x : X) → slice_get xs i ≡ Some x → slice_get (map f xs) i ≡ Some (f x)
slice_get_mapped f xs i x e = slice_get-map f xs i ∙ ap (option_map f) e

pub get_or_mapped : {X Y : Type 0} (f : X → Y) (xs : List X) (i : ℕ) (x : X) (d : Y) → slice_get xs i ≡ Some x → get_or (map f xs) i d ≡ f x
get_or_mapped f xs i x d e = get_or_from_slice_get (map f xs) i (f x) d (slice_get_mapped f xs i x e)

-- two tables with equal entries are equal
pub same_tables : {X Y : Type 0} (f g : X → Y) (xs : List X) → ((i : ℕ) (x : X) → slice_get xs i ≡ Some x → f x ≡ g x) → map f xs ≡ map g xs
same_tables f g [] same = refl
same_tables f g (x ∷ xs) same = ap₂ (λ y ys. y ∷ ys) (same 0 x refl) (same_tables f g xs (λ i y e. same (suc i) y e))

-- one entry is replaced, and the others stay
pub written_table : {X Y : Type 0} (f g : X → Y) (xs : List X) (j : ℕ) (y : X) → slice_get xs j ≡ Some y → ((i : ℕ) (x : X) → slice_get xs i ≡ Some x → i ≢ j → f x ≡ g x) → set (map f xs) j (g y) ≡ map g xs
written_table f g [] j y e same = refl
written_table f g (x ∷ xs) zero y e same =
    ap₂ (λ z zs. z ∷ zs) (ap g (sym (same_Some x y e))) (same_tables f g xs (λ i z s. same (suc i) z s (omega arith)))
written_table f g (x ∷ xs) (suc j) y e same =
    ap₂ (λ z zs. z ∷ zs) (same 0 x refl (omega arith)) (written_table f g xs j y e (λ i z s d. same (suc i) z s (omega arith)))

-- an operation has one place
pub operation_has_one_place : (plans : List Plan) (i j : ℕ) (x : OpId) → slice_get (operations plans) i ≡ Some x → slice_get (operations plans) j ≡ Some x → i ≡ j
operation_has_one_place plans i j x e f = elim (cases_order i j) [ inl same ↦ same | inr (inl l) ↦ absurd (go i j l e f) | inr (inr l) ↦ absurd (go j i l f e) ]
  where
    go : (i j : ℕ) → i < j → slice_get (operations plans) i ≡ Some x → slice_get (operations plans) j ≡ Some x → ⊥
    go i j l e f =
        operations_differ plans i j x l (slice_get_within (operations plans) j x f) (get_or_from_slice_get (operations plans) i x x e ∙ sym (get_or_from_slice_get (operations plans) j x x f))

-- operations at two places differ
pub operations_at_two_places_differ : (plans : List Plan) (i j : ℕ) (x y : OpId) → slice_get (operations plans) i ≡ Some x → slice_get (operations plans) j ≡ Some y → i ≢ j → x ≢ y
operations_at_two_places_differ plans i j x y e f d s = d (operation_has_one_place plans i j y (e ∙ ap Some s) f)

pub index_in_table : {X Y : Type 0} (f : X → Y) (xs : List X) (i : ℕ) (x : X) (ys : List Y) → ys ≡ map f xs → slice_get xs i ≡ Some x → i < length ys
index_in_table f xs i x ys table e = slice_get_within ys i (f x) (ap (λ zs. slice_get zs i) table ∙ slice_get_mapped f xs i x e)

-- a table whose entries are all one value
pub replicated_table : {X Y : Type 0} (f : X → Y) (v : Y) (xs : List X) → ((x : X) → f x ≡ v) → replicate (length xs) v ≡ map f xs
replicated_table f v [] same = refl
replicated_table f v (x ∷ xs) same = ap₂ (λ y ys. y ∷ ys) (sym (same x)) (replicated_table f v xs same)

-- the operations, with one entry for each
pub fresh_table : {Y : Type 0} (f : OpId → Y) (v : Y) (xs : List OpId) (n : ℕ) (ys : List Y) → n ≡ length xs → ys ≡ replicate n v → ((x : OpId) → f x ≡ v) → ys ≡ map f xs
fresh_table f v xs n ys e made same = made ∙ ap (λ k. replicate k v) e ∙ replicated_table f v xs same

-- the entry of an operation is replaced
pub written_entry : {E : Type 0} (plans : List Plan) (j : ℕ) (y : OpId) (v : E) (f : OpId → E) → slice_get (operations plans) j ≡ Some y → set (map f (operations plans)) j v ≡ map (with_entry y v f) (operations plans)
written_entry plans j y v f e =
    ap (set (map f (operations plans)) j) (sym (cond-true (same_op y y) v (f y) (same_op_itself y))) ∙ written_table f (with_entry y v f) (operations plans) j y e (λ i x s d. sym (cond-false (same_op x y) v (f x) (not_same x (operations_at_two_places_differ plans i j x y s e d))))
  where
    not_same : (x : OpId) → x ≢ y → same_op x y ≡ false
    not_same x d = false_from_ne_true (same_op x y) (λ t. d (same_op_true x y t))

-- the replaced entry, and the others
pub with_entry_same : {E : Type 0} (y : OpId) (e : E) (f : OpId → E) (x : OpId) → x ≡ y → with_entry y e f x ≡ e
with_entry_same y e f x s = cond-true _ _ _ (same_op_from x y s)

pub with_entry_other : {E : Type 0} (y : OpId) (e : E) (f : OpId → E) (x : OpId) → same_op x y ≡ false → with_entry y e f x ≡ f x
with_entry_other y e f x d = cond-false _ _ _ d

pub entry_written : {E : Type 0} (y : OpId) (e : E) (f g : OpId → E) → g y ≡ e → ((x : OpId) → same_op y x ≡ false → g x ≡ f x) → (x : OpId) → with_entry y e f x ≡ g x
entry_written y e f g now others x =
    elim (same_or_different_op x y) [ inl s ↦ with_entry_same y e f x s ∙ sym now ∙ ap g (sym s) | inr d ↦ with_entry_other y e f x d ∙ sym (others x (same_op_swapped x y d)) ]
