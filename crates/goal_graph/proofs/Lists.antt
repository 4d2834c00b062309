-- Members of lists and of mapped lists, the first that passes a test, and the last.
use Rattle.std.proofs.Common.{ℕ, zero, suc, ◌≡◌, ◌⊎◌, inl, inr, Bool, true, false, cond, List, [], ◌∷◌, ◌++◌, length, take, drop, slice_get, map, find, All, Contains, Option, Some, refl, sym, ap, ◌∙◌, subst, arith, append-nil}
use Rattle.std.specs.List.{list_all}
use Rattle.std.proofs.lemmas.Bool.{both_ways, and_cases, cases_Bool, cond-true, cond-false}
use Rattle.std.proofs.lemmas.Option.{none-some, same_Some}
use Rattle.std.proofs.lemmas.List.{drop_all, take_all}
use Rattle.std.proofs.lemmas.List.Elements.{All-head, All-tail}

pub contains_first : {X : Type 0} (y : X) (xs : List X) (x : X) → y ≡ x → Contains (y ∷ xs) x
contains_first y xs x e = (0, omega arith, e)

pub contains_more : {X : Type 0} (y : X) (xs : List X) (x : X) → Contains xs x → Contains (y ∷ xs) x
contains_more y xs x (k, b, e) = (suc k, omega (arith, b), e)

pub failing_item_of_list_all : {X : Type 0} (p : X → Bool) (xs : List X) → list_all p xs ≡ false → (x : X) × Contains xs x × (p x ≡ false)
failing_item_of_list_all p [] e = absurd (both_ways true e refl)
failing_item_of_list_all {X} p (x ∷ xs) e = go (failing_item_of_list_all p xs) (and_cases (p x) (list_all p xs) e)
  where
    go : (list_all p xs ≡ false → (y : X) × Contains xs y × (p y ≡ false)) → ((p x ≡ false) ⊎ (list_all p xs ≡ false)) → (y : X) × Contains (x ∷ xs) y × (p y ≡ false)
    go rest (inl f) = (x, contains_first x xs x refl, f)
    go rest (inr f) = let found = rest f in (found.0, contains_more x xs found.0 found.1, found.2)

pub get_last : {X : Type 0} (xs : List X) (x : X) → slice_get (xs ++ x ∷ []) (length xs) ≡ Some x
get_last [] x = refl
get_last (y ∷ xs) x = get_last xs x

-- what `map` gives comes from an element
pub contains_source : {X Y : Type 0} (f : X → Y) (xs : List X) (y : Y) → Contains (map f xs) y → (x : X) × Contains xs x × (f x ≡ y)
contains_source f [] y c = absurd (omega (arith, c.1))
contains_source f (x ∷ xs) y (zero, b, e) = (x, contains_first x xs x refl, e)
contains_source f (x ∷ xs) y (suc k, b, e) =
    let r = contains_source f xs y (k, omega (arith, b), e) in (r.0, contains_more x xs r.0 r.1, r.2)

pub contains_mapped : {X Y : Type 0} (f : X → Y) (xs : List X) (x : X) → Contains xs x → Contains (map f xs) (f x)
contains_mapped f [] x c = absurd (omega (arith, c.1))
contains_mapped f (y ∷ xs) x (zero, b, e) = contains_first (f y) (map f xs) (f x) (ap f e)
contains_mapped f (y ∷ xs) x (suc k, b, e) =
    contains_more (f y) (map f xs) (f x) (contains_mapped f xs x (k, omega (arith, b), e))

-- tests that agree find the same item
pub find_agree : {X : Type 0} (p q : X → Bool) → ((x : X) → p x ≡ q x) → (xs : List X) → find p xs ≡ find q xs
find_agree p q agree [] = refl
find_agree {X} p q agree (y ∷ ys) =
    ap (λ (b : Bool). cond b (Some y) (find p ys)) (agree y) ∙ ap (λ (o : Option X). cond (q y) (Some y) o) (find_agree p q agree ys)

-- what holds of each element holds of the one found
pub found_item_has_property : {X : Type 0} (P : X → Type 0) (p : X → Bool) (xs : List X) (z : X) → All P xs → find p xs ≡ Some z → P z
found_item_has_property P p [] z each e = absurd (none-some z e)
found_item_has_property P p (y ∷ ys) z each e =
    elim (cases_Bool (p y)) [ inl t ↦ subst P (same_Some y z (sym (cond-true (p y) (Some y) (find p ys) t) ∙ e)) (All-head P y ys each) | inr f ↦ found_item_has_property P p ys z (All-tail P y ys each) (sym (cond-false (p y) (Some y) (find p ys) f) ∙ e) ]

-- lists of no item and of one
pub all_of_empty : {X : Type 0} (P : X → Type 0) → All P []
all_of_empty P k d l = absurd (omega (arith, l))

pub all_of_single : {X : Type 0} (P : X → Type 0) (x : X) → P x → All P (x ∷ [])
all_of_single P x p zero d l = p
all_of_single P x p (suc k) d l = absurd (omega (arith, l))

-- a list that was borrowed whole
pub borrowed_whole_restored : {X : Type 0} (n : ℕ) (xs ys : List X) → length xs ≡ length ys → n ≡ length ys → take n (xs ++ drop (length xs) ys) ≡ xs
borrowed_whole_restored {X} n xs ys long all =
    let rest : drop (length xs) ys ≡ [] = drop_all (length xs) ys (omega (arith, long)) in
    ap (λ (zs : List X). take n (xs ++ zs)) rest ∙ ap (take n) (append-nil xs) ∙ take_all n xs (omega (arith, long, all))
