-- What a filter keeps, what is found there, and where the elements of a mapped list come from.
use Rattle.std.proofs.Common.{ℕ, zero, suc, ◌≡◌, ◌+◌, ◌<◌, Bool, true, false, ◌&&◌, ◌⊎◌, inl, inr, cond, List, [], ◌∷◌, ◌++◌, length, get_or, take, map, find, filter, Contains, Some, refl, sym, ap, ap₂, ◌∙◌, subst, arith}
use Rattle.std.proofs.lemmas.Bool.{both_ways}
use Rattle.std.proofs.lemmas.List.{append-nil, map-append, take_more}
use Rattle.std.proofs.lemmas.List.Elements.{All-contains, All-filter, All-contains_itself, filter_more, filter_passes}
use Rattle.goal_graph.proofs.ForCallers.{contains_first, contains_more}

-- what is found in the elements that a filter keeps passes both tests
pub find_in_filtered : {X : Type 0} (p q : X → Bool) (xs : List X) → find p (filter q xs) ≡ find (λ (x : X). p x && q x) xs
find_in_filtered p q [] = refl
find_in_filtered {X} p q (x ∷ xs) = go (q x) (p x) refl (find_in_filtered p q xs)
  where
    go : (b c : Bool) → p x ≡ c → find p (filter q xs) ≡ find (λ (x : X). p x && q x) xs → find p (cond b (x ∷ filter q xs) (filter q xs)) ≡ cond (c && b) (Some x) (find (λ (x : X). p x && q x) xs)
    go true true e rest = ap (λ (t : Bool). cond t (Some x) (find p (filter q xs))) e
    go true false e rest = ap (λ (t : Bool). cond t (Some x) (find p (filter q xs))) e ∙ rest
    go false true e rest = rest
    go false false e rest = rest

-- the element at i is kept after those before it, or left out
module _ {X : Type 0} (p : X → Bool) (xs : List X) (i : ℕ) (d : X) (kept : List X) (low : i < length xs) (so_far : kept ≡ filter p (take i xs)) where
  pub one_kept : p (get_or xs i d) ≡ true → kept ++ get_or xs i d ∷ [] ≡ filter p (take (i + 1) xs)
  one_kept e =
      ap₂ (λ (ys : List X) (b : Bool). ys ++ cond b (get_or xs i d ∷ []) []) so_far (sym e) ∙ sym (filter_more p xs i d low)

  pub one_left_out : p (get_or xs i d) ≡ false → kept ≡ filter p (take (i + 1) xs)
  one_left_out e =
      sym (append-nil kept) ∙ ap₂ (λ (ys : List X) (b : Bool). ys ++ cond b (get_or xs i d ∷ []) []) so_far (sym e) ∙ sym (filter_more p xs i d low)

-- the value of the element at i comes after those of the elements before it
pub map_with_next_element : {X Y : Type 0} (f : X → Y) (xs : List X) (i : ℕ) (d : X) (so_far more : List Y) (y : Y) → i < length xs → so_far ≡ map f (take i xs) → more ≡ so_far ++ y ∷ [] → y ≡ f (get_or xs i d) → more ≡ map f (take (i + 1) xs)
map_with_next_element {X} {Y} f xs i d so_far more y low e pushed is =
    pushed ∙ ap₂ (λ (ys : List Y) (z : Y). ys ++ z ∷ []) e is ∙ sym (ap (map f) (take_more xs i d low) ∙ map-append f (take i xs) (get_or xs i d ∷ []))

contains_cases : {X : Type 0} (y : X) (xs : List X) (x : X) → Contains (y ∷ xs) x → (y ≡ x) ⊎ Contains xs x
contains_cases y xs x (zero, b, e) = inl e
contains_cases y xs x (suc k, b, e) = inr (k, omega (arith, b), e)

-- what passes and is in the list is kept, and nothing else
pub contains_kept : {X : Type 0} (p : X → Bool) (xs : List X) (x : X) → Contains xs x → p x ≡ true → Contains (filter p xs) x
contains_kept p [] x (k, b, e) t = absurd (omega (arith, b))
contains_kept {X} p (y ∷ ys) x c t = go (contains_kept p ys x) (p y) refl (contains_cases y ys x c)
  where
    go : (Contains ys x → p x ≡ true → Contains (filter p ys) x) → (b : Bool) → p y ≡ b → ((y ≡ x) ⊎ Contains ys x) → Contains (cond b (y ∷ filter p ys) (filter p ys)) x
    go rest true e (inl s) = contains_first y (filter p ys) x s
    go rest true e (inr c) = contains_more y (filter p ys) x (rest c t)
    go rest false e (inl s) = absurd (both_ways (p x) (subst (λ (z : X). p z ≡ false) s e) t)
    go rest false e (inr c) = rest c t

pub kept_contained : {X : Type 0} (p : X → Bool) (xs : List X) (x : X) → Contains (filter p xs) x → Contains xs x × (p x ≡ true)
kept_contained {X} p xs x c =
    (All-contains (Contains xs) (filter p xs) x (All-filter p (Contains xs) xs (All-contains_itself xs)) c, All-contains (λ (z : X). p z ≡ true) (filter p xs) x (filter_passes p xs) c)
