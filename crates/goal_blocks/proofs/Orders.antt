-- Two lists of the same steps that keep one order, and in which what has no order may be swapped, come to one result.
-- Lists are newest first.
use Rattle.std.proofs.Common.{⊎_elim, ◌≡◌, ◌⊎◌, inl, inr, List, [], ◌∷◌, refl, sym, ap, ◌∙◌, subst}

-- x is in the list
abbrev pub Mem : {A : Type 0} → A → List A → Type 0
Mem x [] = ⊥
Mem x (y ∷ ys) = (y ≡ x) ⊎ Mem x ys

-- no element occurs twice
abbrev pub IsOnce : {A : Type 0} → List A → Type 0
IsOnce [] = Unit {0}
IsOnce (y ∷ ys) = IsOnce ys × (Mem y ys → ⊥)

-- what comes before an element is older than it
abbrev pub Keeps : {A : Type 0} → (A → A → Type 0) → List A → Type 0
Keeps before [] = Unit {0}
Keeps before (y ∷ ys) = Keeps before ys × ((x : _) → before x y → Mem x ys)

-- the state after the steps
abbrev pub run : {A S : Type 0} → (A → S → S) → S → List A → S
run step start [] = start
run step start (x ∷ xs) = step x (run step start xs)

-- the first list has x in addition to what the second has
data HasMore {A : Type 0} (x : A) : List A → List A → Type 0 where
  here : {ys : List A} → HasMore x (x ∷ ys) ys
  there : {y : A} {ys zs : List A} → HasMore x ys zs → HasMore x (y ∷ ys) (y ∷ zs)

list_without_member : {A : Type 0} (x : A) (ys : List A) → Mem x ys → (zs : List A) × HasMore x ys zs
list_without_member x [] m = absurd m
list_without_member {A} x (y ∷ ys) (inl e) = (ys, subst (λ (z : A). HasMore x (z ∷ ys) ys) (sym e) here)
list_without_member x (y ∷ ys) (inr m) = let rest = list_without_member x ys m in (y ∷ rest.0, there rest.1)

rest_is_in_list : {A : Type 0} (x : A) (ys zs : List A) → HasMore x ys zs → (z : A) → Mem z zs → Mem z ys
rest_is_in_list x ys zs here z m = inr m
rest_is_in_list x ys zs (there {y = y} {ys = us} {zs = vs} t) z m =
    ⊎_elim (λ e. inl e) (λ n. inr (rest_is_in_list x us vs t z n)) m

member_is_removed_or_in_rest : {A : Type 0} (x : A) (ys zs : List A) → HasMore x ys zs → (z : A) → Mem z ys → (x ≡ z) ⊎ Mem z zs
member_is_removed_or_in_rest x ys zs here z m = m
member_is_removed_or_in_rest x ys zs (there {y = y} {ys = us} {zs = vs} t) z m =
    ⊎_elim (λ e. inr (inl e)) (λ n. ⊎_elim (λ e. inl e) (λ k. inr (inr k)) (member_is_removed_or_in_rest x us vs t z n)) m

removed_is_in_list : {A : Type 0} (x : A) (ys zs : List A) → HasMore x ys zs → Mem x ys
removed_is_in_list x ys zs here = inl refl
removed_is_in_list x ys zs (there {y = y} {ys = us} {zs = vs} t) = inr (removed_is_in_list x us vs t)

once_without : {A : Type 0} (x : A) (ys zs : List A) → HasMore x ys zs → IsOnce ys → IsOnce zs × (Mem x zs → ⊥)
once_without x ys zs here once = (once.0, once.1)
once_without {A} x ys zs (there {y = y} {ys = us} {zs = vs} t) once =
    let rest = once_without x us vs t once.0 in
    ((rest.0, λ m. once.1 (rest_is_in_list x us vs t y m)), λ m. ⊎_elim (λ e. once.1 (subst (λ (z : A). Mem z us) (sym e) (removed_is_in_list x us vs t))) rest.1 m)

-- of two elements one comes before the other, or their steps may be swapped
abbrev pub Swaps : {A S : Type 0} → (A → S → S) → (A → A → Type 0) → Type 0
Swaps {A} {S} step before = (x y : A) → (x ≡ y → ⊥) → before x y ⊎ (before y x ⊎ ((s : S) → step x (step y s) ≡ step y (step x s)))

module _ {A S : Type 0} (step : A → S → S) (start : S) (before : A → A → Type 0) where
  keeps_without : (x : A) (ys zs : List A) → HasMore x ys zs → ((y : A) → Mem y zs → before x y → ⊥) → Keeps before ys → Keeps before zs
  keeps_without x ys zs here none keeps = keeps.0
  keeps_without x ys zs (there {y = y} {ys = us} {zs = vs} t) none keeps =
      (keeps_without x us vs t (λ z m. none z (inr m)) keeps.0, λ z b. ⊎_elim (λ e. absurd (none y (inl refl) (subst (λ (w : A). before w y) (sym e) b))) (λ m. m) (member_is_removed_or_in_rest x us vs t z (keeps.1 z b)))

  -- the elements that must come before x are in the rest, without x
  predecessor_is_in_rest : (x : A) (ys zs : List A) → HasMore x ys zs → Keeps before ys → (z : A) → before z x → Mem z zs
  predecessor_is_in_rest x ys zs here keeps z b = keeps.1 z b
  predecessor_is_in_rest x ys zs (there {y = y} {ys = us} {zs = vs} t) keeps z b = inr (predecessor_is_in_rest x us vs t keeps.0 z b)

  -- an element that need not come before any other may be run last
  run_without : Swaps step before → (x : A) (ys zs : List A) → HasMore x ys zs → IsOnce ys → Keeps before ys → ((y : A) → Mem y zs → before x y → ⊥) → run step start ys ≡ step x (run step start zs)
  run_without swaps x ys zs here once keeps none = refl
  run_without swaps x ys zs (there {y = y} {ys = us} {zs = vs} t) once keeps none =
      ap (step y) (run_without swaps x us vs t once.0 keeps.0 (λ z m. none z (inr m))) ∙ sym (swapped (run step start vs))
    where
      differ : x ≡ y → ⊥
      differ e = once.1 (subst (λ (z : A). Mem z us) e (removed_is_in_list x us vs t))

      swapped : (s : S) → step x (step y s) ≡ step y (step x s)
      swapped =
          ⊎_elim (λ b. absurd (none y (inl refl) b)) (λ r. ⊎_elim (λ b. absurd (once.1 (rest_is_in_list x us vs t y (predecessor_is_in_rest x us vs t keeps.0 y b)))) (λ e. e) r) (swaps x y differ)

  pub ordered_runs_agree : Swaps step before → (xs ys : List A) → IsOnce xs → IsOnce ys → Keeps before xs → Keeps before ys → ((z : A) → Mem z xs → Mem z ys) → ((z : A) → Mem z ys → Mem z xs) → run step start xs ≡ run step start ys
  ordered_runs_agree swaps [] [] a b c d e f = refl
  ordered_runs_agree swaps [] (y ∷ ys) a b c d e f = absurd (f y (inl refl))
  ordered_runs_agree swaps (x ∷ xs) ys once once_ys keeps keeps_ys into from =
      ap (step x) (ordered_runs_agree swaps xs found.0 once.0 rest.0 keeps.0 (keeps_without x ys found.0 found.1 none keeps_ys) into_rest from_rest) ∙ sym (run_without swaps x ys found.0 found.1 once_ys keeps_ys none)
    where
      found : (zs : List A) × HasMore x ys zs
      found = list_without_member x ys (into x (inl refl))

      rest : IsOnce found.0 × (Mem x found.0 → ⊥)
      rest = once_without x ys found.0 found.1 once_ys

      from_rest : (z : A) → Mem z found.0 → Mem z xs
      from_rest z m =
          ⊎_elim (λ e. absurd (rest.1 (subst (λ (w : A). Mem w found.0) (sym e) m))) (λ n. n) (from z (rest_is_in_list x ys found.0 found.1 z m))

      into_rest : (z : A) → Mem z xs → Mem z found.0
      into_rest z m =
          ⊎_elim (λ e. absurd (once.1 (subst (λ (w : A). Mem w xs) (sym e) m))) (λ n. n) (member_is_removed_or_in_rest x ys found.0 found.1 z (into z (inr m)))

      none : (y : A) → Mem y found.0 → before x y → ⊥
      none y m b = once.1 (kept xs keeps.0 y (from_rest y m) b)
        where
          kept : (ws : List A) → Keeps before ws → (w : A) → Mem w ws → before x w → Mem x ws
          kept [] k w n p = absurd n
          kept (v ∷ ws) k w (inl e) p = inr (k.1 x (subst (λ (u : A). before x u) (sym e) p))
          kept (v ∷ ws) k w (inr n) p = inr (kept ws k.0 w n p)
