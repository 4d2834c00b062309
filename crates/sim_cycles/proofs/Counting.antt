-- Sums and counts over lists.
use Rattle.std.proofs.Common.{ℕ, zero, suc, ◌+◌, ◌<◌, ◌≡◌, Bool, true, false, cond, ◌&&◌, List, [], ◌∷◌, length, map, filter, get_or, count_by, sum_by, refl, sym, ap, ap₂, ◌∙◌, arith}
use Rattle.std.proofs.lemmas.Bool.{cond-true, cond-false, false_from_ne_true}
use Rattle.std.proofs.lemmas.List.Sums.{sum_by-cons}

pub sum_map : {X Y : Type 0} (f : Y → ℕ) (g : X → Y) (xs : List X) → sum_by f (map g xs) ≡ sum_by (λ (x : X). f (g x)) xs
sum_map f g [] = refl
sum_map {X} f g (x ∷ xs) =
    sum_by-cons f (g x) (map g xs) ∙ ap (λ n. f (g x) + n) (sum_map f g xs) ∙ sym (sum_by-cons (λ (z : X). f (g z)) x xs)

sum_alike : {X : Type 0} (f g : X → ℕ) (xs : List X) → ((x : X) → f x ≡ g x) → sum_by f xs ≡ sum_by g xs
sum_alike f g [] same = refl
sum_alike f g (x ∷ xs) same = sum_by-cons f x xs ∙ ap₂ (λ (m n : ℕ). m + n) (same x) (sum_alike f g xs same) ∙ sym (sum_by-cons g x xs)

sum_zero : {X : Type 0} (xs : List X) → sum_by (λ (x : X). 0) xs ≡ 0
sum_zero [] = refl
sum_zero {X} (x ∷ xs) = sum_by-cons (λ (z : X). 0) x xs ∙ ap (λ n. 0 + n) (sum_zero xs)

sum_add : {X : Type 0} (f g : X → ℕ) (xs : List X) → sum_by (λ (x : X). f x + g x) xs ≡ sum_by f xs + sum_by g xs
sum_add f g [] = refl
sum_add {X} f g (x ∷ xs) =
    omega (arith, sum_by-cons (λ (z : X). f z + g z) x xs, sum_by-cons f x xs, sum_by-cons g x xs, sum_add f g xs)

-- pairs are counted by their first or by their second element
pub count_both_ways : {X Y : Type 0} (R : Y → X → Bool) (xs : List X) (ys : List Y) → sum_by (λ (x : X). count_by (λ (y : Y). R y x) ys) xs ≡ sum_by (λ (y : Y). count_by (R y) xs) ys
count_both_ways {X} {Y} R [] ys = sym (sum_zero ys)
count_both_ways {X} {Y} R (x ∷ xs) ys =
    sum_by-cons (λ (z : X). count_by (λ (y : Y). R y z) ys) x xs ∙ ap (λ n. count_by (λ (y : Y). R y x) ys + n) (count_both_ways R xs ys) ∙ sym (sum_add (λ (y : Y). cond (R y x) 1 0) (λ (y : Y). count_by (R y) xs) ys) ∙ sum_alike (λ (y : Y). cond (R y x) 1 0 + count_by (R y) xs) (λ (y : Y). count_by (R y) (x ∷ xs)) ys (λ y. sym (sum_by-cons (λ (z : X). cond (R y z) 1 0) x xs))

pub count_filter : {X : Type 0} (p q : X → Bool) (xs : List X) → count_by p (filter q xs) ≡ count_by (λ (x : X). q x && p x) xs
count_filter p q [] = refl
count_filter {X} p q (x ∷ xs) = go (q x) refl (count_filter p q xs)
  where
    go : (b : Bool) → q x ≡ b → count_by p (filter q xs) ≡ count_by (λ (z : X). q z && p z) xs → count_by p (filter q (x ∷ xs)) ≡ count_by (λ (z : X). q z && p z) (x ∷ xs)
    go true e rest =
        ap (count_by p) (cond-true (q x) (x ∷ filter q xs) (filter q xs) e) ∙ sum_by-cons (λ (z : X). cond (p z) 1 0) x (filter q xs) ∙ ap₂ (λ (b : Bool) (n : ℕ). cond (b && p x) 1 0 + n) (sym e) rest ∙ sym (sum_by-cons (λ (z : X). cond (q z && p z) 1 0) x xs)
    go false e rest =
        ap (count_by p) (cond-false (q x) (x ∷ filter q xs) (filter q xs) e) ∙ rest ∙ sym (sum_by-cons (λ (z : X). cond (q z && p z) 1 0) x xs ∙ ap (λ (b : Bool). cond (b && p x) 1 0 + count_by (λ (z : X). q z && p z) xs) e ∙ omega arith)

count_none : {X : Type 0} (p : X → Bool) (d : X) (xs : List X) → ((i : ℕ) → i < length xs → p (get_or xs i d) ≡ true → ⊥) → count_by p xs ≡ 0
count_none p d [] none = refl
count_none {X} p d (x ∷ xs) none =
    sum_by-cons (λ (z : X). cond (p z) 1 0) x xs ∙ ap₂ (λ (b : Bool) (n : ℕ). cond b 1 0 + n) (false_from_ne_true (p x) (none zero (omega arith))) (count_none p d xs (λ i inside. none (suc i) (omega (arith, inside))))

-- one element passes
pub count_one : {X : Type 0} (p : X → Bool) (d : X) (xs : List X) (h : ℕ) → h < length xs → p (get_or xs h d) ≡ true → ((i : ℕ) → i < length xs → p (get_or xs i d) ≡ true → i ≡ h) → count_by p xs ≡ 1
count_one p d [] h inside passes alone = absurd (omega (arith, inside))
count_one {X} p d (x ∷ xs) zero inside passes alone =
    sum_by-cons (λ (z : X). cond (p z) 1 0) x xs ∙ ap₂ (λ (b : Bool) (n : ℕ). cond b 1 0 + n) passes (count_none p d xs (λ i below e. omega (arith, alone (suc i) (omega (arith, below)) e)))
count_one {X} p d (x ∷ xs) (suc h) inside passes alone =
    sum_by-cons (λ (z : X). cond (p z) 1 0) x xs ∙ ap₂ (λ (b : Bool) (n : ℕ). cond b 1 0 + n) (false_from_ne_true (p x) (λ e. omega (arith, alone zero (omega arith) e))) (count_one p d xs h (omega (arith, inside)) passes (λ i below e. omega (arith, alone (suc i) (omega (arith, below)) e)))

pub sum_ones : {X : Type 0} (f : X → ℕ) (d : X) (xs : List X) → ((i : ℕ) → i < length xs → f (get_or xs i d) ≡ 1) → sum_by f xs ≡ length xs
sum_ones f d [] ones = refl
sum_ones f d (x ∷ xs) ones = omega (arith, sum_by-cons f x xs, ones zero (omega arith), sum_ones f d xs (λ i inside. ones (suc i) (omega (arith, inside))))
