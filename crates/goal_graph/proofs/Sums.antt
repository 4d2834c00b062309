-- A sum over a list falls where one part falls and none rises.
use Rattle.std.proofs.Common.{ℕ, zero, suc, ◌+◌, ◌≤◌, ◌≡◌, Bool, true, false, cond, List, [], ◌∷◌, Contains, sum_by, count_by, refl, arith, subst, sym, ap, ◌∙◌}
use Rattle.std.proofs.lemmas.List.Sums.{sum_by-cons, sum_by-le-sum_by}

sum_falls_at_head : {X : Type 0} (f g : X → ℕ) (w : ℕ) (y : X) (ys : List X) → ((y : X) → g y ≤ f y) → g y + w ≤ f y → sum_by g (y ∷ ys) + w ≤ sum_by f (y ∷ ys)
sum_falls_at_head f g w y ys each here =
    let rest : sum_by g ys ≤ sum_by f ys = sum_by-le-sum_by g f ys each in
    subst (λ (n : ℕ). n + w ≤ sum_by f (y ∷ ys)) (sym (sum_by-cons g y ys)) (subst (λ (n : ℕ). g y + sum_by g ys + w ≤ n) (sym (sum_by-cons f y ys)) (omega arith))

sum_falls_in_tail : {X : Type 0} (f g : X → ℕ) (w : ℕ) (y : X) (ys : List X) → g y ≤ f y → sum_by g ys + w ≤ sum_by f ys → sum_by g (y ∷ ys) + w ≤ sum_by f (y ∷ ys)
sum_falls_in_tail f g w y ys first rest =
    subst (λ (n : ℕ). n + w ≤ sum_by f (y ∷ ys)) (sym (sum_by-cons g y ys)) (subst (λ (n : ℕ). g y + sum_by g ys + w ≤ n) (sym (sum_by-cons f y ys)) (omega arith))

pub sum_falls : {X : Type 0} (f g : X → ℕ) (w : ℕ) (xs : List X) (x : X) → Contains xs x → ((y : X) → g y ≤ f y) → g x + w ≤ f x → sum_by g xs + w ≤ sum_by f xs
sum_falls f g w [] x c each here = absurd (omega (arith, c.1))
sum_falls f g w (y ∷ ys) x (zero, b, e) each here =
    sum_falls_at_head f g w y ys each (subst (λ z. g z + w ≤ f z) (sym e) here)
sum_falls f g w (y ∷ ys) x (suc k, b, e) each here =
    sum_falls_in_tail f g w y ys (each y) (sum_falls f g w ys x (k, omega (arith, b), e) each here)

-- a count after another item
pub count-cons : {X : Type 0} (p : X → Bool) (x : X) (xs : List X) → count_by p (x ∷ xs) ≡ cond (p x) 1 0 + count_by p xs
count-cons p x xs = sum_by-cons (λ x. cond (p x) 1 0) x xs

pub count_passing : {X : Type 0} (p : X → Bool) (x : X) (xs : List X) → p x ≡ true → count_by p (x ∷ xs) ≡ 1 + count_by p xs
count_passing p x xs e = count-cons p x xs ∙ ap (λ (b : Bool). cond b 1 0 + count_by p xs) e

pub count_failing : {X : Type 0} (p : X → Bool) (x : X) (xs : List X) → p x ≡ false → count_by p (x ∷ xs) ≡ count_by p xs
count_failing p x xs e =
    let zero_more : 0 + count_by p xs ≡ count_by p xs = omega arith in
    count-cons p x xs ∙ ap (λ (b : Bool). cond b 1 0 + count_by p xs) e ∙ zero_more

pub cond_le : (s t : Bool) → (s ≡ true → t ≡ true) → cond s 1 0 ≤ cond t 1 0
cond_le true t h = subst (λ b. 1 ≤ cond b 1 0) (sym (h refl)) (omega arith)
cond_le false t h = omega arith

-- a count falls if one element no longer passes, and none passes that did not before
pub count_falls : {X : Type 0} (p q : X → Bool) (xs : List X) (x : X) → Contains xs x → ((y : X) → q y ≡ true → p y ≡ true) → q x ≡ false → p x ≡ true → count_by q xs + 1 ≤ count_by p xs
count_falls p q xs x c each e f =
    sum_falls (λ y. cond (p y) 1 0) (λ y. cond (q y) 1 0) 1 xs x c (λ y. cond_le (q y) (p y) (each y)) (subst (λ b. cond b 1 0 + 1 ≤ cond (p x) 1 0) (sym e) (subst (λ b. 0 + 1 ≤ cond b 1 0) (sym f) (omega arith)))

pub count_le : {X : Type 0} (p q : X → Bool) (xs : List X) → ((y : X) → q y ≡ true → p y ≡ true) → count_by q xs ≤ count_by p xs
count_le p q xs each =
    sum_by-le-sum_by (λ y. cond (q y) 1 0) (λ y. cond (p y) 1 0) xs (λ y. cond_le (q y) (p y) (each y))
