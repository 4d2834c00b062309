-- Equality tests and orders of numbers and of optional numbers.
use Rattle.std.proofs.Common.{ℕ, ◌≡◌, ◌==◌, nat_lt, Bool, true, false, cond, Option, Some, None, refl, sym, ap, arith, eq-eqb}
use Rattle.std.specs.declared.cmp.Ordering.TheVariants.{Less, Equal, Greater}
use Rattle.std.specs.Ordering.{nat_cmp, is_eq}
use Rattle.std.specs.Option.{option_cmp}
use Rattle.std.proofs.lemmas.Bool.{both_ways, eqb-true, false_from_ne_true, le-ltb}
use Rattle.goal_graph.specs.Choices.{same_choice}

pub eqb-swapped : (m n : ℕ) → (m == n) ≡ (n == m)
eqb-swapped m n = go (n == m) refl
  where
    go : (b : Bool) → (n == m) ≡ b → (m == n) ≡ b
    go true e = eq-eqb m n (sym (eqb-true n m e))
    go false e = false_from_ne_true (m == n) (λ t. both_ways (n == m) e (eq-eqb n m (sym (eqb-true m n t))))

-- numbers and choices compare as equal exactly if they are the same
pub nat_cmp_is_eq : (m n : ℕ) → is_eq (nat_cmp m n) ≡ (m == n)
nat_cmp_is_eq m n = go (nat_lt m n) (m == n) refl refl
  where
    go : (s t : Bool) → nat_lt m n ≡ s → (m == n) ≡ t → is_eq (cond s Less (cond t Equal Greater)) ≡ t
    go true true e f = absurd (both_ways (nat_lt m n) (le-ltb m n (let same = eqb-true m n f in omega (arith, same))) e)
    go true false e f = refl
    go false true e f = refl
    go false false e f = refl

pub option_cmp_is_eq : (a b : Option ℕ) → is_eq (option_cmp nat_cmp a b) ≡ same_choice a b
option_cmp_is_eq None None = refl
option_cmp_is_eq None (Some n) = refl
option_cmp_is_eq (Some k) None = refl
option_cmp_is_eq (Some k) (Some n) = nat_cmp_is_eq k n

pub same_choice_true : (a b : Option ℕ) → same_choice a b ≡ true → a ≡ b
same_choice_true None None e = refl
same_choice_true None (Some n) e = absurd (both_ways false refl e)
same_choice_true (Some k) None e = absurd (both_ways false refl e)
same_choice_true (Some k) (Some n) e = ap (λ (i : ℕ). Some i) (eqb-true k n e)

pub same_choice_itself : (a : Option ℕ) → same_choice a a ≡ true
same_choice_itself None = refl
same_choice_itself (Some k) = eq-eqb k k refl
