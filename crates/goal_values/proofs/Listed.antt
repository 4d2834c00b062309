-- Sorted values with each contribution equally often are the same.
use Rattle.std.proofs.Common.{ℕ, ap₂, get_or, cond, Less, Equal, Greater, ◌≡◌, ◌+◌, ◌<◌, ◌≤◌, ◌==◌, ◌&&◌, ◌||◌, nat_lt, Bool, true, false, [], ◌∷◌, length, if◌then◌else◌, refl, sym, ap, ◌∙◌, subst, arith, suc}
use Rattle.std.specs.List.{sum_by}
use Rattle.std.proofs.lemmas.List.Sums.{sum_by-cons}
use Rattle.goal_blocks.specs.declared.contribution.Contribution.{Contribution}
use Rattle.goal_blocks.specs.Values.{Value, is_lower}
use Rattle.goal_blocks.specs.Stored.{ComesFirst, IsSorted}
use Rattle.goal_blocks.proofs.ForCallers.{lower_than_not_lower, not_lower_transitive, not_lower_is_equal, all_by_recursion_weaker}
use Rattle.std.proofs.lemmas.Bool.Decides.{nat_tests}
use Rattle.std.specs.Ordering.{nat_cmp, ordering_then, is_lt}
use Rattle.goal_values.specs.Parts.{HasSame}

-- 1 for a contribution, 0 for every other
abbrev counts_as : Contribution → Contribution → ℕ
counts_as c d = if is_lower c d || is_lower d c then 0 else 1

not_below_itself : (a b : ℕ) → (nat_lt a a || ((a == a) && nat_lt b b)) ≡ false
not_below_itself a b = grind (arith, nat_tests)

counts_as_itself : (c : Contribution) → counts_as c c ≡ 1
counts_as_itself c = ap {B = ℕ} (λ (b : Bool). if b || b then 0 else 1) (not_below_itself c.rank c.item)

-- a contribution lower than one that comes before all of a value is not in that value
lower_than_first_is_absent : (c : Contribution) (v : Value) → ComesFirst c v → (d : Contribution) → is_lower d c ≡ true → sum_by (counts_as d) v ≡ 0
lower_than_first_is_absent c [] first d lower = refl
lower_than_first_is_absent c (x ∷ v) first d lower =
    omega (arith, sum_by-cons (counts_as d) x v, ap {B = ℕ} (λ (b : Bool). if b || is_lower x d then 0 else 1) (lower_than_not_lower c d x lower first.0), lower_than_first_is_absent c v first.1 d lower)

-- of two sorted values with the same contributions, neither begins with a lower one
first_of_same_is_not_lower : (c d : Contribution) (v w : Value) → ComesFirst d w → HasSame (c ∷ v) (d ∷ w) → is_lower c d ≡ true → ⊥
first_of_same_is_not_lower c d v w first same lower =
    omega (arith, same (counts_as c), sum_by-cons (counts_as c) c v, counts_as_itself c, sum_by-cons (counts_as c) d w, lower_than_first_is_absent d w first c lower, ap {B = ℕ} (λ (b : Bool). if b || is_lower d c then 0 else 1) lower)

has_same_symmetric : (v w : Value) → HasSame v w → HasSame w v
has_same_symmetric v w same f = sym (same f)

pub same_sorted : (v w : Value) → IsSorted v → IsSorted w → HasSame v w → v ≡ w
same_sorted [] [] sv sw same = refl
same_sorted [] (d ∷ w) sv sw same =
    absurd (omega (arith, same (λ x. 1), sum_by-cons (λ x. 1) d w))
same_sorted (c ∷ v) [] sv sw same =
    absurd (omega (arith, same (λ x. 1), sum_by-cons (λ x. 1) c v))
same_sorted (c ∷ v) (d ∷ w) sv sw same =
    go (is_lower c d) (is_lower d c) refl refl (same_sorted v w sv.1 sw.1)
  where
    go : (a b : Bool) → is_lower c d ≡ a → is_lower d c ≡ b → (HasSame v w → v ≡ w) → c ∷ v ≡ d ∷ w
    go true b e f rest = absurd (first_of_same_is_not_lower c d v w sw.0 same e)
    go false true e f rest = absurd (first_of_same_is_not_lower d c w v sv.0 (has_same_symmetric (c ∷ v) (d ∷ w) same) f)
    go false false e f rest =
        let is : c ≡ d = not_lower_is_equal c d e f in
        let tails : v ≡ w = rest (λ g. omega (arith, same g, sum_by-cons g c v, sum_by-cons g d w, ap g is)) in
        ap₂ (λ (x : Contribution) (u : Value). x ∷ u) is tails

-- by the order of ranks and items none is lower than the one before it
lt_lower : (a b c d : ℕ) → is_lt (ordering_then (nat_cmp a c) (nat_cmp b d)) ≡ (nat_lt a c || ((a == c) && nat_lt b d))
lt_lower a b c d = go (nat_lt a c) (a == c) (nat_lt b d) (b == d)
  where
    go : (p q r s : Bool) → is_lt (ordering_then (cond p Less (cond q Equal Greater)) (cond r Less (cond s Equal Greater))) ≡ (p || (q && r))
    go true q r s = refl
    go false false r s = refl
    go false true true s = refl
    go false true false true = refl
    go false true false false = refl

pub sorted_from_neighbours : (v : Value) → ((k : ℕ) (d : Contribution) → 0 ≤ k → k + 1 < length v → is_lt (ordering_then (nat_cmp (get_or v (k + 1) d).rank (get_or v k d).rank) (nat_cmp (get_or v (k + 1) d).item (get_or v k d).item)) ≡ false) → IsSorted v
sorted_from_neighbours [] each = tt
sorted_from_neighbours (c ∷ []) each = (tt, tt)
sorted_from_neighbours (c ∷ d ∷ v) each =
    let rest : IsSorted (d ∷ v) = sorted_from_neighbours (d ∷ v) (λ k x low high. let e : suc k + 1 ≡ suc (k + 1) = omega arith in subst (λ (j : ℕ). is_lt (ordering_then (nat_cmp (get_or (c ∷ d ∷ v) j x).rank (get_or (d ∷ v) k x).rank) (nat_cmp (get_or (c ∷ d ∷ v) j x).item (get_or (d ∷ v) k x).item)) ≡ false) e (each (suc k) x (omega arith) (omega (arith, high)))) in
    let first : is_lower d c ≡ false = sym (lt_lower d.rank d.item c.rank c.item) ∙ each 0 c (omega arith) (omega arith) in
    ((first, all_by_recursion_weaker (λ x. not_lower_transitive c d x first) v rest.0), rest)
