-- Where a block comment ends.
use Rattle.std.proofs.Common.{◌≡◌, ℕ, Bool, true, false, ◌&&◌, ◌||◌, List, [], ◌∷◌, ◌++◌, ◌==◌, refl, ap, arith}
use Rattle.std.proofs.lemmas.Bool.Decides.{nat_tests}
use Rattle.goal_lexer.specs.Bytes.{slash, star}
use Rattle.goal_lexer.specs.Pieces.{has_close}
use Rattle.goal_lexer.specs.Open.{ends_in_star}

or_false : (a b : Bool) → (a || b) ≡ false → (a ≡ false) × (b ≡ false)
or_false false b none = (refl, none)
or_false true b none = cc

or_of_false : (a b : Bool) → a ≡ false → b ≡ false → (a || b) ≡ false
or_of_false false b is_a is_b = is_b
or_of_false true b is_a is_b = cc

or_of_true : (a b : Bool) → b ≡ true → (a || b) ≡ true
or_of_true false b is = is
or_of_true true b is = refl

-- appending a byte that closes nothing adds no `*/`
pub has_close-push : (inside : List ℕ) (c : ℕ) → has_close inside ≡ false → (ends_in_star inside && c == slash) ≡ false →
    has_close (inside ++ c ∷ []) ≡ false
has_close-push [] c none apart = refl
has_close-push (a ∷ []) c none apart = or_of_false (a == star && c == slash) false apart refl
has_close-push (a ∷ b ∷ cs) c none apart =
    let known = or_false (a == star && b == slash) (has_close (b ∷ cs)) none in
    or_of_false (a == star && b == slash) (has_close (b ∷ cs ++ c ∷ [])) known.0 (has_close-push (b ∷ cs) c known.1 apart)

pub ends_in_star-push : (inside : List ℕ) (c : ℕ) → ends_in_star (inside ++ c ∷ []) ≡ (c == star)
ends_in_star-push [] c = refl
ends_in_star-push (a ∷ []) c = refl
ends_in_star-push (a ∷ b ∷ cs) c = ends_in_star-push (b ∷ cs) c

-- the bytes before the `*`
pub bytes_before_star : (inside : List ℕ) → ends_in_star inside ≡ true → (before : List ℕ) × (inside ≡ before ++ star ∷ [])
bytes_before_star [] is = cc
bytes_before_star (c ∷ []) is = let same : c ≡ star = grind (arith, nat_tests) in ([], ap (λ (b : ℕ). b ∷ []) same)
bytes_before_star (c ∷ d ∷ cs) is =
    let known = bytes_before_star (d ∷ cs) is in (c ∷ known.0, ap (λ (t : List ℕ). c ∷ t) known.1)

-- a prefix of bytes without `*/`
pub has_close-front : (xs ys : List ℕ) → has_close (xs ++ ys) ≡ false → has_close xs ≡ false
has_close-front [] ys none = refl
has_close-front (a ∷ []) ys none = refl
has_close-front (a ∷ b ∷ xs) ys none =
    let known = or_false (a == star && b == slash) (has_close (b ∷ xs ++ ys)) none in
    or_of_false (a == star && b == slash) (has_close (b ∷ xs)) known.0 (has_close-front (b ∷ xs) ys known.1)

-- a `*/` inside bytes
pub has_close-found : (xs ys : List ℕ) → has_close (xs ++ star ∷ slash ∷ ys) ≡ true
has_close-found [] ys = refl
has_close-found (a ∷ []) ys = or_of_true (a == star && star == slash) (has_close (star ∷ slash ∷ ys)) refl
has_close-found (a ∷ b ∷ xs) ys =
    or_of_true (a == star && b == slash) (has_close (b ∷ xs ++ star ∷ slash ∷ ys)) (has_close-found (b ∷ xs) ys)

-- the bytes after the first
pub has_close-tail : (c : ℕ) (cs : List ℕ) → has_close (c ∷ cs) ≡ false → has_close cs ≡ false
has_close-tail c [] none = refl
has_close-tail c (d ∷ cs) none = (or_false (c == star && d == slash) (has_close (d ∷ cs)) none).1
