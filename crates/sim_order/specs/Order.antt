-- Orders as tests, and how they are combined.
use Rattle.std.specs.Prelude.{◌≡◌, Bool, true, false, if◌then◌else◌}

-- The laws of an order. No value is less than itself. It is transitive. Two values of which neither is less are the
-- same, so of two different values one is less.
pub record IsOrder {K : Type 0} (less : K → K → Bool) : Type 0 where
  pub irreflexive : (x : K) → less x x ≡ false
  pub transitive : (x y z : K) → less x y ≡ true → less y z ≡ true → less x z ≡ true
  pub total : (x y : K) → less x y ≡ false → less y x ≡ false → x ≡ y

-- The lexical order of pairs. The arguments say whether the first part is less, whether the second's is less, and
-- whether the rest is less, which decides if neither is.
abbrev pub lexical : Bool → Bool → Bool → Bool
lexical first_is_less second_is_less rest_is_less =
    if first_is_less then true else (if second_is_less then false else rest_is_less)
