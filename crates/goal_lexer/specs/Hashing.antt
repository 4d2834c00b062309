-- How a label is hashed.
use Rattle.std.specs.Prelude.{◌≡◌, ℕ, List, [], ◌∷◌, IsTrue, nat_eq}
use Rattle.std.proofs.Common.{ap, sym}
use Rattle.std.specs.Cmp.Lexicographic.{pointwise, same_text}

-- all bytes in one write
abbrev pub one_write : List ℕ → List (List ℕ)
one_write bytes = bytes ∷ []

-- equal labels have equal hash input
pub one_write_alike : (x y : List ℕ) → IsTrue (pointwise nat_eq x y) → one_write x ≡ one_write y
one_write_alike x y same = ap one_write (same_text x y (sym same))
