-- Small facts about tests.
use Rattle.std.proofs.Common.{◌≡◌, ℕ, ◌&&◌, eqb, Bool, true, false, refl, inl, inr}
use Rattle.std.proofs.lemmas.Bool.Decides.{eqb_tells}

-- different numbers fail the test for equality
pub ne-eqb : (a b : ℕ) → (a ≡ b → ⊥) → eqb a b ≡ false
ne-eqb a b other = elim (eqb_tells a b) [ inl same ↦ absurd (other same.1) | inr differ ↦ differ.0 ]

-- both sides of an "and" that holds
pub and_left : (a b : Bool) → (a && b) ≡ true → a ≡ true
and_left true b h = refl
and_left false b h = absurd (cc)

pub and_right : (a b : Bool) → (a && b) ≡ true → b ≡ true
and_right true b h = h
and_right false b h = absurd (cc)
