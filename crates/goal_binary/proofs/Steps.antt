-- Steps of reading, one after another.
use Rattle.std.proofs.Common.{◌≡◌, ℕ, ◌<◌, Bool, true, false, List, ◌++◌, get_or, drop, Result, Ok, Err, refl, sym, ap, ◌∙◌, append_assoc}
use Rattle.goal_binary.specs.declared.fault.FileFault.{FileFault}
use Rattle.goal_binary.specs.Fields.{◌>>=◌, allow}

abbrev pub IsBytes : List ℕ → Type 0
IsBytes bytes = (i : ℕ) → get_or bytes i 0 < 256

-- the value of a step without a fault
pub bind_ok : {A B : Type 0} (r : Result A FileFault) (f : A → Result B FileFault) (y : B) → (r >>= f) ≡ Ok y → (x : A) × (r ≡ Ok x) × (f x ≡ Ok y)
bind_ok (Ok x) f y e = (x, refl, e)
bind_ok (Err d) f y e = absurd cc

-- a test that passed
pub allow_ok : {A : Type 0} (b : Bool) (at : ℕ) (x y : A) → allow b at x ≡ Ok y → (b ≡ true) × (x ≡ y)
allow_ok true at x y e = (refl, cc)
allow_ok false at x y e = absurd cc

abbrev ok_result : {A : Type 0} → A → Result A FileFault
ok_result x = Ok x

pub ok_injective : {A : Type 0} (x y : A) → ok_result x ≡ ok_result y → x ≡ y
ok_injective x y e = cc

-- what a reader takes, from one place to the place after it
pub record Takes (bytes : List ℕ) (at : ℕ) (text : List ℕ) (after : ℕ) : Type 0 where
  pub parts : drop at bytes ≡ text ++ drop after bytes

pub Takes-then : (bytes : List ℕ) (at : ℕ) (x : List ℕ) (mid : ℕ) (y : List ℕ) (after : ℕ) → Takes bytes at x mid → Takes bytes mid y after → Takes bytes at (x ++ y) after
Takes-then bytes at x mid y after p q =
    record { parts = p.parts ∙ ap (λ (t : List ℕ). x ++ t) q.parts ∙ sym (append_assoc x y (drop after bytes)) }
