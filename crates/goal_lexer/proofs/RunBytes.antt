-- The table of run bytes is right.
use Rattle.std.proofs.Common.{◌≡◌, ◌∙◌, ℕ, zero, suc, ◌+◌, ◌<◌, ◌&&◌, Bool, true, false, not, nat_eq, List, [], ◌∷◌, length, get_or, refl, sym, ap, arith}
use Rattle.std.proofs.lemmas.Bool.{and_parts}
use Rattle.goal_lexer.specs.Bytes.{is_run_byte}
use Rattle.goal_lexer.specs.declared.bytes.TheConstants.{RUN_BYTES}

abbrev bools_agree : Bool → Bool → Bool
bools_agree true b = b
bools_agree false b = not b

bools_agree-equal : (a b : Bool) → bools_agree a b ≡ true → a ≡ b
bools_agree-equal true true h = refl
bools_agree-equal false false h = refl
bools_agree-equal true false h = sym h
bools_agree-equal false true h = h

-- each byte from this one on is marked in the list exactly if it is a run byte
abbrev agree : ℕ → List ℕ → Bool
agree c [] = true
agree c (x ∷ xs) = bools_agree (nat_eq x 120) (is_run_byte c) && agree (1 + c) xs

agree_at_byte : (c : ℕ) (xs : List ℕ) (n : ℕ) → agree c xs ≡ true → n < length xs → nat_eq (get_or xs n 0) 120 ≡ is_run_byte (n + c)
agree_at_byte c [] n h below = absurd (omega arith)
agree_at_byte c (x ∷ xs) zero h below =
    let e : c ≡ 0 + c = omega arith in
    bools_agree-equal (nat_eq x 120) (is_run_byte c) (and_parts (bools_agree (nat_eq x 120) (is_run_byte c)) (agree (1 + c) xs) h).0 ∙ ap is_run_byte e
agree_at_byte c (x ∷ xs) (suc n) h below =
    let e : n + (1 + c) ≡ suc n + c = omega arith in
    agree_at_byte (1 + c) xs n (and_parts (bools_agree (nat_eq x 120) (is_run_byte c)) (agree (1 + c) xs) h).1 (omega arith) ∙ ap is_run_byte e

pub marked_iff_run_byte : (byte : ℕ) → byte < 256 → nat_eq (get_or RUN_BYTES byte 0) 120 ≡ is_run_byte byte
marked_iff_run_byte byte below =
    let e : byte + 0 ≡ byte = omega arith in
    agree_at_byte 0 RUN_BYTES byte refl below ∙ ap is_run_byte e
