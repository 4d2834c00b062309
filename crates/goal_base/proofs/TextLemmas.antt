-- The digits of a number in a line.
use Rattle.std.proofs.Common.{◌≡◌, ℕ, zero, suc, ◌+◌, ◌*◌, ◌/◌, ◌^◌, ◌<◌, ◌≤◌, List, ◌++◌, length, take, drop, length-append, length-take-le, lit<, arith, add-one, append_assoc, ◌∙◌, ap, sym}
use Rattle.std.specs.Fmt.{decimal}
use Rattle.std.proofs.lemmas.Fmt.{decimal_step, decimal_nonempty, length-decimal-le}
use Rattle.std.proofs.Math.Nat.{pow-suc}
use Rattle.std.proofs.lemmas.List.{take-append-drop, take_at}

power_positive : (k : ℕ) → 0 < 10 ^ k
power_positive zero = lit< tt
power_positive (suc k) = omega (arith, pow-suc 10 k, power_positive k)

-- a number that reaches a power of ten has more digits than the exponent
digits_above : (k n : ℕ) → 10 ^ k ≤ n → n < 2 ^ 64 → k < length (decimal n)
digits_above zero n above fits = decimal_nonempty n fits
digits_above (suc k) n above fits =
    let power = pow-suc 10 k in
    let positive = power_positive k in
    let shorter = digits_above k (n / 10) (omega arith) (omega arith) in
    let longer : length (decimal n) ≡ length (decimal (n / 10)) + 1 = ap length (decimal_step n (omega arith) fits) ∙ length-append _ _ in
    omega arith

-- a number between two powers of ten has one digit more than the lower exponent
pub digits_between : (k n : ℕ) → 10 ^ k ≤ n → n < 10 * 10 ^ k → n < 2 ^ 64 → k + 1 ≡ length (decimal n)
digits_between k n above below fits =
    let power : 10 ^ (k + 1) ≡ 10 ^ k * 10 = rw add-one (pow-suc 10 k) in
    omega (arith, digits_above k n above fits, length-decimal-le (k + 1) n (omega arith) (omega arith) fits)

-- the most digits of a number of 32 bits, and of one of 64 bits
pub digits_of_32_bits : (n : ℕ) → n < 2 ^ 32 → length (decimal n) ≤ 10
digits_of_32_bits n fits = length-decimal-le 10 n (omega arith) (omega arith) (omega arith)

pub digits_of_64_bits : (n : ℕ) → n < 2 ^ 64 → length (decimal n) ≤ 20
digits_of_64_bits n fits = length-decimal-le 20 n (omega arith) (omega arith) fits

-- the bytes up to the end of a written text, if the bytes before it are unchanged
pub written_up_to : (old new text : List ℕ) (start at end : ℕ) → at ≤ length old → start + length text ≡ end → end ≡ at + length text
    → drop start new ≡ text ++ drop end old → take start new ≡ take start old
    → take end new ≡ take at old ++ text
written_up_to old new text start at end within starts ends written before =
    let here : start ≡ at = omega arith in
    let whole : new ≡ (take at old ++ text) ++ drop end old =
    sym (take-append-drop start new) ∙ ap (λ (rest : List ℕ). take start new ++ rest) written
    ∙ ap (λ (front : List ℕ). front ++ (text ++ drop end old)) before
    ∙ ap (λ (place : ℕ). take place old ++ (text ++ drop end old)) here ∙ sym (append_assoc (take at old) text (drop end old)) in
    ap (take end) whole ∙ take_at (take at old ++ text) (drop end old) end
    (omega (arith, length-append (take at old) text, length-take-le at old within, ends))
