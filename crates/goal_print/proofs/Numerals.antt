-- Decimal numbers, sizes and labels are runs of the right form, with the right tokens.
use Rattle.std.proofs.Common.{◌≡◌, ℕ, ◌+◌, ◌-◌, ◌*◌, ◌%◌, ◌^◌, ◌<◌, ◌≤◌, true, List, [], ◌∷◌, ◌++◌, length, take, decimal, refl, ap, ◌∙◌, arith, length-append}
use Rattle.std.proofs.lemmas.List.Sums.{fold-append}
use Rattle.std.proofs.Math.Seq.{take-append_seam}
use Rattle.std.proofs.lemmas.Bool.Decides.{nat_tests}
use Rattle.std.proofs.lemmas.Fmt.{decimal_by_steps, length-decimal-le}
use Rattle.goal_lexer.specs.declared.tokens.TokenKind.TheVariants as token
use Rattle.goal_lexer.specs.declared.mode.Form.TheVariants.{Word, Sized}
use Rattle.goal_lexer.specs.Bytes.{is_digit, is_run_byte}
use Rattle.goal_lexer.specs.Numbers.{decimal_value, number_value}
use Rattle.goal_lexer.specs.Pieces.{Each, AreWord, AreDigits}
use Rattle.goal_lexer.specs.Runs.{run_kind}
use Rattle.goal_print.specs.Canonical.{label}
use Rattle.goal_lexer.proofs.ForCallers.{Each-push}

-- decimal numbers are of digits
digits_with_last : (ds : List ℕ) (c : ℕ) → AreDigits ds → is_digit c ≡ true → AreDigits (ds ++ c ∷ [])
digits_with_last [] c are digit = absurd are
digits_with_last (d ∷ ds) c are digit = (are.0, Each-push is_digit ds c are.1 digit)

is_digit-of : (m : ℕ) → m < 10 → is_digit (48 + m) ≡ true
is_digit-of m h = grind (arith, nat_tests)

pub decimal_digits : (n : ℕ) → n < 2 ^ 64 → AreDigits (decimal n)
decimal_digits =
    decimal_by_steps (λ (n : ℕ) (ds : List ℕ). AreDigits ds)
    (λ n below. (is_digit-of n below, tt))
    (λ n ds above are. digits_with_last ds (48 + n % 10) are (is_digit-of (n % 10) (omega arith)))

value_with_last_digit : (ds : List ℕ) (m : ℕ) → decimal_value (ds ++ (48 + m) ∷ []) ≡ decimal_value ds * 10 + m
value_with_last_digit ds m =
    fold-append (λ (value digit : ℕ). value * 10 + (digit - 48)) 0 ds ((48 + m) ∷ []) ∙ omega arith

pub decimal_value-decimal : (n : ℕ) → n < 2 ^ 64 → decimal_value (decimal n) ≡ n
decimal_value-decimal =
    decimal_by_steps (λ (n : ℕ) (ds : List ℕ). decimal_value ds ≡ n)
    (λ n below. omega arith)
    (λ n ds above is. value_with_last_digit ds (n % 10) ∙ omega arith)

pub number_value-decimal : (n : ℕ) → n < 2 ^ 64 → number_value (decimal n) ≡ n
number_value-decimal n h = let is : decimal_value (decimal n) ≡ n = decimal_value-decimal n h in omega arith

pub length-decimal : (n : ℕ) → n < 2 ^ 64 → length (decimal n) ≤ 20
length-decimal n h = length-decimal-le 20 n (omega arith) (omega arith) h

-- labels are words that are not reserved

run_bytes : (cs : List ℕ) → Each is_digit cs → Each is_run_byte cs
run_bytes [] each = tt
run_bytes (c ∷ cs) each = (grind (arith, nat_tests), run_bytes cs each.1)

each_digit : (ds : List ℕ) → AreDigits ds → Each is_digit ds
each_digit [] are = absurd are
each_digit (d ∷ ds) are = are

pub label_word : (op : ℕ) → op + 1 < 2 ^ 64 → AreWord (label op)
label_word op h = (refl, run_bytes (decimal (op + 1)) (each_digit (decimal (op + 1)) (decimal_digits (op + 1) h)))

pub length-label : (op : ℕ) → op + 1 < 2 ^ 64 → length (label op) ≤ 64
length-label op h = let most : length (decimal (op + 1)) ≤ 20 = length-decimal (op + 1) h in omega arith

pub label_kind : (op : ℕ) → run_kind Word (label op) ≡ token.Label (label op)
label_kind op = refl

-- sizes

take_all_but_last : (ds : List ℕ) (c : ℕ) → take (length (ds ++ c ∷ []) - 1) (ds ++ c ∷ []) ≡ ds
take_all_but_last ds c =
    let long : length (ds ++ c ∷ []) - 1 ≡ length ds = omega (arith, length-append ds (c ∷ [])) in
    ap (λ (n : ℕ). take n (ds ++ c ∷ [])) long ∙ take-append_seam ds (c ∷ [])

pub size_kind : (n : ℕ) → n < 2 ^ 64 → run_kind Sized (decimal n ++ 98 ∷ []) ≡ token.Size n
size_kind n h = ap (λ (ds : List ℕ). token.Size (number_value ds)) (take_all_but_last (decimal n) 98) ∙ ap (λ (m : ℕ). token.Size m) (number_value-decimal n h)
