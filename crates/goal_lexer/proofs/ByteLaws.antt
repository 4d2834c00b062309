-- Each byte is in one class only.
use Rattle.std.proofs.Common.{◌≡◌, ℕ, true, false, IsSome, arith}
use Rattle.std.proofs.lemmas.Bool.Decides.{nat_tests}
use Rattle.goal_lexer.specs.Bytes.{is_blank, begins_word, is_digit, is_run_byte, slash}
use Rattle.goal_lexer.specs.Pieces.{sign_kind}

pub digit_begins_no_word : (c : ℕ) → is_digit c ≡ true → begins_word c ≡ false
digit_begins_no_word c digit = grind (arith, nat_tests)

pub digit_is_run_byte : (c : ℕ) → is_digit c ≡ true → is_run_byte c ≡ true
digit_is_run_byte c digit = grind (arith, nat_tests)

pub word_start_is_run_byte : (c : ℕ) → begins_word c ≡ true → is_run_byte c ≡ true
word_start_is_run_byte c word = rw word

pub run_byte_is_no_blank : (c : ℕ) → is_run_byte c ≡ true → is_blank c ≡ true → ⊥
run_byte_is_no_blank c run blank = grind (arith, nat_tests)

pub run_byte_is_no_slash : (c : ℕ) → is_run_byte c ≡ true → c ≡ slash → ⊥
run_byte_is_no_slash c run is = grind (arith, nat_tests)

pub run_byte_is_no_sign : (c : ℕ) → is_run_byte c ≡ true → IsSome (sign_kind c) → ⊥
run_byte_is_no_sign c run some = grind (arith, nat_tests)

pub slash_is_no_blank : (c : ℕ) → c ≡ slash → is_blank c ≡ true → ⊥
slash_is_no_blank c is blank = grind (arith, nat_tests)

pub slash_is_no_sign : (c : ℕ) → c ≡ slash → IsSome (sign_kind c) → ⊥
slash_is_no_sign c is some = grind (arith, nat_tests)

pub blank_is_no_sign : (c : ℕ) → is_blank c ≡ true → IsSome (sign_kind c) → ⊥
blank_is_no_sign c blank some = grind (arith, nat_tests)
