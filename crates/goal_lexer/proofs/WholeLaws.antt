-- The scan of a whole run, and of a sign.
use Rattle.std.proofs.Common.{◌≡◌, ℕ, zero, suc, ◌+◌, ◌<◌, ◌≤◌, Bool, true, false, List, [], ◌∷◌, ◌++◌, length, take, drop, get_or, ◌-◌, nat_lt, Option, Some, None, IsSome, ◌==◌, refl, sym, ap, subst, ◌∙◌, arith, length-append, length-drop}
use Rattle.std.proofs.lemmas.Bool.{false≢true}
use Rattle.std.proofs.lemmas.Bool.Decides.{nat_tests}
use Rattle.std.proofs.lemmas.List.{take_rest, drop-drop, drop_more, take_more, length-take, length-take-le}
use Rattle.std.proofs.Math.Seq.{take-append_seam}
use Rattle.goal_lexer.specs.declared.mode.Form.{Form}
use Rattle.goal_lexer.specs.declared.mode.Form.TheVariants.{Word, Digits, Sized}
use Rattle.goal_lexer.specs.declared.mode.Mode.{Mode}
use Rattle.goal_lexer.specs.declared.mode.Mode.TheVariants.{Between, Run}
use Rattle.goal_lexer.specs.Bytes.{begins_word, is_digit, is_run_byte, size_mark}
use Rattle.goal_lexer.specs.Numbers.{number_value}
use Rattle.goal_lexer.specs.Words.{word_kind}
use Rattle.goal_lexer.specs.declared.tokens.Token.{Token}
use Rattle.goal_lexer.specs.declared.tokens.TokenKind.{TokenKind}
use Rattle.goal_lexer.specs.declared.tokens.TokenKind.TheVariants.{Number, Size}
use Rattle.goal_lexer.specs.Scan.{Scanned, after_tokens, next, scan, closing}
use Rattle.goal_lexer.specs.Stands.{begins_run}
use Rattle.goal_lexer.specs.Pieces.{Each, AreDigits, HasForm, sign_kind, sign_tokens}
use Rattle.goal_lexer.specs.Whole.{BeginsWord, IsWholeRun}
use Rattle.goal_lexer.proofs.ByteLaws.{digit_begins_no_word}
use Rattle.goal_lexer.proofs.ScanLaws.{scan_after_no_token, scan_one, scan_next_byte, scan_stretch}
use Rattle.goal_lexer.proofs.StretchLaws.{Each-take, scan_word, scan_digits}

-- a first byte, and then the others
scan_from_first_byte : (place c : ℕ) (cs : List ℕ) (form : Form) → next Between place c ≡ (Run place (c ∷ []) form, []) →
    scan (Run place (c ∷ []) form) (place + 1) cs ≡ (Run place (c ∷ cs) form, []) → scan Between place (c ∷ cs) ≡ (Run place (c ∷ cs) form, [])
unfolding scan
scan_from_first_byte place c cs form first others =
    ap (λ (r : Scanned). after_tokens r.1 (scan r.0 (place + 1) cs)) first ∙ ap (after_tokens []) others

scan_of_word : (place : ℕ) (run : List ℕ) → Each is_run_byte run → BeginsWord run → length run ≤ 64 →
    scan Between place run ≡ (Run place run Word, [])
scan_of_word place [] each begins short = absurd begins
scan_of_word place (c ∷ cs) each begins short =
    scan_from_first_byte place c cs Word (rw begins) (scan_word place (place + 1) (c ∷ []) cs each.1 (λ _. short))

scan_of_digits : (place : ℕ) (run : List ℕ) → 0 < length run → Each is_digit run → length run ≤ 64 →
    scan Between place run ≡ (Run place run Digits, [])
scan_of_digits place [] some each short = absurd (omega arith)
scan_of_digits place (c ∷ cs) some each short =
    let digit = each.0 in
    let no_word = digit_begins_no_word c digit in
    scan_from_first_byte place c cs Digits (rw (no_word, digit)) (scan_digits place (place + 1) (c ∷ []) cs each.1 (λ _. short))

-- the mark of a size after digits
next_mark : (start place : ℕ) (digits : List ℕ) → length (digits ++ size_mark ∷ []) ≤ 64 →
    next (Run start digits Digits) place size_mark ≡ (Run start (digits ++ size_mark ∷ []) Sized, [])
next_mark start place digits short =
    let few : nat_lt 64 (length (digits ++ size_mark ∷ [])) ≡ false = grind (arith, nat_tests) in
    rw few refl

scan_of_size : (place : ℕ) (digits : List ℕ) → 0 < length digits → Each is_digit digits → length (digits ++ size_mark ∷ []) ≤ 64 →
    scan Between place (digits ++ size_mark ∷ []) ≡ (Run place (digits ++ size_mark ∷ []) Sized, [])
scan_of_size place digits some each short =
    let fits : length digits ≤ 64 = omega (arith, length-append digits (size_mark ∷ [])) in
    scan_after_no_token Between (Run place digits Digits) place digits (size_mark ∷ []) (scan_of_digits place digits some each fits)
    ∙ scan_one (Run place digits Digits) (place + length digits) size_mark
    ∙ next_mark place (place + length digits) digits short

digits_not_empty : (xs : List ℕ) → AreDigits xs → 0 < length xs
digits_not_empty [] are = absurd are
digits_not_empty (x ∷ xs) are = omega arith

digits_each : (xs : List ℕ) → AreDigits xs → Each is_digit xs
digits_each [] are = absurd are
digits_each (x ∷ xs) are = are

-- a run of a form is open after its bytes
pub scan_of_run : (place : ℕ) (run : List ℕ) (form : Form) → Each is_run_byte run → HasForm form run → length run ≤ 64 →
    scan Between place run ≡ (Run place run form, [])
scan_of_run place [] Word each has short = absurd has
scan_of_run place (c ∷ cs) Word each has short = scan_of_word place (c ∷ cs) each has.0 short
scan_of_run place run Digits each has short = scan_of_digits place run (digits_not_empty run has) (digits_each run has) short
scan_of_run place run Sized each has short =
    let digits = has.0 in
    let fits : length (digits ++ size_mark ∷ []) ≤ 64 = subst (λ (t : List ℕ). length t ≤ 64) has.1 short in
    subst (λ (t : List ℕ). scan Between place t ≡ (Run place t Sized, [])) (sym has.1)
    (scan_of_size place digits (digits_not_empty digits has.2) (digits_each digits has.2) fits)

-- the first byte of a prefix
prefix_begins_word : (n : ℕ) (xs : List ℕ) → 0 < n → 0 < length xs → begins_word (get_or xs 0 0) ≡ true → BeginsWord (take n xs)
prefix_begins_word zero xs some has is = absurd (omega arith)
prefix_begins_word (suc n) [] some has is = absurd (omega arith)
prefix_begins_word (suc n) (x ∷ xs) some has is = is

-- the byte at that place is no run byte
run_ends_at_place : (piece : List ℕ) (n : ℕ) → n < length piece → is_run_byte (get_or piece n 0) ≡ false → begins_run (drop n piece) ≡ false
run_ends_at_place piece n inside ends = ap begins_run (drop_more piece n 0 inside) ∙ ends

-- a word that ends inside the piece
pub whole_letters : (place count : ℕ) (piece : List ℕ) (kind : TokenKind) → 0 < count → count < length piece → count ≤ 64 →
    begins_word (get_or piece 0 0) ≡ true → ((k : ℕ) → k < count → is_run_byte (get_or piece k 0) ≡ true) →
    is_run_byte (get_or piece count 0) ≡ false → kind ≡ word_kind (take count piece) →
    IsWholeRun place piece count (record { kind = kind; start = place; end = place + count })
whole_letters place count piece kind some inside few begins each ends is =
    let run = take count piece in
    let within : count ≤ length piece = omega arith in
    let short : length run ≤ 64 = omega (arith, length-take count piece) in (
      some,
      inside,
      run_ends_at_place piece count inside ends,
      refl,
      (
        Run place run Word,
        scan_of_word place run (Each-take is_run_byte count piece each within) (prefix_begins_word count piece some (omega arith) begins) short,
        ap (λ (k : TokenKind). record { kind = k; start = place; end = place + count } ∷ []) (sym is),
      ),
    )

-- digits that end inside the piece
pub whole_digits : (place count value : ℕ) (piece : List ℕ) → 0 < count → count < length piece → count ≤ 64 →
    ((k : ℕ) → k < count → is_digit (get_or piece k 0) ≡ true) → is_run_byte (get_or piece count 0) ≡ false →
    value ≡ number_value (take count piece) →
    IsWholeRun place piece count (record { kind = Number value; start = place; end = place + count })
whole_digits place count value piece some inside few each ends is =
    let run = take count piece in
    let within : count ≤ length piece = omega arith in
    let long : length run ≡ count = length-take-le count piece within in (
      some,
      inside,
      run_ends_at_place piece count inside ends,
      refl,
      (
        Run place run Digits,
        scan_of_digits place run (omega arith) (Each-take is_digit count piece each within) (omega arith),
        ap (λ (v : ℕ). record { kind = Number v; start = place; end = place + count } ∷ []) (sym is),
      ),
    )

-- the digits of a size
digits_of_size : (digits : List ℕ) → take (length (digits ++ size_mark ∷ []) - 1) (digits ++ size_mark ∷ []) ≡ digits
digits_of_size digits =
    let long : length (digits ++ size_mark ∷ []) - 1 ≡ length digits = omega (arith, length-append digits (size_mark ∷ [])) in
    ap (λ (n : ℕ). take n (digits ++ size_mark ∷ [])) long ∙ take-append_seam digits (size_mark ∷ [])

-- a size that ends inside the piece
pub whole_size : (place count value : ℕ) (piece : List ℕ) → 0 < count → count + 1 < length piece → count < 64 →
    ((k : ℕ) → k < count → is_digit (get_or piece k 0) ≡ true) → get_or piece count 0 ≡ size_mark →
    is_run_byte (get_or piece (count + 1) 0) ≡ false → value ≡ number_value (take count piece) →
    IsWholeRun place piece (count + 1) (record { kind = Size value; start = place; end = place + (count + 1) })
whole_size place count value piece some inside few each mark ends is =
    let digits = take count piece in
    let within : count ≤ length piece = omega arith in
    let long : length digits ≡ count = length-take-le count piece within in
    let run_is : take (count + 1) piece ≡ digits ++ size_mark ∷ [] =
    take_more piece count 0 (omega arith) ∙ ap (λ (c : ℕ). digits ++ c ∷ []) mark in
    let short : length (digits ++ size_mark ∷ []) ≤ 64 = omega (arith, length-append digits (size_mark ∷ [])) in (
      omega arith,
      inside,
      run_ends_at_place piece (count + 1) inside ends,
      refl,
      (
        Run place (digits ++ size_mark ∷ []) Sized,
        ap (scan Between place) run_is ∙ scan_of_size place digits (omega arith) (Each-take is_digit count piece each within) short,
        ap (λ (v : ℕ). record { kind = Size v; start = place; end = place + (count + 1) } ∷ [])
            (ap number_value (digits_of_size digits) ∙ sym is),
      ),
    )

-- a whole run after bytes that ended no token and left nothing open
pub run_in_piece : (mode : Mode) (place n count : ℕ) (piece : List ℕ) (token : Token) → n ≤ length piece →
    scan mode place (take n piece) ≡ (Between, []) → IsWholeRun (place + n) (take (length piece - n) (drop n piece)) count token →
    (n + count < length piece) × (begins_run (drop (n + count) piece) ≡ false)
    × ((run : Mode) × (scan mode place (take (n + count) piece) ≡ (run, [])) × (closing (place + (n + count)) run ≡ token ∷ []))
    × (token.end ≡ place + (n + count))
run_in_piece mode place n count piece token within quiet given =
    let whole : IsWholeRun (place + n) (drop n piece) count token =
    subst (λ (ys : List ℕ). IsWholeRun (place + n) ys count token) (take_rest piece n) given in
    let run = whole.4.0 in
    let at : place + n + count ≡ place + (n + count) = omega arith in (
      omega (arith, whole.1, length-drop n piece),
      ap begins_run (sym (drop-drop count n piece)) ∙ whole.2,
      (
        run,
        scan_stretch mode Between run place piece n count within quiet whole.4.1,
        ap (λ (p : ℕ). closing p run) (sym at) ∙ whole.4.2,
      ),
      whole.3 ∙ at,
    )

-- a sign is a token
module _ (place c : ℕ) where
  abbrev IsScannedAsSign : ℕ → Type 0
  IsScannedAsSign b = next Between place b ≡ (Between, sign_tokens (sign_kind b) place)

  sign_by_colon_test : (s : Bool) → (c == 58) ≡ s → (c == 123) ≡ false → (c == 125) ≡ false → IsSome (sign_kind c) → IsScannedAsSign c
  sign_by_colon_test true is_s no_open no_close some = let same : c ≡ 58 = grind (arith, nat_tests) in subst IsScannedAsSign (sym same) refl
  sign_by_colon_test false is_s no_open no_close some =
      let none : sign_kind c ≡ None = rw (no_open, no_close, is_s) in
      let no : IsSome {T = TokenKind} None = subst (λ (o : Option TokenKind). IsSome o) none some in
      absurd (false≢true no)

  sign_by_close_test : (s : Bool) → (c == 125) ≡ s → (c == 123) ≡ false → IsSome (sign_kind c) → IsScannedAsSign c
  sign_by_close_test true is_s no_open some = let same : c ≡ 125 = grind (arith, nat_tests) in subst IsScannedAsSign (sym same) refl
  sign_by_close_test false is_s no_open some = sign_by_colon_test (c == 58) refl no_open is_s some

  sign_by_open_test : (s : Bool) → (c == 123) ≡ s → IsSome (sign_kind c) → IsScannedAsSign c
  sign_by_open_test true is_s some = let same : c ≡ 123 = grind (arith, nat_tests) in subst IsScannedAsSign (sym same) refl
  sign_by_open_test false is_s some = sign_by_close_test (c == 125) refl is_s some

  pub next_sign : IsSome (sign_kind c) → next Between place c ≡ (Between, sign_tokens (sign_kind c) place)
  next_sign some = sign_by_open_test (c == 123) refl some

-- a sign after bytes that ended no token
pub sign_in_piece : (place n : ℕ) (piece : List ℕ) (kind : TokenKind) → n < length piece →
    scan Between place (take n piece) ≡ (Between, []) → sign_kind (get_or piece n 0) ≡ Some kind →
    scan Between place (take (n + 1) piece) ≡ (Between, record { kind = kind; start = place + n; end = place + n + 1 } ∷ [])
sign_in_piece place n piece kind inside quiet is =
    let c = get_or piece n 0 in
    let some : IsSome (sign_kind c) = subst (λ (o : Option TokenKind). IsSome o) (sym is) refl in
    scan_next_byte Between Between place piece n inside quiet
    ∙ next_sign (place + n) c some
    ∙ ap (λ (o : Option TokenKind). (Between, sign_tokens o (place + n))) is
