-- The scan of bytes in a row that end nothing.
use Rattle.std.proofs.Common.{◌≡◌, ℕ, zero, suc, ◌+◌, ◌<◌, ◌≤◌, Bool, true, false, List, [], ◌∷◌, ◌++◌, length, take, get_or, Some, if◌then◌else◌, ◌==◌, nat_lt, refl, sym, ap, subst, ◌∙◌, arith, append_assoc, length-append}
use Rattle.std.proofs.lemmas.Bool.Decides.{nat_tests}
use Rattle.std.proofs.lemmas.List.{append-nil}
use Rattle.goal_lexer.specs.declared.mode.Form.{Form}
use Rattle.goal_lexer.specs.declared.mode.Form.TheVariants.{Word, Digits}
use Rattle.goal_lexer.specs.declared.mode.Mode.{Mode}
use Rattle.goal_lexer.specs.declared.mode.Mode.TheVariants.{Between, Run, LineComment, BlockComment}
use Rattle.goal_lexer.specs.Bytes.{is_blank, begins_word, is_digit, is_run_byte, star, line_feed}
use Rattle.goal_lexer.specs.Scan.{Scanned, after_tokens, next, scan, form_with}
use Rattle.goal_lexer.specs.Pieces.{Each}
use Rattle.goal_lexer.proofs.ByteLaws.{digit_is_run_byte}

-- what holds at each place of a prefix holds of its bytes
pub Each-take : (test : ℕ → Bool) (n : ℕ) (xs : List ℕ) → ((k : ℕ) → k < n → test (get_or xs k 0) ≡ true) → n ≤ length xs →
    Each test (take n xs)
Each-take test zero xs each within = tt
Each-take test (suc n) [] each within = tt
Each-take test (suc n) (x ∷ xs) each within =
    (each 0 (omega arith), Each-take test n xs (λ k below. each (suc k) (omega arith)) (omega arith))

-- the scan of bytes that leave what is open unchanged
mode_stays_over : (mode : Mode) (test : ℕ → Bool) → ((place c : ℕ) → test c ≡ true → next mode place c ≡ (mode, [])) →
    (place : ℕ) (xs : List ℕ) → Each test xs → scan mode place xs ≡ (mode, [])
unfolding scan
mode_stays_over mode test one place [] each = refl
mode_stays_over mode test one place (x ∷ xs) each =
    ap (λ (r : Scanned). after_tokens r.1 (scan r.0 (place + 1) xs)) (one place x each.0)
    ∙ ap (after_tokens []) (mode_stays_over mode test one (place + 1) xs each.1)

pub next_after_blank : (place c : ℕ) → is_blank c ≡ true → next Between place c ≡ (Between, [])
next_after_blank place c blank =
    let no_word : begins_word c ≡ false = grind (arith, nat_tests) in
    let no_digit : is_digit c ≡ false = grind (arith, nat_tests) in
    rw (no_word, no_digit, blank)

pub scan_blanks : (place : ℕ) (xs : List ℕ) → Each is_blank xs → scan Between place xs ≡ (Between, [])
scan_blanks place xs each = mode_stays_over Between is_blank next_after_blank place xs each

-- a byte different from this one
abbrev pub differs : ℕ → ℕ → Bool
differs b c = if c == b then false else true

differs_is_not : (b c : ℕ) → differs b c ≡ true → (c == b) ≡ false
differs_is_not b c is = by_test (c == b) is
  where
    by_test : (t : Bool) → (if t then false else true) ≡ true → t ≡ false
    by_test true found = cc
    by_test false other = refl

pub differs_if_not_equal : (b c : ℕ) → (c == b) ≡ false → differs b c ≡ true
differs_if_not_equal b c is = ap (λ (t : Bool). if t then false else true) is

pub scan_in_line : (start place : ℕ) (xs : List ℕ) → Each (differs line_feed) xs →
    scan (LineComment start) place xs ≡ (LineComment start, [])
scan_in_line start place xs each =
    mode_stays_over (LineComment start) (differs line_feed) (λ p c is. let no = differs_is_not line_feed c is in rw no) place xs each

pub scan_before_star : (start place : ℕ) (xs : List ℕ) → Each (differs star) xs →
    scan (BlockComment start false) place xs ≡ (BlockComment start false, [])
scan_before_star start place xs each =
    mode_stays_over (BlockComment start false) (differs star) (λ p c is. let no = differs_is_not star c is in rw no) place xs each

-- a run takes bytes that keep its form, up to its room
run_grows_by : (form : Form) (test : ℕ → Bool) → ((c : ℕ) → test c ≡ true → (is_run_byte c ≡ true) × (form_with form c ≡ Some form)) →
    (start place : ℕ) (bytes xs : List ℕ) → Each test xs → (0 < length xs → length (bytes ++ xs) ≤ 64) →
    scan (Run start bytes form) place xs ≡ (Run start (bytes ++ xs) form, [])
unfolding scan
run_grows_by form test one start place bytes [] each room = ap (λ (t : List ℕ). (Run start t form, [])) (sym (append-nil bytes))
run_grows_by form test one start place bytes (x ∷ xs) each room =
    let fits = room (omega arith) in
    let known = one x each.0 in
    let in_run = known.0 in
    let keeps = known.1 in
    let longer : length (bytes ++ x ∷ []) ≤ 64 =
    omega (arith, fits, length-append bytes (x ∷ xs), length-append bytes (x ∷ [])) in
    let short : nat_lt 64 (length (bytes ++ x ∷ [])) ≡ false = grind (arith, nat_tests) in
    let made : next (Run start bytes form) place x ≡ (Run start (bytes ++ x ∷ []) form, []) = rw (in_run, keeps, short) in
    let same : bytes ++ x ∷ [] ++ xs ≡ bytes ++ x ∷ xs = append_assoc bytes (x ∷ []) xs in
    ap (λ (r : Scanned). after_tokens r.1 (scan r.0 (place + 1) xs)) made
    ∙ ap (after_tokens [])
    (run_grows_by form test one start (place + 1) (bytes ++ x ∷ []) xs each.1 (λ _. subst (λ (t : List ℕ). length t ≤ 64) (sym same) fits)
    ∙ ap (λ (t : List ℕ). (Run start t form, [])) same)

pub scan_word : (start place : ℕ) (bytes xs : List ℕ) → Each is_run_byte xs → (0 < length xs → length (bytes ++ xs) ≤ 64) →
    scan (Run start bytes Word) place xs ≡ (Run start (bytes ++ xs) Word, [])
scan_word start place bytes xs each room = run_grows_by Word is_run_byte (λ c is. (is, refl)) start place bytes xs each room

pub scan_digits : (start place : ℕ) (bytes xs : List ℕ) → Each is_digit xs → (0 < length xs → length (bytes ++ xs) ≤ 64) →
    scan (Run start bytes Digits) place xs ≡ (Run start (bytes ++ xs) Digits, [])
scan_digits start place bytes xs each room =
    run_grows_by Digits is_digit (λ c is. (digit_is_run_byte c is, rw is)) start place bytes xs each room
