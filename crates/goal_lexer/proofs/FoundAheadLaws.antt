-- Tokens found at the front of a piece.
use Rattle.std.proofs.Common.{◌≡◌, ℕ, zero, suc, ◌+◌, ◌-◌, ◌*◌, ◌<◌, ◌≤◌, Bool, true, false, ◌||◌, List, [], ◌∷◌, ◌++◌, length, take, drop, bytes_eq, get_or, nat_eq, refl, sym, ap, subst, ◌∙◌, arith, length-drop}
use Rattle.std.proofs.Math.Seq.{take-add}
use Rattle.std.proofs.lemmas.Slice.Eq.{bytes_eq-Decides}
use Rattle.std.proofs.lemmas.Bool.{false≢true, and_parts}
use Rattle.std.proofs.lemmas.Bool.Decides.{nat_tests}
use Rattle.std.proofs.lemmas.List.{take_rest, get_or-drop, get_or-take, drop_more, length-take-le}
use Rattle.std.specs.List.{list_all}
use Rattle.goal_lexer.specs.declared.tokens.Token.{Token}
use Rattle.goal_lexer.specs.declared.tokens.TokenKind.{TokenKind}
use Rattle.goal_lexer.specs.declared.tokens.TokenKind.TheVariants.{Number, Size, Label, Colon}
use Rattle.goal_lexer.specs.declared.mode.Form.TheVariants.{Word}
use Rattle.goal_lexer.specs.declared.mode.Mode.{Mode}
use Rattle.goal_lexer.specs.declared.mode.Mode.TheVariants.{Between, Run}
use Rattle.goal_lexer.specs.Bytes.{is_blank, begins_word, is_digit, is_run_byte, size_mark}
use Rattle.goal_lexer.specs.Reserved.{ends_reserved}
use Rattle.goal_lexer.specs.Numbers.{number_value}
use Rattle.goal_lexer.specs.Words.{word_kind}
use Rattle.goal_lexer.specs.Scan.{Scanned, next, scan, closing, ended}
use Rattle.goal_lexer.specs.Sound.{IsRun}
use Rattle.goal_lexer.specs.Stands.{begins_run}
use Rattle.goal_lexer.specs.Pieces.{Each, AreWord}
use Rattle.goal_lexer.specs.Whole.{IsWholeRun}
use Rattle.goal_lexer.specs.Ahead.{AreBlanks, is_word, IsAhead}
use Rattle.goal_lexer.proofs.ScanLaws.{scan_one}
use Rattle.goal_lexer.proofs.StandsLaws.{run_by_closing}
use Rattle.goal_lexer.proofs.StretchLaws.{Each-take, scan_blanks}
use Rattle.goal_lexer.proofs.WholeLaws.{whole_letters, whole_digits, whole_size, run_in_piece, scan_of_run}
use Rattle.goal_lexer.proofs.ReservedWords.{ends_as_reserved, label_by_end}

-- what follows the blanks, as the code takes it
abbrev pub behind : ℕ → List ℕ → List ℕ
behind n xs = take (length xs - n) (drop n xs)

pub get_or-behind : (xs : List ℕ) (n k : ℕ) → get_or (behind n xs) k 0 ≡ get_or xs (n + k) 0
get_or-behind xs n k = ap (λ (ys : List ℕ). get_or ys k 0) (take_rest xs n) ∙ get_or-drop n xs k 0

length-behind : (xs : List ℕ) (n : ℕ) → length (behind n xs) ≡ length xs - n
length-behind xs n = ap length (take_rest xs n) ∙ length-drop n xs

-- a run after blanks
run_ahead : (place blanks count total : ℕ) (piece : List ℕ) (kind : TokenKind) → AreBlanks piece blanks →
    total ≡ blanks + count →
    IsWholeRun (place + blanks) (behind blanks piece) count (record { kind = kind; start = place + blanks; end = place + blanks + count }) →
    IsAhead place piece total true (record { kind = kind; start = place + blanks; end = place + total } ∷ [])
run_ahead place blanks count total piece kind are total_is whole =
    let quiet = scan_blanks place (take blanks piece) (Each-take is_blank blanks piece are.1 are.0) in
    let found = run_in_piece Between place blanks count piece (record { kind = kind; start = place + blanks; end = place + blanks + count }) are.0 quiet whole in
    let run = found.2.0 in
    let known = run_by_closing run (place + (blanks + count)) (record { kind = kind; start = place + blanks; end = place + blanks + count }) found.2.2 in
    let at : place + blanks + count ≡ place + (blanks + count) = omega arith in
    subst (λ (n : ℕ). IsAhead place piece n true (record { kind = kind; start = place + blanks; end = place + n } ∷ [])) (sym total_is) (
      found.0,
      found.1,
      subst (λ (r : Scanned). IsRun r.0) (sym found.2.1) known.1,
      ap (ended (place + (blanks + count))) found.2.1
          ∙ ap (λ (m : Mode). (m, closing (place + (blanks + count)) run)) known.0
          ∙ ap (λ (ts : List Token). (Between, ts)) found.2.2
          ∙ ap (λ (e : ℕ). (Between, record { kind = kind; start = place + blanks; end = e } ∷ [])) at,
    )

-- digits after blanks
pub digits_ahead : (place blanks count value : ℕ) (piece : List ℕ) → AreBlanks piece blanks → 0 < count →
    blanks + count < length piece → count ≤ 64 →
    ((k : ℕ) → k < count → is_digit (get_or (behind blanks piece) k 0) ≡ true) → is_run_byte (get_or piece (blanks + count) 0) ≡ false →
    value ≡ number_value (take count (behind blanks piece)) →
    IsAhead place piece (blanks + count) true (record { kind = Number value; start = place + blanks; end = place + (blanks + count) } ∷ [])
digits_ahead place blanks count value piece are some inside few each ends is =
    let run = behind blanks piece in
    run_ahead place blanks count (blanks + count) piece (Number value) are refl
    (whole_digits (place + blanks) count value run some (omega (arith, length-behind piece blanks)) few each
    (ap is_run_byte (get_or-behind piece blanks count) ∙ ends) is)

value_of_one : (b : ℕ) → b ≤ 57 → number_value (b ∷ []) ≡ b - 48
value_of_one b most = omega (arith, most)

value_of_two : (b c : ℕ) → b ≤ 57 → c ≤ 57 → number_value (b ∷ c ∷ []) ≡ (b - 48) * 10 + (c - 48)
value_of_two b c one two = omega (arith, one, two)

value_of_three : (b c d : ℕ) → b ≤ 57 → c ≤ 57 → d ≤ 57 → number_value (b ∷ c ∷ d ∷ []) ≡ ((b - 48) * 10 + (c - 48)) * 10 + (d - 48)
value_of_three b c d one two three = omega (arith, one, two, three)

value_of_four : (b c d e : ℕ) → b ≤ 57 → c ≤ 57 → d ≤ 57 → e ≤ 57 →
    number_value (b ∷ c ∷ d ∷ e ∷ []) ≡ (((b - 48) * 10 + (c - 48)) * 10 + (d - 48)) * 10 + (e - 48)
value_of_four b c d e one two three four = omega (arith, one, two, three, four)

-- the value of a digit
digit_value : (piece : List ℕ) → 2 ≤ length piece → get_or piece 1 0 ≤ 57 → get_or piece 1 0 - 48 ≡ number_value (take 1 (behind 1 piece))
digit_value [] long most = absurd (omega (arith, long))
digit_value (a ∷ []) long most = absurd (omega (arith, long))
digit_value (a ∷ b ∷ cs) long most =
    sym (ap (λ (ys : List ℕ). number_value (take 1 ys)) (take_rest (a ∷ b ∷ cs) 1) ∙ value_of_one b most)

-- a digit is at most `9`
pub digit_is_at_most_57 : (c : ℕ) → is_digit c ≡ true → c ≤ 57
digit_is_at_most_57 c is = grind (arith, nat_tests)

below_one_is_zero : (k : ℕ) → k < 1 → 0 ≡ k
below_one_is_zero k few = omega (arith, few)

-- one digit after a space
pub one_digit_ahead : (place value : ℕ) (piece : List ℕ) → 2 < length piece → get_or piece 0 0 ≡ 32 → is_digit (get_or piece 1 0) ≡ true →
    get_or piece 1 0 ≤ 57 → is_run_byte (get_or piece 2 0) ≡ false → value ≡ get_or piece 1 0 - 48 →
    IsAhead place piece 2 true (record { kind = Number value; start = place + 1; end = place + 2 } ∷ [])
one_digit_ahead place value piece long blank digit most ends is =
    digits_ahead place 1 1 value piece
    (omega (arith, long), λ k few. subst (λ (j : ℕ). is_blank (get_or piece j 0) ≡ true) (below_one_is_zero k few) (ap is_blank blank))
    (omega arith) long (omega arith)
    (λ k few. subst (λ (j : ℕ). is_digit (get_or (behind 1 piece) j 0) ≡ true) (below_one_is_zero k few) (ap is_digit (get_or-behind piece 1 0) ∙ digit))
    ends
    (is ∙ digit_value piece (omega (arith, long)) most)

-- the value of two digits, that of three, and that of four
digits_value_2 : (piece : List ℕ) → 3 ≤ length piece → get_or piece 1 0 ≤ 57 → get_or piece 2 0 ≤ 57 →
    (get_or piece 1 0 - 48) * 10 + (get_or piece 2 0 - 48) ≡ number_value (take 2 (behind 1 piece))
digits_value_2 [] long one two = absurd (omega (arith, long))
digits_value_2 (a ∷ []) long one two = absurd (omega (arith, long))
digits_value_2 (a ∷ b ∷ []) long one two = absurd (omega (arith, long))
digits_value_2 (a ∷ b ∷ c ∷ ds) long one two =
    sym (ap (λ (ys : List ℕ). number_value (take 2 ys)) (take_rest (a ∷ b ∷ c ∷ ds) 1) ∙ value_of_two b c one two)

digits_value_3 : (piece : List ℕ) → 4 ≤ length piece → get_or piece 1 0 ≤ 57 → get_or piece 2 0 ≤ 57 → get_or piece 3 0 ≤ 57 →
    ((get_or piece 1 0 - 48) * 10 + (get_or piece 2 0 - 48)) * 10 + (get_or piece 3 0 - 48) ≡ number_value (take 3 (behind 1 piece))
digits_value_3 [] long one two three = absurd (omega (arith, long))
digits_value_3 (a ∷ []) long one two three = absurd (omega (arith, long))
digits_value_3 (a ∷ b ∷ []) long one two three = absurd (omega (arith, long))
digits_value_3 (a ∷ b ∷ c ∷ []) long one two three = absurd (omega (arith, long))
digits_value_3 (a ∷ b ∷ c ∷ d ∷ es) long one two three =
    sym (ap (λ (ys : List ℕ). number_value (take 3 ys)) (take_rest (a ∷ b ∷ c ∷ d ∷ es) 1) ∙ value_of_three b c d one two three)

digits_value_4 : (piece : List ℕ) → 5 ≤ length piece → get_or piece 1 0 ≤ 57 → get_or piece 2 0 ≤ 57 → get_or piece 3 0 ≤ 57 → get_or piece 4 0 ≤ 57 →
    (((get_or piece 1 0 - 48) * 10 + (get_or piece 2 0 - 48)) * 10 + (get_or piece 3 0 - 48)) * 10 + (get_or piece 4 0 - 48)
    ≡ number_value (take 4 (behind 1 piece))
digits_value_4 [] long one two three four = absurd (omega (arith, long))
digits_value_4 (a ∷ []) long one two three four = absurd (omega (arith, long))
digits_value_4 (a ∷ b ∷ []) long one two three four = absurd (omega (arith, long))
digits_value_4 (a ∷ b ∷ c ∷ []) long one two three four = absurd (omega (arith, long))
digits_value_4 (a ∷ b ∷ c ∷ d ∷ []) long one two three four = absurd (omega (arith, long))
digits_value_4 (a ∷ b ∷ c ∷ d ∷ e ∷ fs) long one two three four =
    sym (ap (λ (ys : List ℕ). number_value (take 4 ys)) (take_rest (a ∷ b ∷ c ∷ d ∷ e ∷ fs) 1) ∙ value_of_four b c d e one two three four)

-- a property that holds at each of two, three or four places
each_of_2 : (P : ℕ → Type 0) → P 0 → P 1 → (k : ℕ) → k < 2 → P k
each_of_2 P one two zero few = one
each_of_2 P one two (suc zero) few = two
each_of_2 P one two (suc (suc k)) few = absurd (omega (arith, few))

each_of_3 : (P : ℕ → Type 0) → P 0 → P 1 → P 2 → (k : ℕ) → k < 3 → P k
each_of_3 P one two three zero few = one
each_of_3 P one two three (suc zero) few = two
each_of_3 P one two three (suc (suc zero)) few = three
each_of_3 P one two three (suc (suc (suc k))) few = absurd (omega (arith, few))

each_of_4 : (P : ℕ → Type 0) → P 0 → P 1 → P 2 → P 3 → (k : ℕ) → k < 4 → P k
each_of_4 P one two three four zero few = one
each_of_4 P one two three four (suc zero) few = two
each_of_4 P one two three four (suc (suc zero)) few = three
each_of_4 P one two three four (suc (suc (suc zero))) few = four
each_of_4 P one two three four (suc (suc (suc (suc k)))) few = absurd (omega (arith, few))

-- one space is a blank
one_space_is_blank : (piece : List ℕ) → 1 ≤ length piece → get_or piece 0 0 ≡ 32 → AreBlanks piece 1
one_space_is_blank piece long blank =
    (long, λ k few. subst (λ (j : ℕ). is_blank (get_or piece j 0) ≡ true) (below_one_is_zero k few) (ap is_blank blank))

-- the digit at that place after a space
digit_after_space : (piece : List ℕ) (k : ℕ) → is_digit (get_or piece (1 + k) 0) ≡ true → is_digit (get_or (behind 1 piece) k 0) ≡ true
digit_after_space piece k is = ap is_digit (get_or-behind piece 1 k) ∙ is

-- two, three and four digits after a space
pub two_digits_ahead : (place value : ℕ) (piece : List ℕ) → 3 < length piece → get_or piece 0 0 ≡ 32 →
    is_digit (get_or piece 1 0) ≡ true → is_digit (get_or piece 2 0) ≡ true → is_run_byte (get_or piece 3 0) ≡ false →
    value ≡ (get_or piece 1 0 - 48) * 10 + (get_or piece 2 0 - 48) →
    IsAhead place piece 3 true (record { kind = Number value; start = place + 1; end = place + 3 } ∷ [])
two_digits_ahead place value piece long blank one two ends is =
    digits_ahead place 1 2 value piece (one_space_is_blank piece (omega (arith, long)) blank) (omega arith) long (omega arith)
    (each_of_2 (λ (k : ℕ). is_digit (get_or (behind 1 piece) k 0) ≡ true) (digit_after_space piece 0 one) (digit_after_space piece 1 two)) ends
    (is ∙ digits_value_2 piece (omega (arith, long)) (digit_is_at_most_57 _ one) (digit_is_at_most_57 _ two))

pub three_digits_ahead : (place value : ℕ) (piece : List ℕ) → 4 < length piece → get_or piece 0 0 ≡ 32 →
    is_digit (get_or piece 1 0) ≡ true → is_digit (get_or piece 2 0) ≡ true → is_digit (get_or piece 3 0) ≡ true →
    is_run_byte (get_or piece 4 0) ≡ false →
    value ≡ ((get_or piece 1 0 - 48) * 10 + (get_or piece 2 0 - 48)) * 10 + (get_or piece 3 0 - 48) →
    IsAhead place piece 4 true (record { kind = Number value; start = place + 1; end = place + 4 } ∷ [])
three_digits_ahead place value piece long blank one two three ends is =
    digits_ahead place 1 3 value piece (one_space_is_blank piece (omega (arith, long)) blank) (omega arith) long (omega arith)
    (each_of_3 (λ (k : ℕ). is_digit (get_or (behind 1 piece) k 0) ≡ true) (digit_after_space piece 0 one) (digit_after_space piece 1 two) (digit_after_space piece 2 three)) ends
    (is ∙ digits_value_3 piece (omega (arith, long)) (digit_is_at_most_57 _ one) (digit_is_at_most_57 _ two) (digit_is_at_most_57 _ three))

pub four_digits_ahead : (place value : ℕ) (piece : List ℕ) → 5 < length piece → get_or piece 0 0 ≡ 32 →
    is_digit (get_or piece 1 0) ≡ true → is_digit (get_or piece 2 0) ≡ true → is_digit (get_or piece 3 0) ≡ true →
    is_digit (get_or piece 4 0) ≡ true → is_run_byte (get_or piece 5 0) ≡ false →
    value ≡ (((get_or piece 1 0 - 48) * 10 + (get_or piece 2 0 - 48)) * 10 + (get_or piece 3 0 - 48)) * 10 + (get_or piece 4 0 - 48) →
    IsAhead place piece 5 true (record { kind = Number value; start = place + 1; end = place + 5 } ∷ [])
four_digits_ahead place value piece long blank one two three four ends is =
    digits_ahead place 1 4 value piece (one_space_is_blank piece (omega (arith, long)) blank) (omega arith) long (omega arith)
    (each_of_4 (λ (k : ℕ). is_digit (get_or (behind 1 piece) k 0) ≡ true) (digit_after_space piece 0 one) (digit_after_space piece 1 two) (digit_after_space piece 2 three)
    (digit_after_space piece 3 four)) ends
    (is ∙ digits_value_4 piece (omega (arith, long)) (digit_is_at_most_57 _ one) (digit_is_at_most_57 _ two) (digit_is_at_most_57 _ three) (digit_is_at_most_57 _ four))

-- a size after blanks
pub size_found : (place blanks count value : ℕ) (piece : List ℕ) → AreBlanks piece blanks → 0 < count →
    blanks + count + 1 < length piece → count < 64 →
    ((k : ℕ) → k < count → is_digit (get_or (behind blanks piece) k 0) ≡ true) → get_or piece (blanks + count) 0 ≡ size_mark →
    is_run_byte (get_or piece (blanks + count + 1) 0) ≡ false → value ≡ number_value (take count (behind blanks piece)) →
    IsAhead place piece (blanks + count + 1) true (record { kind = Size value; start = place + blanks; end = place + (blanks + count + 1) } ∷ [])
size_found place blanks count value piece are some inside few each mark ends is =
    let run = behind blanks piece in
    let at : blanks + count + 1 ≡ blanks + (count + 1) = omega arith in
    run_ahead place blanks (count + 1) (blanks + count + 1) piece (Size value) are at
    (whole_size (place + blanks) count value run some (omega (arith, length-behind piece blanks)) few each
    (get_or-behind piece blanks count ∙ mark)
    (ap is_run_byte (get_or-behind piece blanks (count + 1)) ∙ ap (λ (k : ℕ). is_run_byte (get_or piece k 0)) (sym at) ∙ ends) is)

-- a size of one digit after a space
pub one_digit_size : (place value : ℕ) (piece : List ℕ) → 3 < length piece → get_or piece 0 0 ≡ 32 → is_digit (get_or piece 1 0) ≡ true →
    get_or piece 2 0 ≡ 98 → is_run_byte (get_or piece 3 0) ≡ false → value ≡ get_or piece 1 0 - 48 →
    IsAhead place piece 3 true (record { kind = Size value; start = place + 1; end = place + 3 } ∷ [])
one_digit_size place value piece long blank digit mark ends is =
    size_found place 1 1 value piece (one_space_is_blank piece (omega (arith, long)) blank) (omega arith) long (omega arith)
    (λ k few. subst (λ (j : ℕ). is_digit (get_or (behind 1 piece) j 0) ≡ true) (below_one_is_zero k few) (digit_after_space piece 0 digit)) mark ends
    (is ∙ digit_value piece (omega (arith, long)) (digit_is_at_most_57 _ digit))

-- a run byte above `9` is no digit
pub run_byte_above_9_begins_word : (c : ℕ) → is_run_byte c ≡ true → 57 < c → begins_word c ≡ true
run_byte_above_9_begins_word c is high = left (begins_word c) (is_digit c) is (grind (arith, nat_tests))
  where
    left : (a b : Bool) → (a || b) ≡ true → b ≡ false → a ≡ true
    left true b is off = refl
    left false b is off = absurd (false≢true (sym off ∙ is))

-- a word that ends with a digit, after blanks
pub label_found : (place blanks count : ℕ) (piece : List ℕ) → AreBlanks piece blanks → 0 < count → count < length (behind blanks piece) →
    count ≤ 64 → begins_word (get_or (behind blanks piece) 0 0) ≡ true →
    ((k : ℕ) → k < count → is_run_byte (get_or (behind blanks piece) k 0) ≡ true) →
    is_run_byte (get_or (behind blanks piece) count 0) ≡ false → ends_reserved (get_or (behind blanks piece) (count - 1) 0) ≡ false →
    IsAhead place piece (blanks + count) true
    (record { kind = Label (take (blanks + count - blanks) (drop blanks piece)); start = place + blanks; end = place + (blanks + count) } ∷ [])
label_found place blanks count piece are some inside few begins each ends digit =
    let run = behind blanks piece in
    let word = take count run in
    let long : length word ≡ count = length-take-le count run (omega arith) in
    let last : ends_as_reserved word ≡ false =
    ap (λ (n : ℕ). ends_reserved (get_or word (n - 1) 0)) long
    ∙ ap ends_reserved (get_or-take count run (count - 1) 0 (omega arith))
    ∙ digit in
    let same : count ≡ blanks + count - blanks = omega arith in
    let spelled : word ≡ take (blanks + count - blanks) (drop blanks piece) =
    ap (take count) (take_rest piece blanks) ∙ ap (λ (n : ℕ). take n (drop blanks piece)) same in
    subst (λ (w : List ℕ). IsAhead place piece (blanks + count) true (record { kind = Label w; start = place + blanks; end = place + (blanks + count) } ∷ [])) spelled
    (run_ahead place blanks count (blanks + count) piece (Label word) are refl
    (whole_letters (place + blanks) count run (Label word) some inside few begins each ends (sym (label_by_end word last))))

-- the bytes of a word
Each-all : (test : ℕ → Bool) (xs : List ℕ) → list_all test xs ≡ true → Each test xs
Each-all test [] all = tt
Each-all test (x ∷ xs) all =
    let parts = and_parts (test x) (list_all test xs) all in
    (parts.0, Each-all test xs parts.1)

is_word_means_word : (word : List ℕ) → is_word word ≡ true → AreWord word
is_word_means_word [] is = absurd (false≢true is)
is_word_means_word (c ∷ cs) is =
    let parts = and_parts (begins_word c) (list_all is_run_byte cs) is in
    (parts.0, Each-all is_run_byte cs parts.1)

word_has_run_bytes : (word : List ℕ) → AreWord word → Each is_run_byte word
word_has_run_bytes [] are = absurd are
word_has_run_bytes (c ∷ cs) are = let begins = are.0 in (rw begins, are.1)

word_is_not_empty : (word : List ℕ) → AreWord word → 0 < length word
word_is_not_empty [] are = absurd are
word_is_not_empty (c ∷ cs) are = omega arith

-- the word itself, after blanks
pub word_found : (place blanks : ℕ) (piece word : List ℕ) → AreBlanks piece blanks → is_word word ≡ true → length word ≤ 64 →
    blanks + length word < length piece → take (length word) (drop blanks piece) ≡ word →
    is_run_byte (get_or piece (blanks + length word) 0) ≡ false →
    IsAhead place piece (blanks + length word) true
    (record { kind = word_kind word; start = place + blanks; end = place + (blanks + length word) } ∷ [])
word_found place blanks piece word are is short inside same ends =
    let run = behind blanks piece in
    let at = place + blanks in
    let parts = is_word_means_word word is in
    let few : length word < length run = omega (arith, length-behind piece blanks) in
    let front : take (length word) run ≡ word = ap (take (length word)) (take_rest piece blanks) ∙ same in
    run_ahead place blanks (length word) (blanks + length word) piece (word_kind word) are refl (
      word_is_not_empty word parts,
      few,
      ap begins_run (drop_more run (length word) 0 few) ∙ ap is_run_byte (get_or-behind piece blanks (length word)) ∙ ends,
      refl,
      (Run at word Word, ap (scan Between at) front ∙ scan_of_run at word Word (word_has_run_bytes word parts) parts short, refl),
    )

-- a colon at the front
pub colon_found : (piece : List ℕ) → 0 < length piece → nat_eq (get_or piece 0 0) 58 ≡ true → (place : ℕ) →
    IsAhead place piece 1 false (record { kind = Colon; start = place; end = place + 1 } ∷ [])
colon_found [] some is place = absurd (omega arith)
colon_found (c ∷ cs) some is place =
    let same : c ≡ 58 = grind (arith, nat_tests) in (
      omega arith,
      scan_one Between place c
          ∙ subst (λ (b : ℕ). next Between place b ≡ (Between, record { kind = Colon; start = place; end = place + 1 } ∷ [])) (sym same) refl,
    )

-- four more bytes that are the same in both
pub four_more_bytes_agree : (xs ys : List ℕ) (n : ℕ) → take n xs ≡ take n ys → bytes_eq (take 4 (behind n xs)) (take 4 (behind n ys)) ≡ true →
    take (n + 4) xs ≡ take (n + 4) ys
four_more_bytes_agree xs ys n same alike =
    let front : take 4 (behind n xs) ≡ take 4 (behind n ys) = same_bytes (take 4 (behind n xs)) (take 4 (behind n ys)) alike in
    let xs_is = take-add n 4 xs in
    let ys_is = take-add n 4 ys in
    let one : take 4 (drop n xs) ≡ take 4 (drop n ys) =
    ap (take 4) (sym (take_rest xs n)) ∙ front ∙ ap (take 4) (take_rest ys n) in
    xs_is ∙ ap (λ (l : List ℕ). l ++ take 4 (drop n xs)) same ∙ ap (λ (l : List ℕ). take n ys ++ l) one ∙ sym ys_is
  where
    same_bytes : (us vs : List ℕ) → bytes_eq us vs ≡ true → us ≡ vs
    same_bytes us vs alike = (bytes_eq-Decides us vs).0 alike

-- a space and the word after it
pub spaced_found : (place : ℕ) (piece spaced : List ℕ) → take 1 spaced ≡ 32 ∷ [] → is_word (drop 1 spaced) ≡ true →
    length spaced ≤ 65 → length spaced < length piece → take (length spaced) piece ≡ spaced →
    is_run_byte (get_or piece (length spaced) 0) ≡ false →
    IsAhead place piece (length spaced) true
    (record { kind = word_kind (drop 1 spaced); start = place + 1; end = place + length spaced } ∷ [])
spaced_found place piece [] space is short inside same ends = absurd cc
spaced_found place [] (s ∷ ss) space is short inside same ends = absurd (omega arith)
spaced_found place (c ∷ cs) (s ∷ ss) space is short inside same ends =
    let space_first : c ≡ 32 = cc in
    let behind_first : take (length ss) cs ≡ ss = cc in
    let long : 1 + length ss ≡ length (s ∷ ss) = omega arith in
    subst (λ (n : ℕ). IsAhead place (c ∷ cs) n true (record { kind = word_kind ss; start = place + 1; end = place + n } ∷ [])) long
    (word_found place 1 (c ∷ cs) ss
    (omega arith, λ k few. subst (λ (j : ℕ). is_blank (get_or (c ∷ cs) j 0) ≡ true) (below_one_is_zero k few) (ap is_blank space_first))
    is (omega (arith, short)) (omega (arith, inside)) behind_first
    (subst (λ (n : ℕ). is_run_byte (get_or (c ∷ cs) n 0) ≡ false) (sym long) ends))
