-- The forms of runs, as the scan finds them and as pieces have them.
use Rattle.std.proofs.Common.{◌≡◌, ◌≢◌, ℕ, Bool, true, false, List, [], ◌∷◌, ◌++◌, Option, Some, None, if◌then◌else◌, ◌==◌, refl, sym, ap, subst, ◌∙◌, arith}
use Rattle.std.proofs.lemmas.List.{append-nil}
use Rattle.std.proofs.lemmas.Bool.Decides.{nat_tests}
use Rattle.goal_lexer.specs.declared.mode.Form.{Form}
use Rattle.goal_lexer.specs.declared.mode.Form.TheVariants.{Word, Digits, Sized}
use Rattle.goal_lexer.specs.Bytes.{begins_word, is_digit, is_run_byte, size_mark}
use Rattle.goal_lexer.specs.Scan.{form_with}
use Rattle.goal_lexer.specs.Pieces.{Each, AreDigits, HasForm}
use Rattle.goal_lexer.proofs.ByteLaws.{digit_begins_no_word, digit_is_run_byte, word_start_is_run_byte}

-- the form of the first byte of a run
abbrev pub first_form : ℕ → Option Form
first_form c = if begins_word c then Some Word else (if is_digit c then Some Digits else None)

-- the form with more bytes, each of which has to belong to a run
abbrev pub forms_with : Option Form → List ℕ → Option Form
forms_with None cs = None
forms_with (Some form) [] = Some form
forms_with (Some form) (c ∷ cs) = forms_with (if is_run_byte c then form_with form c else None) cs

-- the form of a run
abbrev pub form_of : List ℕ → Option Form
form_of [] = None
form_of (c ∷ cs) = forms_with (first_form c) cs

forms_nil : (form : Option Form) → forms_with form [] ≡ form
forms_nil None = refl
forms_nil (Some form) = refl

forms-append : (form : Option Form) (xs ys : List ℕ) → forms_with form (xs ++ ys) ≡ forms_with (forms_with form xs) ys
forms-append None xs ys = refl
forms-append (Some form) [] ys = refl
forms-append (Some form) (x ∷ xs) ys = forms-append (if is_run_byte x then form_with form x else None) xs ys

-- a run extended by more bytes
pub form_of-append : (bytes ys : List ℕ) (form : Form) → form_of bytes ≡ Some form →
    form_of (bytes ++ ys) ≡ forms_with (Some form) ys
form_of-append [] ys form has = cc
form_of-append (c ∷ cs) ys form has = forms-append (first_form c) cs ys ∙ ap (λ (f : Option Form). forms_with f ys) has

-- a run extended by a run byte
pub form_of-grown : (bytes : List ℕ) (c : ℕ) (form : Form) → form_of bytes ≡ Some form → is_run_byte c ≡ true →
    form_of (bytes ++ c ∷ []) ≡ form_with form c
form_of-grown bytes c form has in_run =
    form_of-append bytes (c ∷ []) form has
    ∙ ap (λ (b : Bool). forms_with (if b then form_with form c else None) []) in_run
    ∙ forms_nil (form_with form c)

-- what has no form has none with more bytes either
pub form_of-none : (bytes ys : List ℕ) → bytes ≢ [] → form_of bytes ≡ None → form_of (bytes ++ ys) ≡ None
form_of-none [] ys some none = absurd (some refl)
form_of-none (c ∷ cs) ys some none = forms-append (first_form c) cs ys ∙ ap (λ (f : Option Form). forms_with f ys) none

-- after a word, only run bytes keep a form
form_after_word_and_byte : (b : Bool) (c : ℕ) (cs : List ℕ) (form : Form) → is_run_byte c ≡ b →
    (forms_with (Some Word) cs ≡ Some form → (Word ≡ form) × Each is_run_byte cs) →
    forms_with (if b then Some Word else None) cs ≡ Some form → (Word ≡ form) × Each is_run_byte (c ∷ cs)
form_after_word_and_byte true c cs form in_run more has = ((more has).0, (in_run, (more has).1))
form_after_word_and_byte false c cs form in_run more has = cc

form_after_word : (cs : List ℕ) (form : Form) → forms_with (Some Word) cs ≡ Some form → (Word ≡ form) × Each is_run_byte cs
form_after_word [] form has = (cc, tt)
form_after_word (c ∷ cs) form has = form_after_word_and_byte (is_run_byte c) c cs form refl (form_after_word cs form) has

-- no byte may follow a size
form_after_size_and_byte : (b : Bool) (c : ℕ) (cs : List ℕ) (form : Form) →
    forms_with (if b then None else None) cs ≡ Some form → (Sized ≡ form) × (c ∷ cs ≡ [])
form_after_size_and_byte true c cs form has = cc
form_after_size_and_byte false c cs form has = cc

form_after_size : (cs : List ℕ) (form : Form) → forms_with (Some Sized) cs ≡ Some form → (Sized ≡ form) × (cs ≡ [])
form_after_size [] form has = (cc, refl)
form_after_size (c ∷ cs) form has = form_after_size_and_byte (is_run_byte c) c cs form has

-- after digits: digits, and at most one mark of a size
abbrev IsAfterDigits : Form → List ℕ → Type 0
IsAfterDigits Word cs = ⊥
IsAfterDigits Digits cs = Each is_digit cs
IsAfterDigits Sized cs = (digits : List ℕ) × (cs ≡ digits ++ size_mark ∷ []) × Each is_digit digits

another_digit_after_digits : (form : Form) (c : ℕ) (cs : List ℕ) → is_digit c ≡ true → IsAfterDigits form cs → IsAfterDigits form (c ∷ cs)
another_digit_after_digits Word c cs digit behind = behind
another_digit_after_digits Digits c cs digit behind = (digit, behind)
another_digit_after_digits Sized c cs digit behind = (c ∷ behind.0, ap (λ (t : List ℕ). c ∷ t) behind.1, (digit, behind.2))

form_after_digits_and_byte : (r d m : Bool) (c : ℕ) (cs : List ℕ) (form : Form) → is_digit c ≡ d → (c == size_mark) ≡ m →
    (forms_with (Some Digits) cs ≡ Some form → IsAfterDigits form cs) →
    forms_with (if r then (if d then Some Digits else (if m then Some Sized else None)) else None) cs ≡ Some form →
    IsAfterDigits form (c ∷ cs)
form_after_digits_and_byte false d m c cs form is_d is_m more has = cc
form_after_digits_and_byte true true m c cs form is_d is_m more has = another_digit_after_digits form c cs is_d (more has)
form_after_digits_and_byte true false false c cs form is_d is_m more has = cc
form_after_digits_and_byte true false true c cs form is_d is_m more has =
    let known = form_after_size cs form has in
    let mark : c ≡ size_mark = grind (arith, nat_tests) in
    subst (λ (f : Form). IsAfterDigits f (c ∷ cs)) known.0
    ([], ap (λ (t : List ℕ). c ∷ t) known.1 ∙ ap (λ (b : ℕ). b ∷ []) mark, tt)

form_after_digits : (cs : List ℕ) (form : Form) → forms_with (Some Digits) cs ≡ Some form → IsAfterDigits form cs
form_after_digits [] form has = let is : Digits ≡ form = cc in subst (λ (f : Form). IsAfterDigits f []) is tt
form_after_digits (c ∷ cs) form has = form_after_digits_and_byte (is_run_byte c) (is_digit c) (c == size_mark) c cs form refl refl (form_after_digits cs form) has

-- digits after a first digit, and at most one mark after them
form_of_first_digit : (form : Form) (c : ℕ) (cs : List ℕ) → is_digit c ≡ true → IsAfterDigits form cs → HasForm form (c ∷ cs)
form_of_first_digit Word c cs digit behind = absurd behind
form_of_first_digit Digits c cs digit behind = (digit, behind)
form_of_first_digit Sized c cs digit behind = (c ∷ behind.0, ap (λ (t : List ℕ). c ∷ t) behind.1, (digit, behind.2))

-- the form that the scan finds is the form of the run
form_from_first_byte : (b d : Bool) (c : ℕ) (cs : List ℕ) (form : Form) → begins_word c ≡ b → is_digit c ≡ d →
    forms_with (if b then Some Word else (if d then Some Digits else None)) cs ≡ Some form → HasForm form (c ∷ cs)
form_from_first_byte true d c cs form is_b is_d has =
    let known = form_after_word cs form has in subst (λ (f : Form). HasForm f (c ∷ cs)) known.0 (is_b, known.1)
form_from_first_byte false true c cs form is_b is_d has = form_of_first_digit form c cs is_d (form_after_digits cs form has)
form_from_first_byte false false c cs form is_b is_d has = cc

pub form_of_has_form : (bytes : List ℕ) (form : Form) → form_of bytes ≡ Some form → HasForm form bytes
form_of_has_form [] form has = cc
form_of_has_form (c ∷ cs) form has = form_from_first_byte (begins_word c) (is_digit c) c cs form refl refl has

-- conversely, `form_of` finds the form of a run
run_bytes_keep_word : (cs : List ℕ) → Each is_run_byte cs → forms_with (Some Word) cs ≡ Some Word
run_bytes_keep_word [] each = refl
run_bytes_keep_word (c ∷ cs) each =
    ap (λ (b : Bool). forms_with (if b then Some Word else None) cs) each.0 ∙ run_bytes_keep_word cs each.1

digits_keep_digits : (cs ys : List ℕ) → Each is_digit cs → forms_with (Some Digits) (cs ++ ys) ≡ forms_with (Some Digits) ys
digits_keep_digits [] ys each = refl
digits_keep_digits (c ∷ cs) ys each =
    ap (λ (b : Bool). forms_with (if b then form_with Digits c else None) (cs ++ ys)) (digit_is_run_byte c each.0)
    ∙ ap (λ (b : Bool). forms_with (if b then Some Digits else (if c == size_mark then Some Sized else None)) (cs ++ ys)) each.0
    ∙ digits_keep_digits cs ys each.1

first_form_of_digit : (c : ℕ) → is_digit c ≡ true → first_form c ≡ Some Digits
first_form_of_digit c digit =
    ap (λ (b : Bool). if b then Some Word else (if is_digit c then Some Digits else None)) (digit_begins_no_word c digit)
    ∙ ap (λ (b : Bool). if b then Some Digits else None) digit

form_of_digits_and_more : (bytes ys : List ℕ) → AreDigits bytes → form_of (bytes ++ ys) ≡ forms_with (Some Digits) ys
form_of_digits_and_more [] ys are = absurd are
form_of_digits_and_more (c ∷ cs) ys are =
    ap (λ (f : Option Form). forms_with f (cs ++ ys)) (first_form_of_digit c are.0) ∙ digits_keep_digits cs ys are.1

pub form_of_bytes_with_form : (form : Form) (bytes : List ℕ) → HasForm form bytes → form_of bytes ≡ Some form
form_of_bytes_with_form Word [] has = absurd has
form_of_bytes_with_form Word (c ∷ cs) has =
    ap (λ (b : Bool). forms_with (if b then Some Word else (if is_digit c then Some Digits else None)) cs) has.0
    ∙ run_bytes_keep_word cs has.1
form_of_bytes_with_form Digits bytes has = ap form_of (sym (append-nil bytes)) ∙ form_of_digits_and_more bytes [] has
form_of_bytes_with_form Sized bytes has = ap form_of has.1 ∙ form_of_digits_and_more has.0 (size_mark ∷ []) has.2

-- the first byte of a run is a run byte
pub first_in_run : (form : Form) (bytes : List ℕ) → HasForm form bytes →
    (c : ℕ) × (cs : List ℕ) × (bytes ≡ c ∷ cs) × (is_run_byte c ≡ true)
first_in_run Word [] has = absurd has
first_in_run Word (c ∷ cs) has = (c, cs, refl, word_start_is_run_byte c has.0)
first_in_run Digits [] has = absurd has
first_in_run Digits (c ∷ cs) has = (c, cs, refl, digit_is_run_byte c has.0)
first_in_run Sized bytes has = sized_first has.0 bytes has.1 has.2
  where
    sized_first : (ds bs : List ℕ) → bs ≡ ds ++ size_mark ∷ [] → AreDigits ds →
        (c : ℕ) × (cs : List ℕ) × (bs ≡ c ∷ cs) × (is_run_byte c ≡ true)
    sized_first [] bs is are = absurd are
    sized_first (d ∷ ds) bs is are = (d, ds ++ size_mark ∷ [], is, digit_is_run_byte d are.0)
