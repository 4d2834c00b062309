-- Where nothing begins.
use Rattle.std.proofs.Common.{◌≡◌, ℕ, ◌<◌, ◌≤◌, Bool, true, false, List, [], ◌∷◌, ◌++◌, length, Option, Some, None, IsSome, if◌then◌else◌, refl, sym, ap, subst, ◌∙◌, arith, append_assoc, length-append}
use Rattle.std.proofs.lemmas.Bool.{false≢true}
use Rattle.std.proofs.lemmas.List.{append-nil}
use Rattle.goal_lexer.specs.declared.mode.Form.{Form}
use Rattle.goal_lexer.specs.Bytes.{is_blank, is_run_byte, slash, star}
use Rattle.goal_lexer.specs.Scan.{form_with}
use Rattle.goal_lexer.specs.Stands.{begins_run}
use Rattle.goal_lexer.specs.Pieces.{blank, line_comment, block_comment, run, sign, Each, HasForm, has_close, sign_kind, NothingBegins}
use Rattle.goal_lexer.proofs.ByteLaws.{run_byte_is_no_blank, run_byte_is_no_slash, run_byte_is_no_sign, slash_is_no_blank, slash_is_no_sign}
use Rattle.goal_lexer.proofs.FormLaws.{form_of, forms_with, first_form, form_of_bytes_with_form, form_of_has_form, first_in_run, form_of-none}
use Rattle.goal_lexer.proofs.CommentLaws.{has_close-found}

-- a run at the front begins with a run byte
pub run_in_front : (form : Form) (bytes after : List ℕ) (c : ℕ) (xs : List ℕ) → c ∷ xs ≡ bytes ++ after → HasForm form bytes →
    is_run_byte c ≡ true
run_in_front form bytes after c xs same has =
    let first = first_in_run form bytes has in
    let whole : c ∷ xs ≡ first.0 ∷ first.1 ++ after = same ∙ ap (λ (t : List ℕ). t ++ after) first.2 in
    let head : c ≡ first.0 = cc in
    ap is_run_byte head ∙ first.3

-- a byte that begins nothing
pub nothing_begins_at_other_byte : (c : ℕ) (xs : List ℕ) → is_run_byte c ≡ false → is_blank c ≡ false → (IsSome (sign_kind c) → ⊥) →
    (c ≡ slash → ⊥) → NothingBegins (c ∷ xs)
nothing_begins_at_other_byte c xs no_run no_blank no_sign no_slash (blank b) after same right =
    let head : c ≡ b = cc in false≢true (sym no_blank ∙ ap is_blank head ∙ right)
nothing_begins_at_other_byte c xs no_run no_blank no_sign no_slash (line_comment inside) after same right =
    let head : c ≡ slash = cc in no_slash head
nothing_begins_at_other_byte c xs no_run no_blank no_sign no_slash (block_comment inside) after same right =
    let head : c ≡ slash = cc in no_slash head
nothing_begins_at_other_byte c xs no_run no_blank no_sign no_slash (run form bytes) after same right =
    false≢true (sym no_run ∙ run_in_front form bytes after c xs same right.0)
nothing_begins_at_other_byte c xs no_run no_blank no_sign no_slash (sign b) after same right =
    let head : b ≡ c = cc in no_sign (subst (λ (d : ℕ). IsSome (sign_kind d)) head right)

-- a `/` that begins no comment
pub nothing_at_slash : (c : ℕ) (xs : List ℕ) → (c ≡ slash → ⊥) → (c ≡ star → ⊥) → NothingBegins (slash ∷ c ∷ xs)
nothing_at_slash c xs no_slash no_star (blank b) after same right =
    let head : b ≡ slash = cc in slash_is_no_blank b head right
nothing_at_slash c xs no_slash no_star (line_comment inside) after same right =
    let second : c ≡ slash = cc in no_slash second
nothing_at_slash c xs no_slash no_star (block_comment inside) after same right =
    let second : c ≡ star = cc in no_star second
nothing_at_slash c xs no_slash no_star (run form bytes) after same right =
    false≢true (run_in_front form bytes after slash (c ∷ xs) same right.0)
nothing_at_slash c xs no_slash no_star (sign b) after same right =
    let head : b ≡ slash = cc in slash_is_no_sign b head right

-- a `/` where the text ends
pub nothing_at_last_slash : NothingBegins (slash ∷ [])
nothing_at_last_slash (blank b) after same right = let head : b ≡ slash = cc in slash_is_no_blank b head right
nothing_at_last_slash (line_comment inside) after same right = cc
nothing_at_last_slash (block_comment inside) after same right = cc
nothing_at_last_slash (run form bytes) after same right =
    false≢true (run_in_front form bytes after slash [] same right.0)
nothing_at_last_slash (sign b) after same right = let head : b ≡ slash = cc in slash_is_no_sign b head right

-- a comment that is never closed
pub nothing_in_comment : (inside : List ℕ) → has_close inside ≡ false → NothingBegins (slash ∷ star ∷ inside)
nothing_in_comment inside none (blank b) after same right = let head : b ≡ slash = cc in slash_is_no_blank b head right
nothing_in_comment inside none (line_comment other) after same right =
    let second : star ≡ slash = cc in absurd (omega arith)
nothing_in_comment inside none (block_comment other) after same right =
    let whole : inside ≡ other ++ star ∷ slash ∷ [] ++ after = cc in
    let found : has_close inside ≡ true =
    ap has_close (whole ∙ append_assoc other (star ∷ slash ∷ []) after) ∙ has_close-found other after in
    false≢true (sym none ∙ found)
nothing_in_comment inside none (run form bytes) after same right =
    false≢true (run_in_front form bytes after slash (star ∷ inside) same right.0)
nothing_in_comment inside none (sign b) after same right = let head : b ≡ slash = cc in slash_is_no_sign b head right

-- a longest run takes all run bytes at the front
longest_run_takes_front : (front bytes more after : List ℕ) → Each is_run_byte front → begins_run after ≡ false →
    front ++ more ≡ bytes ++ after → (tail : List ℕ) × (bytes ≡ front ++ tail)
longest_run_takes_front [] bytes more after each apart same = (bytes, refl)
longest_run_takes_front (f ∷ fs) [] more after each apart same =
    absurd (false≢true (sym apart ∙ ap begins_run (sym same) ∙ each.0))
longest_run_takes_front (f ∷ fs) (b ∷ bs) more after each apart same =
    let head : b ≡ f = cc in
    let tails : fs ++ more ≡ bs ++ after = cc in
    let known = longest_run_takes_front fs bs more after each.1 apart tails in
    (known.0, ap (λ (c : ℕ). c ∷ bs) head ∙ ap (λ (t : List ℕ). f ∷ t) known.1)

-- run bytes at the front that no run begins with
pub nothing_in_run : (c : ℕ) (cs more : List ℕ) → Each is_run_byte (c ∷ cs) →
    ((tail : List ℕ) (form : Form) → form_of (c ∷ cs ++ tail) ≡ Some form → length (c ∷ cs ++ tail) ≤ 64 → ⊥) →
    NothingBegins (c ∷ cs ++ more)
nothing_in_run c cs more each doomed (blank b) after same right =
    let head : c ≡ b = cc in run_byte_is_no_blank b (ap is_run_byte (sym head) ∙ each.0) right
nothing_in_run c cs more each doomed (line_comment inside) after same right =
    let head : c ≡ slash = cc in run_byte_is_no_slash c each.0 head
nothing_in_run c cs more each doomed (block_comment inside) after same right =
    let head : c ≡ slash = cc in run_byte_is_no_slash c each.0 head
nothing_in_run c cs more each doomed (run form bytes) after same right =
    let known = longest_run_takes_front (c ∷ cs) bytes more after each right.2 same in
    doomed known.0 form (ap form_of (sym known.1) ∙ form_of_bytes_with_form form bytes right.0)
    (subst (λ (t : List ℕ). length t ≤ 64) known.1 right.1)
nothing_in_run c cs more each doomed (sign b) after same right =
    let head : c ≡ b = cc in run_byte_is_no_sign b (ap is_run_byte (sym head) ∙ each.0) right

-- the bytes of a run are run bytes
each_run_more : (b : Bool) (c : ℕ) (cs : List ℕ) (form : Option Form) (last : Form) → is_run_byte c ≡ b →
    (forms_with form cs ≡ Some last → Each is_run_byte cs) → forms_with (if b then form else None) cs ≡ Some last →
    Each is_run_byte (c ∷ cs)
each_run_more true c cs form last in_run more has = (in_run, more has)
each_run_more false c cs form last in_run more has = cc

formed_bytes_are_run_bytes : (form : Option Form) (cs : List ℕ) (last : Form) → forms_with form cs ≡ Some last → Each is_run_byte cs
formed_bytes_are_run_bytes None cs last has = cc
formed_bytes_are_run_bytes (Some form) [] last has = tt
formed_bytes_are_run_bytes (Some form) (c ∷ cs) last has =
    each_run_more (is_run_byte c) c cs (form_with form c) last refl (formed_bytes_are_run_bytes (form_with form c) cs last) has

pub bytes_with_form_are_run_bytes : (bytes : List ℕ) (form : Form) → form_of bytes ≡ Some form → Each is_run_byte bytes
bytes_with_form_are_run_bytes [] form has = tt
bytes_with_form_are_run_bytes (c ∷ cs) form has =
    (run_in_front form (c ∷ cs) [] c cs (sym (append-nil (c ∷ cs))) (form_of_has_form (c ∷ cs) form has), formed_bytes_are_run_bytes (first_form c) cs form has)

pub Each-push : (test : ℕ → Bool) (cs : List ℕ) (c : ℕ) → Each test cs → test c ≡ true → Each test (cs ++ c ∷ [])
Each-push test [] c each passes = (passes, tt)
Each-push test (d ∷ cs) c each passes = (each.0, Each-push test cs c each.1 passes)

-- a run that has no form with this byte
pub nothing_without_form : (bytes : List ℕ) (c : ℕ) (xs : List ℕ) (form : Form) → form_of bytes ≡ Some form →
    is_run_byte c ≡ true → form_of (bytes ++ c ∷ []) ≡ None → NothingBegins (bytes ++ c ∷ [] ++ xs)
nothing_without_form [] c xs form has in_run none = cc
nothing_without_form (b ∷ bs) c xs form has in_run none =
    nothing_in_run b (bs ++ c ∷ []) xs (Each-push is_run_byte (b ∷ bs) c (bytes_with_form_are_run_bytes (b ∷ bs) form has) in_run)
    (λ tail other is short. let no = form_of-none (b ∷ bs ++ c ∷ []) tail (λ empty. cc) none in cc)

-- a run that is too long with this byte
pub nothing_too_long : (bytes : List ℕ) (c : ℕ) (xs : List ℕ) (form : Form) → form_of bytes ≡ Some form →
    is_run_byte c ≡ true → 64 < length (bytes ++ c ∷ []) → NothingBegins (bytes ++ c ∷ [] ++ xs)
nothing_too_long [] c xs form has in_run long = cc
nothing_too_long (b ∷ bs) c xs form has in_run long =
    nothing_in_run b (bs ++ c ∷ []) xs (Each-push is_run_byte (b ∷ bs) c (bytes_with_form_are_run_bytes (b ∷ bs) form has) in_run)
    (λ tail other is short. omega (arith, long, short, length-append (b ∷ bs ++ c ∷ []) tail))
