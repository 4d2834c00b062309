-- What is true of a text that a reader has read: its tokens pass except for a run that is open at its end.
use Rattle.std.proofs.Common.{◌≡◌, ℕ, inl, inr, ◌⊎◌, ⊎_elim, List, [], ◌∷◌, ◌++◌, reverse, Option, None, Bool, true, false, bytes_eq, sym, ap, subst, ◌∙◌, arith}
use Rattle.std.proofs.lemmas.List.{append-nil}
use Rattle.goal_lexer.specs.declared.tokens.Token.{Token}
use Rattle.goal_lexer.specs.declared.tokens.TokenKind.{TokenKind}
use Rattle.goal_lexer.specs.declared.mode.Form.{Form}
use Rattle.goal_lexer.specs.declared.mode.Form.TheVariants.{Word, Digits, Sized}
use Rattle.goal_lexer.specs.Words.{kind_among, reserved_words}
use Rattle.goal_lexer.specs.Runs.{run_kind}
use Rattle.std.specs.Prelude.{⊤, if◌then◌else◌}
use Rattle.goal_lexer.specs.declared.mode.Mode.{Mode}
use Rattle.goal_lexer.specs.declared.mode.Mode.TheVariants.{Between, Run, Slash, LineComment, BlockComment, Failed}
use Rattle.goal_lexer.specs.Scan.{closing}
use Rattle.goal_lexer.specs.State.{LexState}
use Rattle.goal_lexer.specs.Stands.{Stands, handed}
use Rattle.goal_lexer.proofs.ForCallers.{lexed_at_end, fault_at_end_is_cut_off}
use Rattle.goal_parser.specs.declared.pieces.TextReader.{TextReader}
use Rattle.goal_parser.specs.Faults.{token_fault}
use Rattle.goal_parser.specs.Reads.{first_fault}
use Rattle.goal_parser.specs.TextRead.{HasRead}
use Rattle.goal_parser.specs.Laws.{IsSign, PassesSoFar}
use Rattle.goal_parser.proofs.ReaderLaws.{first_fault-append}
use Rattle.goal_parser.proofs.ParserLaws.{first_is_none, second_is_none}

-- the token is among these
abbrev IsTokenAmong : List Token → Token → Type 0
IsTokenAmong cs t = (xs : List Token) × (ys : List Token) × (cs ≡ xs ++ t ∷ ys)

-- a token of two joined lists is in the first list or in the second
token_in_first_or_second_list : (before later hs cs : List Token) (t : Token) → before ++ t ∷ later ≡ hs ++ cs → ((more : List Token) × (hs ≡ before ++ t ∷ more)) ⊎ IsTokenAmong cs t
token_in_first_or_second_list [] later [] cs t e = inr ([], later, sym e)
token_in_first_or_second_list [] later (h ∷ hs) cs t e =
    let same : t ≡ h = cc in
    inl (hs, ap (λ (x : Token). x ∷ hs) (sym same))
token_in_first_or_second_list (b ∷ bs) later [] cs t e = inr (b ∷ bs, later, sym e)
token_in_first_or_second_list (b ∷ bs) later (h ∷ hs) cs t e =
    let same : b ≡ h = cc in
    let rest : bs ++ t ∷ later ≡ hs ++ cs = cc in
    ⊎_elim (λ found. inl (found.0, ap (λ (x : Token). x ∷ hs) (sym same) ∙ ap (λ (l : List Token). b ∷ l) found.1)) (λ stood. inr stood) (token_in_first_or_second_list bs later hs cs t rest)

-- a token among tokens that pass
token_among_faultless_has_no_fault : (before more : List Token) (t : Token) → first_fault [] (before ++ t ∷ more) ≡ None → token_fault (reverse before) t ≡ None
unfolding first_fault
token_among_faultless_has_no_fault before more t passed =
    let behind = second_is_none (first_fault [] before) _ (sym (first_fault-append [] before (t ∷ more)) ∙ passed) in
    ap (λ (l : List Token). token_fault l t) (sym (append-nil (reverse before))) ∙ first_is_none (token_fault (reverse before ++ []) t) _ behind

-- an empty list has no token
no_token_among_none : {A : Type 0} (xs ys : List Token) (t : Token) → [] ≡ xs ++ t ∷ ys → A
no_token_among_none [] ys t e = cc
no_token_among_none (x ∷ xs) ys t e = cc

-- a token that the end of a text closes ends there
closed_token_ends_at_place : (place : ℕ) (mode : Mode) (t : Token) → IsTokenAmong (closing place mode) t → t.end ≡ place
closed_token_ends_at_place place (Run start bytes form) t ([], ys, e) = cc
closed_token_ends_at_place place (Run start bytes form) t (x ∷ xs, ys, e) =
    let rest : [] ≡ xs ++ t ∷ ys = cc in
    no_token_among_none xs ys t rest
closed_token_ends_at_place place Between t (xs, ys, e) = no_token_among_none xs ys t e
closed_token_ends_at_place place (Slash start) t (xs, ys, e) = no_token_among_none xs ys t e
closed_token_ends_at_place place (LineComment start) t (xs, ys, e) = no_token_among_none xs ys t e
closed_token_ends_at_place place (BlockComment start closes) t (xs, ys, e) = no_token_among_none xs ys t e
closed_token_ends_at_place place (Failed at) t (xs, ys, e) = no_token_among_none xs ys t e

-- no word of this table is a sign
abbrev NoSigns : List (List ℕ × TokenKind) → Type 0
NoSigns [] = ⊤
NoSigns (e ∷ es) = (IsSign e.1 → ⊥) × NoSigns es

conditional_kind_is_no_sign : (b : Bool) (x y : TokenKind) → (IsSign x → ⊥) → (IsSign y → ⊥) → IsSign (if b then x else y) → ⊥
conditional_kind_is_no_sign true x y f g h = f h
conditional_kind_is_no_sign false x y f g h = g h

no_sign_among : (entries : List (List ℕ × TokenKind)) (word : List ℕ) → NoSigns entries → IsSign (kind_among entries word) → ⊥
no_sign_among [] word none h = h
no_sign_among (e ∷ es) word none h = conditional_kind_is_no_sign (bytes_eq word e.0) e.1 (kind_among es word) none.0 (no_sign_among es word none.1) h

no_reserved_sign : NoSigns reserved_words
no_reserved_sign =
    (λ h. h, (λ h. h, (λ h. h, (λ h. h, (λ h. h, (λ h. h, (λ h. h, (λ h. h, (λ h. h, (λ h. h, (λ h. h, (λ h. h, (λ h. h, (λ h. h, (λ h. h, tt)))))))))))))))

-- no run is a sign
no_run_sign : (form : Form) (bytes : List ℕ) → IsSign (run_kind form bytes) → ⊥
no_run_sign Word bytes h = no_sign_among reserved_words bytes no_reserved_sign h
no_run_sign Digits bytes h = h
no_run_sign Sized bytes h = h

closing_token_is_no_sign : (place : ℕ) (mode : Mode) (t : Token) → IsTokenAmong (closing place mode) t → IsSign t.kind → ⊥
closing_token_is_no_sign place (Run start bytes form) t ([], ys, e) h =
    let same : run_kind form bytes ≡ t.kind = cc in
    no_run_sign form bytes (subst IsSign (sym same) h)
closing_token_is_no_sign place (Run start bytes form) t (x ∷ xs, ys, e) h =
    let rest : [] ≡ xs ++ t ∷ ys = cc in
    no_token_among_none xs ys t rest
closing_token_is_no_sign place Between t (xs, ys, e) h = no_token_among_none xs ys t e
closing_token_is_no_sign place (Slash start) t (xs, ys, e) h = no_token_among_none xs ys t e
closing_token_is_no_sign place (LineComment start) t (xs, ys, e) h = no_token_among_none xs ys t e
closing_token_is_no_sign place (BlockComment start closes) t (xs, ys, e) h = no_token_among_none xs ys t e
closing_token_is_no_sign place (Failed at) t (xs, ys, e) h = no_token_among_none xs ys t e

pub passes_so_far : (r : TextReader) (text : List ℕ) → HasRead r text → PassesSoFar text
passes_so_far r text read = record {
  tokens = λ before later t e inside.
      ⊎_elim (λ found. token_among_faultless_has_no_fault before found.0 t (sym (ap (first_fault []) found.1) ∙ read.stands.passed))
      (λ stood. absurd (⊎_elim (λ early. let last = closed_token_ends_at_place lexer.place lexer.mode t stood in let long = stands.place in omega (arith, last, long, early)) (λ sign. closing_token_is_no_sign lexer.place lexer.mode t stood sign) inside))
      (token_in_first_or_second_list before later (handed lexer text) (closing lexer.place lexer.mode) t (sym e ∙ ap (λ (p : List Token × Option ℕ). p.0) (lexed_at_end lexer.mode lexer.place lexer.ends_run text stands)));
  bytes = λ at e. fault_at_end_is_cut_off lexer text at stands e;
}
  where
    lexer : LexState
    lexer = r.reader.lexer

    stands : Stands lexer text
    stands = read.stands.lexer
