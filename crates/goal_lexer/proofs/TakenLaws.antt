-- A lexer that represents a text has taken whole pieces and then what is open.
use Rattle.std.proofs.Common.{◌≡◌, ℕ, ◌+◌, ◌≤◌, Bool, true, false, ◌&&◌, not, List, [], ◌∷◌, ◌++◌, length, Option, Some, None, IsSome, ◌==◌, nat_lt, if◌then◌else◌, refl, sym, ap, subst, ◌∙◌, arith, append_assoc, length-append}
use Rattle.std.specs.Prelude.{⊤}
use Rattle.std.proofs.lemmas.Bool.{and_parts}
use Rattle.std.proofs.lemmas.Bool.Decides.{nat_tests}
use Rattle.std.proofs.lemmas.List.{append-nil}
use Rattle.goal_lexer.specs.declared.tokens.Token.{Token}
use Rattle.goal_lexer.specs.declared.tokens.TokenKind.{TokenKind}
use Rattle.goal_lexer.specs.declared.tokens.TokenKind.TheVariants.{Open, Close, Colon}
use Rattle.goal_lexer.specs.declared.mode.Form.{Form}
use Rattle.goal_lexer.specs.declared.mode.Form.TheVariants.{Word, Digits}
use Rattle.goal_lexer.specs.declared.mode.Mode.{Mode}
use Rattle.goal_lexer.specs.declared.mode.Mode.TheVariants.{Between, Run, Slash, LineComment, BlockComment, Failed}
use Rattle.goal_lexer.specs.Bytes.{is_blank, begins_word, is_digit, is_run_byte, slash, star, line_feed}
use Rattle.goal_lexer.specs.Scan.{Scanned, after_tokens, sign as sign_scanned, begun, next, scan, scanned, closing, after_run, form_with, run_or_fault}
use Rattle.goal_lexer.specs.Runs.{run_token}
use Rattle.goal_lexer.specs.Sound.{IsSound, IsRun}
use Rattle.goal_lexer.specs.State.{LexState}
use Rattle.goal_lexer.specs.Stands.{Stands, begins_run}
use Rattle.goal_lexer.specs.Pieces.{Piece, blank, line_comment, block_comment, run, sign, bytes_of, HasForm, has_close, EndsLine, sign_kind, IsRight, spelled, AreRight, sign_tokens, piece_tokens, tokens_of}
use Rattle.goal_lexer.specs.Open.{ends_in_star, IsOpen, IsTaken}
use Rattle.goal_lexer.proofs.FormLaws.{form_of-grown, form_of_bytes_with_form, form_of_has_form}
use Rattle.goal_lexer.proofs.CommentLaws.{has_close-push, ends_in_star-push, bytes_before_star, has_close-front}
use Rattle.goal_lexer.proofs.NothingLaws.{Each-push}
use Rattle.goal_lexer.proofs.ReadingLaws.{in_line}
use Rattle.goal_lexer.proofs.ScanLaws.{scan_failed}

-- a piece after pieces
pub spelled-push : (ps : List Piece) (p : Piece) → spelled (ps ++ p ∷ []) ≡ spelled ps ++ bytes_of p
spelled-push [] p = append-nil (bytes_of p)
spelled-push (q ∷ qs) p = ap (λ (t : List ℕ). bytes_of q ++ t) (spelled-push qs p) ∙ sym (append_assoc (bytes_of q) (spelled qs) (bytes_of p))

pub AreRight-push : (ps : List Piece) (p : Piece) (rest : List ℕ) → AreRight ps (bytes_of p ++ rest) → IsRight p rest → AreRight (ps ++ p ∷ []) rest
AreRight-push [] p rest right one = (one, tt)
AreRight-push (q ∷ qs) p rest right one =
    let same : spelled qs ++ (bytes_of p ++ rest) ≡ spelled (qs ++ p ∷ []) ++ rest =
    sym (append_assoc (spelled qs) (bytes_of p) rest) ∙ ap (λ (t : List ℕ). t ++ rest) (sym (spelled-push qs p)) in
    (subst (IsRight q) same right.0, AreRight-push qs p rest right.1 one)

pub tokens_of-push : (at : ℕ) (ps : List Piece) (p : Piece) → tokens_of at (ps ++ p ∷ []) ≡ tokens_of at ps ++ piece_tokens (at + length (spelled ps)) p
tokens_of-push at [] p =
    let same : at ≡ at + 0 = omega arith in
    append-nil (piece_tokens at p) ∙ ap (λ (n : ℕ). piece_tokens n p) same
tokens_of-push at (q ∷ qs) p =
    let next_at = at + length (bytes_of q) in
    let same : next_at + length (spelled qs) ≡ at + length (bytes_of q ++ spelled qs) = omega (arith, length-append (bytes_of q) (spelled qs)) in
    ap (λ (ts : List Token). piece_tokens at q ++ ts) (tokens_of-push next_at qs p)
    ∙ ap (λ (n : ℕ). piece_tokens at q ++ (tokens_of next_at qs ++ piece_tokens n p)) same
    ∙ sym (append_assoc (piece_tokens at q) (tokens_of next_at qs) (piece_tokens (at + length (bytes_of q ++ spelled qs)) p))

-- whatever of these bytes follows, the text is pieces with these tokens, and then what is open
pub record Cut (follows : List ℕ → Type 0) (mode : Mode) (text : List ℕ) (tokens : List Token) : Type 0 where
  pub pieces : List Piece
  pub bytes : List ℕ
  pub whole : text ≡ spelled pieces ++ bytes
  pub right : (more : List ℕ) → follows more → AreRight pieces (bytes ++ more)
  pub opened : IsOpen mode (length (spelled pieces)) bytes
  pub tokens_are : tokens ≡ tokens_of 0 pieces

-- the same where nothing is open
pub record Ready (follows : List ℕ → Type 0) (text : List ℕ) (tokens : List Token) : Type 0 where
  pub pieces : List Piece
  pub whole : text ≡ spelled pieces
  pub right : (more : List ℕ) → follows more → AreRight pieces more
  pub tokens_are : tokens ≡ tokens_of 0 pieces

abbrev pub any_bytes : List ℕ → Type 0
any_bytes more = ⊤

cut_of_ready : (follows : List ℕ → Type 0) (text : List ℕ) (tokens : List Token) → Ready follows text tokens → Cut follows Between text tokens
cut_of_ready follows text tokens ready =
    record {
      pieces = ready.pieces;
      bytes = [];
      whole = ready.whole ∙ sym (append-nil (spelled ready.pieces));
      right = ready.right;
      opened = refl;
      tokens_are = ready.tokens_are;
    }

ready_of_cut : (follows : List ℕ → Type 0) (text : List ℕ) (tokens : List Token) → Cut follows Between text tokens → Ready follows text tokens
ready_of_cut follows text tokens cut =
    record {
      pieces = cut.pieces;
      whole = cut.whole ∙ ap (λ (t : List ℕ). spelled cut.pieces ++ t) cut.opened ∙ append-nil (spelled cut.pieces);
      right = λ more fits. subst (λ (t : List ℕ). AreRight cut.pieces (t ++ more)) cut.opened (cut.right more fits);
      tokens_are = cut.tokens_are;
    }

-- another piece
ready_with_piece : (follows : List ℕ → Type 0) (ps : List Piece) (p : Piece) (text : List ℕ) (tokens : List Token) →
    text ≡ spelled ps ++ bytes_of p → ((more : List ℕ) → follows more → AreRight ps (bytes_of p ++ more)) →
    ((more : List ℕ) → follows more → IsRight p more) → tokens ≡ tokens_of 0 ps →
    Ready follows text (tokens ++ piece_tokens (length (spelled ps)) p)
ready_with_piece follows ps p text tokens whole right one tokens_are =
    let same : 0 + length (spelled ps) ≡ length (spelled ps) = omega arith in
    record {
      pieces = ps ++ p ∷ [];
      whole = whole ∙ sym (spelled-push ps p);
      right = λ more fits. AreRight-push ps p more (right more fits) (one more fits);
      tokens_are = ap (λ (ts : List Token). ts ++ piece_tokens (length (spelled ps)) p) tokens_are
          ∙ ap (λ (n : ℕ). tokens_of 0 ps ++ piece_tokens n p) (sym same) ∙ sym (tokens_of-push 0 ps p);
    }

-- what is open after a byte that makes no fault
abbrev IsCutAfterByte : List ℕ → List Token → ℕ → Scanned → Type 0
IsCutAfterByte text tokens c made = IsSound made.0 → Cut any_bytes made.0 (text ++ c ∷ []) (tokens ++ made.1)

cut_after_fault_byte : (text : List ℕ) (tokens : List Token) (c at : ℕ) → IsCutAfterByte text tokens c (Failed at, [])
cut_after_fault_byte text tokens c at = λ sound. absurd sound

cut_after_byte_by_equal_scan : (text : List ℕ) (tokens : List Token) (c : ℕ) (made new : Scanned) → made ≡ new → IsCutAfterByte text tokens c new → IsCutAfterByte text tokens c made
cut_after_byte_by_equal_scan text tokens c made new same went = subst (IsCutAfterByte text tokens c) (sym same) went

-- a byte where nothing is open
module _ (follows : List ℕ → Type 0) (text : List ℕ) (tokens : List Token) (c : ℕ) (ready : Ready follows text tokens) (fits : (more : List ℕ) → follows (c ∷ more)) where
  byte_opens : (new : Mode) → IsOpen new (length text) (c ∷ []) → IsCutAfterByte text tokens c (new, [])
  byte_opens new opened = λ sound.
      record {
        pieces = ready.pieces;
        bytes = c ∷ [];
        whole = ap (λ (t : List ℕ). t ++ c ∷ []) ready.whole;
        right = λ more any. ready.right (c ∷ more) (fits more);
        opened = subst (λ (n : ℕ). IsOpen new n (c ∷ [])) (ap length ready.whole) opened;
        tokens_are = append-nil tokens ∙ ready.tokens_are;
      }

  byte_is_piece : (p : Piece) → bytes_of p ≡ c ∷ [] → ((more : List ℕ) → IsRight p more) → IsCutAfterByte text tokens c (Between, piece_tokens (length text) p)
  byte_is_piece p spelling right = λ sound.
      let ps = ready.pieces in
      let place : length (spelled ps) ≡ length text = ap length (sym ready.whole) in
      subst (λ (n : ℕ). Cut any_bytes Between (text ++ c ∷ []) (tokens ++ piece_tokens n p)) place
      (cut_of_ready any_bytes (text ++ c ∷ []) (tokens ++ piece_tokens (length (spelled ps)) p)
      (ready_with_piece any_bytes ps p (text ++ c ∷ []) tokens
      (ap (λ (t : List ℕ). t ++ c ∷ []) ready.whole ∙ ap (λ (t : List ℕ). spelled ps ++ t) (sym spelling))
      (λ more any. subst (λ (t : List ℕ). AreRight ps (t ++ more)) (sym spelling) (ready.right (c ∷ more) (fits more)))
      (λ more any. right more) ready.tokens_are))

  byte_is_sign : (kind : TokenKind) → sign_kind c ≡ Some kind → IsCutAfterByte text tokens c (sign_scanned kind (length text))
  byte_is_sign kind is =
      subst (λ (o : Option TokenKind). IsCutAfterByte text tokens c (Between, sign_tokens o (length text))) is
      (byte_is_piece (sign c) refl (λ more. subst (λ (o : Option TokenKind). IsSome o) (sym is) refl))

  begun_by : (new : Scanned) → begun (length text) c ≡ new → IsCutAfterByte text tokens c new → IsCutAfterByte text tokens c (begun (length text) c)
  begun_by new same went = cut_after_byte_by_equal_scan text tokens c (begun (length text) c) new same went

  byte_slash : (s : Bool) → (c == slash) ≡ s → begins_word c ≡ false → is_digit c ≡ false → is_blank c ≡ false →
      (c == 123) ≡ false → (c == 125) ≡ false → (c == 58) ≡ false → IsCutAfterByte text tokens c (begun (length text) c)
  byte_slash false is_s no_word no_digit no_blank no_open no_close no_colon =
      begun_by (Failed (length text), []) (rw (no_word, no_digit, no_blank, no_open, no_close, no_colon, is_s)) (cut_after_fault_byte text tokens c (length text))
  byte_slash true is_s no_word no_digit no_blank no_open no_close no_colon =
      let same : c ≡ slash = grind (arith, nat_tests) in
      begun_by (Slash (length text), []) (rw (no_word, no_digit, no_blank, no_open, no_close, no_colon, is_s))
      (byte_opens (Slash (length text)) (refl, ap (λ (b : ℕ). b ∷ []) same))

  byte_colon : (s : Bool) → (c == 58) ≡ s → begins_word c ≡ false → is_digit c ≡ false → is_blank c ≡ false →
      (c == 123) ≡ false → (c == 125) ≡ false → IsCutAfterByte text tokens c (begun (length text) c)
  byte_colon false is_s no_word no_digit no_blank no_open no_close = byte_slash (c == slash) refl no_word no_digit no_blank no_open no_close is_s
  byte_colon true is_s no_word no_digit no_blank no_open no_close =
      begun_by (sign_scanned Colon (length text)) (rw (no_word, no_digit, no_blank, no_open, no_close, is_s)) (byte_is_sign Colon (rw (no_open, no_close, is_s)))

  byte_close : (s : Bool) → (c == 125) ≡ s → begins_word c ≡ false → is_digit c ≡ false → is_blank c ≡ false →
      (c == 123) ≡ false → IsCutAfterByte text tokens c (begun (length text) c)
  byte_close false is_s no_word no_digit no_blank no_open = byte_colon (c == 58) refl no_word no_digit no_blank no_open is_s
  byte_close true is_s no_word no_digit no_blank no_open =
      begun_by (sign_scanned Close (length text)) (rw (no_word, no_digit, no_blank, no_open, is_s)) (byte_is_sign Close (rw (no_open, is_s)))

  byte_open : (s : Bool) → (c == 123) ≡ s → begins_word c ≡ false → is_digit c ≡ false → is_blank c ≡ false →
      IsCutAfterByte text tokens c (begun (length text) c)
  byte_open false is_s no_word no_digit no_blank = byte_close (c == 125) refl no_word no_digit no_blank is_s
  byte_open true is_s no_word no_digit no_blank =
      begun_by (sign_scanned Open (length text)) (rw (no_word, no_digit, no_blank, is_s)) (byte_is_sign Open (rw is_s))

  byte_blank : (s : Bool) → is_blank c ≡ s → begins_word c ≡ false → is_digit c ≡ false → IsCutAfterByte text tokens c (begun (length text) c)
  byte_blank false is_s no_word no_digit = byte_open (c == 123) refl no_word no_digit is_s
  byte_blank true is_s no_word no_digit =
      begun_by (Between, []) (rw (no_word, no_digit, is_s)) (byte_is_piece (blank c) refl (λ more. is_s))

  byte_digit : (s : Bool) → is_digit c ≡ s → begins_word c ≡ false → IsCutAfterByte text tokens c (begun (length text) c)
  byte_digit false is_s no_word = byte_blank (is_blank c) refl no_word is_s
  byte_digit true is_s no_word =
      begun_by (Run (length text) (c ∷ []) Digits, []) (rw (no_word, is_s))
      (byte_opens (Run (length text) (c ∷ []) Digits) (refl, refl, (is_s, tt), omega arith))

  byte_word : (s : Bool) → begins_word c ≡ s → IsCutAfterByte text tokens c (begun (length text) c)
  byte_word false is_s = byte_digit (is_digit c) refl is_s
  byte_word true is_s =
      begun_by (Run (length text) (c ∷ []) Word, []) (rw is_s)
      (byte_opens (Run (length text) (c ∷ []) Word) (refl, refl, (is_s, tt), omega arith))

  cut_after_begun_byte : IsCutAfterByte text tokens c (begun (length text) c)
  cut_after_begun_byte = byte_word (begins_word c) refl

-- a byte where something is open
module _ (mode : Mode) (text : List ℕ) (tokens : List Token) (c : ℕ) (cut : Cut any_bytes mode text tokens) where
  open_takes_byte : (new : Mode) → IsOpen new (length (spelled cut.pieces)) (cut.bytes ++ c ∷ []) → IsCutAfterByte text tokens c (new, [])
  open_takes_byte new opened = λ sound.
      record {
        pieces = cut.pieces;
        bytes = cut.bytes ++ c ∷ [];
        whole = ap (λ (t : List ℕ). t ++ c ∷ []) cut.whole ∙ append_assoc (spelled cut.pieces) cut.bytes (c ∷ []);
        right = λ more any. subst (AreRight cut.pieces) (sym (append_assoc cut.bytes (c ∷ []) more)) (cut.right (c ∷ more) tt);
        opened = opened;
        tokens_are = append-nil tokens ∙ cut.tokens_are;
      }

  ends_with_byte : (p : Piece) → bytes_of p ≡ cut.bytes ++ c ∷ [] → ((more : List ℕ) → IsRight p more) → (ts : List Token) →
      piece_tokens (length (spelled cut.pieces)) p ≡ ts → IsCutAfterByte text tokens c (Between, ts)
  ends_with_byte p spelling right ts made = λ sound.
      subst (λ (more : List Token). Cut any_bytes Between (text ++ c ∷ []) (tokens ++ more)) made
      (cut_of_ready any_bytes (text ++ c ∷ []) (tokens ++ piece_tokens (length (spelled cut.pieces)) p)
      (ready_with_piece any_bytes cut.pieces p (text ++ c ∷ []) tokens
      (ap (λ (t : List ℕ). t ++ c ∷ []) cut.whole ∙ append_assoc (spelled cut.pieces) cut.bytes (c ∷ [])
      ∙ ap (λ (t : List ℕ). spelled cut.pieces ++ t) (sym spelling))
      (λ more any. subst (AreRight cut.pieces) (sym (append_assoc cut.bytes (c ∷ []) more) ∙ ap (λ (t : List ℕ). t ++ more) (sym spelling))
      (cut.right (c ∷ more) tt))
      (λ more any. right more) cut.tokens_are))

  -- what is open is a piece that ended before these bytes
  ended_before : (follows : List ℕ → Type 0) (p : Piece) → bytes_of p ≡ cut.bytes → ((more : List ℕ) → follows more → IsRight p more) →
      Ready follows text (tokens ++ piece_tokens (length (spelled cut.pieces)) p)
  ended_before follows p spelling right =
      ready_with_piece follows cut.pieces p text tokens (cut.whole ∙ ap (λ (t : List ℕ). spelled cut.pieces ++ t) (sym spelling))
      (λ more fits. subst (λ (t : List ℕ). AreRight cut.pieces (t ++ more)) (sym spelling) (cut.right more tt))
      right cut.tokens_are

-- bytes that do not continue a run
abbrev pub continues_no_run : List ℕ → Type 0
continues_no_run more = begins_run more ≡ false

-- a byte after a run
module _ (start : ℕ) (kept : List ℕ) (form : Form) (text : List ℕ) (tokens : List Token) (c : ℕ) (cut : Cut any_bytes (Run start kept form) text tokens) where
  run_formed : (o : Option Form) → form_with form c ≡ o → is_run_byte c ≡ true → IsCutAfterByte text tokens c (run_or_fault start (kept ++ c ∷ []) o, [])
  run_formed None grown in_run = cut_after_fault_byte text tokens c start
  run_formed (Some other) grown in_run = by_length (nat_lt 64 (length (kept ++ c ∷ []))) refl
    where
      by_length : (long : Bool) → nat_lt 64 (length (kept ++ c ∷ [])) ≡ long → IsCutAfterByte text tokens c (if long then Failed start else Run start (kept ++ c ∷ []) other, [])
      by_length true is_long = cut_after_fault_byte text tokens c start
      by_length false is_long =
          let opened = cut.opened in
          let same : kept ++ c ∷ [] ≡ cut.bytes ++ c ∷ [] = ap (λ (t : List ℕ). t ++ c ∷ []) opened.1 in
          let few : length (kept ++ c ∷ []) ≤ 64 = grind (arith, nat_tests) in
          let has : HasForm other (cut.bytes ++ c ∷ []) =
          form_of_has_form (cut.bytes ++ c ∷ []) other (form_of-grown cut.bytes c form (form_of_bytes_with_form form cut.bytes opened.2) in_run ∙ grown) in
          open_takes_byte (Run start kept form) text tokens c cut (Run start (kept ++ c ∷ []) other)
          (opened.0, same, has, subst (λ (t : List ℕ). length t ≤ 64) same few)

  run_is_ready : Ready continues_no_run text (tokens ++ closing (length text) (Run start kept form))
  run_is_ready =
      let opened = cut.opened in
      let at = length (spelled cut.pieces) in
      let place : at + length cut.bytes ≡ length text = omega (arith, length-append (spelled cut.pieces) cut.bytes, ap length cut.whole) in
      let made : run_token at cut.bytes form (at + length cut.bytes) ∷ [] ≡ run_token start kept form (length text) ∷ [] =
      ap (λ (n : ℕ). run_token at cut.bytes form n ∷ []) place ∙ ap (λ (n : ℕ). run_token n cut.bytes form (length text) ∷ []) (sym opened.0)
      ∙ ap (λ (t : List ℕ). run_token start t form (length text) ∷ []) (sym opened.1) in
      subst (λ (ts : List Token). Ready continues_no_run text (tokens ++ ts)) made
      (ended_before (Run start kept form) text tokens c cut continues_no_run (run form cut.bytes) refl (λ more fits. (opened.2, opened.3, fits)))

  cut_after_run_and_byte : (r : Bool) → is_run_byte c ≡ r → IsCutAfterByte text tokens c (next (Run start kept form) (length text) c)
  cut_after_run_and_byte true in_run =
      cut_after_byte_by_equal_scan text tokens c (next (Run start kept form) (length text) c) (run_or_fault start (kept ++ c ∷ []) (form_with form c), []) (rw in_run)
      (run_formed (form_with form c) refl in_run)
  cut_after_run_and_byte false no_run =
      let closed = closing (length text) (Run start kept form) in
      let made = begun (length text) c in
      cut_after_byte_by_equal_scan text tokens c (next (Run start kept form) (length text) c) (after_tokens closed made) (rw no_run)
      (λ sound. subst (λ (ts : List Token). Cut any_bytes made.0 (text ++ c ∷ []) ts) (append_assoc tokens closed made.1)
      (cut_after_begun_byte continues_no_run text (tokens ++ closed) c run_is_ready (λ more. no_run) sound))

-- a byte after a `/`
module _ (start : ℕ) (text : List ℕ) (tokens : List Token) (c : ℕ) (cut : Cut any_bytes (Slash start) text tokens) where
  cut_after_slash_by_star_test : (s : Bool) → (c == star) ≡ s → (c == slash) ≡ false → IsCutAfterByte text tokens c (next (Slash start) (length text) c)
  cut_after_slash_by_star_test false is_s no_slash =
      cut_after_byte_by_equal_scan text tokens c (next (Slash start) (length text) c) (Failed start, []) (rw (no_slash, is_s)) (cut_after_fault_byte text tokens c start)
  cut_after_slash_by_star_test true is_s no_slash =
      let same : c ≡ star = grind (arith, nat_tests) in
      cut_after_byte_by_equal_scan text tokens c (next (Slash start) (length text) c) (BlockComment start false, []) (rw (no_slash, is_s))
      (open_takes_byte (Slash start) text tokens c cut (BlockComment start false)
      (cut.opened.0, ([], ap (λ (t : List ℕ). t ++ c ∷ []) cut.opened.1 ∙ ap (λ (b : ℕ). slash ∷ b ∷ []) same, refl, refl)))

  cut_after_slash_and_byte : (s : Bool) → (c == slash) ≡ s → IsCutAfterByte text tokens c (next (Slash start) (length text) c)
  cut_after_slash_and_byte false is_s = cut_after_slash_by_star_test (c == star) refl is_s
  cut_after_slash_and_byte true is_s =
      let same : c ≡ slash = grind (arith, nat_tests) in
      cut_after_byte_by_equal_scan text tokens c (next (Slash start) (length text) c) (LineComment start, []) (rw is_s)
      (open_takes_byte (Slash start) text tokens c cut (LineComment start)
      (cut.opened.0, ([], ap (λ (t : List ℕ). t ++ c ∷ []) cut.opened.1 ∙ ap (λ (b : ℕ). slash ∷ b ∷ []) same, tt)))

-- the line feed is a blank after the comment
module _ (start : ℕ) (text : List ℕ) (tokens : List Token) (c : ℕ) (cut : Cut any_bytes (LineComment start) text tokens) where
  in_line_comment : (s : Bool) → (c == line_feed) ≡ s → IsCutAfterByte text tokens c (next (LineComment start) (length text) c)
  in_line_comment false is_s =
      let inside = cut.opened.1 in
      cut_after_byte_by_equal_scan text tokens c (next (LineComment start) (length text) c) (LineComment start, []) (rw is_s)
      (open_takes_byte (LineComment start) text tokens c cut (LineComment start)
      (cut.opened.0, (inside.0 ++ c ∷ [], ap (λ (t : List ℕ). t ++ c ∷ []) inside.1, Each-push in_line inside.0 c inside.2 (ap not is_s))))
  in_line_comment true is_s =
      let same : c ≡ line_feed = grind (arith, nat_tests) in
      let inside = cut.opened.1 in
      let ready : Ready EndsLine text (tokens ++ []) =
      ended_before (LineComment start) text tokens c cut EndsLine (line_comment inside.0) (sym inside.1) (λ more fits. (inside.2, fits)) in
      cut_after_byte_by_equal_scan text tokens c (next (LineComment start) (length text) c) (Between, []) (rw is_s)
      (λ sound. subst (λ (ts : List Token). Cut any_bytes Between (text ++ c ∷ []) (ts ++ [])) (append-nil tokens)
      (byte_is_piece EndsLine text (tokens ++ []) c ready (λ more. same) (blank c) refl (λ more. ap is_blank same) tt))

-- a byte in a block comment
module _ (start : ℕ) (closes : Bool) (text : List ℕ) (tokens : List Token) (c : ℕ) (cut : Cut any_bytes (BlockComment start closes) text tokens) where
  in_block_comment : (s : Bool) → (closes && c == slash) ≡ s → IsCutAfterByte text tokens c (next (BlockComment start closes) (length text) c)
  in_block_comment false is_s =
      let inside = cut.opened.1 in
      let open_still : (ends_in_star inside.0 && c == slash) ≡ false = ap (λ (b : Bool). b && c == slash) inside.3 ∙ is_s in
      cut_after_byte_by_equal_scan text tokens c (next (BlockComment start closes) (length text) c) (BlockComment start (c == star), []) (rw is_s)
      (open_takes_byte (BlockComment start closes) text tokens c cut (BlockComment start (c == star))
      (cut.opened.0, (inside.0 ++ c ∷ [], ap (λ (t : List ℕ). t ++ c ∷ []) inside.1, has_close-push inside.0 c inside.2 open_still, ends_in_star-push inside.0 c)))
  in_block_comment true is_s =
      let inside = cut.opened.1 in
      let parts = and_parts closes (c == slash) is_s in
      let is_slash = parts.1 in
      let same : c ≡ slash = grind (arith, nat_tests) in
      let before = bytes_before_star inside.0 (inside.3 ∙ parts.0) in
      let spelling : slash ∷ star ∷ before.0 ++ star ∷ slash ∷ [] ≡ cut.bytes ++ c ∷ [] =
      sym (ap (λ (t : List ℕ). t ++ c ∷ []) inside.1 ∙ ap (λ (t : List ℕ). slash ∷ star ∷ t ++ c ∷ []) before.1
      ∙ ap (λ (t : List ℕ). slash ∷ star ∷ t) (append_assoc before.0 (star ∷ []) (c ∷ []) ∙ ap (λ (b : ℕ). before.0 ++ star ∷ b ∷ []) same)) in
      cut_after_byte_by_equal_scan text tokens c (next (BlockComment start closes) (length text) c) (Between, []) (rw is_s)
      (ends_with_byte (BlockComment start closes) text tokens c cut (block_comment before.0) spelling
      (λ more. has_close-front before.0 (star ∷ []) (ap has_close (sym before.1) ∙ inside.2)) [] refl)

-- a byte, whatever is open
cut_after_byte : (mode : Mode) (text : List ℕ) (tokens : List Token) (c : ℕ) → Cut any_bytes mode text tokens → IsCutAfterByte text tokens c (next mode (length text) c)
cut_after_byte Between text tokens c cut = cut_after_begun_byte any_bytes text tokens c (ready_of_cut any_bytes text tokens cut) (λ more. tt)
cut_after_byte (Run start kept form) text tokens c cut = cut_after_run_and_byte start kept form text tokens c cut (is_run_byte c) refl
cut_after_byte (Slash start) text tokens c cut = cut_after_slash_and_byte start text tokens c cut (c == slash) refl
cut_after_byte (LineComment start) text tokens c cut = in_line_comment start text tokens c cut (c == line_feed) refl
cut_after_byte (BlockComment start closes) text tokens c cut = in_block_comment start closes text tokens c cut (closes && c == slash) refl
cut_after_byte (Failed at) text tokens c cut = cut_after_fault_byte text tokens c at

-- if no fault was met after a scan, none was met before
sound_before : (mode : Mode) (place : ℕ) (xs : List ℕ) → IsSound (scan mode place xs).0 → IsSound mode
sound_before Between place xs sound = tt
sound_before (Run start kept form) place xs sound = tt
sound_before (Slash start) place xs sound = tt
sound_before (LineComment start) place xs sound = tt
sound_before (BlockComment start closes) place xs sound = tt
sound_before (Failed at) place xs sound = subst (λ (r : Scanned). IsSound r.0) (scan_failed at place xs) sound

-- the bytes of a text, one after another
cut_after_bytes : (xs : List ℕ) (mode : Mode) (text : List ℕ) (tokens : List Token) → Cut any_bytes mode text tokens → IsSound (scan mode (length text) xs).0 →
    Cut any_bytes (scan mode (length text) xs).0 (text ++ xs) (tokens ++ (scan mode (length text) xs).1)
unfolding scan
cut_after_bytes [] mode text tokens cut sound =
    subst (λ (ts : List Token). Cut any_bytes mode (text ++ []) ts) (sym (append-nil tokens))
    (subst (λ (t : List ℕ). Cut any_bytes mode t tokens) (sym (append-nil text)) cut)
cut_after_bytes (c ∷ cs) mode text tokens cut sound =
    let made = next mode (length text) c in
    let place : length (text ++ c ∷ []) ≡ length text + 1 = omega (arith, length-append text (c ∷ [])) in
    let rest = scan made.0 (length text + 1) cs in
    let first : Cut any_bytes made.0 (text ++ c ∷ []) (tokens ++ made.1) = cut_after_byte mode text tokens c cut (sound_before made.0 (length text + 1) cs sound) in
    let sound_there : IsSound (scan made.0 (length (text ++ c ∷ [])) cs).0 = subst (λ (n : ℕ). IsSound (scan made.0 n cs).0) (sym place) sound in
    let more = cut_after_bytes cs made.0 (text ++ c ∷ []) (tokens ++ made.1) first sound_there in
    subst (λ (ts : List Token). Cut any_bytes rest.0 (text ++ c ∷ cs) ts) (append_assoc tokens made.1 rest.1)
    (subst (λ (t : List ℕ). Cut any_bytes rest.0 t (tokens ++ made.1 ++ rest.1)) (append_assoc text (c ∷ []) cs)
    (subst (λ (n : ℕ). Cut any_bytes (scan made.0 n cs).0 (text ++ c ∷ [] ++ cs) (tokens ++ made.1 ++ (scan made.0 n cs).1)) place more))

-- the scan of a text cuts it
pub scan_cuts_text : (text : List ℕ) → IsSound (scanned text).0 → Cut any_bytes (scanned text).0 text (scanned text).1
scan_cuts_text text sound =
    cut_after_bytes text Between [] [] (record {
      pieces = [];
      bytes = [];
      whole = refl;
      right = λ more any. tt;
      opened = refl;
      tokens_are = refl;
    }) sound

-- a lexer that just returned a run, and one that did not
stands_is_taken_by_parts : (mode : Mode) (place : ℕ) (ends : Bool) (text : List ℕ) → Stands (record { mode = mode; place = place; ends_run = ends }) text →
    IsTaken (record { mode = mode; place = place; ends_run = ends }) text
stands_is_taken_by_parts mode place false text stands =
    let same = stands.open_there in
    let cut = subst (λ (m : Mode). Cut any_bytes m text (scanned text).1) same (scan_cuts_text text (subst IsSound (sym same) stands.sound)) in
    record {
      pieces = cut.pieces;
      bytes = cut.bytes;
      cut = λ more fits. record {
        whole = ap (λ (t : List ℕ). t ++ more) cut.whole ∙ append_assoc (spelled cut.pieces) cut.bytes more;
        right = cut.right more tt;
      };
      opened = cut.opened;
      run_out = λ is. cc;
      place = stands.place;
    }
stands_is_taken_by_parts mode place true text stands = by (scanned text).0 (scanned text).1 stands.run_there (scan_cuts_text text) (sym stands.open_there)
  where
    by : (open_mode : Mode) (tokens : List Token) → IsRun open_mode → (IsSound open_mode → Cut any_bytes open_mode text tokens) → mode ≡ after_run open_mode →
        IsTaken (record { mode = mode; place = place; ends_run = true }) text
    by (Run start kept form) tokens is_run cut_there between =
        let cut = cut_there tt in
        let has = cut.opened in
        record {
          pieces = cut.pieces ++ run form cut.bytes ∷ [];
          bytes = [];
          cut = λ more fits. record {
            whole = ap (λ (t : List ℕ). t ++ more) (cut.whole ∙ sym (spelled-push cut.pieces (run form cut.bytes)));
            right = AreRight-push cut.pieces (run form cut.bytes) more (cut.right more tt) (has.2, has.3, fits refl);
          };
          opened = subst (λ (m : Mode). IsOpen m (length (spelled (cut.pieces ++ run form cut.bytes ∷ []))) []) (sym between) refl;
          run_out = λ is. ((cut.pieces, form, cut.bytes, refl), refl);
          place = stands.place;
        }
    by Between tokens is_run cut_there between = absurd is_run
    by (Slash start) tokens is_run cut_there between = absurd is_run
    by (LineComment start) tokens is_run cut_there between = absurd is_run
    by (BlockComment start closes) tokens is_run cut_there between = absurd is_run
    by (Failed at) tokens is_run cut_there between = absurd is_run

pub stands_is_taken : (lexer : LexState) (text : List ℕ) → Stands lexer text → IsTaken lexer text
stands_is_taken lexer text stands = stands_is_taken_by_parts lexer.mode lexer.place lexer.ends_run text stands
