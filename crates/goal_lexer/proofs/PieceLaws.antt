-- From the scan of a text to its pieces.
use Rattle.std.proofs.Common.{◌≡◌, ◌≢◌, ℕ, ◌+◌, false, List, [], ◌∷◌, ◌++◌, length, Option, Some, refl, sym, ap, subst, ◌∙◌, arith, append_assoc, length-append}
use Rattle.goal_lexer.specs.declared.tokens.Token.{Token}
use Rattle.goal_lexer.specs.declared.mode.Form.{Form}
use Rattle.goal_lexer.specs.declared.mode.Mode.{Mode}
use Rattle.goal_lexer.specs.declared.mode.Mode.TheVariants.{Between, Run, Failed}
use Rattle.goal_lexer.specs.Bytes.{is_run_byte}
use Rattle.goal_lexer.specs.Scan.{Scanned, after_tokens, next, scan, closing, ended, fault_at_end}
use Rattle.goal_lexer.specs.Runs.{run_token}
use Rattle.goal_lexer.specs.Pieces.{Piece, bytes_of, IsRight, spelled, piece_tokens, NothingBegins, EndsWith, IsReading}
use Rattle.goal_lexer.proofs.ScanLaws.{scan_failed}
use Rattle.goal_lexer.proofs.StandsLaws.{scan_past_run}

-- the tokens of the scan of a continued text, up to the end of the text
abbrev pub tokens_to_end : Mode → ℕ → List ℕ → List Token
tokens_to_end mode place xs = (ended (place + length xs) (scan mode place xs)).1

abbrev pub fault_of : Mode → ℕ → List ℕ → Option ℕ
fault_of mode place xs = fault_at_end (scan mode place xs).0

-- these bytes are open from this place on, and xs follow: the reading of the text is that of the scan
abbrev pub Read : Mode → ℕ → List ℕ → List ℕ → Type 0
Read mode start bytes xs =
    IsReading start (bytes ++ xs) (tokens_to_end mode (start + length bytes) xs) (fault_of mode (start + length bytes) xs)

-- the same where nothing is open
abbrev pub ReadOn : ℕ → List ℕ → Type 0
ReadOn start xs = IsReading start xs (tokens_to_end Between start xs) (fault_of Between start xs)

-- a reading, from its parts
reading_of_equal : (start : ℕ) (text text' : List ℕ) (tokens tokens' : List Token) (fault fault' : Option ℕ) →
    text ≡ text' → tokens ≡ tokens' → fault ≡ fault' → IsReading start text tokens fault → IsReading start text' tokens' fault'
reading_of_equal start text text' tokens tokens' fault fault' same_text same_tokens same_fault reading =
    subst (λ (f : Option ℕ). IsReading start text' tokens' f) same_fault
    (subst (λ (ts : List Token). IsReading start text' ts fault) same_tokens
    (subst (λ (t : List ℕ). IsReading start t tokens fault) same_text reading))

-- a piece at the front
reading_with_piece : (piece : Piece) (start : ℕ) (after : List ℕ) (tokens : List Token) (fault : Option ℕ) → IsRight piece after →
    IsReading (start + length (bytes_of piece)) after tokens fault →
    IsReading start (bytes_of piece ++ after) (piece_tokens start piece ++ tokens) fault
reading_with_piece piece start after tokens fault right reading =
    let bytes = bytes_of piece in
    let more = reading.pieces in
    let place : start + length bytes + length (spelled more) ≡ start + length (bytes ++ spelled more) =
    omega (arith, length-append bytes (spelled more)) in
    record {
      pieces = piece ∷ more;
      rest = reading.rest;
      cut = record {
        whole = ap (λ (t : List ℕ). bytes ++ t) reading.cut.whole ∙ sym (append_assoc bytes (spelled more) reading.rest);
        right = (subst (IsRight piece) reading.cut.whole right, reading.cut.right);
      };
      tokens_are = ap (λ (ts : List Token). piece_tokens start piece ++ ts) reading.tokens_are;
      end = subst (λ (p : ℕ). EndsWith fault p reading.rest) place reading.end;
    }

-- the scan of a byte and more
pub tokens_to_end_from_byte_on : (mode : Mode) (place c : ℕ) (xs : List ℕ) (new : Mode) (tokens : List Token) → next mode place c ≡ (new, tokens) →
    tokens_to_end mode place (c ∷ xs) ≡ tokens ++ tokens_to_end new (place + 1) xs
unfolding scan
tokens_to_end_from_byte_on mode place c xs new tokens made =
    let last : place + length (c ∷ xs) ≡ place + 1 + length xs = omega arith in
    let rest = scan new (place + 1) xs in
    ap (λ (p : ℕ). (ended p (scan mode place (c ∷ xs))).1) last
    ∙ ap (λ (r : Scanned). (ended (place + 1 + length xs) (after_tokens r.1 (scan r.0 (place + 1) xs))).1) made
    ∙ append_assoc tokens rest.1 (closing (place + 1 + length xs) rest.0)

pub fault_of_rest_after_byte : (mode : Mode) (place c : ℕ) (xs : List ℕ) (new : Mode) (tokens : List Token) → next mode place c ≡ (new, tokens) →
    fault_of mode place (c ∷ xs) ≡ fault_of new (place + 1) xs
unfolding scan
fault_of_rest_after_byte mode place c xs new tokens made = ap (λ (r : Scanned). fault_at_end (scan r.0 (place + 1) xs).0) made

-- what is open takes another byte
pub open_takes_byte : (mode new : Mode) (start : ℕ) (bytes : List ℕ) (c : ℕ) (xs : List ℕ) →
    next mode (start + length bytes) c ≡ (new, []) → Read new start (bytes ++ c ∷ []) xs → Read mode start bytes (c ∷ xs)
open_takes_byte mode new start bytes c xs made read =
    let place : start + length (bytes ++ c ∷ []) ≡ start + length bytes + 1 = omega (arith, length-append bytes (c ∷ [])) in
    reading_of_equal start (bytes ++ c ∷ [] ++ xs) (bytes ++ c ∷ xs)
    (tokens_to_end new (start + length (bytes ++ c ∷ [])) xs) (tokens_to_end mode (start + length bytes) (c ∷ xs))
    (fault_of new (start + length (bytes ++ c ∷ [])) xs) (fault_of mode (start + length bytes) (c ∷ xs))
    (append_assoc bytes (c ∷ []) xs)
    (ap (λ (p : ℕ). tokens_to_end new p xs) place ∙ sym (tokens_to_end_from_byte_on mode (start + length bytes) c xs new [] made))
    (ap (λ (p : ℕ). fault_of new p xs) place ∙ sym (fault_of_rest_after_byte mode (start + length bytes) c xs new [] made))
    read

-- what is open is a piece that ends with the byte
pub ends_with_byte : (mode : Mode) (start : ℕ) (bytes : List ℕ) (c : ℕ) (xs : List ℕ) (piece : Piece) →
    next mode (start + length bytes) c ≡ (Between, piece_tokens start piece) → bytes_of piece ≡ bytes ++ c ∷ [] →
    IsRight piece xs → ((place : ℕ) → ReadOn place xs) → Read mode start bytes (c ∷ xs)
ends_with_byte mode start bytes c xs piece made spelling right between =
    let at = start + length (bytes_of piece) in
    let place : at ≡ start + length bytes + 1 =
    omega (arith, length-append bytes (c ∷ []), ap length spelling) in
    reading_of_equal start (bytes_of piece ++ xs) (bytes ++ c ∷ xs)
    (piece_tokens start piece ++ tokens_to_end Between at xs) (tokens_to_end mode (start + length bytes) (c ∷ xs))
    (fault_of Between at xs) (fault_of mode (start + length bytes) (c ∷ xs))
    (ap (λ (t : List ℕ). t ++ xs) spelling ∙ append_assoc bytes (c ∷ []) xs)
    (ap (λ (p : ℕ). piece_tokens start piece ++ tokens_to_end Between p xs) place
    ∙ sym (tokens_to_end_from_byte_on mode (start + length bytes) c xs Between (piece_tokens start piece) made))
    (ap (λ (p : ℕ). fault_of Between p xs) place
    ∙ sym (fault_of_rest_after_byte mode (start + length bytes) c xs Between (piece_tokens start piece) made))
    (reading_with_piece piece start xs (tokens_to_end Between at xs) (fault_of Between at xs) right (between at))

-- what is open is a piece that ended before the rest
pub ends_before : (mode : Mode) (start : ℕ) (xs : List ℕ) (piece : Piece) →
    tokens_to_end mode (start + length (bytes_of piece)) xs
    ≡ piece_tokens start piece ++ tokens_to_end Between (start + length (bytes_of piece)) xs →
    fault_of mode (start + length (bytes_of piece)) xs ≡ fault_of Between (start + length (bytes_of piece)) xs →
    IsRight piece xs → ((place : ℕ) → ReadOn place xs) → Read mode start (bytes_of piece) xs
ends_before mode start xs piece same_tokens same_fault right between =
    let at = start + length (bytes_of piece) in
    reading_of_equal start (bytes_of piece ++ xs) (bytes_of piece ++ xs)
    (piece_tokens start piece ++ tokens_to_end Between at xs) (tokens_to_end mode at xs)
    (fault_of Between at xs) (fault_of mode at xs)
    refl (sym same_tokens) (sym same_fault)
    (reading_with_piece piece start xs (tokens_to_end Between at xs) (fault_of Between at xs) right (between at))

-- no piece begins where the scan is at fault
pub reading_at_fault : (start : ℕ) (bytes xs : List ℕ) → bytes ++ xs ≢ [] → NothingBegins (bytes ++ xs) → Read (Failed start) start bytes xs
reading_at_fault start bytes xs some nothing =
    let place = start + length bytes in
    let stays = scan_failed start place xs in
    reading_of_equal start (bytes ++ xs) (bytes ++ xs) [] (tokens_to_end (Failed start) place xs) (Some start) (fault_of (Failed start) place xs)
    refl
    (sym (ap (λ (r : Scanned). (ended (place + length xs) r).1) stays))
    (sym (ap (λ (r : Scanned). fault_at_end r.0) stays))
    (record {
      pieces = [];
      rest = bytes ++ xs;
      cut = record { whole = refl; right = tt };
      tokens_are = refl;
      end = (omega arith, some, nothing);
    })

-- the text ends where something is open that has to go on
pub text_ends_open : (mode : Mode) (start : ℕ) (bytes : List ℕ) → ((place : ℕ) → closing place mode ≡ []) →
    fault_at_end mode ≡ Some start → bytes ++ [] ≢ [] → NothingBegins (bytes ++ []) → Read mode start bytes []
unfolding scan
text_ends_open mode start bytes none fault some nothing =
    reading_of_equal start (bytes ++ []) (bytes ++ []) [] (tokens_to_end mode (start + length bytes) []) (Some start) (fault_of mode (start + length bytes) [])
    refl (sym (none (start + length bytes + 0))) (sym fault)
    (record {
      pieces = [];
      rest = bytes ++ [];
      cut = record { whole = refl; right = tt };
      tokens_are = refl;
      end = (omega arith, some, nothing);
    })

-- while nothing is open, a byte opens something
pub byte_opens : (start c : ℕ) (xs : List ℕ) (new : Mode) → next Between start c ≡ (new, []) → Read new start (c ∷ []) xs →
    ReadOn start (c ∷ xs)
byte_opens start c xs new made read =
    let same : start + 0 ≡ start = omega arith in
    subst (λ (p : ℕ). IsReading start (c ∷ xs) (tokens_to_end Between p (c ∷ xs)) (fault_of Between p (c ∷ xs))) same
    (open_takes_byte Between new start [] c xs (ap (λ (p : ℕ). next Between p c) same ∙ made) read)

-- while nothing is open, a byte is a piece
pub byte_is_piece : (start c : ℕ) (xs : List ℕ) (piece : Piece) → next Between start c ≡ (Between, piece_tokens start piece) →
    bytes_of piece ≡ c ∷ [] → IsRight piece xs → ((place : ℕ) → ReadOn place xs) → ReadOn start (c ∷ xs)
byte_is_piece start c xs piece made spelling right between =
    let same : start + 0 ≡ start = omega arith in
    subst (λ (p : ℕ). IsReading start (c ∷ xs) (tokens_to_end Between p (c ∷ xs)) (fault_of Between p (c ∷ xs))) same
    (ends_with_byte Between start [] c xs piece (ap (λ (p : ℕ). next Between p c) same ∙ made) spelling right between)

-- the tokens of a scan after a run
pub tokens_past_run : (start : ℕ) (bytes : List ℕ) (form : Form) (place c : ℕ) (xs : List ℕ) → is_run_byte c ≡ false →
    tokens_to_end (Run start bytes form) place (c ∷ xs)
    ≡ run_token start bytes form place ∷ [] ++ tokens_to_end Between place (c ∷ xs)
tokens_past_run start bytes form place c xs apart =
    let last = place + length (c ∷ xs) in
    let rest = scan Between place (c ∷ xs) in
    ap (λ (r : Scanned). (ended last r).1) (scan_past_run (Run start bytes form) place c xs tt apart)
    ∙ append_assoc (run_token start bytes form place ∷ []) rest.1 (closing last rest.0)

pub fault_past_run : (start : ℕ) (bytes : List ℕ) (form : Form) (place c : ℕ) (xs : List ℕ) → is_run_byte c ≡ false →
    fault_of (Run start bytes form) place (c ∷ xs) ≡ fault_of Between place (c ∷ xs)
fault_past_run start bytes form place c xs apart =
    ap (λ (r : Scanned). fault_at_end r.0) (scan_past_run (Run start bytes form) place c xs tt apart)
