-- A lexer represents each text of which it has taken whole pieces and then what is open.
use Rattle.std.proofs.Common.{◌≡◌, ℕ, ◌+◌, ◌≤◌, Bool, true, false, ◌&&◌, not, List, [], ◌∷◌, ◌++◌, length, ◌==◌, refl, sym, ap, subst, ◌∙◌, arith, append_assoc, length-append}
use Rattle.std.proofs.lemmas.Bool.{false≢true}
use Rattle.std.proofs.lemmas.Bool.Decides.{nat_tests}
use Rattle.std.proofs.lemmas.List.{append-nil}
use Rattle.goal_lexer.specs.declared.tokens.Token.{Token}
use Rattle.goal_lexer.specs.declared.mode.Form.{Form}
use Rattle.goal_lexer.specs.declared.mode.Mode.{Mode}
use Rattle.goal_lexer.specs.declared.mode.Mode.TheVariants.{Between, Run, Slash, LineComment, BlockComment, Failed}
use Rattle.goal_lexer.specs.Bytes.{slash, star, line_feed}
use Rattle.goal_lexer.specs.Scan.{Scanned, after_tokens, next, scan, scanned, ended}
use Rattle.goal_lexer.specs.Runs.{run_token}
use Rattle.goal_lexer.specs.Sound.{IsSound, IsRun}
use Rattle.goal_lexer.specs.State.{LexState}
use Rattle.goal_lexer.specs.Stands.{Stands, handed}
use Rattle.goal_lexer.specs.Pieces.{Piece, blank, line_comment, block_comment, run, sign, bytes_of, Each, HasForm, has_close, sign_kind, IsRight, spelled, AreRight, sign_tokens, piece_tokens, tokens_of}
use Rattle.goal_lexer.specs.Open.{ends_in_star, IsOpen, IsTaken}
use Rattle.goal_lexer.proofs.FormLaws.{form_of_bytes_with_form, first_in_run}
use Rattle.goal_lexer.proofs.CommentLaws.{has_close-found, ends_in_star-push, bytes_before_star}
use Rattle.goal_lexer.proofs.NothingLaws.{bytes_with_form_are_run_bytes}
use Rattle.goal_lexer.proofs.ReadingLaws.{in_line}
use Rattle.goal_lexer.proofs.ScanLaws.{scan_after_no_token}
use Rattle.goal_lexer.proofs.StandsLaws.{scan_past_run}
use Rattle.goal_lexer.proofs.StretchLaws.{next_after_blank}
use Rattle.goal_lexer.proofs.WholeLaws.{scan_of_run, next_sign}
use Rattle.goal_lexer.proofs.TakenLaws.{spelled-push, tokens_of-push}

-- the scan of a run, which stays open
scan_run : (place : ℕ) (form : Form) (bytes : List ℕ) → HasForm form bytes → length bytes ≤ 64 → scan Between place bytes ≡ (Run place bytes form, [])
scan_run place form bytes has short = scan_of_run place bytes form (bytes_with_form_are_run_bytes bytes form (form_of_bytes_with_form form bytes has)) has short

-- the scan inside a line comment
in_line_next : (start place c : ℕ) → in_line c ≡ true → next (LineComment start) place c ≡ (LineComment start, [])
in_line_next start place c is =
    let no : (c == line_feed) ≡ false = by (c == line_feed) is in rw no
  where
    by : (b : Bool) → not b ≡ true → b ≡ false
    by true is = cc
    by false is = refl

scan_line : (start place : ℕ) (inside : List ℕ) → Each in_line inside → scan (LineComment start) place inside ≡ (LineComment start, [])
unfolding scan
scan_line start place [] each = refl
scan_line start place (c ∷ cs) each =
    ap (λ (r : Scanned). after_tokens r.1 (scan r.0 (place + 1) cs)) (in_line_next start place c each.0)
    ∙ ap (after_tokens []) (scan_line start (place + 1) cs each.1)

scan_line_comment : (place : ℕ) (inside : List ℕ) → Each in_line inside → scan Between place (slash ∷ slash ∷ inside) ≡ (LineComment place, [])
unfolding scan
scan_line_comment place inside each = ap (λ (r : Scanned). after_tokens [] (after_tokens [] r)) (scan_line place (place + 1 + 1) inside each)

-- the scan inside a block comment
no_close_at_byte : (seen : List ℕ) (c : ℕ) (cs : List ℕ) → has_close (seen ++ c ∷ cs) ≡ false → (s : Bool) → (ends_in_star seen && c == slash) ≡ s → s ≡ false
no_close_at_byte seen c cs none false is = refl
no_close_at_byte seen c cs none true is =
    let parts = both (ends_in_star seen) (c == slash) is in
    let before = bytes_before_star seen parts.0 in
    let is_slash = parts.1 in
    let same : c ≡ slash = grind (arith, nat_tests) in
    let spelling : seen ++ c ∷ cs ≡ before.0 ++ star ∷ slash ∷ cs =
    ap (λ (t : List ℕ). t ++ c ∷ cs) before.1 ∙ append_assoc before.0 (star ∷ []) (c ∷ cs) ∙ ap (λ (b : ℕ). before.0 ++ star ∷ b ∷ cs) same in
    absurd (false≢true (sym none ∙ ap has_close spelling ∙ has_close-found before.0 cs))
  where
    both : (a b : Bool) → (a && b) ≡ true → (a ≡ true) × (b ≡ true)
    both true true is = (refl, refl)
    both true false is = cc
    both false b is = cc

scan_block : (start place : ℕ) (seen inside : List ℕ) → has_close (seen ++ inside) ≡ false →
    scan (BlockComment start (ends_in_star seen)) place inside ≡ (BlockComment start (ends_in_star (seen ++ inside)), [])
unfolding scan
scan_block start place seen [] none = ap (λ (t : List ℕ). (BlockComment start (ends_in_star t), [])) (sym (append-nil seen))
scan_block start place seen (c ∷ cs) none =
    let open_still = no_close_at_byte seen c cs none (ends_in_star seen && c == slash) refl in
    let made : next (BlockComment start (ends_in_star seen)) place c ≡ (BlockComment start (ends_in_star (seen ++ c ∷ [])), []) =
    rw open_still (ap (λ (b : Bool). (BlockComment start b, [])) (sym (ends_in_star-push seen c))) in
    let same : seen ++ c ∷ [] ++ cs ≡ seen ++ c ∷ cs = append_assoc seen (c ∷ []) cs in
    ap (λ (r : Scanned). after_tokens r.1 (scan r.0 (place + 1) cs)) made
    ∙ ap (after_tokens []) (scan_block start (place + 1) (seen ++ c ∷ []) cs (ap has_close same ∙ none))
    ∙ ap (λ (t : List ℕ). (BlockComment start (ends_in_star t), [])) same

scan_block_comment : (place : ℕ) (inside : List ℕ) → has_close inside ≡ false →
    scan Between place (slash ∷ star ∷ inside) ≡ (BlockComment place (ends_in_star inside), [])
unfolding scan
scan_block_comment place inside none = ap (λ (r : Scanned). after_tokens [] (after_tokens [] r)) (scan_block place (place + 1 + 1) [] inside none)

scan_closed : (start place : ℕ) (closes : Bool) (rest : List ℕ) → scan (BlockComment start closes) place (star ∷ slash ∷ rest) ≡ scan Between (place + 1 + 1) rest
unfolding scan
scan_closed start place true rest = refl
scan_closed start place false rest = refl

-- a byte and those after it
scan_byte : (mode new : Mode) (place c : ℕ) (ts : List Token) (rest : List ℕ) → next mode place c ≡ (new, ts) →
    scan mode place (c ∷ rest) ≡ after_tokens ts (scan new (place + 1) rest)
unfolding scan
scan_byte mode new place c ts rest made = ap (λ (r : Scanned). after_tokens r.1 (scan r.0 (place + 1) rest)) made

-- the line feed after a line comment
scan_line_end : (start place : ℕ) (ds : List ℕ) → scan (LineComment start) place (line_feed ∷ ds) ≡ scan Between place (line_feed ∷ ds)
unfolding scan
scan_line_end start place ds = refl

-- a piece and what follows it
scan_piece : (p : Piece) (place : ℕ) (rest : List ℕ) → IsRight p rest → (rest ≡ [] → (more : List ℕ) → IsRight p more) →
    scan Between place (bytes_of p ++ rest) ≡ after_tokens (piece_tokens place p) (scan Between (place + length (bytes_of p)) rest)
scan_piece (blank c) place rest right settled = scan_byte Between Between place c [] rest (next_after_blank place c right)
scan_piece (line_comment inside) place [] right settled =
    let no : 97 ≡ line_feed = (settled refl (97 ∷ [])).1 in absurd (omega arith)
scan_piece (line_comment inside) place (d ∷ ds) right settled =
    let at = place + length (slash ∷ slash ∷ inside) in
    scan_after_no_token Between (LineComment place) place (slash ∷ slash ∷ inside) (d ∷ ds) (scan_line_comment place inside right.0)
    ∙ subst (λ (b : ℕ). scan (LineComment place) at (b ∷ ds) ≡ scan Between at (b ∷ ds)) (sym right.1) (scan_line_end place at ds)
scan_piece (block_comment inside) place rest right settled =
    let at = place + length (slash ∷ star ∷ inside) in
    let same : at + 1 + 1 ≡ place + length (slash ∷ star ∷ inside ++ star ∷ slash ∷ []) = omega (arith, length-append inside (star ∷ slash ∷ [])) in
    ap (λ (t : List ℕ). scan Between place (slash ∷ star ∷ t)) (append_assoc inside (star ∷ slash ∷ []) rest)
    ∙ scan_after_no_token Between (BlockComment place (ends_in_star inside)) place (slash ∷ star ∷ inside) (star ∷ slash ∷ rest) (scan_block_comment place inside right)
    ∙ scan_closed place at (ends_in_star inside) rest
    ∙ ap (λ (n : ℕ). scan Between n rest) same
scan_piece (run form bytes) place [] right settled = absurd (false≢true (sym (settled refl (97 ∷ [])).2))
scan_piece (run form bytes) place (d ∷ ds) right settled =
    scan_after_no_token Between (Run place bytes form) place bytes (d ∷ ds) (scan_run place form bytes right.0 right.1)
    ∙ scan_past_run (Run place bytes form) (place + length bytes) d ds tt right.2
scan_piece (sign c) place rest right settled = scan_byte Between Between place c (sign_tokens (sign_kind c) place) rest (next_sign place c right)

-- no pieces have no bytes
empty_append_has_empty_parts : (xs ys : List ℕ) → xs ++ ys ≡ [] → (xs ≡ []) × (ys ≡ [])
empty_append_has_empty_parts [] ys none = (refl, none)
empty_append_has_empty_parts (x ∷ xs) ys none = cc

-- pieces and what follows them
scan_pieces : (ps : List Piece) (place : ℕ) (rest : List ℕ) → AreRight ps rest → (rest ≡ [] → (more : List ℕ) → AreRight ps more) →
    scan Between place (spelled ps ++ rest) ≡ after_tokens (tokens_of place ps) (scan Between (place + length (spelled ps)) rest)
scan_pieces [] place rest right settled = let same : place ≡ place + 0 = omega arith in ap (λ (n : ℕ). scan Between n rest) same
scan_pieces (p ∷ ps) place rest right settled =
    let after = place + length (bytes_of p) in
    let last = scan Between (place + length (bytes_of p ++ spelled ps)) rest in
    let same : after + length (spelled ps) ≡ place + length (bytes_of p ++ spelled ps) = omega (arith, length-append (bytes_of p) (spelled ps)) in
    let settled_first : spelled ps ++ rest ≡ [] → (more : List ℕ) → IsRight p more =
    λ none more.
    let parts = empty_append_has_empty_parts (spelled ps) rest none in
    subst (λ (t : List ℕ). IsRight p (t ++ more)) parts.0 (settled parts.1 more).0 in
    ap (scan Between place) (append_assoc (bytes_of p) (spelled ps) rest)
    ∙ scan_piece p place (spelled ps ++ rest) right.0 settled_first
    ∙ ap (after_tokens (piece_tokens place p)) (scan_pieces ps after rest right.1 (λ none more. (settled none more).1))
    ∙ ap (λ (n : ℕ). after_tokens (piece_tokens place p) (after_tokens (tokens_of after ps) (scan Between n rest))) same
    ∙ ap (λ (ts : List Token). (last.0, ts)) (sym (append_assoc (piece_tokens place p) (tokens_of after ps) last.1))

-- what is open after nothing was open
scan_open : (mode : Mode) (place : ℕ) (bytes : List ℕ) → IsOpen mode place bytes → scan Between place bytes ≡ (mode, [])
unfolding scan
scan_open Between place bytes opened = ap (scan Between place) opened
scan_open (Run start kept form) place bytes opened =
    scan_run place form bytes opened.2 opened.3
    ∙ ap (λ (t : List ℕ). (Run place t form, [])) (sym opened.1) ∙ ap (λ (n : ℕ). (Run n kept form, [])) (sym opened.0)
scan_open (Slash start) place bytes opened =
    ap (scan Between place) opened.1 ∙ ap (λ (n : ℕ). (Slash n, [])) (sym opened.0)
scan_open (LineComment start) place bytes opened =
    let inside = opened.1 in
    ap (scan Between place) inside.1 ∙ scan_line_comment place inside.0 inside.2 ∙ ap (λ (n : ℕ). (LineComment n, [])) (sym opened.0)
scan_open (BlockComment start closes) place bytes opened =
    let inside = opened.1 in
    ap (scan Between place) inside.1 ∙ scan_block_comment place inside.0 inside.2
    ∙ ap (λ (b : Bool). (BlockComment place b, [])) inside.3 ∙ ap (λ (n : ℕ). (BlockComment n closes, [])) (sym opened.0)
scan_open (Failed at) place bytes opened = absurd opened

open_is_sound : (mode : Mode) (place : ℕ) (bytes : List ℕ) → IsOpen mode place bytes → IsSound mode
open_is_sound Between place bytes opened = tt
open_is_sound (Run start kept form) place bytes opened = tt
open_is_sound (Slash start) place bytes opened = tt
open_is_sound (LineComment start) place bytes opened = tt
open_is_sound (BlockComment start closes) place bytes opened = tt
open_is_sound (Failed at) place bytes opened = opened

-- the scan of whole pieces and of what is open
scan_of_pieces_and_open : (mode : Mode) (text : List ℕ) (ps : List Piece) (bytes : List ℕ) → text ≡ spelled ps ++ bytes → AreRight ps bytes →
    (bytes ≡ [] → (more : List ℕ) → AreRight ps more) → IsOpen mode (length (spelled ps)) bytes → scanned text ≡ (mode, tokens_of 0 ps)
scan_of_pieces_and_open mode text ps bytes whole right settled opened =
    let same : 0 + length (spelled ps) ≡ length (spelled ps) = omega arith in
    ap scanned whole
    ∙ scan_pieces ps 0 bytes right settled
    ∙ ap (λ (n : ℕ). after_tokens (tokens_of 0 ps) (scan Between n bytes)) same
    ∙ ap (after_tokens (tokens_of 0 ps)) (scan_open mode (length (spelled ps)) bytes opened)
    ∙ ap (λ (ts : List Token). (mode, ts)) (append-nil (tokens_of 0 ps))

AreRight-pop : (ps : List Piece) (p : Piece) (rest : List ℕ) → AreRight (ps ++ p ∷ []) rest → AreRight ps (bytes_of p ++ rest) × IsRight p rest
AreRight-pop [] p rest right = (tt, right.0)
AreRight-pop (q ∷ qs) p rest right =
    let same : spelled (qs ++ p ∷ []) ++ rest ≡ spelled qs ++ (bytes_of p ++ rest) =
    ap (λ (t : List ℕ). t ++ rest) (spelled-push qs p) ∙ append_assoc (spelled qs) (bytes_of p) rest in
    let others = AreRight-pop qs p rest right.1 in
    ((subst (IsRight q) same right.0, others.0), others.1)

-- for the parts of the lexer
scanned_of_taken_without_run : (mode : Mode) (place : ℕ) (text : List ℕ) → (taken : IsTaken (record { mode = mode; place = place; ends_run = false }) text) →
    scanned text ≡ (mode, tokens_of 0 taken.pieces)
scanned_of_taken_without_run mode place text taken =
    let ps = taken.pieces in
    let bytes = taken.bytes in
    let cut = taken.cut [] (λ is. cc) in
    scan_of_pieces_and_open mode text ps bytes
    (sym (append-nil text) ∙ cut.whole ∙ ap (λ (t : List ℕ). spelled ps ++ t) (append-nil bytes))
    (subst (AreRight ps) (append-nil bytes) cut.right)
    (λ none more. subst (λ (t : List ℕ). AreRight ps (t ++ more)) none (taken.cut more (λ is. cc)).right)
    taken.opened

-- the same where a run was returned: it was open at the end
scanned_of_taken_with_run : (mode : Mode) (place : ℕ) (text : List ℕ) → (taken : IsTaken (record { mode = mode; place = place; ends_run = true }) text) →
    (start : ℕ) × (kept : List ℕ) × (form : Form) × (tokens : List Token) × (scanned text ≡ (Run start kept form, tokens))
    × (tokens ++ run_token start kept form (length text) ∷ [] ≡ tokens_of 0 taken.pieces)
scanned_of_taken_with_run mode place text taken =
    let out = taken.run_out refl in
    let ps = out.0.0 in
    let form = out.0.1 in
    let bytes = out.0.2 in
    let start = length (spelled ps) in
    let piece : Piece = run form bytes in
    let cut = taken.cut [] (λ is. refl) in
    let spelling : spelled taken.pieces ≡ spelled ps ++ bytes = ap spelled out.0.3 ∙ spelled-push ps piece in
    let whole : text ≡ spelled ps ++ bytes =
    sym (append-nil text) ∙ cut.whole ∙ ap (λ (t : List ℕ). spelled taken.pieces ++ t) (append-nil taken.bytes ∙ out.1) ∙ append-nil (spelled taken.pieces) ∙ spelling in
    let rights = AreRight-pop ps piece [] (subst (λ (qs : List Piece). AreRight qs []) out.0.3 (subst (AreRight taken.pieces) (append-nil taken.bytes ∙ out.1) cut.right)) in
    let first = first_in_run form bytes rights.1.0 in
    let none_settled : bytes ≡ [] → (more : List ℕ) → AreRight ps more =
    λ none more. let no : first.0 ∷ first.1 ≡ [] = sym first.2 ∙ none in cc in
    let same_start : 0 + start ≡ start = omega arith in
    let end : start + length bytes ≡ length text = omega (arith, length-append (spelled ps) bytes, ap length whole) in (
      start,
      bytes,
      form,
      tokens_of 0 ps,
      scan_of_pieces_and_open (Run start bytes form) text ps bytes whole (subst (AreRight ps) (append-nil bytes) rights.0) none_settled (refl, refl, rights.1.0, rights.1.1),
      ap (λ (n : ℕ). tokens_of 0 ps ++ run_token start bytes form n ∷ []) (sym end)
          ∙ ap (λ (n : ℕ). tokens_of 0 ps ++ run_token n bytes form (n + length bytes) ∷ []) (sym same_start)
          ∙ sym (tokens_of-push 0 ps piece) ∙ ap (tokens_of 0) (sym out.0.3),
    )

nothing_open_is_between : (mode : Mode) (place : ℕ) (bytes : List ℕ) → IsOpen mode place bytes → bytes ≡ [] → mode ≡ Between
nothing_open_is_between Between place bytes opened none = refl
nothing_open_is_between (Run start kept form) place bytes opened none =
    let first = first_in_run form bytes opened.2 in
    let no : first.0 ∷ first.1 ≡ [] = sym first.2 ∙ none in cc
nothing_open_is_between (Slash start) place bytes opened none = let no : slash ∷ [] ≡ [] = sym opened.1 ∙ none in cc
nothing_open_is_between (LineComment start) place bytes opened none = let no : slash ∷ slash ∷ opened.1.0 ≡ [] = sym opened.1.1 ∙ none in cc
nothing_open_is_between (BlockComment start closes) place bytes opened none = let no : slash ∷ star ∷ opened.1.0 ≡ [] = sym opened.1.1 ∙ none in cc
nothing_open_is_between (Failed at) place bytes opened none = absurd opened

taken_stands_by_parts : (mode : Mode) (place : ℕ) (ends : Bool) (text : List ℕ) → IsTaken (record { mode = mode; place = place; ends_run = ends }) text →
    Stands (record { mode = mode; place = place; ends_run = ends }) text
taken_stands_by_parts mode place false text taken =
    record {
      place = taken.place;
      open_there = ap (λ (r : Scanned). r.0) (scanned_of_taken_without_run mode place text taken);
      run_there = tt;
      sound = open_is_sound mode (length (spelled taken.pieces)) taken.bytes taken.opened;
    }
taken_stands_by_parts mode place true text taken =
    let found = scanned_of_taken_with_run mode place text taken in
    let between = nothing_open_is_between mode (length (spelled taken.pieces)) taken.bytes taken.opened (taken.run_out refl).1 in
    record {
      place = taken.place;
      open_there = ap (λ (r : Scanned). (ended (length text) r).0) found.4 ∙ sym between;
      run_there = subst (λ (r : Scanned). IsRun r.0) (sym found.4) tt;
      sound = open_is_sound mode (length (spelled taken.pieces)) taken.bytes taken.opened;
    }

pub taken_stands : (lexer : LexState) (text : List ℕ) → IsTaken lexer text → Stands lexer text
taken_stands lexer text taken = taken_stands_by_parts lexer.mode lexer.place lexer.ends_run text taken

handed_are_tokens_by_parts : (mode : Mode) (place : ℕ) (ends : Bool) (text : List ℕ) → (taken : IsTaken (record { mode = mode; place = place; ends_run = ends }) text) →
    handed (record { mode = mode; place = place; ends_run = ends }) text ≡ tokens_of 0 taken.pieces
handed_are_tokens_by_parts mode place false text taken = ap (λ (r : Scanned). r.1) (scanned_of_taken_without_run mode place text taken)
handed_are_tokens_by_parts mode place true text taken =
    let found = scanned_of_taken_with_run mode place text taken in
    ap (λ (r : Scanned). (ended (length text) r).1) found.4 ∙ found.5

pub handed_are_tokens : (lexer : LexState) (text : List ℕ) (taken : IsTaken lexer text) → handed lexer text ≡ tokens_of 0 taken.pieces
handed_are_tokens lexer text taken = handed_are_tokens_by_parts lexer.mode lexer.place lexer.ends_run text taken
