-- A token at the front of a piece, and a reader that takes it.
use Rattle.std.proofs.Common.{◌≡◌, ℕ, zero, suc, ◌+◌, ◌-◌, ◌<◌, Bool, true, false, List, [], ◌∷◌, ◌++◌, length, take, drop, reverse, Some, refl, sym, ap, subst, ◌∙◌, arith, length-drop, append_assoc, take-append-drop}
use Rattle.std.proofs.lemmas.List.{take_rest}
use Rattle.goal_lexer.specs.declared.tokens.Token.{Token}
use Rattle.goal_lexer.specs.Ahead.{IsAhead}
use Rattle.goal_lexer.specs.Scan.{lexed}
use Rattle.goal_lexer.specs.Stands.{handed, begins_run}
use Rattle.goal_lexer.proofs.ForCallers.{stands_ahead_by_parts}
use Rattle.goal_parser.specs.declared.faults.TextFault.{TextFault}
use Rattle.goal_parser.specs.declared.token_faults.TokenFault.{TokenFault}
use Rattle.goal_parser.specs.FaultInText.{fault_in_text}
use Rattle.goal_parser.specs.declared.reader.Reader.{Reader}
use Rattle.goal_parser.specs.Ahead.{MayGoOn, GoesAhead, IsFaultAhead}
use Rattle.goal_parser.specs.Faults.{token_fault}
use Rattle.goal_parser.specs.Reader.{StandsFor}
use Rattle.goal_parser.specs.Reads.{text_fault}
use Rattle.goal_parser.specs.Taken.{HasTaken}
use Rattle.goal_parser.proofs.ReaderLaws.{fault_of_token, handed_front, taken_and_dropped_join, no_run_whatever_follows, take-plus, drop-plus}

-- what follows a run at the front of a piece does not continue it, whatever follows the piece
no_run_after_token : (place : ℕ) (rest more : List ℕ) (n : ℕ) (e : Bool) (ts : List Token) → IsAhead place rest n e ts → e ≡ true →
    begins_run (drop n rest ++ more) ≡ false
no_run_after_token place rest more n false ts ahead is = cc
no_run_after_token place rest more n true ts ahead is = no_run_whatever_follows n rest more ahead.0 ahead.1

-- if the parser refuses the token at the front, that is the fault of each text continued by the piece
pub refused_token_is_fault_of_text : (old : Reader) (rest : List ℕ) (n : ℕ) (e : Bool) (t : Token) (f : TextFault) →
    MayGoOn old.lexer old.place rest → 0 < n → IsAhead old.place rest n e (t ∷ []) →
    ((before : List Token) → HasTaken old.parser before → token_fault before t ≡ Some f) →
    (text more : List ℕ) → StandsFor old text → text_fault (text ++ rest ++ more) ≡ Some f
refused_token_is_fault_of_text old rest n e t f ready some ahead refuses text more stood =
    let lexer = old.lexer in
    let hs = handed lexer text in
    let went = stands_ahead_by_parts lexer.mode lexer.place lexer.ends_run lexer refl ready.between n rest e (t ∷ []) text ready.apart some
    (subst (λ (p : ℕ). IsAhead p rest n e (t ∷ [])) (sym ready.same) ahead) stood.lexer in
    let front = handed_front (record { mode = lexer.mode; place = lexer.place + n; ends_run = e }) (text ++ take n rest)
    (drop n rest ++ more) went.0 (no_run_after_token old.place rest more n e (t ∷ []) ahead) in
    fault_of_token (text ++ rest ++ more) hs front.0 t f
    (ap (λ (w : List ℕ). (lexed w).0) (sym (taken_and_dropped_join text rest more n)) ∙ front.1 ∙ ap (λ (l : List Token). l ++ front.0) went.1)
    stood.passed (refuses (reverse hs) stood.taken)

-- Bytes are taken from a piece twice.

pub stands_after_both_takes : (start old new : Reader) (piece : List ℕ) (at n : ℕ) →
    ((text : List ℕ) → StandsFor start text → StandsFor old (text ++ take at piece)) →
    ((text : List ℕ) → StandsFor old text → StandsFor new (text ++ take n (take (length piece - at) (drop at piece)))) →
    (text : List ℕ) → StandsFor start text → StandsFor new (text ++ take (at + n) piece)
stands_after_both_takes start old new piece at n before on text stood =
    subst (λ (w : List ℕ). StandsFor new w)
    (ap (λ (l : List ℕ). (text ++ take at piece) ++ take n l) (take_rest piece at)
    ∙ append_assoc text (take at piece) (take n (drop at piece))
    ∙ ap (λ (l : List ℕ). text ++ l) (sym (take-plus at n piece)))
    (on (text ++ take at piece) (before text stood))

pub no_run_in_rest_of_piece : (piece : List ℕ) (at n : ℕ) → begins_run (drop n (take (length piece - at) (drop at piece))) ≡ false →
    begins_run (drop (at + n) piece) ≡ false
no_run_in_rest_of_piece piece at n apart =
    ap begins_run (drop-plus at n piece ∙ ap (drop n) (sym (take_rest piece at))) ∙ apart

pub fault_in_rest_is_fault_of_piece : (piece text more : List ℕ) (at : ℕ) (f : TextFault) →
    text_fault ((text ++ take at piece) ++ take (length piece - at) (drop at piece) ++ more) ≡ Some f →
    text_fault (text ++ piece ++ more) ≡ Some f
fault_in_rest_is_fault_of_piece piece text more at f is =
    ap (λ (w : List ℕ). text_fault (w ++ more))
    (ap (λ (l : List ℕ). text ++ l) (sym (take-append-drop at piece) ∙ ap (λ (l : List ℕ). take at piece ++ l) (sym (take_rest piece at)))
    ∙ sym (append_assoc text (take at piece) (take (length piece - at) (drop at piece))))
    ∙ is

bytes_left_after_both_takes : (old mid new : Reader) (piece : List ℕ) (n m : ℕ) → GoesAhead old piece mid n →
    GoesAhead mid (take (length piece - n) (drop n piece)) new m → 0 < n + m → new.lexer.ends_run ≡ true → n + m < length piece
bytes_left_after_both_takes old mid new piece n zero first second some ends =
    let same : new ≡ mid = second.none refl in
    let left : n < length piece = first.left (omega (arith, some)) (subst (λ (r : Reader). r.lexer.ends_run ≡ true) same ends) in
    omega (arith, left)
bytes_left_after_both_takes old mid new piece n (suc m) first second some ends =
    let long = ap length (take_rest piece n) ∙ length-drop n piece in
    let left = second.left (omega arith) ends in
    omega (arith, left, long, first.taken)

-- a reader that took bytes twice
pub goes_ahead_twice : (old mid new : Reader) (piece : List ℕ) (n m : ℕ) → GoesAhead old piece mid n →
    GoesAhead mid (take (length piece - n) (drop n piece)) new m → GoesAhead old piece new (n + m)
goes_ahead_twice old mid new piece n m first second =
    let long = ap length (take_rest piece n) ∙ length-drop n piece in
    let front = first.taken in
    let back = second.taken in
    record {
      taken = omega (arith, long, front, back);
      place = omega (arith, first.place, second.place);
      same = second.same;
      apart = λ ends. no_run_in_rest_of_piece piece n m (second.apart ends);
      left = λ some ends. bytes_left_after_both_takes old mid new piece n m first second some ends;
      between = λ before. second.between (first.between before);
      stands = stands_after_both_takes old mid new piece n m first.stands second.stands;
      none = λ is. second.none (omega (arith, is)) ∙ first.none (omega (arith, is));
    }

-- a fault of what follows the bytes that it took
pub fault_after_going_ahead : (old mid : Reader) (piece : List ℕ) (n : ℕ) (f : TokenFault) → GoesAhead old piece mid n →
    IsFaultAhead mid (take (length piece - n) (drop n piece)) f → IsFaultAhead old piece f
fault_after_going_ahead old mid piece n f first fault memory text more stood =
    fault_in_rest_is_fault_of_piece piece text more n (fault_in_text f) (fault memory (text ++ take n piece) more (first.stands text stood))
