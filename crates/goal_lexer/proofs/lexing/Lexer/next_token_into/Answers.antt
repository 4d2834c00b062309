use Rattle.std.proofs.Common.{◌≡◌, ℕ, ◌+◌, ◌<◌, ◌≤◌, List, [], ◌∷◌, ◌++◌, Bool, true, false, length, take, refl, sym, ap, subst, ◌∙◌, arith, ◌⊎◌, false-eqb, inl, inr}
use Rattle.std.proofs.lemmas.List.{append-nil, length-take, take_all}
use Rattle.goal_lexer.specs.declared.tokens.Token.{Token}
use Rattle.goal_lexer.specs.declared.mode.Mode.{Mode}
use Rattle.goal_lexer.specs.declared.mode.Mode.TheVariants.{Between, Failed}
use Rattle.goal_lexer.specs.Scan.{Scanned, scan, scanned, closing}
use Rattle.goal_lexer.specs.State.{LexState}
use Rattle.goal_lexer.specs.Stands.{Stands, handed}
use Rattle.goal_lexer.proofs.StandsLaws.{scan_of_continuation_by_parts, place_after_continuation, stands_where_scanned, stands_past_run, run_was_open, fault_of_continued}
use Rattle.goal_lexer.proofs.lexing.Lexer.next_token_into.Goals as goal
use Rattle.goal_lexer.proofs.lexing.Lexer.next_token_into.Goals.{After-take_piece}

-- the piece has a byte
nonempty : (c : After-take_piece) → 0 < length c.args.rest.now
nonempty c = omega (arith, false-eqb (length c.args.rest.now) 0 c.if-is_empty.ensures)

-- the scan of the text and a prefix of the piece, where the lexer's scan of that prefix is known
scan_of_text_and_prefix : (c : After-take_piece) (n : ℕ) (new : Mode) (tokens : List Token) →
    (c.self.inside.ends_run ≡ true → 0 < length (take n c.args.rest.now)) →
    scan c.self.inside.mode c.self.inside.place (take n c.args.rest.now) ≡ (new, tokens) →
    (text : List ℕ) → Stands c.args.self.now text →
    scanned (text ++ take n c.args.rest.now) ≡ (new, handed c.args.self.now text ++ tokens)
scan_of_text_and_prefix c n new tokens some scan_is text stands =
    let fields = c.self.inside in
    scan_of_continuation_by_parts fields.mode new fields.place fields.ends_run c.args.self.now c.self.view_is n c.args.rest.now tokens c.requires.apart some scan_is text stands

length_with_prefix : (c : After-take_piece) (n : ℕ) → n ≤ length c.args.rest.now → (text : List ℕ) → Stands c.args.self.now text →
    length (text ++ take n c.args.rest.now) ≡ c.self.inside.place + n
length_with_prefix c n within text stands =
    let fields = c.self.inside in
    place_after_continuation fields.mode fields.place fields.ends_run c.args.self.now c.self.view_is n c.args.rest.now text within stands

-- the scan of the whole piece
scanned_with_whole_piece : (c : After-take_piece) (new : Mode) →
    scan c.self.inside.mode c.self.inside.place c.args.rest.now ≡ (new, []) →
    (text : List ℕ) → Stands c.args.self.now text →
    scanned (text ++ take (length c.args.rest.now) c.args.rest.now) ≡ (new, handed c.args.self.now text ++ [])
scanned_with_whole_piece c new scan_is text stands =
    let rest = c.args.rest.now in
    let whole : take (length rest) rest ≡ rest = take_all (length rest) rest (omega arith) in
    let some = nonempty c in
    scan_of_text_and_prefix c (length rest) new [] (λ e. omega (arith, length-take (length rest) rest))
    (ap (scan c.self.inside.mode c.self.inside.place) whole ∙ scan_is) text stands

pub returns-in-Piece-clause-stands : goal.returns-in-Piece-clause-stands
returns-in-Piece-clause-stands c text stands =
    let k = (goal.at.returns-in-Piece-clause-stands c).After-take_piece in
    let rest = c.args.rest.now in
    stands_where_scanned c.take_piece.new.mode (c.self.inside.place + length rest) text (take (length rest) rest) (handed c.args.self.now text ++ [])
    (length_with_prefix k (length rest) (omega arith) text stands)
    (scanned_with_whole_piece k c.take_piece.new.mode c.in-Piece.ensures.0 text stands)
    c.in-Piece.ensures.1

pub returns-in-Piece-clause-handed : goal.returns-in-Piece-clause-handed
returns-in-Piece-clause-handed c text stands =
    let k = (goal.at.returns-in-Piece-clause-handed c).After-take_piece in
    ap (λ (r : Scanned). r.1) (scanned_with_whole_piece k c.take_piece.new.mode c.in-Piece.ensures.0 text stands)

-- a run that ends before a byte is taken was open, so none was returned at that place
run_after_returned_run_took_a_byte : (c : After-take_piece) (taken : ℕ) (token : Token) (run : Mode) →
    scan c.self.inside.mode c.self.inside.place (take taken c.args.rest.now) ≡ (run, []) →
    closing (c.self.inside.place + taken) run ≡ token ∷ [] → c.self.inside.ends_run ≡ true → 0 < length (take taken c.args.rest.now)
run_after_returned_run_took_a_byte c taken token run scan_is closing_is ends =
    run_was_open c.self.inside.mode run c.self.inside.place (c.self.inside.place + taken) (take taken c.args.rest.now) token
    scan_is closing_is (c.self.invariant ends)

-- the text that ends with the run, and the run's token
run_stands : (c : After-take_piece) (taken : ℕ) (token : Token) (run : Mode) → taken ≤ length c.args.rest.now →
    scan c.self.inside.mode c.self.inside.place (take taken c.args.rest.now) ≡ (run, []) →
    closing (c.self.inside.place + taken) run ≡ token ∷ [] → (text : List ℕ) → Stands c.args.self.now text →
    Stands (record { mode = Between; place = c.self.inside.place + taken; ends_run = true }) (text ++ take taken c.args.rest.now)
    × (handed (record { mode = Between; place = c.self.inside.place + taken; ends_run = true }) (text ++ take taken c.args.rest.now)
    ≡ handed c.args.self.now text ++ token ∷ [])
run_stands c taken token run within scan_is closing_is text stands =
    let place = c.self.inside.place + taken in
    let before = handed c.args.self.now text in
    let found = stands_past_run run place text (take taken c.args.rest.now) (before ++ []) token
    (length_with_prefix c taken within text stands)
    (scan_of_text_and_prefix c taken run [] (run_after_returned_run_took_a_byte c taken token run scan_is closing_is) scan_is text stands)
    closing_is in
    (found.0, found.1 ∙ ap (λ (ts : List Token). ts ++ token ∷ []) (append-nil before))

pub returns-in-Run-clause-stands : goal.returns-in-Run-clause-stands
returns-in-Run-clause-stands c text stands =
    let k = (goal.at.returns-in-Run-clause-stands c).After-take_piece in
    let said = c.in-Run.ensures in
    subst (λ (m : Mode). Stands (record { mode = m; place = c.self.inside.place + c.in-Run.taken; ends_run = true }) (text ++ take c.in-Run.taken c.args.rest.now))
    (sym said.2)
    (run_stands k c.in-Run.taken c.take_piece.new.token said.3.0 (omega (arith, said.0)) said.3.1 said.3.2 text stands).0

pub returns-in-Run-clause-handed : goal.returns-in-Run-clause-handed
returns-in-Run-clause-handed c text stands =
    let k = (goal.at.returns-in-Run-clause-handed c).After-take_piece in
    let said = c.in-Run.ensures in
    (run_stands k c.in-Run.taken c.take_piece.new.token said.3.0 (omega (arith, said.0)) said.3.1 said.3.2 text stands).1

-- it took a byte, or had not just returned a run
took_a_byte_or_no_run_ended : (ends : Bool) (taken : ℕ) → (ends ≡ true → 0 < taken) → (0 < taken) ⊎ ((ends ≡ false) × (true ≡ true))
took_a_byte_or_no_run_ended true taken took = inl (took refl)
took_a_byte_or_no_run_ended false taken took = inr (refl, refl)

pub returns-in-Run-clause-moves : goal.returns-in-Run-clause-moves
returns-in-Run-clause-moves c some =
    let k = (goal.at.returns-in-Run-clause-moves c).After-take_piece in
    let said = c.in-Run.ensures in
    let taken = c.in-Run.taken in
    let same = ap (λ (s : LexState). s.ends_run) c.self.view_is in
    took_a_byte_or_no_run_ended c.args.self.now.ends_run taken
    (λ ends. omega (arith, length-take taken c.args.rest.now, run_after_returned_run_took_a_byte k taken c.take_piece.new.token said.3.0 said.3.1 said.3.2 (same ∙ ends)))

pub returns-in-Sign-clause-stands : goal.returns-in-Sign-clause-stands
returns-in-Sign-clause-stands c text stands =
    let k = (goal.at.returns-in-Sign-clause-stands c).After-take_piece in
    let rest = c.args.rest.now in
    let said = c.in-Sign.ensures in
    let long = length-take c.in-Sign.taken rest in
    let some : 0 < length (take c.in-Sign.taken rest) = omega (arith, said.0, said.1) in
    subst (λ (m : Mode). Stands (record { mode = m; place = c.self.inside.place + c.in-Sign.taken; ends_run = false }) (text ++ take c.in-Sign.taken rest))
    (sym said.2)
    (stands_where_scanned Between (c.self.inside.place + c.in-Sign.taken) text (take c.in-Sign.taken rest) (handed c.args.self.now text ++ c.take_piece.new.token ∷ [])
    (length_with_prefix k c.in-Sign.taken said.1 text stands)
    (scan_of_text_and_prefix k c.in-Sign.taken Between (c.take_piece.new.token ∷ []) (λ _. some) said.3 text stands)
    tt)

pub returns-in-Sign-clause-handed : goal.returns-in-Sign-clause-handed
returns-in-Sign-clause-handed c text stands =
    let k = (goal.at.returns-in-Sign-clause-handed c).After-take_piece in
    let rest = c.args.rest.now in
    let said = c.in-Sign.ensures in
    let long = length-take c.in-Sign.taken rest in
    let some : 0 < length (take c.in-Sign.taken rest) = omega (arith, said.0, said.1) in
    ap (λ (r : Scanned). r.1) (scan_of_text_and_prefix k c.in-Sign.taken Between (c.take_piece.new.token ∷ []) (λ _. some) said.3 text stands)

-- the text followed by the whole piece is at fault
scanned_with_piece_is_fault : (c : After-take_piece) (at : ℕ) →
    scan c.self.inside.mode c.self.inside.place c.args.rest.now ≡ (Failed at, []) →
    (text : List ℕ) → Stands c.args.self.now text → scanned (text ++ c.args.rest.now) ≡ (Failed at, handed c.args.self.now text)
scanned_with_piece_is_fault c at scan_is text stands =
    let rest = c.args.rest.now in
    let whole : take (length rest) rest ≡ rest = take_all (length rest) rest (omega arith) in
    ap (λ (xs : List ℕ). scanned (text ++ xs)) (sym whole)
    ∙ scanned_with_whole_piece c (Failed at) scan_is text stands
    ∙ ap (λ (ts : List Token). (Failed at, ts)) (append-nil (handed c.args.self.now text))

pub returns-in-Fault-clause-fault : goal.returns-in-Fault-clause-fault
returns-in-Fault-clause-fault c text stands =
    let k = (goal.at.returns-in-Fault-clause-fault c).After-take_piece in
    scanned_with_piece_is_fault k c.in-Fault.at c.in-Fault.ensures.0 text stands

pub returns-in-Fault-clause-every : goal.returns-in-Fault-clause-every
returns-in-Fault-clause-every c text more stands =
    let k = (goal.at.returns-in-Fault-clause-every c).After-take_piece in
    fault_of_continued (text ++ c.args.rest.now) more c.in-Fault.at (handed c.args.self.now text)
    (scanned_with_piece_is_fault k c.in-Fault.at c.in-Fault.ensures.0 text stands)
