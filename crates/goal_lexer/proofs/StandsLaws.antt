-- A lexer that represents a text, and what it represents after more bytes.
use Rattle.std.proofs.Common.{zero, suc, ◌≡◌, ℕ, ◌+◌, ◌<◌, ◌≤◌, Bool, true, false, List, [], ◌∷◌, ◌++◌, length, take, Option, Some, None, refl, sym, ap, subst, ◌∙◌, arith, append_assoc, length-append}
use Rattle.std.proofs.lemmas.List.{append-nil, length-take}
use Rattle.goal_lexer.specs.declared.tokens.Token.{Token}
use Rattle.goal_lexer.specs.declared.mode.Mode.{Mode}
use Rattle.goal_lexer.specs.declared.mode.Mode.TheVariants.{Between, Run, Slash, LineComment, BlockComment, Failed}
use Rattle.goal_lexer.specs.Bytes.{is_run_byte}
use Rattle.goal_lexer.specs.Scan.{Scanned, after_tokens, next, scan, scanned, closing, after_run, ended, fault_at_end, lexed}
use Rattle.goal_lexer.specs.Sound.{IsSound, IsRun}
use Rattle.goal_lexer.specs.State.{LexState}
use Rattle.goal_lexer.specs.Stands.{Stands, handed, so_far, begins_run}
use Rattle.goal_lexer.proofs.ScanLaws.{scan-append, scan_failed}

-- a text and its continuation
pub scanned-append : (text xs : List ℕ) →
    scanned (text ++ xs) ≡ after_tokens (scanned text).1 (scan (scanned text).0 (length text) xs)
scanned-append text xs =
    let same : 0 + length text ≡ length text = omega arith in
    scan-append Between 0 text xs
    ∙ ap (λ (p : ℕ). after_tokens (scanned text).1 (scan (scanned text).0 p xs)) same

-- a byte that is no run byte ends the run, and is then taken as if nothing were open
next_past_run : (mode : Mode) (place c : ℕ) → IsRun mode → is_run_byte c ≡ false →
    next mode place c ≡ after_tokens (closing place mode) (next (after_run mode) place c)
next_past_run (Run start bytes form) place c run apart = rw apart
next_past_run Between place c run apart = absurd run
next_past_run (Slash start) place c run apart = absurd run
next_past_run (LineComment start) place c run apart = absurd run
next_past_run (BlockComment start closes) place c run apart = absurd run
next_past_run (Failed at) place c run apart = absurd run

pub scan_past_run : (mode : Mode) (place c : ℕ) (cs : List ℕ) → IsRun mode → is_run_byte c ≡ false →
    scan mode place (c ∷ cs) ≡ after_tokens (closing place mode) (scan (after_run mode) place (c ∷ cs))
unfolding scan
scan_past_run mode place c cs run apart =
    let made = next (after_run mode) place c in
    let rest = scan made.0 (place + 1) cs in
    ap (λ (r : Scanned). after_tokens r.1 (scan r.0 (place + 1) cs)) (next_past_run mode place c run apart)
    ∙ ap (λ (ts : List Token). (rest.0, ts)) (append_assoc (closing place mode) made.1 rest.1)

-- the scan of a continued text is the lexer's scan of the bytes that continue it
pub scanned_of_continued : (mode : Mode) (place : ℕ) (ends : Bool) (text xs : List ℕ) →
    Stands (record { mode = mode; place = place; ends_run = ends }) text →
    (ends ≡ true → begins_run xs ≡ false) → (ends ≡ true → 0 < length xs) →
    scanned (text ++ xs) ≡ after_tokens (so_far ends text).1 (scan mode place xs)
scanned_of_continued mode place false text xs stands apart some =
    scanned-append text xs
    ∙ ap (λ (m : Mode). after_tokens (scanned text).1 (scan m (length text) xs)) stands.open_there
    ∙ ap (λ (p : ℕ). after_tokens (scanned text).1 (scan mode p xs)) stands.place
scanned_of_continued mode place true text [] stands apart some = absurd (omega (arith, some refl))
scanned_of_continued mode place true text (c ∷ cs) stands apart some =
    let open_mode = (scanned text).0 in
    let before = (scanned text).1 in
    let tokens = closing (length text) open_mode in
    let rest = scan (after_run open_mode) (length text) (c ∷ cs) in
    scanned-append text (c ∷ cs)
    ∙ ap (after_tokens before) (scan_past_run open_mode (length text) c cs stands.run_there (apart refl))
    ∙ ap (λ (ts : List Token). (rest.0, ts)) (sym (append_assoc before tokens rest.1))
    ∙ ap (λ (m : Mode). after_tokens (before ++ tokens) (scan m (length text) (c ∷ cs))) stands.open_there
    ∙ ap (λ (p : ℕ). after_tokens (before ++ tokens) (scan mode p (c ∷ cs))) stands.place

-- the scan of a continued text, where the lexer's scan of the continuation is known
pub scanned_by_result : (mode new : Mode) (place : ℕ) (ends : Bool) (text xs : List ℕ) (tokens : List Token) →
    Stands (record { mode = mode; place = place; ends_run = ends }) text →
    (ends ≡ true → begins_run xs ≡ false) → (ends ≡ true → 0 < length xs) →
    scan mode place xs ≡ (new, tokens) → scanned (text ++ xs) ≡ (new, (so_far ends text).1 ++ tokens)
scanned_by_result mode new place ends text xs tokens stands apart some scan_is =
    scanned_of_continued mode place ends text xs stands apart some ∙ ap (after_tokens (so_far ends text).1) scan_is

-- no run was returned: the lexer keeps what is open
pub stands_where_scanned : (new : Mode) (place : ℕ) (text xs : List ℕ) (tokens : List Token) → length (text ++ xs) ≡ place →
    scanned (text ++ xs) ≡ (new, tokens) → IsSound new →
    Stands (record { mode = new; place = place; ends_run = false }) (text ++ xs)
stands_where_scanned new place text xs tokens at_place scan_is sound =
    record { place = at_place; open_there = ap (λ (r : Scanned). r.0) scan_is; run_there = tt; sound = sound }

-- what the token of a run says of what was open
pub run_by_closing : (mode : Mode) (place : ℕ) (token : Token) → closing place mode ≡ token ∷ [] →
    (after_run mode ≡ Between) × IsRun mode
run_by_closing (Run start bytes form) place token some = (refl, tt)
run_by_closing Between place token some = cc
run_by_closing (Slash start) place token some = cc
run_by_closing (LineComment start) place token some = cc
run_by_closing (BlockComment start closes) place token some = cc
run_by_closing (Failed at) place token some = cc

-- a run was returned: nothing is open
pub stands_past_run : (run : Mode) (place : ℕ) (text xs : List ℕ) (tokens : List Token) (token : Token) →
    length (text ++ xs) ≡ place → scanned (text ++ xs) ≡ (run, tokens) → closing place run ≡ token ∷ [] →
    Stands (record { mode = Between; place = place; ends_run = true }) (text ++ xs)
    × (handed (record { mode = Between; place = place; ends_run = true }) (text ++ xs) ≡ tokens ++ token ∷ [])
stands_past_run run place text xs tokens token at_place scan_is closing_is =
    let known = run_by_closing run place token closing_is in (
      record {
        place = at_place;
        open_there = ap (λ (r : Scanned). after_run r.0) scan_is ∙ known.0;
        run_there = subst (λ (r : Scanned). IsRun r.0) (sym scan_is) known.1;
        sound = tt;
      },
      ap (λ (r : Scanned). (ended (length (text ++ xs)) r).1) scan_is
          ∙ ap (λ (p : ℕ). tokens ++ closing p run) at_place
          ∙ ap (λ (ts : List Token). tokens ++ ts) closing_is,
    )

-- a run that ends before a byte is taken was open
pub run_was_open : (mode run : Mode) (place at : ℕ) (xs : List ℕ) (token : Token) → scan mode place xs ≡ (run, []) →
    closing at run ≡ token ∷ [] → mode ≡ Between → 0 < length xs
unfolding scan
run_was_open mode run place at [] token scan_is closing_is between =
    let run_is : Between ≡ run = sym between ∙ ap (λ (r : Scanned). r.0) scan_is in
    let none : [] ≡ token ∷ [] = ap (closing at) run_is ∙ closing_is in
    cc
run_was_open mode run place at (x ∷ xs) token scan_is closing_is between = omega arith

-- a prefix of a piece
pub begins_run-take : (n : ℕ) (xs : List ℕ) → begins_run xs ≡ false → begins_run (take n xs) ≡ false
begins_run-take zero xs apart = refl
begins_run-take (suc n) [] apart = refl
begins_run-take (suc n) (x ∷ xs) apart = apart

-- the fault of a text is that of each text that begins with it
pub fault_of_continued : (text more : List ℕ) (at : ℕ) (tokens : List Token) → scanned text ≡ (Failed at, tokens) →
    lexed (text ++ more) ≡ (tokens, Some at)
fault_of_continued text more at tokens scan_is =
    let whole : scanned (text ++ more) ≡ (Failed at, tokens) =
    scanned-append text more
    ∙ ap (λ (r : Scanned). after_tokens r.1 (scan r.0 (length text) more)) scan_is
    ∙ ap (after_tokens tokens) (scan_failed at (length text) more)
    ∙ ap (λ (ts : List Token). (Failed at, ts)) (append-nil tokens) in
    ap (λ (r : Scanned). (r.1 ++ closing (length (text ++ more)) r.0, fault_at_end r.0)) whole
    ∙ ap (λ (ts : List Token). (ts, Some at)) (append-nil tokens)

-- nothing is at fault after a run
pub no_fault_in_run : (mode : Mode) → IsRun mode → (after_run mode ≡ Between) × (fault_at_end mode ≡ None)
no_fault_in_run (Run start bytes form) run = (refl, refl)
no_fault_in_run Between run = absurd run
no_fault_in_run (Slash start) run = absurd run
no_fault_in_run (LineComment start) run = absurd run
no_fault_in_run (BlockComment start closes) run = absurd run
no_fault_in_run (Failed at) run = absurd run

-- what the lexer returns at the end of the text
pub lexed_at_end : (mode : Mode) (place : ℕ) (ends : Bool) (text : List ℕ) →
    Stands (record { mode = mode; place = place; ends_run = ends }) text →
    lexed text ≡ ((so_far ends text).1 ++ closing place mode, fault_at_end mode)
lexed_at_end mode place false text stands =
    ap (λ (m : Mode). ((scanned text).1 ++ closing (length text) m, fault_at_end m)) stands.open_there
    ∙ ap (λ (p : ℕ). ((scanned text).1 ++ closing p mode, fault_at_end mode)) stands.place
lexed_at_end mode place true text stands =
    let handed_out = (so_far true text).1 in
    let known = no_fault_in_run (scanned text).0 stands.run_there in
    let between : Between ≡ mode = sym known.0 ∙ stands.open_there in
    ap (λ (o : Option ℕ). (handed_out, o)) known.1
    ∙ ap (λ (ts : List Token). (ts, None)) (sym (append-nil handed_out))
    ∙ ap (λ (m : Mode). (handed_out ++ closing place m, fault_at_end m)) between

-- the same for a prefix of a piece, with the lexer's state given by its parts
pub scan_of_continuation_by_parts : (mode new : Mode) (place : ℕ) (ends : Bool) (lexer : LexState) →
    ◌≡◌ {A = LexState} (record { mode = mode; place = place; ends_run = ends }) lexer →
    (n : ℕ) (rest : List ℕ) (tokens : List Token) → (lexer.ends_run ≡ true → begins_run rest ≡ false) →
    (ends ≡ true → 0 < length (take n rest)) → scan mode place (take n rest) ≡ (new, tokens) →
    (text : List ℕ) → Stands lexer text → scanned (text ++ take n rest) ≡ (new, handed lexer text ++ tokens)
scan_of_continuation_by_parts mode new place ends lexer view_is n rest tokens apart some scan_is text stands =
    subst (λ (s : LexState). (s.ends_run ≡ true → begins_run rest ≡ false) → Stands s text →
    scanned (text ++ take n rest) ≡ (new, handed s text ++ tokens)) view_is
    (λ was_apart stood. scanned_by_result mode new place ends text (take n rest) tokens stood (λ e. begins_run-take n rest (was_apart e)) some scan_is)
    apart stands

-- the length of the text grows by the bytes taken
pub place_after_continuation : (mode : Mode) (place : ℕ) (ends : Bool) (lexer : LexState) →
    ◌≡◌ {A = LexState} (record { mode = mode; place = place; ends_run = ends }) lexer →
    (n : ℕ) (rest text : List ℕ) → n ≤ length rest → Stands lexer text → length (text ++ take n rest) ≡ place + n
place_after_continuation mode place ends lexer view_is n rest text within stands =
    let same : place ≡ lexer.place = ap (λ (s : LexState). s.place) view_is in
    let known = stands.place in
    omega (arith, length-append text (take n rest), length-take n rest)
