-- Tokens at the front of a piece, and a lexer that takes them.
use Rattle.std.proofs.Common.{◌≡◌, ℕ, ◌+◌, ◌<◌, ◌≤◌, Bool, true, false, List, ◌++◌, length, take, sym, ap, subst, ◌∙◌, arith, append_assoc, length-append}
use Rattle.std.proofs.lemmas.List.{length-take}
use Rattle.goal_lexer.specs.declared.tokens.Token.{Token}
use Rattle.goal_lexer.specs.declared.mode.Mode.{Mode}
use Rattle.goal_lexer.specs.declared.mode.Mode.TheVariants.{Between}
use Rattle.goal_lexer.specs.Scan.{Scanned, after_tokens, scan, scanned, closing, after_run, ended}
use Rattle.goal_lexer.specs.Sound.{IsRun}
use Rattle.goal_lexer.specs.State.{LexState}
use Rattle.goal_lexer.specs.Stands.{Stands, handed, so_far, begins_run}
use Rattle.goal_lexer.specs.Ahead.{IsAhead}
use Rattle.goal_lexer.proofs.StandsLaws.{scanned_of_continued, scanned_by_result, stands_where_scanned, begins_run-take}

-- the tokens are inside the piece
pub ahead_within : (place : ℕ) (piece : List ℕ) (n : ℕ) (e : Bool) (ts : List Token) → IsAhead place piece n e ts → n ≤ length piece
ahead_within place piece n false ts ahead = ahead.0
ahead_within place piece n true ts ahead = omega (arith, ahead.0)

-- the text continued by tokens, while nothing is open
stands_ahead : (place n : ℕ) (was e : Bool) (rest : List ℕ) (tokens : List Token) (text : List ℕ) →
    Stands (record { mode = Between; place = place; ends_run = was }) text → (was ≡ true → begins_run rest ≡ false) → 0 < n →
    IsAhead place rest n e tokens →
    Stands (record { mode = Between; place = place + n; ends_run = e }) (text ++ take n rest)
    × (handed (record { mode = Between; place = place + n; ends_run = e }) (text ++ take n rest) ≡ (so_far was text).1 ++ tokens)
stands_ahead place n was false rest tokens text stands apart some ahead =
    let front = take n rest in
    let before = (so_far was text).1 in
    let long = length-take n rest in
    let at : length (text ++ front) ≡ place + n = omega (arith, length-append text front, stands.place, ahead.0) in
    let went : scanned (text ++ front) ≡ (Between, before ++ tokens) =
    scanned_by_result Between Between place was text front tokens stands (λ is. begins_run-take n rest (apart is)) (λ _. omega (arith, ahead.0)) ahead.1 in
    (stands_where_scanned Between (place + n) text front (before ++ tokens) at went tt, ap (λ (r : Scanned). r.1) went)
stands_ahead place n was true rest tokens text stands apart some ahead =
    let front = take n rest in
    let before = (so_far was text).1 in
    let run = scan Between place front in
    let long = length-take n rest in
    let at : length (text ++ front) ≡ place + n = omega (arith, length-append text front, stands.place, ahead.0) in
    let went : scanned (text ++ front) ≡ after_tokens before run =
    scanned_of_continued Between place was text front stands (λ is. begins_run-take n rest (apart is)) (λ _. omega (arith, ahead.0)) in
    let over : ended (length (text ++ front)) (scanned (text ++ front)) ≡ (Between, before ++ tokens) =
    ap (ended (length (text ++ front))) went
    ∙ ap (λ (k : ℕ). ended k (after_tokens before run)) at
    ∙ ap (λ (ts : List Token). (after_run run.0, ts)) (append_assoc before run.1 (closing (place + n) run.0))
    ∙ ap (after_tokens before) ahead.3 in (
      record {
        place = at;
        open_there = ap (λ (r : Scanned). r.0) over;
        run_there = subst (λ (r : Scanned). IsRun r.0) (sym went) ahead.2;
        sound = tt;
      },
      ap (λ (r : Scanned). r.1) over,
    )

-- the same, with the lexer's state given by its parts
pub stands_ahead_by_parts : (mode : Mode) (place : ℕ) (was : Bool) (lexer : LexState) →
    ◌≡◌ {A = LexState} (record { mode = mode; place = place; ends_run = was }) lexer → lexer.mode ≡ Between →
    (n : ℕ) (rest : List ℕ) (e : Bool) (tokens : List Token) (text : List ℕ) →
    (lexer.ends_run ≡ true → begins_run rest ≡ false) → 0 < n → IsAhead lexer.place rest n e tokens → Stands lexer text →
    Stands (record { mode = mode; place = place + n; ends_run = e }) (text ++ take n rest)
    × (handed (record { mode = mode; place = place + n; ends_run = e }) (text ++ take n rest) ≡ handed lexer text ++ tokens)
stands_ahead_by_parts mode place was lexer view_is between n rest e tokens text apart some ahead stands =
    let same : mode ≡ Between = ap (λ (s : LexState). s.mode) view_is ∙ between in
    subst (λ (s : LexState). (s.ends_run ≡ true → begins_run rest ≡ false) → IsAhead s.place rest n e tokens → Stands s text →
    Stands (record { mode = mode; place = place + n; ends_run = e }) (text ++ take n rest)
    × (handed (record { mode = mode; place = place + n; ends_run = e }) (text ++ take n rest) ≡ handed s text ++ tokens)) view_is
    (subst (λ (m : Mode). (was ≡ true → begins_run rest ≡ false) → IsAhead place rest n e tokens →
    Stands (record { mode = m; place = place; ends_run = was }) text →
    Stands (record { mode = m; place = place + n; ends_run = e }) (text ++ take n rest)
    × (handed (record { mode = m; place = place + n; ends_run = e }) (text ++ take n rest) ≡ (so_far was text).1 ++ tokens)) (sym same)
    (λ was_apart is stood. stands_ahead place n was e rest tokens text stood was_apart some is))
    apart ahead stands
