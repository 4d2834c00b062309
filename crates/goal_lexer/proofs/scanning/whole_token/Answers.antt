use Rattle.std.proofs.Common.{◌≡◌, ◌<◌, [], length, take, ◌∙◌, ap, refl, sym, arith}
use Rattle.std.proofs.lemmas.List.{take_all}
use Rattle.goal_lexer.specs.declared.mode.Mode.TheVariants.{Between}
use Rattle.goal_lexer.specs.Bytes.{is_blank}
use Rattle.goal_lexer.specs.Scan.{scan}
use Rattle.goal_lexer.proofs.StretchLaws.{Each-take, scan_blanks}
use Rattle.goal_lexer.proofs.WholeLaws.{run_in_piece, sign_in_piece}
use Rattle.goal_lexer.proofs.scanning.whole_token.Goals as goal
use Rattle.goal_lexer.proofs.scanning.whole_token.Goals.{After-count_blanks-blanks}

-- the blanks end no token, and leave nothing open
blanks_only : (c : After-count_blanks-blanks) →
    scan Between c.args.place (take c.count_blanks-blanks.result c.args.piece.now) ≡ (Between, [])
blanks_only c =
    let said = c.count_blanks-blanks.ensures in
    scan_blanks c.args.place (take c.count_blanks-blanks.result c.args.piece.now)
    (Each-take is_blank c.count_blanks-blanks.result c.args.piece.now said.each said.within)

pub returns-then-blanks-piece : goal.returns-then-blanks-piece
returns-then-blanks-piece c =
    let k = (goal.at.returns-then-blanks-piece c).After-count_blanks-blanks in
    let piece = c.args.piece.now in
    let whole : take c.count_blanks-blanks.result piece ≡ piece = take_all c.count_blanks-blanks.result piece (omega (arith, c.if-blanks-piece.true)) in
    (ap (scan Between c.args.place) (sym whole) ∙ blanks_only k, tt)

pub returns-in-Some : goal.returns-in-Some
returns-in-Some c =
    let k = (goal.at.returns-in-Some c).After-count_blanks-blanks in
    let found =
    run_in_piece Between c.args.place c.count_blanks-blanks.result c.in-Some.count c.args.piece.now c.whole_run.new.token
    c.count_blanks-blanks.ensures.within (blanks_only k) c.in-Some.ensures in
    (found.0, found.1, refl, found.2, found.3)

pub returns : goal.returns
returns c =
    let k = (goal.at.returns c).After-count_blanks-blanks in
    let inside : c.count_blanks-blanks.result < length c.args.piece.now = omega (arith, c.if-blanks-piece.false, c.count_blanks-blanks.ensures.within) in (
      omega arith,
      omega arith,
      refl,
      sign_in_piece c.args.place c.count_blanks-blanks.result c.args.piece.now c.sign_kind.new.kind inside (blanks_only k)
          (c.sign_kind.ensures.sign c.if-not-sign_kind.false),
      omega arith,
    )
