use Rattle.std.proofs.Common.{◌≡◌, ◌+◌, ◌<◌, ◌≤◌, ◌∷◌, [], length, take, get_or, ◌∙◌, ap, refl, sym, arith}
use Rattle.std.proofs.lemmas.List.{take_all, drop_more}
use Rattle.goal_lexer.specs.declared.mode.Mode.{Mode}
use Rattle.goal_lexer.specs.Scan.{scan, next}
use Rattle.goal_lexer.specs.Stands.{begins_run}
use Rattle.goal_lexer.proofs.ScanLaws.{scan_next_byte, scan_fault, scan_sliced, sliced_within}
use Rattle.goal_lexer.proofs.WholeLaws.{run_in_piece}
use Rattle.goal_lexer.proofs.scanning.take_open_piece.Goals as goal
use Rattle.goal_lexer.proofs.scanning.take_open_piece.Goals.{After-take_byte}

-- the stretch before the byte ended no token
scan_of_stretch_ends_no_token : (c : After-take_byte) →
    scan c.args.mode.now c.args.place (take (c.loop-taken.taken + c.take_stretch-taken.result) c.args.piece.now)
    ≡ (c.take_stretch-taken.new.mode, [])
scan_of_stretch_ends_no_token c =
    let was = c.loop-taken.invariant in
    scan_sliced c.args.mode.now c.loop-taken.mode c.take_stretch-taken.new.mode c.args.place c.args.piece.now
    c.loop-taken.taken c.take_stretch-taken.result was.within was.quiet c.take_stretch-taken.ensures.quiet

-- the byte is in the piece
stretch_ends_within_piece : (c : After-take_byte) → c.loop-taken.taken + c.take_stretch-taken.result < length c.args.piece.now
stretch_ends_within_piece c =
    let fits = sliced_within c.args.piece.now c.loop-taken.taken c.take_stretch-taken.result c.loop-taken.invariant.within c.take_stretch-taken.ensures.within in
    omega (arith, c.if-taken-piece.false)

-- the scan of that byte
after_byte : (c : After-take_byte) →
    scan c.args.mode.now c.args.place (take (c.loop-taken.taken + c.take_stretch-taken.result + 1) c.args.piece.now)
    ≡ next c.take_stretch-taken.new.mode (c.args.place + (c.loop-taken.taken + c.take_stretch-taken.result))
    (get_or c.args.piece.now (c.loop-taken.taken + c.take_stretch-taken.result) 0)
after_byte c =
    scan_next_byte c.args.mode.now c.take_stretch-taken.new.mode c.args.place c.args.piece.now
    (c.loop-taken.taken + c.take_stretch-taken.result) (stretch_ends_within_piece c) (scan_of_stretch_ends_no_token c)

-- the stretch reaches the end of the piece
pub returns-then-taken-piece : goal.returns-then-taken-piece
returns-then-taken-piece c =
    let was = c.loop-taken.invariant in
    let piece = c.args.piece.now in
    let whole : take (c.loop-taken.taken + c.take_stretch-taken.result) piece ≡ piece = take_all (c.loop-taken.taken + c.take_stretch-taken.result) piece (omega (arith, c.if-taken-piece.true)) in (
      ap (scan c.args.mode.now c.args.place) (sym whole)
          ∙ scan_sliced c.args.mode.now c.loop-taken.mode c.take_stretch-taken.new.mode c.args.place piece
          c.loop-taken.taken c.take_stretch-taken.result was.within was.quiet c.take_stretch-taken.ensures.quiet,
      c.take_stretch-taken.ensures.sound,
    )

pub loop-taken-init : goal.loop-taken-init
unfolding scan
loop-taken-init c = record { within = omega arith; quiet = refl; sound = c.requires.sound }

pub loop-taken-preserved : goal.loop-taken-preserved
loop-taken-preserved c =
    let k = (goal.at.loop-taken-preserved c).After-take_byte in
    let fits = stretch_ends_within_piece k in
    record { within = omega arith; quiet = after_byte k ∙ c.in-Nothing.ensures.0; sound = c.in-Nothing.ensures.1 }

pub returns-in-Run : goal.returns-in-Run
returns-in-Run c =
    let k = (goal.at.returns-in-Run c).After-take_byte in
    let piece = c.args.piece.now in
    let taken = c.loop-taken.taken + c.take_stretch-taken.result in
    let said = c.in-Run.ensures in (
      stretch_ends_within_piece k,
      ap begins_run (drop_more piece taken 0 (stretch_ends_within_piece k)) ∙ said.0,
      said.2,
      (c.take_stretch-taken.new.mode, scan_of_stretch_ends_no_token k, said.1),
      said.3,
    )

pub returns-in-Sign : goal.returns-in-Sign
returns-in-Sign c =
    let k = (goal.at.returns-in-Sign c).After-take_byte in
    let fits = stretch_ends_within_piece k in
    let between = c.in-Sign.ensures.1 in (
      omega arith,
      omega arith,
      between,
      after_byte k ∙ c.in-Sign.ensures.0 ∙ ap (λ (m : Mode). (m, c.take_byte.new.token ∷ [])) between,
      omega (arith, c.in-Sign.ensures.2),
    )

pub returns-in-Fault : goal.returns-in-Fault
returns-in-Fault c =
    let k = (goal.at.returns-in-Fault c).After-take_byte in
    (scan_fault _ _ _ _ _ (after_byte k ∙ c.in-Fault.ensures.0), c.in-Fault.ensures.1)

pub returns-in-Some : goal.returns-in-Some
returns-in-Some c =
    let n = c.loop-taken.taken + c.take_stretch-taken.result in
    let piece = c.args.piece.now in
    let was = c.loop-taken.invariant in
    let fits : n ≤ length piece = sliced_within piece c.loop-taken.taken c.take_stretch-taken.result was.within c.take_stretch-taken.ensures.within in
    let quiet =
    scan_sliced c.args.mode.now c.loop-taken.mode c.take_stretch-taken.new.mode c.args.place piece c.loop-taken.taken c.take_stretch-taken.result
    was.within was.quiet c.take_stretch-taken.ensures.quiet in
    let found =
    run_in_piece c.args.mode.now c.args.place n c.in-Some.count piece c.whole_run.new.token fits
    (quiet ∙ ap (λ (m : Mode). (m, [])) c.in-Between.is) c.in-Some.ensures in
    (found.0, found.1, c.in-Between.is, found.2, found.3)
