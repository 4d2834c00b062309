use Rattle.std.proofs.Common.{◌≡◌, [], take, sym, subst}
use Rattle.goal_lexer.specs.declared.mode.Mode.{Mode}
use Rattle.goal_lexer.specs.Bytes.{is_blank}
use Rattle.goal_lexer.specs.Scan.{scan}
use Rattle.goal_lexer.proofs.StretchLaws.{Each-take, scan_blanks}
use Rattle.goal_lexer.proofs.stretches.take_stretch.Goals as goal

pub returns-in-Between-clause-quiet : goal.returns-in-Between-clause-quiet
returns-in-Between-clause-quiet c place =
    let bytes = c.args.bytes.now in
    let n = c.count_blanks.result in
    subst (λ (m : Mode). scan m place (take n bytes) ≡ (m, [])) (sym c.in-Between.is)
    (scan_blanks place (take n bytes) (Each-take is_blank n bytes c.count_blanks.ensures.each c.count_blanks.ensures.within))
