use Rattle.std.proofs.Common.{◌≡◌, [], Bool, take, refl, sym, ap, subst, ◌∙◌}
use Rattle.goal_lexer.specs.declared.mode.Mode.{Mode}
use Rattle.goal_lexer.specs.declared.mode.Mode.TheVariants.{BlockComment}
use Rattle.goal_lexer.specs.Bytes.{star, line_feed}
use Rattle.goal_lexer.specs.Scan.{scan}
use Rattle.goal_lexer.proofs.StretchLaws.{Each-take, differs, differs_if_not_equal, scan_in_line, scan_before_star}
use Rattle.goal_lexer.proofs.stretches.take_open_stretch.Goals as goal

pub returns-in-LineComment-clause-quiet : goal.returns-in-LineComment-clause-quiet
returns-in-LineComment-clause-quiet c place =
    let bytes = c.args.bytes.now in
    let n = c.count_in_line.result in
    subst (λ (m : Mode). scan m place (take n bytes) ≡ (m, [])) (sym c.in-LineComment.is)
    (scan_in_line c.in-LineComment.start place (take n bytes)
    (Each-take (differs line_feed) n bytes (λ k below. differs_if_not_equal line_feed _ (c.count_in_line.ensures.each k below)) c.count_in_line.ensures.within))

pub returns-then-closes-clause-quiet : goal.returns-then-closes-clause-quiet
unfolding scan
returns-then-closes-clause-quiet c place = ap (λ (m : Mode). (m, [])) c.in-BlockComment.is

pub returns-else-closes-clause-quiet : goal.returns-else-closes-clause-quiet
returns-else-closes-clause-quiet c place =
    let bytes = c.args.bytes.now in
    let n = c.count_before_star.result in
    let start = c.in-BlockComment.start in
    let said = c.count_before_star.ensures in
    ap (λ (m : Mode). scan m place (take n bytes)) c.in-BlockComment.is
    ∙ subst (λ (b : Bool). scan (BlockComment start b) place (take n bytes) ≡ (BlockComment start b, [])) (sym c.if-closes.false)
    (scan_before_star start place (take n bytes)
    (Each-take (differs star) n bytes (λ k below. differs_if_not_equal star _ (said.each k below)) said.within))

pub returns-in-Between-clause-quiet : goal.returns-in-Between-clause-quiet
unfolding scan
returns-in-Between-clause-quiet c place = refl

pub returns-in-Between-2-clause-quiet : goal.returns-in-Between-2-clause-quiet
unfolding scan
returns-in-Between-2-clause-quiet c place = refl
