use Rattle.std.proofs.Common.{◌≡◌, ℕ, ◌≤◌, List, [], length, take, refl, sym, ap, subst, ◌∙◌, arith}
use Rattle.std.proofs.lemmas.List.{length-take}
use Rattle.goal_lexer.specs.declared.mode.Form.{Form}
use Rattle.goal_lexer.specs.declared.mode.Form.TheVariants.{Word, Digits}
use Rattle.goal_lexer.specs.declared.mode.Mode.TheVariants.{Run}
use Rattle.goal_lexer.specs.Bytes.{is_digit, is_run_byte}
use Rattle.goal_lexer.specs.Scan.{scan}
use Rattle.goal_lexer.proofs.StretchLaws.{Each-take, scan_word, scan_digits}
use Rattle.goal_lexer.proofs.stretches.extend_run.Goals as goal

pub returns-in-Word-clause-quiet : goal.returns-in-Word-clause-quiet
returns-in-Word-clause-quiet c start place =
    let bytes = c.args.bytes.now in
    let old = c.args.run.now in
    let n = c.extend_word.result in
    let said = c.extend_word.ensures in
    subst (λ (f : Form). scan (Run start old f) place (take n bytes) ≡ (Run start c.extend_word.new.word f, [])) (sym c.in-Word.is)
    (scan_word start place old (take n bytes) (Each-take is_run_byte n bytes said.each said.within)
    (λ some. subst (λ (t : List ℕ). length t ≤ 64) said.word (said.most (omega (arith, some, length-take n bytes))))
    ∙ ap (λ (t : List ℕ). (Run start t Word, [])) (sym said.word))

pub returns-in-Digits-clause-quiet : goal.returns-in-Digits-clause-quiet
returns-in-Digits-clause-quiet c start place =
    let bytes = c.args.bytes.now in
    let old = c.args.run.now in
    let n = c.extend_digits.result in
    let said = c.extend_digits.ensures in
    subst (λ (f : Form). scan (Run start old f) place (take n bytes) ≡ (Run start c.extend_digits.new.digits f, [])) (sym c.in-Digits.is)
    (scan_digits start place old (take n bytes) (Each-take is_digit n bytes said.each said.within)
    (λ some. subst (λ (t : List ℕ). length t ≤ 64) said.digits (said.most (omega (arith, some, length-take n bytes))))
    ∙ ap (λ (t : List ℕ). (Run start t Digits, [])) (sym said.digits))

pub returns-in-Sized-clause-quiet : goal.returns-in-Sized-clause-quiet
unfolding scan
returns-in-Sized-clause-quiet c start place = refl
