use Rattle.std.proofs.Common.{⊎_elim, arith}
use Rattle.std.proofs.lemmas.Bool.{cases_eq}
use Rattle.goal_certify.proofs.races.rows.clear_rows.Goals as goal

pub loop-row-init : goal.loop-row-init
loop-row-init c r k few h = let low = c.requires.low r k few h in (omega arith, low.0, low.1)

pub loop-row-preserved : goal.loop-row-preserved
loop-row-preserved c r k few h =
    let was = c.clear_words.ensures r k few h in
    let low = c.loop-row.invariant r k few was.0 in
    ⊎_elim (λ same. let high = was.1 same in absurd (omega (arith, high, low.2))) (λ apart. (omega (arith, apart, low.0), low.1, low.2)) (cases_eq r c.loop-row.row)

pub returns : goal.returns
returns c r k few h = let low = c.loop-row.invariant r k few h in omega (arith, low.0, low.1)
