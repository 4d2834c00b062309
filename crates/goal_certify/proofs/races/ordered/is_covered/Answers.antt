use Rattle.std.proofs.Common.{ℕ, ◌≡◌, ◌+◌, ◌*◌, ◌/◌, ◌≤◌, ◌⊎◌, inl, inr, ⊎_elim, get_or, arith, w64}
use Rattle.std.specs.Prelude.{bit_and}
use Rattle.std.specs.Int.{bit_not, trailing_zeros}
use Rattle.std.proofs.lemmas.Bool.{cases_lt}
use Rattle.goal_certify.proofs.Rows.{covered_word}
use Rattle.goal_certify.proofs.races.ordered.is_covered.Goals.{else-alone-ne0-via-then-alone-ne0+else-place-alone, else-alone-ne0-via-else-alone-ne0}
use Rattle.goal_certify.proofs.races.ordered.is_covered.Goals as goal

pub loop-place-preserved : goal.loop-place-preserved
loop-place-preserved c k low near h =
    let place = c.loop-place.place in
    let these = c.args.others.now in
    let others = c.args.rows.now in
    let alone : ℕ = bit_and (get_or these (32 * c.args.other + place) 0) (bit_not w64 (get_or others (32 * c.args.row + place) 0)) in
    let none : (alone ≡ 0) ⊎ (c.args.row ≤ 64 * place + trailing_zeros w64 alone) = elim c.else-alone-ne0.branch [ else-alone-ne0-via-then-alone-ne0+else-place-alone w ↦ inr (omega (arith, w.if-place-alone.false)) | else-alone-ne0-via-else-alone-ne0 w ↦ inl (omega (arith, w.if-alone-ne0.false)) ] in
    ⊎_elim (λ before. c.loop-place.invariant k low before h) (λ here. covered_word these c.args.other others c.args.row place c.args.row (omega (arith, c.requires.few)) (omega (arith, c.type_inv.others (32 * c.args.other + place))) (omega (arith, c.type_inv.rows (32 * c.args.row + place))) none k low (omega (arith, near, here)) h) (cases_lt (k / 64) place)
