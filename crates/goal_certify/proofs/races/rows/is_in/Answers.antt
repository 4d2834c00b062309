use Rattle.std.proofs.Common.{ap, eqb}
use Rattle.std.proofs.lemmas.Nat.Bits.{shr_and_one}
use Rattle.goal_certify.specs.Rows.{has}
use Rattle.goal_certify.proofs.races.rows.is_in.Goals as goal

pub returns : goal.returns
unfolding has
returns c = ap (λ b. eqb b 1) (shr_and_one _ _)
