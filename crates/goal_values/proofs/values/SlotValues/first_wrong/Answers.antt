use Rattle.std.proofs.Common.{arith, ap, ⊎_elim}
use Rattle.std.proofs.lemmas.Bool.{cases_lt}
use Rattle.goal_values.specs.Summed.{Summed}
use Rattle.goal_blocks.proofs.ForCallers.{wanted_past}
use Rattle.goal_values.proofs.values.SlotValues.first_wrong.Goals as goal

pub returns : goal.returns
returns c = λ rank slot.
    let ranks = ap (λ (t : Summed). t.kept.ranks) c.self.view_is in
    ⊎_elim (λ l. c.loop-rank.invariant rank slot (omega (arith, l, c.loop-rank-test.false, ranks))) (λ m. wanted_past _ _ _ _ _ m) (cases_lt rank c.args.self.now.kept.ranks)
