use Rattle.std.proofs.Common.{arith, ap, ⊎_elim}
use Rattle.std.proofs.lemmas.Bool.{cases_lt}
use Rattle.goal_blocks.specs.Stored.{Kept}
use Rattle.goal_blocks.proofs.Wishes.{wanted_past}
use Rattle.goal_blocks.proofs.store.Store.first_wrong.Goals as goal

pub returns-clause-right : goal.returns-clause-right
returns-clause-right c = λ rank slot.
    let ranks = ap (λ (t : Kept). t.ranks) c.self.view_is in
    ⊎_elim (λ l. c.loop-rank.invariant rank slot (omega (arith, l, c.loop-rank-test.false, ranks))) (λ m. wanted_past _ _ _ _ _ m) (cases_lt rank c.args.self.now.ranks)
