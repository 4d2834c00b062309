use Rattle.std.proofs.Common.{◌≡◌}
use Rattle.goal_blocks.specs.Entries.{made_by}
use Rattle.goal_blocks.proofs.steps.plans_of.Given as goal

abbrev pub invariant-loop-rank : goal.invariant-loop-rank
invariant-loop-rank g l =
    l.plans.items ≡ made_by l.rank (g.F.Formula.op_count l.fn.formula) (g.F.Formula.entry_at l.fn.formula)
