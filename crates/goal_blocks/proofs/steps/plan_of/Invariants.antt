use Rattle.std.proofs.Common.{◌≡◌}
use Rattle.goal_blocks.specs.Entries.{plan_by}
use Rattle.goal_blocks.proofs.steps.plan_of.Given as goal

abbrev pub invariant-loop-number : goal.invariant-loop-number
invariant-loop-number g l = record {
  ops : l.ops.items ≡ (plan_by l.number (g.F.Formula.entry_at l.fn.formula l.fn.rank)).ops;
  deps : l.deps.items ≡ (plan_by l.number (g.F.Formula.entry_at l.fn.formula l.fn.rank)).deps;
  notes : l.notes.items ≡ (plan_by l.number (g.F.Formula.entry_at l.fn.formula l.fn.rank)).notes;
}
