use Rattle.std.proofs.Common.{ap, ◌∙◌}
use Rattle.goal_values.specs.Kept.{values}
use Rattle.goal_values.specs.Summed.{Summed}
use Rattle.goal_values.proofs.Keeping.{values_grown, sound_grown}
use Rattle.goal_values.proofs.values.SlotValues.sum_of.Goals as goal

pub invariant_of-self : goal.invariant_of-self
invariant_of-self c = sound_grown c.self.inside.what c.self.inside.ranks c.self.inside.segment c.self.inside.sums c.add.new.self c.self.inside.written c.self.inside.held c.self.invariant c.add.ensures.grown

pub returns-clause-values : goal.returns-clause-values
returns-clause-values c = values_grown c.self.inside.what c.self.inside.ranks c.self.inside.segment c.self.inside.sums c.add.new.self c.self.inside.written c.self.inside.held c.self.invariant c.add.ensures.grown ∙ ap (λ (u : Summed). values u.kept) c.self.view_is
