use Rattle.std.proofs.Common.{length, sym, ap, ◌∙◌, subst}
use Rattle.goal_values.specs.Sums.{meaning, IsBelow}
use Rattle.goal_values.proofs.SumValues.{size_of_value}
use Rattle.goal_values.proofs.sums.Sums.size.Goals as goal

pub returns-in-Made : goal.returns-in-Made
returns-in-Made c =
    size_of_value c.self.inside.list.items c.self.invariant c.args.self.now c.self.view_is c.in-Made.number c.index.result.now c.index.ensures (subst (IsBelow _) c.in-Made.is c.requires)
    ∙ ap (λ t. length (meaning c.args.self.now t)) (sym c.in-Made.is)
