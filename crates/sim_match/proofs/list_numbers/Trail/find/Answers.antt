use Rattle.std.proofs.Common.{ℕ, ◌≡◌, Some, sym, subst}
use Rattle.std.specs.Option.{IfSome}
use Rattle.sim_match.specs.Patterns.{number}
use Rattle.sim_match.proofs.list_numbers.Trail.find.Goals as goal

pub returns-in-Some : goal.returns-in-Some
returns-in-Some c =
    sym (subst (λ o. IfSome o (λ (place : ℕ). number c.args.patterns.now c.args.pattern ≡ Some place)) c.in-Some.is c.next.ensures)
