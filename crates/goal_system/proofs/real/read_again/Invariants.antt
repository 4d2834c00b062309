-- The interrupted tries read nothing.
use Rattle.std.specs.Io.KnownBytes.{Keeps}
use Rattle.goal_system.proofs.real.read_again.Given as goal

abbrev pub invariant-tries : goal.invariant-tries
invariant-tries g l = Keeps (g.T.Read.remaining l.initial.input) (g.T.Read.remaining l.input)
