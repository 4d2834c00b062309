-- The interrupted tries wrote nothing.
use Rattle.std.specs.Io.KnownBytes.{Keeps}
use Rattle.goal_system.proofs.real.write_again.Given as goal

abbrev pub invariant-tries : goal.invariant-tries
invariant-tries g l = Keeps (g.T.Write.contents l.initial.output) (g.T.Write.contents l.output)
