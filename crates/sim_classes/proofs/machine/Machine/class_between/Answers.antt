use Rattle.std.proofs.Common.{sym, ◌∙◌}
use Rattle.sim_classes.proofs.machine.Machine.class_between.Goals as goal

pub returns-in-Some-clause-within : goal.returns-in-Some-clause-within
returns-in-Some-clause-within c = c.args.self.now.whole.pair_classes c.args.a c.args.b c.in-Some.class (sym c.class.ensures ∙ c.in-Some.is)
