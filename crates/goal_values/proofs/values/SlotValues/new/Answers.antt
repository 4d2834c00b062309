use Rattle.goal_values.proofs.Keeping.{values_empty, sound_empty}
use Rattle.goal_values.proofs.values.SlotValues.new.Goals as goal

pub invariant_of-result : goal.invariant_of-result
invariant_of-result c = sound_empty c.args.what c.args.ranks c.args.segment c.new.result c.new.ensures c.new-2.result c.initial_size.result c.requires.few c.requires.fits c.initial_size.ensures

pub returns-clause-values : goal.returns-clause-values
returns-clause-values c = values_empty c.args.what c.args.ranks c.args.segment c.new.result c.new.ensures c.new-2.result
