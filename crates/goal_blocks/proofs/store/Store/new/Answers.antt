use Rattle.goal_blocks.proofs.StoreFacts.{values_empty, sound_empty}
use Rattle.goal_blocks.proofs.store.Store.new.Goals as goal

pub invariant_of-result : goal.invariant_of-result
invariant_of-result c = sound_empty c.args.what c.args.ranks c.new.result c.initial_size.result c.new.ensures.empty c.requires.few c.initial_size.ensures

pub returns-clause-values : goal.returns-clause-values
returns-clause-values c = values_empty c.args.what c.args.ranks c.new.result c.new.ensures.empty
