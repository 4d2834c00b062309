use Rattle.goal_blocks.proofs.Writes.{ok_write_of_only_value}
use Rattle.goal_blocks.specs.Stored.{values}
use Rattle.goal_blocks.proofs.store.Store.write_one.Goals as goal

pub returns-clause-written : goal.returns-clause-written
returns-clause-written c =
    ok_write_of_only_value c.put.result c.args.rank c.args.slot c.args.list.items c.pop.new.self.items c.in-Some.value (values c.args.self.now) (values c.put.new.self) c.in-Some.ensures.items c.requires.one c.put.ensures.set
