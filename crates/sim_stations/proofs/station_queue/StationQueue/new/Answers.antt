use Rattle.std.proofs.Common.{rules}
use Rattle.sim_stations.proofs.QueueNew.{new_kept, new_view, new_returned}
use Rattle.sim_stations.proofs.station_queue.StationQueue.new.Goals as goal

pub invariant_of-result : goal.invariant_of-result
invariant_of-result c = (new_kept c.args.numbers.now c.args.pairs.now c.args.resources c.requires.few_stations c.requires.few_resources c.requires.within c.requires.exist c.in_ok-new.field-0 c.in_ok-new-2.field-0 c.in_ok-new-3.field-0 c.in_ok-vec.field-0.items c.in_ok-new.ensures c.in_ok-new-2.ensures c.in_ok-new-3.ensures (c.in_ok-vec.ensures.items_if_clones_equal (search rules)), tt)

pub returns-clause-queue : goal.returns-clause-queue
returns-clause-queue c = new_view c.args.numbers.now c.args.pairs.now c.args.resources c.requires.few_stations c.requires.few_resources c.requires.within c.requires.exist c.in_ok-new.field-0 c.in_ok-new-2.field-0 c.in_ok-new-3.field-0 c.in_ok-vec.field-0.items c.in_ok-new.ensures c.in_ok-new-2.ensures c.in_ok-new-3.ensures (c.in_ok-vec.ensures.items_if_clones_equal (search rules))

pub returns-clause-returned : goal.returns-clause-returned
returns-clause-returned c = new_returned c.args.numbers.now c.args.pairs.now c.args.resources c.requires.few_stations c.requires.few_resources c.requires.within c.requires.exist c.in_ok-new.field-0 c.in_ok-new-2.field-0 c.in_ok-new-3.field-0 c.in_ok-vec.field-0.items c.in_ok-new.ensures c.in_ok-new-2.ensures c.in_ok-new-3.ensures (c.in_ok-vec.ensures.items_if_clones_equal (search rules))
