use Rattle.std.proofs.Common.{rules}
use Rattle.std.proofs.lemmas.List.Sorted.{IsPartitionPoint-from_clause}
use Rattle.sim_cycles.proofs.PlaceSearch.{is_earlier, partitioned_by_earlier, partition_point_is_place}
use Rattle.sim_cycles.proofs.targets.place.Goals as goal

pub returns-clause-inside : goal.returns-clause-inside
returns-clause-inside c =
    let xs = c.args.list.now in
    let point = IsPartitionPoint-from_clause (is_earlier c.args.id) xs c.partition_point.result c.partition_point.ensures.partitioned (partitioned_by_earlier xs c.args.id c.requires.order) (λ a r q k. search rules) in
    (partition_point_is_place xs c.args.id c.partition_point.result c.requires.order c.requires.listed point).0

pub returns-clause-there : goal.returns-clause-there
returns-clause-there c =
    let xs = c.args.list.now in
    let point = IsPartitionPoint-from_clause (is_earlier c.args.id) xs c.partition_point.result c.partition_point.ensures.partitioned (partitioned_by_earlier xs c.args.id c.requires.order) (λ a r q k. search rules) in
    (partition_point_is_place xs c.args.id c.partition_point.result c.requires.order c.requires.listed point).1
