use Rattle.std.proofs.Common.{◌≡◌, map, sum, take}
use Rattle.sim_stations.specs.Parts.{room_of, ArePacked, AreWithoutKeys}
use Rattle.sim_stations.proofs.parts.parts.Given as goal

abbrev pub invariant-groups : goal.invariant-groups
invariant-groups l = record {
  packed : ArePacked l.parts.items l.end;
  rooms : map room_of l.parts.items ≡ take l.count-index l.counts;
  none : AreWithoutKeys l.parts.items;
  all : l.end ≡ sum (take l.count-index l.counts);
}
