use Rattle.std.proofs.Common.{◌≡◌, map, take}
use Rattle.sim_queue.specs.Ranked.{size_of}
use Rattle.sim_queue.proofs.ranked_queue.sizes_of.Given as goal

abbrev pub invariant-ranks : goal.invariant-ranks
invariant-ranks l = l.sizes.items ≡ map size_of (take l.rank l.sched)
