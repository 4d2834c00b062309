use Rattle.std.proofs.Common.{◌≡◌, map, take}
use Rattle.sim_queue.specs.Map.{no_keys}
use Rattle.sim_queue.proofs.ranked_queue.heaps.Given as goal

abbrev pub invariant-ranks : goal.invariant-ranks
invariant-ranks g l = l.heaps.items ≡ map no_keys (take l.size-index l.sizes)
