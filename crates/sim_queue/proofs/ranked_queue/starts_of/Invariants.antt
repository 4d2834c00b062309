use Rattle.std.proofs.Common.{◌≡◌, ◌<◌, ℕ, length, slice_index, sum, take}
use Rattle.sim_queue.proofs.ranked_queue.starts_of.Given as goal

abbrev pub invariant-ranks : goal.invariant-ranks
invariant-ranks l = record {
  each : length l.starts.items ≡ l.size-index;
  next : l.next ≡ sum (take l.size-index l.sizes);
  starts : (rank : ℕ) → rank < l.size-index → slice_index l.starts.items rank ≡ sum (take rank l.sizes);
}
