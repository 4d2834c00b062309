use Rattle.std.proofs.Common.{length, ap, arith}
use Rattle.std.proofs.lemmas.List.{length_push}
use Rattle.std.proofs.lemmas.List.Sums.{sum_by_more, sum_by_more_le}
use Rattle.sim_queue.proofs.Ranking.{starts_with_next_rank}
use Rattle.sim_queue.proofs.ranked_queue.starts_of.Goals as goal

pub overflow_add-next : goal.overflow_add-next
overflow_add-next c =
    omega (arith, sum_by_more_le (λ n. n) c.args.sizes.now c.ranks.size-index 0 c.ranks-test.true, c.ranks.invariant.next, c.requires)

pub ranks-preserved : goal.ranks-preserved
ranks-preserved c = record {
  each = omega (arith, ap length c.in_ok-push.ensures.items, length_push c.ranks.starts.items c.ranks.next, c.ranks.invariant.each);
  next = omega (arith, sum_by_more (λ n. n) c.args.sizes.now c.ranks.size-index 0 c.ranks-test.true, c.ranks.invariant.next);
  starts = starts_with_next_rank c.args.sizes.now c.ranks.starts.items c.push.new.self.items c.ranks.size-index c.ranks.next c.ranks.invariant.each c.ranks.invariant.next c.ranks.invariant.starts c.in_ok-push.ensures.items;
}
