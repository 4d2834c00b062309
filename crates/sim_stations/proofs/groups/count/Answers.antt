use Rattle.std.proofs.Common.{◌≡◌, ◌<◌, ◌≤◌, ◌+◌, length, get_or, slice_index, arith}
use Rattle.std.proofs.lemmas.List.Elements.{All-get_or, All-from_get_or}
use Rattle.std.proofs.lemmas.List.Sums.{sum_by-le, sum_by-set}
use Rattle.sim_stations.proofs.Rooms.{counted_with_next}
use Rattle.sim_stations.proofs.groups.count.Goals as goal

pub slots-init : goal.slots-init
slots-init c = record {
  counted = λ group h. All-get_or (λ n. n ≡ 0) c.args.counts.now group 0 h c.requires.zero;
  all = omega (arith, sum_by-le (λ n. n) 0 c.args.counts.now (All-from_get_or (λ n. n ≤ 0) c.args.counts.now 0 (λ group h. omega (arith, All-get_or (λ n. n ≡ 0) c.args.counts.now group 0 h c.requires.zero))));
}

pub slots-preserved : goal.slots-preserved
slots-preserved c =
    let numbers = c.args.numbers.now in
    let index = c.slots.number-index in
    let group = get_or numbers index 0 in
    let exists : group < length c.slots.counts = omega (arith, All-get_or (λ n. n < length c.args.counts.now) numbers index 0 c.slots-test.true c.requires.within, c.slots.auto.counts) in
    record {
      counted = counted_with_next numbers c.slots.counts index c.slots-test.true c.slots.invariant.counted exists;
      all = omega (arith, sum_by-set (λ n. n) c.slots.counts group (slice_index c.slots.counts group + 1) 0 exists, c.slots.invariant.all);
    }
