use Rattle.std.proofs.Common.{◌≡◌, ◌⊎◌, ◌<◌, ◌≤◌, ℕ, ◌+◌, ◌++◌, ◌∷◌, [], List, take, length, get_or, slice_index, inl, inr, sym, subst, arith}
use Rattle.std.proofs.lemmas.Bool.{cases_lt}
use Rattle.std.proofs.lemmas.List.{take_more, take_all, get_or_past}
use Rattle.std.proofs.lemmas.List.Elements.{All-get_or, All-from_get_or}
use Rattle.std.proofs.lemmas.List.Sums.{sum_by-le, sum_by-set}
use Rattle.sim_queue.specs.declared.home.PlaceInGroup.{PlaceInGroup}
use Rattle.sim_queue.specs.Groups.{AreHomes}
use Rattle.sim_queue.proofs.ForCallers.{no_homes, homes_with_new_home, counts_with_slot, counts_stay_bounded}
use Rattle.sim_stations.proofs.slot_groups.homes.Goals as goal

pub slots-init : goal.slots-init
slots-init c = record {
  given = subst (λ (hs : List PlaceInGroup). AreHomes [] hs c.args.counts.now) (sym c.in_ok-homes.ensures.items) (no_homes c.args.counts.now);
  few = zeros;
  all = omega (arith, sum_by-le (λ n. n) 0 c.args.counts.now (All-from_get_or (λ n. n ≤ 0) c.args.counts.now 0 (λ group h. zeros group)));
}
  where
    zeros : (group : ℕ) → slice_index c.args.counts.now group ≤ 0
    zeros group = go (cases_lt group (length c.args.counts.now))
      where
        go : (group < length c.args.counts.now) ⊎ (length c.args.counts.now ≤ group) → slice_index c.args.counts.now group ≤ 0
        go (inl l) = omega (arith, All-get_or (λ n. n ≡ 0) c.args.counts.now group 0 l c.requires.zero)
        go (inr l) = omega (arith, get_or_past c.args.counts.now group 0 l)

pub overflow_add-counts : goal.overflow_add-counts
overflow_add-counts c =
    omega (arith, c.slots.invariant.few (get_or c.args.numbers.now c.slots.number-index 0), c.slots-test.true, c.requires.few)

pub slots-preserved : goal.slots-preserved
slots-preserved c =
    let group = get_or c.args.numbers.now c.slots.number-index 0 in
    let exists : group < length c.slots.counts = omega (arith, All-get_or (λ n. n < length c.args.counts.now) c.args.numbers.now c.slots.number-index 0 c.slots-test.true c.requires.within, c.slots.auto.counts) in
    let given = homes_with_new_home c.slots.counts group exists (take c.slots.number-index c.args.numbers.now) c.slots.homes.items c.slots.invariant.given in
    record {
      given = subst (λ (ns : List ℕ). AreHomes ns c.push.new.self.items (counts_with_slot c.slots.counts group exists)) (sym (take_more c.args.numbers.now c.slots.number-index 0 c.slots-test.true)) (subst (λ (hs : List PlaceInGroup). AreHomes (take c.slots.number-index c.args.numbers.now ++ group ∷ []) hs (counts_with_slot c.slots.counts group exists)) (sym c.in_ok-push.ensures.items) given);
      few = counts_stay_bounded c.slots.counts group exists c.slots.number-index c.slots.invariant.few;
      all = omega (arith, sum_by-set (λ n. n) c.slots.counts group (slice_index c.slots.counts group + 1) 0 exists, c.slots.invariant.all);
    }

pub returns-clause-few : goal.returns-clause-few
returns-clause-few c =
    All-from_get_or (λ n. n ≤ length c.args.numbers.now) c.slots.counts 0 (λ group h. omega (arith, c.slots.invariant.few group, c.slots.auto.number-index-end))

pub returns-clause-homes : goal.returns-clause-homes
returns-clause-homes c =
    subst (λ (ns : List ℕ). AreHomes ns c.slots.homes.items c.slots.counts) (take_all c.slots.number-index c.args.numbers.now (omega (arith, c.slots-test.false))) c.slots.invariant.given
