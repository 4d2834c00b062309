use Rattle.std.proofs.Common.{◌≡◌, ◌+◌, length, map, arith, sym, ap, ◌∙◌, subst}
use Rattle.std.proofs.lemmas.List.{take_all, take_more}
use Rattle.sim_match.specs.Capacities.{empty_list}
use Rattle.sim_match.specs.Packed.{stretches, list_at, ArePacked}
use Rattle.sim_match.proofs.Packing.{built_none, built_packed, built_with_next_capacity, stretches-with_new}
use Rattle.sim_match.proofs.match_lists.MatchLists.new.Goals as goal

pub loop-capacity-init : goal.loop-capacity-init
loop-capacity-init c = record {
  built = rw c.in_ok-spans.ensures.items (built_none c.args.side);
  count = omega (arith, c.in_ok-spans.ensures.len);
  room = omega (arith, c.in_ok-spans.ensures.capacity);
}

pub loop-capacity-preserved : goal.loop-capacity-preserved
loop-capacity-preserved c =
    let more = built_with_next_capacity _ _ _ _ c.loop-capacity.invariant.built _ (c.loop-capacity.end + c.room-room.result) (ap (λ n. c.loop-capacity.end + n) c.room-room.ensures) in
    record {
      built = rw (c.push_reserved.ensures.items, stretches-with_new, take_more c.args.capacities.now c.loop-capacity.capacity-index (record { receives = 0; sends = 0 }) (omega arith)) more;
      count = omega (arith, c.push_reserved.ensures.len, c.loop-capacity.invariant.count);
      room = omega (arith, c.push_reserved.ensures.capacity, c.loop-capacity.invariant.room);
    }

pub invariant_of-result : goal.invariant_of-result
invariant_of-result c =
    let entries = c.in_ok-entries.entries.items in
    let long : length entries ≡ c.loop-capacity.end = omega (arith, c.in_ok-entries.ensures.len, c.in_ok-entries.entries.ok) in
    subst (λ n. ArePacked (stretches c.loop-capacity.spans.items n) entries) (sym long) (built_packed _ _ _ _ c.loop-capacity.invariant.built entries long (omega arith))

pub returns : goal.returns
returns c =
    let entries = c.in_ok-entries.entries.items in
    let long : length entries ≡ c.loop-capacity.end = omega (arith, c.in_ok-entries.ensures.len, c.in_ok-entries.entries.ok) in
    ap (λ n. map (list_at entries) (stretches c.loop-capacity.spans.items n)) long ∙ c.loop-capacity.invariant.built.empty entries ∙ ap (map (empty_list c.args.side)) (take_all c.loop-capacity.capacity-index c.args.capacities.now c.loop-capacity-test.false)
