use Rattle.std.proofs.Common.{◌+◌, map, get_or, sum, arith, sym, ap, ◌∙◌, subst, List, [], ◌∷◌, ◌++◌}
use Rattle.std.proofs.lemmas.List.{take_more, take_all, map-append}
use Rattle.std.proofs.lemmas.List.Sums.{sum_by_more, sum_by_more_le}
use Rattle.sim_stations.specs.declared.parts.Part.{Part}
use Rattle.sim_stations.specs.Parts.{room_of, ArePacked, AreWithoutKeys}
use Rattle.sim_stations.proofs.InParts.{part_without_keys, packed_with_another, without_keys_with_another}
use Rattle.sim_stations.proofs.parts.parts.Goals as goal

pub overflow_add-end : goal.overflow_add-end
overflow_add-end c =
    omega (arith, sum_by_more_le (λ n. n) c.args.counts.now c.groups.count-index 0 c.groups-test.true, c.groups.invariant.all, c.requires)

pub groups-preserved : goal.groups-preserved
groups-preserved c =
    let i = c.groups.invariant in
    let counts = c.args.counts.now in
    let index = c.groups.count-index in
    let room = get_or counts index 0 in
    let one = part_without_keys c.groups.parts.items c.groups.end room i.packed in
    record {
      packed = subst (λ (ps : List Part). ArePacked ps (c.groups.end + room)) (sym c.in_ok-push.ensures.items) (packed_with_another c.groups.parts.items c.groups.end room i.packed (c.groups.end + room) (omega arith));
      rooms = ap (map room_of) c.in_ok-push.ensures.items ∙ map-append room_of c.groups.parts.items (one ∷ []) ∙ ap (λ ns. ns ++ room ∷ []) i.rooms ∙ sym (take_more counts index 0 c.groups-test.true);
      none = subst AreWithoutKeys (sym c.in_ok-push.ensures.items) (without_keys_with_another c.groups.parts.items c.groups.end room i.packed i.none);
      all = omega (arith, sum_by_more (λ n. n) counts index 0 c.groups-test.true, i.all);
    }

pub returns-clause-all : goal.returns-clause-all
returns-clause-all c =
    c.groups.invariant.all ∙ ap sum (take_all c.groups.count-index c.args.counts.now (omega (arith, c.groups-test.false)))
