use Rattle.std.proofs.Common.{map, arith, refl, sym, ap, ◌∙◌}
use Rattle.std.proofs.lemmas.List.{map_push, take_all, take_more}
use Rattle.goal_graph.specs.declared.action.OpId.{OpId}
use Rattle.sim_match.specs.Patterns.{is_wild, wild_list}
use Rattle.sim_match.specs.ListNumbers.{coded}
use Rattle.sim_match.proofs.InTurn.{wild_list_within_numbers, kept_is_coded_wild_list, none_given_passes}
use Rattle.sim_match.proofs.list_numbers.wild_numbers.Goals as goal

pub returns-then-not-have : goal.returns-then-not-have
returns-then-not-have c =
    none_given_passes c.args.patterns.now c.args.order.now c.requires (is_wild c.args.wild) (sym c.have.ensures ∙ c.if-not-have.true)

pub number-requires : goal.number-requires
number-requires c =
    wild_list_within_numbers c.args.sched.now c.args.patterns.now c.args.order.now c.requires c.args.wild _ c.wild_list-place.result c.wild_list-place.ensures

pub loop-id-preserved : goal.loop-id-preserved
loop-id-preserved c =
    let kept = kept_is_coded_wild_list c.args.sched.now c.args.patterns.now c.args.order.now c.requires c.args.wild _ c.wild_list-place.result c.number.result c.wild_list-place.ensures c.number.ensures in
    record {
      coded = rw (c.push_reserved.ensures.items, c.loop-id.invariant.coded, kept, take_more c.operations-id-items.result.now c.loop-id.id-index (record { rank = 0; op = 0 }) (omega arith), map_push) refl;
      count = omega (arith, c.push_reserved.ensures.len, c.loop-id.invariant.count);
      room = omega (arith, c.push_reserved.ensures.capacity, c.loop-id.invariant.room);
    }

pub wild_list-place-requires-clause-op : goal.wild_list-place-requires-clause-op
wild_list-place-requires-clause-op c =
    c.operations-id-items.ensures.exist c.loop-id.id-index (record { rank = 0; op = 0 }) (omega arith)

pub returns : goal.returns
returns c =
    let all = take_all c.loop-id.id-index c.operations-id-items.result.now c.loop-id-test.false ∙ c.operations-id-items.ensures.all in
    c.loop-id.invariant.coded ∙ ap (map (λ (x : OpId). coded (wild_list c.args.sched.now c.args.order.now.keys.items c.args.wild x))) all
