use Rattle.std.proofs.Common.{map, arith, refl, ap, ◌∙◌}
use Rattle.std.proofs.lemmas.List.{map_push, take_all, take_more}
use Rattle.goal_graph.specs.declared.action.OpId.{OpId}
use Rattle.sim_match.specs.Patterns.{own_list}
use Rattle.sim_match.specs.ListNumbers.{coded}
use Rattle.sim_match.proofs.Numbering.{own_list_is_codable}
use Rattle.sim_match.proofs.list_numbers.own_numbers.Goals as goal

pub coded-requires : goal.coded-requires
coded-requires c =
    rw c.own_list-number.ensures (own_list_is_codable c.args.sched.now c.args.patterns.now _ (omega (arith, c.requires, c.count.ensures.count, c.count.ensures.small)))

pub loop-id-preserved : goal.loop-id-preserved
loop-id-preserved c = record {
  coded = rw (c.push_reserved.ensures.items, c.loop-id.invariant.coded, c.coded.ensures, c.own_list-number.ensures, take_more c.operations-id-items.result.now c.loop-id.id-index (record { rank = 0; op = 0 }) (omega arith), map_push) refl;
  count = omega (arith, c.push_reserved.ensures.len, c.loop-id.invariant.count);
  room = omega (arith, c.push_reserved.ensures.capacity, c.loop-id.invariant.room);
}

pub own_list-number-requires : goal.own_list-number-requires
own_list-number-requires c =
    c.operations-id-items.ensures.exist c.loop-id.id-index (record { rank = 0; op = 0 }) (omega arith)

pub returns-clause-numbers : goal.returns-clause-numbers
returns-clause-numbers c = λ some.
    let all = take_all c.loop-id.id-index c.operations-id-items.result.now c.loop-id-test.false ∙ c.operations-id-items.ensures.all in
    c.loop-id.invariant.coded ∙ ap (map (λ (x : OpId). coded (own_list c.args.sched.now c.args.patterns.now x))) all
