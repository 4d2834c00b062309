use Rattle.std.proofs.Common.{◌≡◌, length, map, take, get_or, is_some, arith, refl, sym, ap, ◌∙◌, subst}
use Rattle.std.proofs.lemmas.List.{map_push, take_all, take_more}
use Rattle.std.proofs.lemmas.List.Elements.{All-nil, All-push}
use Rattle.goal_graph.specs.declared.action.OpId.{OpId}
use Rattle.goal_graph.specs.Schedule.{kind_at}
use Rattle.sim_match.specs.Patterns.{own_pattern, own_list}
use Rattle.sim_match.specs.ListNumbers.{coded}
use Rattle.sim_match.specs.ListOrder.{HaveNumbers}
use Rattle.sim_match.proofs.InTurn.{have_numbers_after_growth, coded_lists_unchanged_by_growth, own_list_within_patterns}
use Rattle.sim_match.proofs.list_numbers.numbers_in_turn.Goals as goal

pub loop-id-init : goal.loop-id-init
loop-id-init c = record {
  given = c.requires.given;
  each = All-nil _;
  coded = c.in_ok-numbers.ensures.items;
  few = omega (arith, c.requires.given.count, ap length c.requires.none);
  count = omega (arith, c.in_ok-numbers.ensures.len);
  room = omega (arith, c.in_ok-numbers.ensures.capacity, c.count.ensures.count, ap length c.operations-id-items.ensures.all);
}

pub give-requires-clause-within : goal.give-requires-clause-within
give-requires-clause-within c =
    own_list_within_patterns c.args.sched.now c.args.patterns.now _ c.own_list-place.result c.own_list-place.ensures

pub loop-id-preserved : goal.loop-id-preserved
loop-id-preserved c =
    let before = c.loop-id.invariant in
    let ops = c.operations-id-items.result.now in
    let x = get_or ops c.loop-id.id-index (record { rank = 0; op = 0 }) in
    let p = own_pattern x (kind_at c.args.sched.now x) in
    let keys = c.give.new.self.keys.items in
    let place = sym c.own_list-place.ensures in
    let more = take_more ops c.loop-id.id-index (record { rank = 0; op = 0 }) (omega arith) in
    let each = have_numbers_after_growth c.args.patterns.now c.loop-id.order c.give.new.self before.given c.give.ensures.given c.give.ensures.grows c.args.sched.now _ before.each in
    let coded = coded_lists_unchanged_by_growth c.args.patterns.now c.loop-id.order c.give.new.self before.given c.give.ensures.given c.give.ensures.grows c.args.sched.now _ before.each in
    let has = c.give.ensures.has p place ∙ ap is_some c.own_list-place.ensures in
    let number = c.give.ensures.number p place in
    record {
      given = c.give.ensures.given;
      each = rw more (All-push (λ (y : OpId). is_some (own_list c.args.sched.now keys y) ≡ is_some (own_list c.args.sched.now c.args.patterns.now y)) (take c.loop-id.id-index ops) x each has);
      coded = rw (c.push_reserved.ensures.items, before.coded, more, map_push, coded, number) refl;
      few = omega (arith, c.give.ensures.grows.one, before.few);
      count = omega (arith, c.push_reserved.ensures.len, before.count);
      room = omega (arith, c.push_reserved.ensures.capacity, before.room);
    }

pub own_list-place-requires : goal.own_list-place-requires
own_list-place-requires c =
    c.operations-id-items.ensures.exist c.loop-id.id-index (record { rank = 0; op = 0 }) (omega arith)

pub returns-clause-each : goal.returns-clause-each
returns-clause-each c =
    let all = take_all c.loop-id.id-index c.operations-id-items.result.now c.loop-id-test.false ∙ c.operations-id-items.ensures.all in
    subst (HaveNumbers c.args.sched.now c.args.patterns.now c.loop-id.order.keys.items) all c.loop-id.invariant.each

pub returns-clause-numbers : goal.returns-clause-numbers
returns-clause-numbers c =
    let all = take_all c.loop-id.id-index c.operations-id-items.result.now c.loop-id-test.false ∙ c.operations-id-items.ensures.all in
    c.loop-id.invariant.coded ∙ ap (map (λ (x : OpId). coded (own_list c.args.sched.now c.loop-id.order.keys.items x))) all
