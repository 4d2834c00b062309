use Rattle.std.proofs.Common.{◌≡◌, ◌≤◌, length, map, arith, refl, sym, ◌∙◌}
use Rattle.std.proofs.lemmas.Bool.{eqb-true}
use Rattle.std.proofs.lemmas.Result.{IfOk-weaker}
use Rattle.sim_params.specs.Stuck.{lacks_end}
use Rattle.sim_stuck.specs.StuckList.{with_reason, stuck_list}
use Rattle.sim_stuck.specs.Laws.{IsInOrder, NamesListed, ListsStuck, AloneAreAlone}
use Rattle.sim_stuck.proofs.ReasonCases.{picked_exist}
use Rattle.sim_stuck.proofs.ListFacts.{none_listed, list_is_stuck_list, list_stuck, list_order, list_named, list_alone}
use Rattle.sim_stuck.proofs.reasons.explain.Goals as goal

pub with_reasons-requires-clause-ops : goal.with_reasons-requires-clause-ops
with_reasons-requires-clause-ops g c =
    let plans = c.args.engine.now.plans in
    picked_exist (lacks_end plans (g.C.Costs.model c.args.engine.now.costs) c.args.engine.now.history) plans plans c.deref.result.now refl (c.deref.ensures.value ∙ c.in_ok-stuck.ensures)

pub returns-then-is_empty-clause-list : goal.returns-then-is_empty-clause-list
returns-then-is_empty-clause-list g c =
    let plans = c.args.engine.now.plans in
    let costs = g.C.Costs.model c.args.engine.now.costs in
    let h = c.args.engine.now.history in
    let none : length c.in_ok-stuck.stuck.items ≤ 0 = omega (arith, eqb-true c.in_ok-stuck.stuck.len 0 (sym c.is_empty.ensures ∙ c.if-is_empty.true), c.in_ok-stuck.stuck.ok.0) in
    list_is_stuck_list plans c.args.sched.now costs h c.in_ok-stuck.stuck.items c.new.result.items c.requires.same c.in_ok-stuck.ensures (none_listed plans costs h c.in_ok-stuck.stuck.items c.new.result.items none c.new.ensures.items)

pub returns-clause-list : goal.returns-clause-list
returns-clause-list g c =
    let plans = c.args.engine.now.plans in
    let costs = g.C.Costs.model c.args.engine.now.costs in
    let h = c.args.engine.now.history in
    IfOk-weaker c.with_reasons.result (λ list. list.items ≡ map (with_reason plans costs h) c.deref.result.now) (λ list. list.items ≡ stuck_list c.args.sched.now costs h) (λ list listed. list_is_stuck_list plans c.args.sched.now costs h c.deref.result.now list.items c.requires.same (c.deref.ensures.value ∙ c.in_ok-stuck.ensures) listed) c.with_reasons.ensures

pub returns-then-is_empty-clause-stuck : goal.returns-then-is_empty-clause-stuck
returns-then-is_empty-clause-stuck g c =
    let plans = c.args.engine.now.plans in
    let costs = g.C.Costs.model c.args.engine.now.costs in
    let h = c.args.engine.now.history in
    let none : length c.in_ok-stuck.stuck.items ≤ 0 = omega (arith, eqb-true c.in_ok-stuck.stuck.len 0 (sym c.is_empty.ensures ∙ c.if-is_empty.true), c.in_ok-stuck.stuck.ok.0) in
    list_stuck plans c.args.sched.now costs h c.in_ok-stuck.stuck.items c.new.result.items c.requires.same c.in_ok-stuck.ensures (none_listed plans costs h c.in_ok-stuck.stuck.items c.new.result.items none c.new.ensures.items)

pub returns-clause-stuck : goal.returns-clause-stuck
returns-clause-stuck g c =
    let plans = c.args.engine.now.plans in
    let costs = g.C.Costs.model c.args.engine.now.costs in
    let h = c.args.engine.now.history in
    IfOk-weaker c.with_reasons.result (λ list. list.items ≡ map (with_reason plans costs h) c.deref.result.now) (λ list. ListsStuck c.args.sched.now costs h list.items) (λ list listed. list_stuck plans c.args.sched.now costs h c.deref.result.now list.items c.requires.same (c.deref.ensures.value ∙ c.in_ok-stuck.ensures) listed) c.with_reasons.ensures

pub returns-then-is_empty-clause-order : goal.returns-then-is_empty-clause-order
returns-then-is_empty-clause-order g c =
    let plans = c.args.engine.now.plans in
    let costs = g.C.Costs.model c.args.engine.now.costs in
    let h = c.args.engine.now.history in
    let none : length c.in_ok-stuck.stuck.items ≤ 0 = omega (arith, eqb-true c.in_ok-stuck.stuck.len 0 (sym c.is_empty.ensures ∙ c.if-is_empty.true), c.in_ok-stuck.stuck.ok.0) in
    list_order plans c.args.sched.now costs h c.in_ok-stuck.stuck.items c.new.result.items c.requires.same c.in_ok-stuck.ensures (none_listed plans costs h c.in_ok-stuck.stuck.items c.new.result.items none c.new.ensures.items)

pub returns-clause-order : goal.returns-clause-order
returns-clause-order g c =
    let plans = c.args.engine.now.plans in
    let costs = g.C.Costs.model c.args.engine.now.costs in
    let h = c.args.engine.now.history in
    IfOk-weaker c.with_reasons.result (λ list. list.items ≡ map (with_reason plans costs h) c.deref.result.now) (λ list. IsInOrder list.items) (λ list listed. list_order plans c.args.sched.now costs h c.deref.result.now list.items c.requires.same (c.deref.ensures.value ∙ c.in_ok-stuck.ensures) listed) c.with_reasons.ensures

pub returns-then-is_empty-clause-named : goal.returns-then-is_empty-clause-named
returns-then-is_empty-clause-named g c =
    let plans = c.args.engine.now.plans in
    let costs = g.C.Costs.model c.args.engine.now.costs in
    let h = c.args.engine.now.history in
    let none : length c.in_ok-stuck.stuck.items ≤ 0 = omega (arith, eqb-true c.in_ok-stuck.stuck.len 0 (sym c.is_empty.ensures ∙ c.if-is_empty.true), c.in_ok-stuck.stuck.ok.0) in
    list_named plans c.args.sched.now costs h c.in_ok-stuck.stuck.items c.new.result.items c.requires.same c.in_ok-stuck.ensures (none_listed plans costs h c.in_ok-stuck.stuck.items c.new.result.items none c.new.ensures.items) c.known.ensures.accepted c.known.ensures.run

pub returns-clause-named : goal.returns-clause-named
returns-clause-named g c =
    let plans = c.args.engine.now.plans in
    let costs = g.C.Costs.model c.args.engine.now.costs in
    let h = c.args.engine.now.history in
    IfOk-weaker c.with_reasons.result (λ list. list.items ≡ map (with_reason plans costs h) c.deref.result.now) (λ list. NamesListed list.items) (λ list listed. list_named plans c.args.sched.now costs h c.deref.result.now list.items c.requires.same (c.deref.ensures.value ∙ c.in_ok-stuck.ensures) listed c.known.ensures.accepted c.known.ensures.run) c.with_reasons.ensures

pub returns-then-is_empty-clause-alone : goal.returns-then-is_empty-clause-alone
returns-then-is_empty-clause-alone g c =
    let plans = c.args.engine.now.plans in
    let costs = g.C.Costs.model c.args.engine.now.costs in
    let h = c.args.engine.now.history in
    let none : length c.in_ok-stuck.stuck.items ≤ 0 = omega (arith, eqb-true c.in_ok-stuck.stuck.len 0 (sym c.is_empty.ensures ∙ c.if-is_empty.true), c.in_ok-stuck.stuck.ok.0) in
    list_alone plans c.args.sched.now costs h c.in_ok-stuck.stuck.items c.new.result.items c.requires.same c.in_ok-stuck.ensures (none_listed plans costs h c.in_ok-stuck.stuck.items c.new.result.items none c.new.ensures.items) c.known.ensures.run c.requires.done

pub returns-clause-alone : goal.returns-clause-alone
returns-clause-alone g c =
    let plans = c.args.engine.now.plans in
    let costs = g.C.Costs.model c.args.engine.now.costs in
    let h = c.args.engine.now.history in
    IfOk-weaker c.with_reasons.result (λ list. list.items ≡ map (with_reason plans costs h) c.deref.result.now) (λ list. AloneAreAlone c.args.sched.now costs h list.items) (λ list listed. list_alone plans c.args.sched.now costs h c.deref.result.now list.items c.requires.same (c.deref.ensures.value ∙ c.in_ok-stuck.ensures) listed c.known.ensures.run c.requires.done) c.with_reasons.ensures
