use Rattle.std.proofs.Common.{◌&&◌, ◌∙◌, Bool, List, ap, ap₂, arith, count_by, get_or, map, sym}
use Rattle.std.proofs.lemmas.Bool.{and_left, and_right}
use Rattle.std.proofs.lemmas.List.{take_all, drop_all}
use Rattle.goal_graph.specs.declared.plan.Need.{Need}
use Rattle.goal_graph.specs.declared.plan.When.TheVariants.{AfterEnd}
use Rattle.goal_graph.specs.Schedule.{operations}
use Rattle.sim_state.proofs.GivenEntries.{entry_so_far, moment_absent, moment_fits, moment_there}
use Rattle.sim_state.proofs.GivenTables.{first_entries, given_counted, given_entries, given_in_all, last_entries, may_give, passed_counted, passed_entries, still_waiting}
use Rattle.sim_state.proofs.state.give.give.Goals as goal

-- the need read past the end of a list
abbrev nothing : Need
nothing = record { op = 0; when = AfterEnd }

pub loop-need-init : goal.loop-need-init
loop-need-init g c =
    let costs = g.C.Costs.model c.args.costs.now in
    let h = g.H.History.actions c.args.history.now in
    record {
      counted = omega arith;
      entries = first_entries c.args.sched.now costs h c.args.action c.args.waiting.now c.requires.whom c.requires.run c.requires.next.possible c.args.entries.now c.requires.entries;
    }

-- the entry at the place of the loop gives no moment: that is never given, or not there
pub loop-need-preserved-then-not-gives : goal.loop-need-preserved-then-not-gives
loop-need-preserved-then-not-gives g c =
    let plans = c.args.sched.now in
    let costs = g.C.Costs.model c.args.costs.now in
    let h = g.H.History.actions c.args.history.now in
    let a = c.args.action in
    let ws = c.args.waiting.now in
    let k = c.loop-need.need-index in
    let never = sym c.gives.ensures ∙ c.if-not-gives.true in
    record {
      counted = passed_counted plans costs h a ws k nothing c.loop-need-test.true c.loop-need.reads c.args.reads.now never c.loop-need.invariant.counted;
      entries = passed_entries plans costs h a ws k nothing c.loop-need-test.true c.loop-need.entries (and_left _ _ never) c.loop-need.invariant.entries;
    }

pub loop-need-preserved-in_default : goal.loop-need-preserved-in_default
loop-need-preserved-in_default g c =
    let plans = c.args.sched.now in
    let costs = g.C.Costs.model c.args.costs.now in
    let h = g.H.History.actions c.args.history.now in
    let a = c.args.action in
    let ws = c.args.waiting.now in
    let k = c.loop-need.need-index in
    let when = (get_or ws k nothing).when in
    let absent = moment_absent plans costs h a when (λ m e. c.in_default.not-Some m (c.moment_of.ensures ∙ c.requires.times when ∙ e)) in
    record {
      counted = given_counted plans costs h a ws k nothing c.loop-need-test.true c.loop-need.reads c.args.reads.now c.tick.new.self (sym c.gives.ensures ∙ c.if-not-gives.false) c.loop-need.invariant.counted c.tick.ensures;
      entries = passed_entries plans costs h a ws k nothing c.loop-need-test.true c.loop-need.entries (and_right _ _ absent) c.loop-need.invariant.entries;
    }

-- it gives its moment
pub write_given-requires-clause-waits : goal.write_given-requires-clause-waits
write_given-requires-clause-waits g c =
    let plans = c.args.sched.now in
    let costs = g.C.Costs.model c.args.costs.now in
    let h = g.H.History.actions c.args.history.now in
    let a = c.args.action in
    let ws = c.args.waiting.now in
    let k = c.loop-need.need-index in
    let when = (get_or ws k nothing).when in
    let there = moment_there plans costs h a when c.in-Some.moment (sym (c.requires.times when) ∙ sym c.moment_of.ensures ∙ c.in-Some.is) in
    let given = ap₂ (λ (b d : Bool). b && d) (sym c.gives.ensures ∙ c.if-not-gives.false) there.0 in
    still_waiting plans costs h a ws k nothing c.loop-need-test.true given c.loop-need.entries c.loop-need.invariant.entries

pub write_given-requires-clause-fits : goal.write_given-requires-clause-fits
write_given-requires-clause-fits g c =
    let plans = c.args.sched.now in
    let costs = g.C.Costs.model c.args.costs.now in
    let h = g.H.History.actions c.args.history.now in
    let a = c.args.action in
    let when = (get_or c.args.waiting.now c.loop-need.need-index nothing).when in
    let there = moment_there plans costs h a when c.in-Some.moment (sym (c.requires.times when) ∙ sym c.moment_of.ensures ∙ c.in-Some.is) in
    omega (arith, moment_fits plans costs h a c.requires.run c.requires.next.possible when there.0, there.1, c.requires.within)

pub loop-need-preserved : goal.loop-need-preserved
loop-need-preserved g c =
    let plans = c.args.sched.now in
    let costs = g.C.Costs.model c.args.costs.now in
    let h = g.H.History.actions c.args.history.now in
    let a = c.args.action in
    let ws = c.args.waiting.now in
    let k = c.loop-need.need-index in
    let when = (get_or ws k nothing).when in
    let there = moment_there plans costs h a when c.in-Some.moment (sym (c.requires.times when) ∙ sym c.moment_of.ensures ∙ c.in-Some.is) in
    let gives = sym c.gives.ensures ∙ c.if-not-gives.false in
    let given = ap₂ (λ (b d : Bool). b && d) gives there.0 in
    record {
      counted = given_counted plans costs h a ws k nothing c.loop-need-test.true c.loop-need.reads c.args.reads.now c.tick.new.self gives c.loop-need.invariant.counted c.tick.ensures;
      entries = given_entries plans costs h a ws k nothing c.loop-need-test.true given c.loop-need.entries c.loop-need.invariant.entries c.write_given.new.entries c.in-Some.moment there.1 c.write_given.ensures;
    }

-- past the last
pub returns-clause-entries : goal.returns-clause-entries
returns-clause-entries g c =
    let plans = c.args.sched.now in
    let costs = g.C.Costs.model c.args.costs.now in
    let h = g.H.History.actions c.args.history.now in
    let a = c.args.action in
    let ws = c.args.waiting.now in
    let all = take_all c.loop-need.need-index ws c.loop-need-test.false in
    let none = drop_all c.loop-need.need-index ws c.loop-need-test.false in
    last_entries plans costs h a ws c.requires.whom c.requires.run c.requires.next.possible c.loop-need.entries (c.loop-need.invariant.entries ∙ ap₂ (λ (done rest : List Need). map (entry_so_far plans costs h a done rest) (operations plans)) all none)

pub returns-clause-given : goal.returns-clause-given
returns-clause-given g c =
    let costs = g.C.Costs.model c.args.costs.now in
    let h = g.H.History.actions c.args.history.now in
    let all = take_all c.loop-need.need-index c.args.waiting.now c.loop-need-test.false in
    omega (arith, c.loop-need.invariant.counted, ap (count_by (may_give c.args.action.class)) all, given_in_all c.args.sched.now costs h c.args.action c.args.waiting.now c.requires.whom)
