use Rattle.std.proofs.Common.{◌<◌, ◌∙◌, List, get_or, length, ap, sym, subst, arith}
use Rattle.std.proofs.lemmas.Bool.{both_ways}
use Rattle.goal_graph.specs.declared.action.Class.{Class}
use Rattle.goal_graph.specs.declared.plan.Need.{Need}
use Rattle.goal_graph.specs.declared.plan.When.TheVariants.{AfterEnd}
use Rattle.goal_graph.specs.Schedule.{needed}
use Rattle.goal_graph.specs.Concerned.{waiting_on}
use Rattle.sim_state.specs.Awaited.{gives}
use Rattle.sim_events.proofs.Awaited.{awaiting_after_next, awaiting_after_other_moment, none_awaiting_past_end}
use Rattle.sim_events.proofs.Changes.{same_places_transitive}
use Rattle.sim_events.proofs.Queue.{possible_keys, refreshed_is_no_longer_due, fewer_due}
use Rattle.sim_events.proofs.follow.follow_waiting.Goals as goal

abbrev default_need : Need
default_need = record { op = 0; when = AfterEnd }

pub refresh-requires : goal.refresh-requires
refresh-requires g c =
    record {
      exists = c.requires.exist c.in_default.not-Arrive c.loop-need.need-index default_need c.loop-need-test.true;
      possible = possible_keys _ _ _ _ _ c.loop-need.invariant.0;
    }

pub loop-need-preserved : goal.loop-need-preserved
loop-need-preserved g c =
    let plans = c.args.state.now.plans in
    let id = c.args.action.op in
    let items = c.requires.whom c.in_default.not-Arrive in
    let k = c.loop-need.need-index in
    let within = subst (λ (ds : List Need). k < length ds) items c.loop-need-test.true in
    (refreshed_is_no_longer_due plans _ _ _ _ _ _ _ c.loop-need.invariant.0 c.refresh.ensures.queue (λ y is n differ. awaiting_after_next (waiting_on plans id) k default_need c.args.action.class id y within n (λ e. differ (e ∙ ap (λ (ds : List Need). needed id (get_or ds k default_need)) (sym items)))), λ k few. let same = c.loop-need.invariant.0.of_it.each in let first = c.requires.rest.of_it.each in omega (arith, c.loop-need.invariant.1 k few, c.refresh.ensures.counted k (omega (arith, few, same, first))), same_places_transitive c.args.queue.now _ _ c.loop-need.invariant.2 c.refresh.ensures.placed)

pub loop-need-preserved-then-not-gives : goal.loop-need-preserved-then-not-gives
loop-need-preserved-then-not-gives g c =
    let plans = c.args.state.now.plans in
    let id = c.args.action.op in
    let items = c.requires.whom c.in_default.not-Arrive in
    let k = c.loop-need.need-index in
    let within = subst (λ (ds : List Need). k < length ds) items c.loop-need-test.true in
    let other = ap (λ (ds : List Need). gives c.args.action.class (get_or ds k default_need).when) (sym items) ∙ sym c.gives.ensures ∙ c.if-not-gives.true in
    (fewer_due plans _ _ _ _ _ c.loop-need.invariant.0 (λ y is n. awaiting_after_other_moment (waiting_on plans id) k default_need c.args.action.class id y within other n), c.loop-need.invariant.1, c.loop-need.invariant.2)

-- an Arrive gives nothing
pub returns-in-Arrive-clause-queue : goal.returns-in-Arrive-clause-queue
returns-in-Arrive-clause-queue g c =
    fewer_due _ _ _ _ _ _ c.requires.rest (λ y is n. both_ways _ (ap (λ (class : Class). gives class n.need.when) c.in-Arrive.is) n.given)

pub returns-clause-queue : goal.returns-clause-queue
returns-clause-queue g c =
    let plans = c.args.state.now.plans in
    let id = c.args.action.op in
    let items = c.requires.whom c.in_default.not-Arrive in
    fewer_due plans _ _ _ _ _ c.loop-need.invariant.0 (λ y is n. none_awaiting_past_end (waiting_on plans id) c.loop-need.need-index default_need c.args.action.class id y (omega (arith, ap length items, c.loop-need-test.false)) n)

pub returns-clause-counted : goal.returns-clause-counted
returns-clause-counted g c = c.loop-need.invariant.1
