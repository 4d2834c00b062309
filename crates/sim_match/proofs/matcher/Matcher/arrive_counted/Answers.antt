use Rattle.std.proofs.Common.{◌≡◌, ◌↔◌, false, Option, IsNone, sym, ap, ◌∙◌, subst}
use Rattle.goal_graph.specs.declared.action.OpId.{OpId}
use Rattle.goal_graph.specs.declared.action.Class.TheVariants.{Arrive}
use Rattle.goal_graph.specs.Action.{happened}
use Rattle.goal_graph.specs.Schedule.{IsSend}
use Rattle.sim_match.specs.PostsAndArrivals.{PostsAndArrivals, with_arrival, receive_for, NoReceiveFits}
use Rattle.sim_match.proofs.Kept.{actions_of-arrival}
use Rattle.sim_match.proofs.Partnered.{arrival_partner, no_receive_found_iff_none_fits}
use Rattle.sim_match.proofs.matcher.Matcher.arrive_counted.Goals as goal

pub arrive-requires-clause-kept : goal.arrive-requires-clause-kept
arrive-requires-clause-kept g c = c.self.invariant

pub arrive-requires-clause-send : goal.arrive-requires-clause-send
arrive-requires-clause-send g c = subst (λ (v : PostsAndArrivals). IsSend v.plans c.args.send) (sym c.self.view_is) c.requires.send

pub arrive-requires-clause-fresh : goal.arrive-requires-clause-fresh
arrive-requires-clause-fresh g c =
    subst (λ (v : PostsAndArrivals). happened Arrive c.args.send v.actions ≡ false) (sym c.self.view_is) c.requires.fresh

pub invariant_of-self : goal.invariant_of-self
invariant_of-self g c = c.arrive.ensures.kept

pub returns-clause-actions : goal.returns-clause-actions
returns-clause-actions g c =
    let its = subst (λ (v : PostsAndArrivals). IsSend v.plans c.args.send) (sym c.self.view_is) c.requires.send in
    rw (c.arrive.ensures.events, actions_of-arrival _ _ c.args.send its) (ap (λ (v : PostsAndArrivals). with_arrival v c.args.send) c.self.view_is)

pub returns-clause-taken : goal.returns-clause-taken
returns-clause-taken g c =
    c.arrive.ensures.taken ∙ ap (λ (v : PostsAndArrivals). receive_for v.plans v.actions c.args.send) c.self.view_is

pub returns-clause-partner : goal.returns-clause-partner
returns-clause-partner g c =
    let its = subst (λ (v : PostsAndArrivals). IsSend v.plans c.args.send) (sym c.self.view_is) c.requires.send in
    let fresh = subst (λ (v : PostsAndArrivals). happened Arrive c.args.send v.actions ≡ false) (sym c.self.view_is) c.requires.fresh in
    rw (c.arrive.ensures.events, actions_of-arrival _ _ c.args.send its) (c.arrive.ensures.taken ∙ arrival_partner _ _ c.args.send its fresh)

pub returns-clause-none : goal.returns-clause-none
returns-clause-none g c =
    let taken = c.arrive.ensures.taken ∙ ap (λ (v : PostsAndArrivals). receive_for v.plans v.actions c.args.send) c.self.view_is in
    subst (λ (o : Option OpId). IsNone o ↔ NoReceiveFits c.args.self.now.plans c.args.self.now.actions c.args.send) (sym taken) (no_receive_found_iff_none_fits c.args.self.now.plans c.args.self.now.actions c.args.send)
