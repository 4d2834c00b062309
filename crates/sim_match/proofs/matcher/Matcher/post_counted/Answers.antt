use Rattle.std.proofs.Common.{◌≡◌, ◌↔◌, false, Option, IsNone, sym, ap, ◌∙◌, subst}
use Rattle.goal_graph.specs.declared.action.OpId.{OpId}
use Rattle.goal_graph.specs.declared.action.Class.TheVariants.{Post}
use Rattle.goal_graph.specs.Action.{happened}
use Rattle.goal_graph.specs.Schedule.{IsReceive}
use Rattle.sim_match.specs.PostsAndArrivals.{PostsAndArrivals, with_post, send_for, NoSendFits}
use Rattle.sim_match.proofs.Kept.{actions_of-post}
use Rattle.sim_match.proofs.Partnered.{post_partner, no_send_found_iff_none_fits}
use Rattle.sim_match.proofs.matcher.Matcher.post_counted.Goals as goal

pub post-requires-clause-kept : goal.post-requires-clause-kept
post-requires-clause-kept g c = c.self.invariant

pub post-requires-clause-receive : goal.post-requires-clause-receive
post-requires-clause-receive g c = subst (λ (v : PostsAndArrivals). IsReceive v.plans c.args.recv) (sym c.self.view_is) c.requires.receive

pub post-requires-clause-fresh : goal.post-requires-clause-fresh
post-requires-clause-fresh g c =
    subst (λ (v : PostsAndArrivals). happened Post c.args.recv v.actions ≡ false) (sym c.self.view_is) c.requires.fresh

pub invariant_of-self : goal.invariant_of-self
invariant_of-self g c = c.post.ensures.kept

pub returns-clause-actions : goal.returns-clause-actions
returns-clause-actions g c =
    let its = subst (λ (v : PostsAndArrivals). IsReceive v.plans c.args.recv) (sym c.self.view_is) c.requires.receive in
    rw (c.post.ensures.events, actions_of-post _ _ c.args.recv its) (ap (λ (v : PostsAndArrivals). with_post v c.args.recv) c.self.view_is)

pub returns-clause-taken : goal.returns-clause-taken
returns-clause-taken g c =
    c.post.ensures.taken ∙ ap (λ (v : PostsAndArrivals). send_for v.plans v.actions c.args.recv) c.self.view_is

pub returns-clause-partner : goal.returns-clause-partner
returns-clause-partner g c =
    let its = subst (λ (v : PostsAndArrivals). IsReceive v.plans c.args.recv) (sym c.self.view_is) c.requires.receive in
    let fresh = subst (λ (v : PostsAndArrivals). happened Post c.args.recv v.actions ≡ false) (sym c.self.view_is) c.requires.fresh in
    rw (c.post.ensures.events, actions_of-post _ _ c.args.recv its) (c.post.ensures.taken ∙ post_partner _ _ c.args.recv its fresh)

pub returns-clause-none : goal.returns-clause-none
returns-clause-none g c =
    let taken = c.post.ensures.taken ∙ ap (λ (v : PostsAndArrivals). send_for v.plans v.actions c.args.recv) c.self.view_is in
    subst (λ (o : Option OpId). IsNone o ↔ NoSendFits c.args.self.now.plans c.args.self.now.actions c.args.recv) (sym taken) (no_send_found_iff_none_fits c.args.self.now.plans c.args.self.now.actions c.args.recv)
