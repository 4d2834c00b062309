use Rattle.std.proofs.Common.{length, ap, sym, ◌∙◌, subst}
use Rattle.goal_graph.specs.Interleaving.{IsInterleaving}
use Rattle.goal_blocks.specs.Walk.{no_send}
use Rattle.goal_certify.specs.WalkSoFar.{WalkSoFar}
use Rattle.goal_certify.specs.WalkQueue.{AreCursors}
use Rattle.goal_certify.proofs.Steps.{op_after, newest_after, due_after, first_after, cursors_after}
use Rattle.goal_certify.proofs.walk.Walker.next.Goals as goal
use Rattle.goal_graph.proofs.ForCallers.{borrowed_whole_restored}

pub follow-requires-clause-exists : goal.follow-requires-clause-exists
follow-requires-clause-exists c =
    op_after c.self.inside.state c.perform.new.self c.in_ok-action.action c.perform.ensures c.in_ok-action.ensures.may

pub follow-requires-clause-newest : goal.follow-requires-clause-newest
follow-requires-clause-newest c =
    newest_after c.self.inside.state c.perform.new.self c.in_ok-action.action c.perform.ensures c.in_ok-action.ensures.may

pub follow-requires-clause-rest : goal.follow-requires-clause-rest
follow-requires-clause-rest c =
    let each = subst (λ (v : WalkSoFar). IsInterleaving v.plans no_send v.history) (sym c.self.view_is) c.known.ensures.each in
    due_after c.self.inside.state c.perform.new.self c.in_ok-action.action c.perform.ensures c.in_ok-action.ensures.may c.self.inside.queue each c.self.invariant.queue

pub follow-requires-clause-cursors : goal.follow-requires-clause-cursors
follow-requires-clause-cursors c =
    let after = c.perform.new.self in
    subst (AreCursors after.plans after.history) (sym c.deref_mut.ensures.value) (cursors_after c.self.inside.state after c.in_ok-action.action c.perform.ensures c.in_ok-action.ensures.may c.self.inside.cursors.items c.self.invariant.are_cursors)

pub invariant_of-self : goal.invariant_of-self
invariant_of-self c =
    let after = c.perform.new.self in
    record {
      queue = c.follow.ensures.queue;
      are_cursors = subst (AreCursors after.plans after.history) (sym (borrowed_whole_restored c.self.inside.cursors.len c.follow.new.cursors c.self.inside.cursors.items (c.follow.auto.cursors ∙ ap length c.deref_mut.ensures.value) c.self.inside.cursors.ok.0)) c.follow.ensures.cursors;
      in_order = first_after c.self.inside.state after c.in_ok-action.action c.perform.ensures c.in_ok-action.ensures.may c.self.invariant.in_order c.in_ok-action.ensures.first;
    }
