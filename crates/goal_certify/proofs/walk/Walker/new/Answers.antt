use Rattle.std.proofs.Common.{List, sym, subst}
use Rattle.goal_graph.specs.Schedule.{Plan}
use Rattle.goal_graph.specs.Action.{Act}
use Rattle.goal_blocks.specs.Walk.{no_send, TakesFirst}
use Rattle.goal_certify.specs.WalkQueue.{AreCursors}
use Rattle.goal_certify.proofs.walk.Walker.new.Goals as goal

pub invariant_of-result : goal.invariant_of-result
invariant_of-result c =
    let state = c.in_ok-state.state in
    record {
      queue = c.fill.ensures;
      are_cursors = subst (λ (ps : List Plan). AreCursors ps state.history c.in_ok-cursors.cursors.items) (sym c.in_ok-state.ensures.plans) (c.in_ok-cursors.ensures no_send state.history);
      in_order = subst (λ (h : List Act). TakesFirst state.plans h) (sym c.in_ok-state.ensures.empty) tt;
    }
