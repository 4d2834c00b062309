-- The order that dependencies give holds in each interleaving.
use Rattle.std.proofs.Common.{⊎_elim, ◌≡◌, ◌⊎◌, inl, inr, Bool, true, List, subst}
use Rattle.goal_graph.specs.declared.action.OpId.{OpId}
use Rattle.goal_graph.specs.declared.plan.When.{When}
use Rattle.goal_graph.specs.declared.plan.When.TheVariants.{AfterEnd, AfterStart}
use Rattle.goal_graph.specs.Schedule.{Plan, needed}
use Rattle.goal_graph.specs.Action.{Act}
use Rattle.goal_graph.specs.Allowed.{has_ended, is_met, is_ready}
use Rattle.goal_graph.specs.Interleaving.{IsInterleaving}
use Rattle.goal_graph.proofs.ForCallers.{ready_need, ended_started, started_ready}
use Rattle.goal_blocks.specs.Race.{Reaches, here, through, EndsBefore, Conflict, HasNoRace}
use Rattle.goal_blocks.specs.Laws.{AlwaysEndsFirst}

module _ (plans : List Plan) where
  module _ (eager : OpId → Bool) (h : List Act) (run : IsInterleaving plans eager h) where
    -- an operation that has started or ended, whichever is awaited, was ready
    met_ready : (w : When) (y : OpId) → is_met plans eager h w y ≡ true → is_ready plans eager h y ≡ true
    met_ready AfterEnd y e = started_ready plans eager h y run (ended_started plans eager h y run e)
    met_ready AfterStart y e = started_ready plans eager h y run e

    -- what is reached from a ready operation was ready
    reached_ready : (y z : OpId) → Reaches plans y z → is_ready plans eager h y ≡ true → is_ready plans eager h z ≡ true
    reached_ready y z here ready = ready
    reached_ready y z (through d is_need rest) ready =
        reached_ready (needed y d) z rest (met_ready d.when (needed y d) (ready_need plans eager h y d ready is_need))

    ready_ended : (x y : OpId) → EndsBefore plans x y → is_ready plans eager h y ≡ true → has_ended plans eager x h ≡ true
    ready_ended x y b ready =
        let met = ready_need plans eager h b.by b.need (reached_ready y b.by b.reached ready) b.is_need in
        let at_end = subst (λ (w : When). is_met plans eager h w (needed b.by b.need) ≡ true) b.at_end met in
        subst (λ (z : OpId). has_ended plans eager z h ≡ true) b.names at_end

  pub always_ends_first : (x y : OpId) → EndsBefore plans x y → AlwaysEndsFirst plans x y
  always_ends_first x y b = λ eager h run started. ready_ended eager h run x y b (started_ready plans eager h y run started)

  pub conflict_in_order : (x y : OpId) → HasNoRace plans → Conflict plans x y → AlwaysEndsFirst plans x y ⊎ AlwaysEndsFirst plans y x
  conflict_in_order x y none c =
      ⊎_elim (λ b. inl (always_ends_first x y b)) (λ b. inr (always_ends_first y x b)) (none x y c)
