-- For callers: a view shows one text of the run of a schedule with given costs.
use Rattle.std.proofs.Common.{◌≡◌, Bool, List, ℕ, sym, ap, ◌∙◌, subst}
use Rattle.goal_graph.specs.declared.action.Timed.{Timed}
use Rattle.goal_graph.specs.Schedule.{Plan}
use Rattle.sim_params.specs.Costs.{CostModel}
use Rattle.sim_params.specs.Stuck.{is_stuck}
use Rattle.sim_waits.proofs.ForCallers.{report_unique}
use Rattle.goal_words.specs.declared.request.RunView.{RunView}
use Rattle.goal_words.specs.declared.request.RunView.TheVariants as view
use Rattle.goal_views.specs.Views.{Shows, IsShownRun}

-- of one run
shown_text_is_unique : (how : RunView) (sched : List Plan) (costs : CostModel) (h : List Timed) (one other : List ℕ) → Shows how sched costs h one
    → Shows how sched costs h other → one ≡ other
shown_text_is_unique view.Printed sched costs h one other a b = a ∙ sym b
shown_text_is_unique view.Waits sched costs h one other a b = report_unique sched costs h one other a b
shown_text_is_unique view.Knots sched costs h one other a b = a ∙ sym b
shown_text_is_unique view.Sum sched costs h one other a b = a ∙ sym b

pub shown_run_is_unique : (how : RunView) (costs : CostModel) (sched : List Plan) (one other : List ℕ) (stuck waits : Bool)
    → IsShownRun how costs sched one stuck → IsShownRun how costs sched other waits → (one ≡ other) × (stuck ≡ waits)
shown_run_is_unique how costs sched one other stuck waits a b =
    let same = b.only a.history a.complete in (
      shown_text_is_unique how sched costs b.history one other (subst (λ (h : List Timed). Shows how sched costs h one) same a.shown) b.shown,
      a.stuck_is ∙ ap (is_stuck sched costs) same ∙ sym b.stuck_is,
    )
