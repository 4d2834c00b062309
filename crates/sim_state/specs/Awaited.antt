-- What an operation waits for. A moment is the start or the end of an operation that another one needs.
use Rattle.std.specs.Prelude.{ℕ, ◌+◌, Bool, true, false, not, List, Option, Some, None, count_by, if◌then◌else◌}
use Rattle.std.specs.Option.{option_map, option_or}
use Rattle.goal_graph.specs.declared.action.OpId.{OpId}
use Rattle.goal_graph.specs.declared.action.Timed.{Timed}
use Rattle.goal_graph.specs.declared.action.Class.{Class}
use Rattle.goal_graph.specs.declared.action.Class.TheVariants.{Arrive, Serve, Data, Post, Begin}
use Rattle.goal_graph.specs.declared.plan.Need.{Need}
use Rattle.goal_graph.specs.declared.plan.When.{When}
use Rattle.goal_graph.specs.declared.plan.When.TheVariants.{AfterEnd, AfterStart}
use Rattle.goal_graph.specs.Schedule.{Plan, needs, needed}
use Rattle.goal_graph.specs.Concerned.{waiting_on}
use Rattle.goal_graph.specs.Action.{happened, plain}
use Rattle.goal_graph.specs.Allowed.{is_met, has_started}
use Rattle.sim_params.specs.Costs.{CostModel, flight, is_eager}
use Rattle.sim_params.specs.Times.{greatest, mate, met_at, paired_at, since}
use Rattle.sim_state.specs.Enabled.{time_known}

-- an action of this class may give its operation the moment: a Begin its start and its end, a Post its start, a Data
-- and a Serve its end
abbrev pub gives : Class → When → Bool
gives Begin when = true
gives Post AfterStart = true
gives Data AfterEnd = true
gives Serve AfterEnd = true
gives _ _ = false

-- how many of the moments that others need an action may give
abbrev pub given_by : List Plan → Timed → ℕ
given_by plans a = count_by (λ (d : Need). gives a.class d.when) (waiting_on plans a.op)

module _ (plans : List Plan) (costs : CostModel) (h : List Timed) where
  -- whether the moment that x waits for by this need is known
  abbrev pub is_there : OpId → Need → Bool
  is_there x d = is_met plans (is_eager plans costs) (plain h) d.when (needed x d)

  -- how many of the moments that x needs are not known
  abbrev pub unmet : OpId → ℕ
  unmet x = count_by (λ (d : Need). not (is_there x d)) (needs plans x)

  -- the last of the moments that x needs and that are known; 0 without any
  abbrev pub last_given : OpId → ℕ
  last_given x = greatest (λ (d : Need). if is_there x d then met_at plans costs h d.when (needed x d) else 0) (needs plans x)

  -- when the data of the send x reach its receive, once x has transferred them
  abbrev pub delivered_known : OpId → Option ℕ
  delivered_known x = if happened Data x (plain h) then Some (since (happened Data x) h + flight plans costs x) else None

  -- since when x is paired, once it is
  abbrev pub paired_since : OpId → Option ℕ
  paired_since x = option_map (λ (y : OpId). paired_at plans costs h x) (mate plans costs h x)

  -- What x waits for: before it starts, the last known moment that it needs; then the arrival of its message or
  -- request; once it is paired, the time of this; once it has transferred its data, when they reach the receive.
  abbrev pub awaited_known : OpId → Option ℕ
  awaited_known x =
      if has_started plans x (plain h)
      then option_or (time_known plans costs h Arrive x) (option_or (delivered_known x) (paired_since x))
      else Some (last_given x)
