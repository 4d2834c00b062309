-- What an action changes of what is known.
use Rattle.std.specs.Prelude.{◌≡◌, List, map, IfSome}
use Rattle.goal_graph.specs.declared.action.Timed.{Timed}
use Rattle.goal_graph.specs.Schedule.{Plan, operations}
use Rattle.goal_graph.specs.Fault.{IsOp}
use Rattle.sim_params.specs.Costs.{CostModel}
use Rattle.sim_state.specs.declared.entry.Change.{Change}
use Rattle.sim_state.specs.Tables.{with_change}
use Rattle.sim_state.specs.Represents.{entry_known, entry_then}

-- Written over what was known before the action, the change gives what is known after it, without the moments that the
-- action gives to others. The partner in it is an operation.
pub record IsChange (plans : List Plan) (costs : CostModel) (h : List Timed) (a : Timed) (c : Change) : Type 0 where
  pub exists : IfSome c.partner (IsOp plans)
  pub known : map (with_change a.op c a.time (entry_known plans costs h)) (operations plans) ≡ map (entry_then plans costs h a) (operations plans)
