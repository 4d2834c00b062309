use Rattle.std.proofs.Common.{inl, inr}
use Rattle.sim_state.proofs.Tasks.{calc_task_is_of_calc, eager_task_is_eager}
use Rattle.sim_state.proofs.state.RunState.is_last.Goals as goal

pub returns-in-Calc : goal.returns-in-Calc
returns-in-Calc g c =
    λ t. inl (c.in-Begin.is, calc_task_is_of_calc _ _ c.args.action.op c.task.result c.task.ensures c.in-Calc.is c.requires)

pub returns-in-Eager : goal.returns-in-Eager
returns-in-Eager g c =
    λ t. inr (inl (c.in-Arrive.is, eager_task_is_eager _ _ c.args.action.op c.task-in-Arrive.result c.task-in-Arrive.ensures c.in-Eager.is))
