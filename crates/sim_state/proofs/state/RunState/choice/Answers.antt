use Rattle.sim_state.proofs.Choice.{calc_choice}
use Rattle.sim_state.proofs.Tasks.{calc_task_is_of_calc, send_task_is_of_send, receive_task_is_of_receive}
use Rattle.sim_state.proofs.state.RunState.choice.Goals as goal

pub begin_of_calc-requires : goal.begin_of_calc-requires
begin_of_calc-requires g c =
    calc_task_is_of_calc _ _ c.args.id c.task.result c.task.ensures c.in-Calc.is c.requires

pub choice_of_send-requires : goal.choice_of_send-requires
choice_of_send-requires g c =
    send_task_is_of_send _ _ c.args.id c.task.result c.task.ensures c.in-Eager.is

pub choice_of_receive-requires : goal.choice_of_receive-requires
choice_of_receive-requires g c =
    receive_task_is_of_receive _ _ c.args.id c.task.result c.task.ensures c.in-Receive.is

pub returns-in-Calc : goal.returns-in-Calc
returns-in-Calc g c =
    calc_choice _ _ _ c.args.id (calc_task_is_of_calc _ _ c.args.id c.task.result c.task.ensures c.in-Calc.is c.requires) c.begin_of_calc.result c.begin_of_calc.ensures
