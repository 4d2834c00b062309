use Rattle.std.proofs.Common.{◌∙◌}
use Rattle.goal_graph.proofs.ForCallers.{kind_from_op}
use Rattle.sim_stuck.proofs.Least.{send_found, receive_found, nothing_fits_calc}
use Rattle.sim_stuck.proofs.partner.Firsts.first_that_fits.Goals as goal

pub returns-in-Recv : goal.returns-in-Recv
returns-in-Recv c = λ ids order are.
    c.copied.ensures ∙ c.get.ensures.value ∙ send_found c.args.sched.now ids c.args.self.now are c.args.id c.in-Recv.bytes c.in-Recv.from c.in-Recv.tag (kind_from_op _ _ _ _ c.op.ensures.op c.in-Recv.is)

pub returns-in-Send : goal.returns-in-Send
returns-in-Send c = λ ids order are.
    c.first_receive.ensures ∙ receive_found c.args.sched.now ids c.args.self.now are c.args.id c.in-Send.bytes c.in-Send.to c.in-Send.tag order (kind_from_op _ _ _ _ c.op.ensures.op c.in-Send.is)

pub returns-in-Calc : goal.returns-in-Calc
returns-in-Calc c = λ ids order are.
    nothing_fits_calc c.args.sched.now ids c.args.self.now are c.args.id c.in-Calc.nanos (kind_from_op _ _ _ _ c.op.ensures.op c.in-Calc.is)
