use Rattle.sim_order.proofs.Different.{one_is_less}
use Rattle.sim_order.proofs.laws.laws_of_events.Goals as goal

pub returns : goal.returns
returns g c = one_is_less g.K.EventOrder.before g.met.K.EventOrder.laws
