use Rattle.sim_order.proofs.Different.{one_is_less}
use Rattle.sim_order.proofs.laws.laws_of_keys.Goals as goal

pub returns : goal.returns
returns g c = one_is_less g.K.KeyOrder.less g.met.K.KeyOrder.laws
