use Rattle.sim_order.proofs.ByKey.{event_by_key}
use Rattle.sim_order.proofs.laws.laws_of_event_keys.Goals as goal

pub returns : goal.returns
returns c = event_by_key
