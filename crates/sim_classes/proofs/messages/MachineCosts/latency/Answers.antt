use Rattle.std.proofs.Common.{ap, ◌∙◌}
use Rattle.sim_params.specs.Costs.{CostModel}
use Rattle.sim_classes.specs.Machine.{costs_of}
use Rattle.sim_classes.proofs.messages.MachineCosts.latency.Goals as goal

pub returns : goal.returns
unfolding costs_of
returns c = c.latency.ensures ∙ ap (λ (k : CostModel). k.latency c.args.from c.args.to) c.costs.ensures
