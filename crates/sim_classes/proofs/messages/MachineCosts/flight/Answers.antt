use Rattle.std.proofs.Common.{ap, ◌∙◌}
use Rattle.sim_params.specs.Costs.{CostModel}
use Rattle.sim_classes.specs.Machine.{costs_of}
use Rattle.sim_classes.proofs.messages.MachineCosts.flight.Goals as goal

pub returns : goal.returns
unfolding costs_of
returns c = c.flight.ensures ∙ ap (λ (k : CostModel). k.flight c.args.from c.args.to c.args.bytes) c.costs.ensures
