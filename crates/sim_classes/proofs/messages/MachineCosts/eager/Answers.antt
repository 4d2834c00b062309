use Rattle.std.proofs.Common.{ap, ◌∙◌}
use Rattle.sim_params.specs.Costs.{CostModel}
use Rattle.sim_classes.specs.Machine.{costs_of}
use Rattle.sim_classes.proofs.messages.MachineCosts.eager.Goals as goal

pub returns : goal.returns
unfolding costs_of
returns c = c.eager.ensures ∙ ap (λ (k : CostModel). k.eager c.args.from c.args.to c.args.bytes) c.costs.ensures
