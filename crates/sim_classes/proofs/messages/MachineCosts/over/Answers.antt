use Rattle.std.proofs.Common.{ap, ◌∙◌}
use Rattle.sim_params.specs.Costs.{CostModel}
use Rattle.sim_classes.specs.Machine.{costs_of}
use Rattle.sim_classes.proofs.messages.MachineCosts.over.Goals as goal

pub returns : goal.returns
unfolding costs_of
returns c = c.over.ensures ∙ ap (λ (k : CostModel). k.over c.args.from c.args.to c.args.bytes) c.costs.ensures
