use Rattle.std.proofs.Common.{ap, ◌∙◌}
use Rattle.sim_params.specs.Costs.{CostModel}
use Rattle.sim_classes.specs.Machine.{costs_of}
use Rattle.sim_classes.proofs.messages.MachineCosts.spans.Goals as goal

pub returns-clause-over : goal.returns-clause-over
unfolding costs_of
returns-clause-over c =
    c.spans.ensures.over ∙ ap (λ (k : CostModel). k.over c.args.from c.args.to c.args.bytes) c.costs.ensures

pub returns-clause-gap : goal.returns-clause-gap
unfolding costs_of
returns-clause-gap c =
    c.spans.ensures.gap ∙ ap (λ (k : CostModel). k.gap c.args.from c.args.to c.args.bytes) c.costs.ensures

pub returns-clause-flight : goal.returns-clause-flight
unfolding costs_of
returns-clause-flight c =
    c.spans.ensures.flight ∙ ap (λ (k : CostModel). k.flight c.args.from c.args.to c.args.bytes) c.costs.ensures
