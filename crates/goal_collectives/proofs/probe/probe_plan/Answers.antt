use Rattle.std.proofs.Common.{List, sym, subst}
use Rattle.goal_graph.specs.Schedule.{Plan}
use Rattle.goal_graph.specs.Fault.{IsAccepted}
use Rattle.goal_collectives.proofs.ProbePlans.{probed_accepted}
use Rattle.goal_collectives.proofs.probe.probe_plan.Goals as goal

pub build_accepted-requires : goal.build_accepted-requires
build_accepted-requires c =
    subst (λ (plans : List Plan). IsAccepted plans) (sym c.in-Ok.ensures) (probed_accepted c.args.rounds c.args.seed c.requires)
