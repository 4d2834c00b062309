-- The faults that certification returns.
use Rattle.std.specs.Prelude.{List, length}
use Rattle.goal_graph.specs.Schedule.{Plan}
use Rattle.goal_blocks.specs.declared.cert_fault.CertFault.{CertFault}
use Rattle.goal_limits.specs.declared.collective.Collective.{Collective}
use Rattle.goal_blocks.specs.Collectives.{initial, wanted}
use Rattle.goal_blocks.specs.Faults.{IsCertificationFault}

-- the first fault for which a schedule is not certified for a collective
abbrev pub IsFaultFor : Collective → List Plan → CertFault → Type 0
IsFaultFor what plans = IsCertificationFault plans (initial what (length plans)) (wanted what (length plans))
