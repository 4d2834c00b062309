-- When a schedule is certified for a collective.
use Rattle.std.specs.Prelude.{List, length}
use Rattle.goal_graph.specs.Schedule.{Plan}
use Rattle.goal_limits.specs.declared.collective.Collective.{Collective}
use Rattle.goal_blocks.specs.Collectives.{initial, wanted}
use Rattle.goal_blocks.specs.Certification.{IsCertified}

abbrev pub IsCertifiedFor : Collective → List Plan → Type 0
IsCertifiedFor what plans = IsCertified plans (initial what (length plans)) (wanted what (length plans))
