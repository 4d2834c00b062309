use Rattle.std.proofs.Common.{refl}
use Rattle.goal_blocks.specs.Generated.{made}
use Rattle.goal_collectives.proofs.making.generate.Goals as goal

pub schedule_by-requires-clause-told : goal.schedule_by-requires-clause-told
unfolding made
schedule_by-requires-clause-told c = refl
