-- Schedules with fixed matches: they end, with the same pairs, whichever sends are eager and in whatever order.
use Rattle.std.specs.Prelude.{List}
use Rattle.goal_graph.specs.Schedule.{Plan}
use Rattle.goal_blocks.specs.Channels.{HasNoWildcard, HasNoDoubleChannel, HasNoUnpaired}
use Rattle.goal_blocks.specs.Walk.{HasNoStall}

-- the conditions of certification on channels and on the walk
pub record IsMatched (plans : List Plan) : Type 0 where
  pub no_wildcard : HasNoWildcard plans
  pub no_double_channel : HasNoDoubleChannel plans
  pub no_unpaired : HasNoUnpaired plans
  pub no_stall : HasNoStall plans
