-- The text that follows some of its pages.
use Rattle.std.specs.Prelude.{ℕ, List, drop}
use Rattle.goal_graph.specs.Schedule.{Plan}
use Rattle.goal_print.specs.Canonical.{blocks}

-- the lines of all ranks after the first `done`
abbrev pub blocks_from : List Plan → ℕ → List ℕ
blocks_from plans done = blocks done (drop done plans)
