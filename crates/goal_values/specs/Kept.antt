-- What is kept of the values of slots: for each rank those that were set since the start, with their values. Every
-- other slot has its first value: that of the collective, in its segment.
use Rattle.std.specs.Prelude.{ℕ, List, unwrap_or}
use Rattle.goal_limits.specs.declared.collective.Collective.{Collective}
use Rattle.goal_blocks.specs.declared.segment.Segment.{Segment}
use Rattle.goal_blocks.specs.Values.{Value, Store}
use Rattle.goal_blocks.specs.Segments.{initial_in}
use Rattle.goal_values.specs.Rows.{found_in}

pub record Kept : Type 0 where
  pub what : Collective
  pub ranks : ℕ
  pub segment : Segment
  pub written : List (List (ℕ × Value))

-- the value of each slot at the start
abbrev pub first_values : Kept → Store
first_values s = initial_in s.what s.segment.width s.segment.block s.ranks

-- the value of each slot
unfoldable pub values : Kept → Store
values s r k = unwrap_or (found_in s.written r k) (first_values s r k)
