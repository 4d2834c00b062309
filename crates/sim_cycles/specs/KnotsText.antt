-- The lines of knots. Each ends with a line feed, and numbers are decimal.
use Rattle.std.specs.Prelude.{ℕ, Bool, List, ◌++◌, codes, decimal, if◌then◌else◌}
use Rattle.std.specs.List.{flat_map}
use Rattle.goal_base.specs.Text.{line_feed}
use Rattle.goal_graph.specs.declared.action.OpId.{OpId}
use Rattle.goal_graph.specs.IdText.{id_text}
use Rattle.sim_cycles.specs.declared.knot.Knot.{Knot}

-- the word with which the line of a knot begins
abbrev pub knot_word : Bool → List ℕ
knot_word lone = if lone then codes "alone" else codes "ring"

-- a member of a knot
abbrev pub member_text : OpId → List ℕ
member_text x = codes " " ++ id_text x

-- the line of a knot
abbrev pub knot_line : Knot → List ℕ
knot_line k = knot_word k.lone ++ flat_map member_text k.members ++ codes " behind " ++ decimal k.behind ++ line_feed

-- the lines of knots, in order
unfoldable pub knots_text : List Knot → List ℕ
knots_text list = flat_map knot_line list
