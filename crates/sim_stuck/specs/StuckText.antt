-- The lines of stuck operations. Each ends with a line feed, and numbers are decimal.
use Rattle.std.specs.Prelude.{ℕ, List, [], ◌++◌, codes}
use Rattle.std.specs.List.{flat_map}
use Rattle.goal_base.specs.Text.{line_feed}
use Rattle.goal_graph.specs.declared.action.Stuck.{Stuck}
use Rattle.goal_graph.specs.declared.action.Why.{Why}
use Rattle.goal_graph.specs.declared.action.Why.TheVariants.{Op, Partner, Alone}
use Rattle.goal_graph.specs.IdText.{id_text}

-- the words of a reason
abbrev pub why_words : Why → List ℕ
why_words (Op y) = codes " for op "
why_words (Partner y) = codes " for partner "
why_words Alone = codes " alone"

-- the operation that a reason names, if any
abbrev pub named_text : Why → List ℕ
named_text (Op y) = id_text y
named_text (Partner y) = id_text y
named_text Alone = []

-- the line of a stuck operation
abbrev pub stuck_line : Stuck → List ℕ
stuck_line s = codes "stuck " ++ id_text s.op ++ why_words s.why ++ named_text s.why ++ line_feed

-- the lines of stuck operations, in order
unfoldable pub stuck_text : List Stuck → List ℕ
stuck_text list = flat_map stuck_line list
