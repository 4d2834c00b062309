-- How an operation is named in printed texts.
use Rattle.std.specs.Prelude.{ℕ, List, ◌++◌, codes, decimal}
use Rattle.goal_graph.specs.declared.action.OpId.{OpId}

-- rank and number of an operation, with a blank between
abbrev pub id_text : OpId → List ℕ
id_text x = decimal x.rank ++ codes " " ++ decimal x.op
