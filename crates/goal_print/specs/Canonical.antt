-- The canonical text of a schedule, by lines. Words are separated by one space, each line ends with a line feed, and
-- numbers are decimal.
use Rattle.std.specs.Prelude.{ℕ, ◌+◌, List, [], ◌∷◌, ◌++◌, Option, Some, None, length, codes, decimal}
use Rattle.std.specs.List.{flat_map}
use Rattle.goal_graph.specs.declared.plan.Op.{Op}
use Rattle.goal_graph.specs.declared.plan.Kind.{Kind}
use Rattle.goal_graph.specs.declared.plan.Kind.TheVariants.{Calc, Send, Recv}
use Rattle.goal_graph.specs.declared.plan.Dep.{Dep}
use Rattle.goal_graph.specs.declared.plan.When.{When}
use Rattle.goal_graph.specs.declared.plan.When.TheVariants.{AfterEnd, AfterStart}
use Rattle.goal_graph.specs.declared.plan.Note.{Note}
use Rattle.goal_graph.specs.declared.plan.Note.TheVariants.{Moves, Adds}
use Rattle.goal_graph.specs.Schedule.{Plan}

-- the end of a line
abbrev pub line_feed : List ℕ
line_feed = codes "\n"

-- the label of an operation; `l1` is operation number 0
abbrev pub label : ℕ → List ℕ
label op = codes "l" ++ decimal (op + 1)

-- the source or the tag of a receive, which may be any
abbrev pub number_or_any : Option ℕ → List ℕ
number_or_any None = codes "any"
number_or_any (Some n) = decimal n

-- the words after the label of an operation of this kind, on this cpu and this NIC
abbrev pub action : Kind → ℕ → ℕ → List ℕ
action (Calc nanos) cpu nic = codes "calc " ++ decimal nanos ++ codes " cpu " ++ decimal cpu ++ line_feed
action (Send bytes to tag) cpu nic =
    codes "send " ++ decimal bytes ++ codes "b to " ++ decimal to ++ codes " tag " ++ decimal tag
    ++ codes " cpu " ++ decimal cpu ++ codes " nic " ++ decimal nic ++ line_feed
action (Recv bytes from tag) cpu nic =
    codes "recv " ++ decimal bytes ++ codes "b from " ++ number_or_any from ++ codes " tag " ++ number_or_any tag
    ++ codes " cpu " ++ decimal cpu ++ codes " nic " ++ decimal nic ++ line_feed

-- the line of the operation with this number
abbrev pub op_line : ℕ → Op → List ℕ
op_line number o = label number ++ codes ": " ++ action o.kind o.cpu o.nic

-- the lines of operations, of which the first has number `number`
unfoldable pub op_lines : ℕ → List Op → List ℕ
op_lines number [] = []
op_lines number (o ∷ os) = op_line number o ++ op_lines (number + 1) os

-- the verb of a dependency
abbrev pub verb : When → List ℕ
verb AfterEnd = codes " requires "
verb AfterStart = codes " irequires "

-- the line of a dependency
abbrev pub dep_line : Dep → List ℕ
dep_line d = label d.later ++ verb d.when ++ label d.earlier ++ line_feed

-- the line of a note
abbrev pub note_line : Note → List ℕ
note_line (Moves op lo hi) = label op ++ codes " moves " ++ decimal lo ++ codes " to " ++ decimal hi ++ line_feed
note_line (Adds op from to) = label op ++ codes " adds " ++ decimal from ++ codes " to " ++ decimal to ++ line_feed

-- the lines of a rank: its operations, its dependencies and its notes, each in the order of its list
abbrev pub block : ℕ → Plan → List ℕ
block rank p =
    codes "rank " ++ decimal rank ++ codes " {\n"
    ++ op_lines 0 p.ops ++ flat_map dep_line p.deps ++ flat_map note_line p.notes ++ codes "}\n"

-- a rank without operations has no lines
abbrev pub unless_empty : List Op → List ℕ → List ℕ
unless_empty [] text = []
unless_empty (o ∷ os) text = text

-- the lines of ranks, of which the first has number `rank`
unfoldable pub blocks : ℕ → List Plan → List ℕ
blocks rank [] = []
blocks rank (p ∷ ps) = unless_empty p.ops (block rank p) ++ blocks (rank + 1) ps

-- the first line of a text with this number of ranks
abbrev pub heading : ℕ → List ℕ
heading ranks = codes "num_ranks " ++ decimal ranks ++ line_feed

-- the canonical text of a schedule with these plans
unfoldable pub canonical : List Plan → List ℕ
canonical plans = heading (length plans) ++ blocks 0 plans
