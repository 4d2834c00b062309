-- The limits of a machine. The constants of the code are these numbers: `laws_of_machines` says so.
use Rattle.std.specs.Prelude.{ℕ}

-- the most classes of a machine
abbrev pub class_limit : ℕ
class_limit = 16

-- the most pairs of nodes that have a class of their own
abbrev pub pair_limit : ℕ
pair_limit = 65536

-- the largest number of a node
abbrev pub node_limit : ℕ
node_limit = 65535
