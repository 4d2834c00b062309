-- A machine: classes of messages, each with its own parameters, and the class of each message by the nodes of its ranks.
use Rattle.std.specs.Prelude.{ℕ, ◌==◌, Bool, List, slice_get, Option, Some, None, unwrap_or, if◌then◌else◌}
use Rattle.sim_params.specs.Costs.{Numbers, CostModel, log_gops}
use Rattle.sim_params.specs.Numbers.{asked}

-- `classes`: the parameters of each class. `inside`: the class of a message inside a node. `pair_classes`: the class given for
-- a pair of nodes. `usual`: the class between all other nodes. `nodes`: the node of each rank.
pub record MachineModel : Type 0 where
  pub classes : List Numbers
  pub inside : ℕ
  pub usual : ℕ
  pub nodes : List ℕ
  pub pair_classes : ℕ → ℕ → Option ℕ

-- a machine, from its parts
abbrev pub machine_with : List Numbers → ℕ → ℕ → List ℕ → (ℕ → ℕ → Option ℕ) → MachineModel
machine_with classes inside usual nodes pair_classes = record {
  classes = classes;
  inside = inside;
  usual = usual;
  nodes = nodes;
  pair_classes = pair_classes;
}

-- the class of a message between two nodes
abbrev pub class_between : MachineModel → ℕ → ℕ → ℕ
class_between m a b = if a == b then m.inside else unwrap_or (m.pair_classes a b) m.usual

-- The same with ranks, of which one that the machine does not have is on its own node. The flag says whether sender and
-- receiver are the same rank.
abbrev pub class_by : MachineModel → Option ℕ → Option ℕ → Bool → ℕ
class_by m (Some a) (Some b) one = class_between m a b
class_by m (Some a) None one = if one then m.inside else m.usual
class_by m None b one = if one then m.inside else m.usual

-- the class of a message, by sending and receiving rank
unfoldable pub class_of : MachineModel → ℕ → ℕ → ℕ
class_of m from to = class_by m (slice_get m.nodes from) (slice_get m.nodes to) (from == to)

-- the parameters of a class
abbrev pub numbers_of : MachineModel → ℕ → Numbers
numbers_of m class = unwrap_or (slice_get m.classes class) (asked 0 0 0 0 0 0 0 0)

-- the costs of a message, by sending and receiving rank: those of its class
abbrev pub costs_between : MachineModel → ℕ → ℕ → CostModel
costs_between m from to = log_gops (numbers_of m (class_of m from to))

-- the costs of a machine: each message has those of its class
unfoldable pub costs_of : MachineModel → CostModel
costs_of m = record {
  over = λ from to bytes. (costs_between m from to).over from to bytes;
  gap = λ from to bytes. (costs_between m from to).gap from to bytes;
  flight = λ from to bytes. (costs_between m from to).flight from to bytes;
  latency = λ from to. (costs_between m from to).latency from to;
  eager = λ from to bytes. (costs_between m from to).eager from to bytes;
}
