-- The laws of machines. The function `laws_of_machines` ensures each of them.
use Rattle.std.specs.Prelude.{ℕ, ◌≡◌, ◌<◌, List, length, slice_get, Some, Ok}
use Rattle.sim_params.specs.Costs.{Numbers, log_gops}
use Rattle.sim_classes.specs.Machine.{MachineModel, class_of, numbers_of, costs_of}
use Rattle.sim_classes.specs.Form.{machine}
use Rattle.sim_classes.specs.Parts.{IsWhole}

-- each message has a class of the machine
abbrev pub ClassesAreThere : Type 0
ClassesAreThere = (m : MachineModel) (from to : ℕ) → IsWhole m → class_of m from to < length m.classes

-- if all classes have the same parameters, the costs are those of LogGOPS with these parameters
abbrev pub AlikeIsLogGops : Type 0
AlikeIsLogGops = (m : MachineModel) (n : Numbers) → IsWhole m → ((class : ℕ) → class < length m.classes → numbers_of m class ≡ n) → costs_of m ≡ log_gops n

-- a message from a rank to itself has the class inside a node
abbrev pub OwnIsInside : Type 0
OwnIsInside = (m : MachineModel) (rank : ℕ) → class_of m rank rank ≡ m.inside

-- so has a message between two ranks of one node
abbrev pub OneNodeIsInside : Type 0
OneNodeIsInside = (m : MachineModel) (from to node : ℕ) → slice_get m.nodes from ≡ Some node → slice_get m.nodes to ≡ Some node → class_of m from to ≡ m.inside

-- the machine of a text is whole
abbrev pub ReadIsWhole : Type 0
ReadIsWhole = (text : List ℕ) (m : MachineModel) → machine text ≡ Ok m → IsWhole m
