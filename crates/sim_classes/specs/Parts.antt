-- What the parts of a machine of the code mean.
use Rattle.std.specs.Prelude.{ℕ, ◌+◌, ◌*◌, nat_lt, List, map, Option, None, if◌then◌else◌, ◌≡◌, ◌<◌, length, Some}
use Rattle.std.specs.Ordering.{nat_cmp}
use Rattle.std.specs.BTreeMap.{is_at}
use Rattle.std.specs.Map.{lookup}
use Rattle.sim_params.specs.declared.params.Params.{Params}
use Rattle.sim_params.specs.Numbers.{numbers}
use Rattle.sim_classes.specs.Machine.{MachineModel, machine_with}

-- the key of a pair of nodes
abbrev pub pair_key : ℕ → ℕ → ℕ
pair_key a b = 4294967296 * a + b

-- the class that the entries give for two nodes
abbrev pub pair_class_by : List (ℕ × ℕ) → ℕ → ℕ → Option ℕ
pair_class_by pair_classes a b = if nat_lt b 4294967296 then lookup (is_at (nat_cmp (pair_key a b))) pair_classes else None

abbrev pub machine_of_parts : List Params → ℕ → ℕ → List ℕ → List (ℕ × ℕ) → MachineModel
machine_of_parts classes inside usual nodes pair_classes = machine_with (map numbers classes) inside usual nodes (pair_class_by pair_classes)

-- the machine is whole: each class that it names exists
pub record IsWhole (m : MachineModel) : Type 0 where
  pub inside : m.inside < length m.classes
  pub usual : m.usual < length m.classes
  pub pair_classes : (a b c : ℕ) → m.pair_classes a b ≡ Some c → c < length m.classes
