-- The text of a machine: its words, and what each word must be.
use Rattle.std.specs.Prelude.{ℕ, zero, suc, ◌+◌, ◌==◌, ◌&&◌, nat_lt, nat_le, Bool, List, [], ◌∷◌, ◌++◌, length, filter, Option, Some, None, is_some, Result, Ok, Err, codes, bytes_eq, if◌then◌else◌}
use Rattle.std.specs.List.{slice_split}
use Rattle.std.specs.Str.Parse.{digits_value}
use Rattle.goal_base.specs.Numerals.{is_numeral}
use Rattle.goal_limits.specs.Limits.{rank_limit, param_limit, per_byte_limit}
use Rattle.sim_params.specs.Defaults.{picos_limit}
use Rattle.sim_params.specs.Costs.{Numbers}
use Rattle.sim_params.specs.Numbers.{asked}
use Rattle.sim_classes.specs.declared.fault.MachineFault.{MachineFault}
use Rattle.sim_classes.specs.declared.fault.MachineFault.TheVariants.{Syntax, Number, Repeat}
use Rattle.sim_classes.specs.Limits.{class_limit, pair_limit, node_limit}
use Rattle.sim_classes.specs.Machine.{MachineModel, machine_with}
pub use Rattle.goal_limits.specs.Bytes.{is_blank}

-- the words of a text: its longest runs of bytes that are not blanks
unfoldable pub words : List ℕ → List (List ℕ)
words text = filter (λ (w : List ℕ). nat_lt 0 (length w)) (slice_split is_blank text)

-- a test of a number: None if it passes, and otherwise a fault at the number's place
abbrev pub Test : Type 0
Test = ℕ → Option (ℕ → MachineFault)

-- What the next words must be: a fixed word; a number that passes a test, followed by words that may depend on it; or
-- the end of the text, which gives this machine.
pub data Form : Type 0 where
  Fixed : List ℕ → Form → Form
  Value : Test → (ℕ → Form) → Form
  End : MachineModel → Form

-- the fault of a failed test, or otherwise what the rest gives
abbrev pub or_fault : Option (ℕ → MachineFault) → ℕ → Result MachineModel MachineFault → Result MachineModel MachineFault
or_fault None place rest = rest
or_fault (Some fault) place rest = Err (fault place)

-- The machine given by words of this form, or the fault of the first word that fails. `place` is the number of the
-- first word, and the end counts as a word.
unfoldable pub read_by_form : Form → ℕ → List (List ℕ) → Result MachineModel MachineFault
read_by_form (Fixed word rest) place [] = Err (Syntax place)
read_by_form (Fixed word rest) place (w ∷ ws) = if bytes_eq w word then read_by_form rest (place + 1) ws else Err (Syntax place)
read_by_form (Value test rest) place [] = Err (Syntax place)
read_by_form (Value test rest) place (w ∷ ws) =
    if is_numeral w then or_fault (test (digits_value 10 w)) place (read_by_form (rest (digits_value 10 w)) (place + 1) ws) else Err (Syntax place)
read_by_form (End m) place [] = Ok m
read_by_form (End m) place (w ∷ ws) = Err (Syntax place)

-- a number from `least` to `most`
abbrev pub between : ℕ → ℕ → Test
between least most n = if nat_le least n && nat_le n most then None else Some Number

-- the number of an existing class
abbrev pub class_number : List Numbers → Test
class_number classes n = if nat_lt n (length classes) then None else Some Number

-- a node for which the class from node a is not yet given
abbrev pub new_target : MachineModel → ℕ → Test
new_target m a n = if nat_le n node_limit then (if is_some (m.pair_classes a n) then Some Repeat else None) else Some Number

-- the class from node a to node b is given
abbrev pub with_pair_class : (ℕ → ℕ → Option ℕ) → ℕ → ℕ → ℕ → ℕ → ℕ → Option ℕ
with_pair_class pair_classes a b class x y = if (x == a) && (y == b) then Some class else pair_classes x y

-- k triples: a node, another node, and the class from the first to the second
unfoldable pub triples : ℕ → MachineModel → Form
triples zero m = End m
triples (suc k) m =
    Value (between 0 node_limit) (λ a. Value (new_target m a) (λ b. Value (class_number m.classes) (λ class. triples k (machine_with m.classes m.inside m.usual m.nodes (with_pair_class m.pair_classes a b class)))))

abbrev pub triples_part : List Numbers → ℕ → ℕ → List ℕ → Form
triples_part classes inside usual nodes =
    Fixed (codes "pairs") (Value (between 0 pair_limit) (λ k. triples k (machine_with classes inside usual nodes (λ a b. None))))

-- further nodes of ranks, as many as the first argument says, after these
unfoldable pub nodes_part : ℕ → List Numbers → ℕ → ℕ → List ℕ → Form
nodes_part zero classes inside usual nodes = triples_part classes inside usual nodes
nodes_part (suc k) classes inside usual nodes = Value (between 0 node_limit) (λ node. nodes_part k classes inside usual (nodes ++ node ∷ []))

-- the class inside a node, the default class between nodes, and the node of each rank
abbrev pub places_part : List Numbers → Form
places_part classes =
    Fixed (codes "inside") (Value (class_number classes) (λ inside.
    Fixed (codes "default") (Value (class_number classes) (λ usual.
    Fixed (codes "ranks") (Value (between 1 rank_limit) (λ ranks. nodes_part ranks classes inside usual []))))))

-- the parameters of a class: L, o, g, G, Gp, O, Op, S
abbrev pub class_part : (Numbers → Form) → Form
class_part rest =
    Value (between 0 param_limit) (λ l. Value (between 0 param_limit) (λ o. Value (between 0 param_limit) (λ g.
    Value (between 0 per_byte_limit) (λ gb. Value (between 0 picos_limit) (λ gp. Value (between 0 per_byte_limit) (λ ob.
    Value (between 0 picos_limit) (λ op. Value (between 0 param_limit) (λ s. rest (asked l o g gb gp ob op s)))))))))

-- further classes, as many as the first argument says, after these
unfoldable pub classes_part : ℕ → List Numbers → Form
classes_part zero classes = places_part classes
classes_part (suc k) classes = Fixed (codes "class") (class_part (λ n. classes_part k (classes ++ n ∷ [])))

-- the whole text
abbrev pub machine_form : Form
machine_form = Fixed (codes "classes") (Value (between 1 class_limit) (λ k. classes_part k []))

-- the machine of a text, or the fault of the first of its words that fails
unfoldable pub machine : List ℕ → Result MachineModel MachineFault
machine text = read_by_form machine_form 0 (words text)
