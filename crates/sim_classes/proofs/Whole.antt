-- The machine of a text is whole.
use Rattle.std.proofs.Common.{ℕ, zero, suc, Bool, true, false, Option, Some, None, List, [], ◌∷◌, ◌++◌, ◌≡◌, ◌<◌, ◌+◌, ◌==◌, ◌&&◌, length, Ok, Err, Result, refl, subst, if◌then◌else◌}
use Rattle.std.specs.Prelude.{bytes_eq, nat_lt}
use Rattle.std.specs.Str.Parse.{digits_value}
use Rattle.std.proofs.lemmas.Bool.{ltb-true}
use Rattle.sim_params.specs.Costs.{Numbers}
use Rattle.sim_params.specs.Numbers.{asked}
use Rattle.goal_base.specs.Numerals.{is_numeral}
use Rattle.sim_classes.specs.declared.fault.MachineFault.{MachineFault}
use Rattle.sim_classes.specs.declared.fault.MachineFault.TheVariants.{Syntax, Number}
use Rattle.sim_classes.specs.Machine.{MachineModel, machine_with}
use Rattle.sim_classes.specs.Parts.{IsWhole}
use Rattle.sim_classes.specs.Form.{Form, Fixed, Value, End, read_by_form, or_fault, words, class_number, with_pair_class, triples, nodes_part, classes_part, machine_form, machine}

-- a property of each machine that words of a form may give
abbrev HoldsOfEachMachine : (MachineModel → Type 0) → Form → Type 0
HoldsOfEachMachine P (Fixed word rest) = HoldsOfEachMachine P rest
HoldsOfEachMachine P (Value test rest) = (n : ℕ) → test n ≡ None → HoldsOfEachMachine P (rest n)
HoldsOfEachMachine P (End m) = P m

module _ (P : MachineModel → Type 0) (m : MachineModel) where
  fixed_step : (b : Bool) (next : Result MachineModel MachineFault) (fault : MachineFault) → (next ≡ Ok m → P m)
      → (if b then next else Err fault) ≡ Ok m → P m
  fixed_step true next fault step is = step is
  fixed_step false next fault step is = cc

  value_step : (b : Bool) (o : Option (ℕ → MachineFault)) (place : ℕ) (next : Result MachineModel MachineFault)
      → (o ≡ None → next ≡ Ok m → P m) → (if b then or_fault o place next else Err (Syntax place)) ≡ Ok m → P m
  value_step true None place next step is = step refl is
  value_step true (Some fault) place next step is = cc
  value_step false o place next step is = cc

  read_machine_has_property : (form : Form) (place : ℕ) (ws : List (List ℕ)) → HoldsOfEachMachine P form → read_by_form form place ws ≡ Ok m → P m
  unfolding read_by_form
  read_machine_has_property (Fixed word rest) place [] ends is = cc
  read_machine_has_property (Fixed word rest) place (w ∷ ws) ends is =
      fixed_step (bytes_eq w word) (read_by_form rest (place + 1) ws) (Syntax place) (read_machine_has_property rest (place + 1) ws ends) is
  read_machine_has_property (Value test rest) place [] ends is = cc
  read_machine_has_property (Value test rest) place (w ∷ ws) ends is =
      let n = digits_value 10 w in
      value_step (is_numeral w) (test n) place (read_by_form (rest n) (place + 1) ws)
      (λ class_exists. read_machine_has_property (rest n) (place + 1) ws (ends n class_exists)) is
  read_machine_has_property (End known) place [] ends is = let same : known ≡ m = cc in subst P same ends
  read_machine_has_property (End known) place (w ∷ ws) ends is = cc

-- a number that passes belongs to an existing class
class_exists : (classes : List Numbers) (n : ℕ) → class_number classes n ≡ None → n < length classes
class_exists classes n is = by (nat_lt n (length classes)) refl is
  where
    by : (b : Bool) → nat_lt n (length classes) ≡ b → ◌≡◌ {A = Option (ℕ → MachineFault)} (if b then None else Some Number) None → n < length classes
    by true e h = ltb-true n (length classes) e
    by false e h = cc

-- another pair of nodes
one_pair_class : (m : MachineModel) (a b class : ℕ) → IsWhole m → class < length m.classes
    → IsWhole (machine_with m.classes m.inside m.usual m.nodes (with_pair_class m.pair_classes a b class))
one_pair_class m a b class whole there = record {
  inside = whole.inside;
  usual = whole.usual;
  pair_classes = λ x y c is. by ((x == a) && (y == b)) x y c is;
}
  where
    by : (t : Bool) (x y c : ℕ) → (if t then Some class else m.pair_classes x y) ≡ Some c → c < length m.classes
    by true x y c is = let same : class ≡ c = cc in subst (λ (k : ℕ). k < length m.classes) same there
    by false x y c is = whole.pair_classes x y c is

triples_whole : (k : ℕ) (m : MachineModel) → IsWhole m → HoldsOfEachMachine IsWhole (triples k m)
unfolding triples
triples_whole zero m whole = whole
triples_whole (suc k) m whole =
    λ a one b other class there.
    triples_whole k (machine_with m.classes m.inside m.usual m.nodes (with_pair_class m.pair_classes a b class))
    (one_pair_class m a b class whole (class_exists m.classes class there))

nodes_whole : (k : ℕ) (classes : List Numbers) (inside usual : ℕ) (nodes : List ℕ) → inside < length classes → usual < length classes
    → HoldsOfEachMachine IsWhole (nodes_part k classes inside usual nodes)
unfolding nodes_part
nodes_whole zero classes inside usual nodes first second =
    λ k pairs.
    triples_whole k (machine_with classes inside usual nodes (λ a b. None))
    (record { inside = first; usual = second; pair_classes = λ a b c is. cc })
nodes_whole (suc k) classes inside usual nodes first second =
    λ node within. nodes_whole k classes inside usual (nodes ++ node ∷ []) first second

classes_whole : (k : ℕ) (classes : List Numbers) → HoldsOfEachMachine IsWhole (classes_part k classes)
unfolding classes_part
classes_whole zero classes =
    λ inside first usual second ranks many.
    nodes_whole ranks classes inside usual [] (class_exists classes inside first) (class_exists classes usual second)
classes_whole (suc k) classes =
    λ l _ o _ g _ gb _ gp _ ob _ op _ s _. classes_whole k (classes ++ asked l o g gb gp ob op s ∷ [])

pub machine_whole : (text : List ℕ) (m : MachineModel) → machine text ≡ Ok m → IsWhole m
unfolding machine
machine_whole text m is = read_machine_has_property IsWhole m machine_form 0 (words text) (λ k many. classes_whole k []) is
