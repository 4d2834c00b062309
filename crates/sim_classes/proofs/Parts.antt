-- The parts of a machine text, step by step.
use Rattle.std.proofs.Common.{ℕ, zero, suc, List, [], ◌∷◌, ◌++◌, ◌≡◌, ◌+◌, ◌-◌, ◌<◌, codes, ap, arith, add-one}
use Rattle.sim_params.specs.Costs.{Numbers}
use Rattle.sim_classes.specs.Machine.{MachineModel, machine_with}
use Rattle.sim_classes.specs.declared.machine.TheConstants.{MAX_NODE}
use Rattle.sim_classes.specs.Form.{Fixed, Value, End, between, class_number, new_target, with_pair_class, triples, triples_part, nodes_part, classes_part, class_part, places_part}

-- each step reduces the remaining number by one
difference_is_suc_of_next : (n i : ℕ) → i < n → n - i ≡ suc (n - (i + 1))
difference_is_suc_of_next n i low = omega (arith, low, add-one (n - (i + 1)))

difference_of_equal_is_zero : (n i : ℕ) → i ≡ n → n - i ≡ zero
difference_of_equal_is_zero n i e = omega (arith, e)

pub more_classes : (n i : ℕ) (classes : List Numbers) → i < n → classes_part (n - i) classes ≡ Fixed (codes "class") (class_part (λ c. classes_part (n - (i + 1)) (classes ++ c ∷ [])))
unfolding classes_part
more_classes n i classes low = ap (λ (k : ℕ). classes_part k classes) (difference_is_suc_of_next n i low)

pub no_classes : (n i : ℕ) (classes : List Numbers) → i ≡ n → classes_part (n - i) classes ≡ places_part classes
unfolding classes_part
no_classes n i classes e = ap (λ (k : ℕ). classes_part k classes) (difference_of_equal_is_zero n i e)

pub more_nodes : (n i : ℕ) (classes : List Numbers) (inside usual : ℕ) (nodes : List ℕ) → i < n → nodes_part (n - i) classes inside usual nodes ≡ Value (between 0 MAX_NODE) (λ node. nodes_part (n - (i + 1)) classes inside usual (nodes ++ node ∷ []))
unfolding nodes_part
more_nodes n i classes inside usual nodes low = ap (λ (k : ℕ). nodes_part k classes inside usual nodes) (difference_is_suc_of_next n i low)

pub no_nodes : (n i : ℕ) (classes : List Numbers) (inside usual : ℕ) (nodes : List ℕ) → i ≡ n → nodes_part (n - i) classes inside usual nodes ≡ triples_part classes inside usual nodes
unfolding nodes_part
no_nodes n i classes inside usual nodes e = ap (λ (k : ℕ). nodes_part k classes inside usual nodes) (difference_of_equal_is_zero n i e)

pub more_pairs : (n i : ℕ) (m : MachineModel) → i < n → triples (n - i) m ≡ Value (between 0 MAX_NODE) (λ a. Value (new_target m a) (λ b. Value (class_number m.classes) (λ class. triples (n - (i + 1)) (machine_with m.classes m.inside m.usual m.nodes (with_pair_class m.pair_classes a b class)))))
unfolding triples
more_pairs n i m low = ap (λ (k : ℕ). triples k m) (difference_is_suc_of_next n i low)

pub no_pairs : (n i : ℕ) (m : MachineModel) → i ≡ n → triples (n - i) m ≡ End m
unfolding triples
no_pairs n i m e = ap (λ (k : ℕ). triples k m) (difference_of_equal_is_zero n i e)
