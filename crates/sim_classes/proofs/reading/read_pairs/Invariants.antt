use Rattle.std.proofs.Common.{ℕ, List, None, Some, ◌≡◌, ◌≤◌, ◌<◌, ◌-◌, length}
use Rattle.sim_params.specs.Costs.{Numbers}
use Rattle.sim_classes.specs.Machine.{machine_with}
use Rattle.sim_classes.specs.Parts.{pair_class_by}
use Rattle.sim_classes.specs.Form.{read_by_form, triples}
use Rattle.sim_classes.proofs.reading.read_pairs.Given as goal

-- the remaining pairs follow those so far
abbrev pub invariant-loop : goal.invariant-loop
invariant-loop l =
    ((numbers : List Numbers) (inside usual : ℕ) (nodes : List ℕ) → length numbers ≡ l.classes
    → read_by_form (triples l.count (machine_with numbers inside usual nodes (λ a b. None))) l.initial.words.place l.initial.words.words ≡ read_by_form (triples (l.count - l.counter) (machine_with numbers inside usual nodes (pair_class_by l.pair_classes.entries))) l.words.place l.words.words)
    × ((a b class : ℕ) → pair_class_by l.pair_classes.entries a b ≡ Some class → class < l.classes) × (l.counter ≤ l.count)
