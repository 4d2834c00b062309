use Rattle.std.proofs.Common.{ℕ, List, ◌≡◌, ◌≤◌, ◌-◌, [], length}
use Rattle.sim_params.specs.Costs.{Numbers}
use Rattle.sim_classes.specs.Form.{read_by_form, nodes_part}
use Rattle.sim_classes.proofs.reading.read_nodes.Given as goal

-- the remaining nodes follow those so far
abbrev pub invariant-loop : goal.invariant-loop
invariant-loop l =
    ((classes : List Numbers) (inside usual : ℕ) → read_by_form (nodes_part l.count classes inside usual []) l.initial.words.place l.initial.words.words ≡ read_by_form (nodes_part (l.count - l.counter) classes inside usual l.nodes.items) l.words.place l.words.words)
    × (length l.nodes.items ≡ l.counter) × (l.counter ≤ l.count)
