use Rattle.std.proofs.Common.{◌≡◌, ◌≤◌, ◌-◌, [], length, map}
use Rattle.sim_params.specs.Numbers.{numbers}
use Rattle.sim_classes.specs.Form.{read_by_form, classes_part}
use Rattle.sim_classes.proofs.reading.read_classes.Given as goal

-- the remaining classes follow those so far
abbrev pub invariant-loop : goal.invariant-loop
invariant-loop l =
    (read_by_form (classes_part l.count []) l.initial.words.place l.initial.words.words ≡ read_by_form (classes_part (l.count - l.counter) (map numbers l.classes.items)) l.words.place l.words.words)
    × (length l.classes.items ≡ l.counter) × (l.counter ≤ l.count)
