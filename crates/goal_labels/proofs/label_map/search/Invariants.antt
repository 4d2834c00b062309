use Rattle.std.proofs.Common.{ℕ, ◌-◌, ◌<◌, ◌≤◌}
use Rattle.goal_labels.specs.Entries.{entries_of, IsAt}
use Rattle.goal_labels.proofs.label_map.search.Given as goal

abbrev pub invariant-loop-low : goal.invariant-loop-low
invariant-loop-low l =
    record {
      from : l.first ≤ l.low;
      within : l.high ≤ l.ascending;
      among : (i : ℕ) → l.first ≤ i → i < l.ascending → IsAt (entries_of l.bytes l.entries) l.label i → (l.low ≤ i) × (i < l.high);
    }

abbrev pub decreases-loop-low : goal.decreases-loop-low
decreases-loop-low l = l.high - l.low
