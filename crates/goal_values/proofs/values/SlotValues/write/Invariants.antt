use Rattle.std.proofs.Common.{ℕ, ◌≡◌, ◌≢◌, ◌+◌, ◌^◌, ◌≤◌, length, map, drop}
use Rattle.std.specs.List.{sum_by}
use Rattle.goal_limits.specs.Limits.{weight_limit}
use Rattle.goal_blocks.specs.SlotRanges.{slots_in}
use Rattle.goal_blocks.specs.Values.{Value, write}
use Rattle.goal_blocks.specs.Weight.{stored}
use Rattle.goal_values.specs.Kept.{values}
use Rattle.goal_values.specs.Sums.{meaning}
use Rattle.goal_values.proofs.values.SlotValues.write.Given as goal

-- writing the remaining values completes it
abbrev pub invariant-loop-term : goal.invariant-loop-term
invariant-loop-term l = record {
  sums : l.self.sums ≡ l.initial.self.sums;
  ranks : l.self.kept.ranks ≡ l.initial.self.kept.ranks;
  many : length l.slots + l.term-index ≡ length l.terms;
  left : write l.rank l.slots (drop l.term-index (map (meaning l.initial.self.sums) l.terms)) (values l.self.kept) ≡ write l.rank (slots_in l.ranges) (map (meaning l.initial.self.sums) l.terms) (values l.initial.self.kept);
  light : stored l.self.kept.ranks (values l.self.kept) + sum_by (λ (v : Value). length v) (drop l.term-index (map (meaning l.initial.self.sums) l.terms)) ≤ weight_limit;
  others : (r k : ℕ) → r ≢ l.rank → values l.self.kept r k ≡ values l.initial.self.kept r k;
}
