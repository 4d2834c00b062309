use Rattle.std.proofs.Common.{ℕ, ◌<◌, ◌≡◌, ◌⊎◌, Contains, get_or}
use Rattle.sim_cycles.specs.Places.{mark_at}
use Rattle.sim_cycles.specs.declared.heads.Mark.TheVariants.{Known}
use Rattle.sim_cycles.proofs.heads.settle.Given as goal

-- what was passed is marked with the head, and nothing else changed
abbrev pub invariant-loop-at : goal.invariant-loop-at
invariant-loop-at l = record {
  set : (k : ℕ) → k < l.at-index → mark_at l.marks (get_or l.way k 0) ≡ Known l.head;
  kept : (i : ℕ) → (mark_at l.marks i ≡ mark_at l.initial.marks i) ⊎ (Contains l.way i × (mark_at l.marks i ≡ Known l.head));
}
