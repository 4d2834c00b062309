use Rattle.std.proofs.Common.{◌≡◌, ◌*◌, ◌^◌, ◌≤◌, take}
use Rattle.goal_graph.specs.Fault.{op_count, dep_count, note_count}
use Rattle.goal_graph.proofs.check.totals_of.Given as goal

-- the ranks so far are counted
abbrev pub invariant-loop-plan : goal.invariant-loop-plan
invariant-loop-plan l = record {
  ops : l.ops ≡ op_count (take l.plan-index l.plans);
  deps : l.deps ≡ dep_count (take l.plan-index l.plans);
  notes : l.notes ≡ note_count (take l.plan-index l.plans);
  ops_fit : l.ops ≤ l.plan-index * 2 ^ 64;
  deps_fit : l.deps ≤ l.plan-index * 2 ^ 64;
  notes_fit : l.notes ≤ l.plan-index * 2 ^ 64;
}
