use Rattle.std.proofs.Common.{◌≡◌, ◌-◌, ◌≤◌, Ok}
use Rattle.goal_binary.specs.Fields.{groups_at}
use Rattle.goal_binary.proofs.fields.groups_at.Given as goal

-- the groups from this place on are joined
abbrev pub invariant-loop-place : goal.invariant-loop-place
invariant-loop-place l = record {
  from : l.at ≤ l.place;
  to : l.place ≤ l.last_at;
  so_far : groups_at l.bytes (l.left - (l.place - l.at)) l.place ≡ Ok (l.groups, l.after);
}

abbrev pub decreases-loop-place : goal.decreases-loop-place
decreases-loop-place l = l.place - l.at
