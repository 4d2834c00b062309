use Rattle.std.proofs.Common.{◌≡◌, ◌≤◌, ◌+◌, [], None, length, take}
use Rattle.sim_match.specs.Patterns.{lists_for}
use Rattle.sim_match.specs.Looks.{unseen}
use Rattle.sim_match.specs.Matcher.{actions_of, side_by_side, IsJoined, IsKept}
use Rattle.sim_match.proofs.match_table.MatchTable.join.Given as goal

abbrev pub invariant-seek : goal.invariant-seek
invariant-seek g l = record {
  joined : (kept : IsKept l.sched l.fn.self) → IsJoined l.sched kept.numbered.keys (actions_of l.sched l.fn.self.events.items) l.fn.send [] (take l.number-index (lists_for l.sched kept.numbered.keys l.fn.send)) (side_by_side l.self.receives l.self.sends) l.met;
  as_many : length l.self.receives ≡ length l.self.sends;
  numbers : l.self.numbers ≡ l.fn.self.numbers;
  marks : l.self.marks ≡ l.fn.self.marks;
  events : l.self.events ≡ l.fn.self.events;
  count : l.self.count ≡ l.fn.self.count;
  standing : l.self.standing ≡ l.fn.self.standing;
  covered : unseen l.self.receives + unseen l.self.sends ≤ l.self.credit;
  bounded : l.self.credit ≤ l.fn.self.credit + l.number-index;
  counted : l.steps ≤ l.fn.steps + l.number-index;
}

abbrev pub invariant-stand : goal.invariant-stand
invariant-stand g l = record {
  joined : (kept : IsKept l.sched l.fn.self) → IsJoined l.sched kept.numbered.keys (actions_of l.sched l.fn.self.events.items) l.fn.send (take l.number-index (lists_for l.sched kept.numbered.keys l.fn.send)) (lists_for l.sched kept.numbered.keys l.fn.send) (side_by_side l.self.receives l.self.sends) None;
  as_many : length l.self.receives ≡ length l.self.sends;
  numbers : l.self.numbers ≡ l.fn.self.numbers;
  marks : l.self.marks ≡ l.fn.self.marks;
  events : l.self.events ≡ l.fn.self.events;
  count : l.self.count ≡ l.fn.self.count;
  standing : l.self.standing ≡ l.fn.self.standing + 1;
  covered : unseen l.self.receives + unseen l.self.sends ≤ l.self.credit;
  bounded : l.self.credit ≤ l.fn.self.credit + 4 + l.number-index;
  counted : l.steps ≤ l.fn.steps + 4 + l.number-index;
}
