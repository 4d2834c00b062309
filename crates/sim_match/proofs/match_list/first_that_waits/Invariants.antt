use Rattle.std.proofs.Common.{◌≡◌, ◌≤◌, ◌+◌, true, All, take, length}
use Rattle.goal_graph.specs.Schedule.{operations}
use Rattle.sim_match.specs.declared.match_list.MatchEntry.{MatchEntry}
use Rattle.sim_match.specs.MatchLists.{is_marked}
use Rattle.sim_match.proofs.match_list.first_that_waits.Given as goal

abbrev pub invariant-loop-at : goal.invariant-loop-at
invariant-loop-at l = record {
  skipped : All (λ (e : MatchEntry). is_marked (operations l.sched) l.marks e.op ≡ true) (take l.at l.entries);
  counted : length l.entries ≤ l.at + l.credit;
  looks : l.fn.credit + l.head ≤ l.credit + l.at;
  less : l.credit ≤ l.fn.credit;
}
