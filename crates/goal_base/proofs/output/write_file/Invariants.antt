use Rattle.std.proofs.Common.{◌≡◌, ◌-◌, ◌≤◌, true, length, take, Some}
use Rattle.goal_base.specs.Device.{Later, KeepsReading, Holds}
use Rattle.goal_base.proofs.output.write_file.Given as goal

abbrev pub invariant-pieces : goal.invariant-pieces
invariant-pieces g l =
    let old = g.H.Host.state l.fn.host in
    let now = g.H.Host.state l.host in
    record {
      within : l.done ≤ length l.bytes;
      held : Holds old now l.name (take l.done l.bytes);
      output : old.tells ≡ true → now.output ≡ Some l.name;
      writing : now.writing ≡ true;
      count : now.write_count ≡ old.write_count;
      kept : KeepsReading old now;
      later : Later old now;
    }

abbrev pub decreases-pieces : goal.decreases-pieces
decreases-pieces g l = length l.bytes - l.done
