use Rattle.std.proofs.Common.{◌≡◌, ◌+◌, ◌-◌, ◌^◌, ◌≤◌, true, length}
use Rattle.goal_base.specs.Device.{Later, SameReadCounts, KeepsFiles}
use Rattle.goal_base.specs.DeviceCalls.{Takes}
use Rattle.goal_base.proofs.read.read_rest.Given as goal

abbrev pub invariant-pieces : goal.invariant-pieces
invariant-pieces g l =
    let old = g.H.Host.state l.initial.host in
    let now = g.H.Host.state l.host in
    record {
      within : length l.bytes.items ≤ 2 ^ 27 + 1;
      buffer : length l.buffer ≡ 16384;
      taken : Takes old now l.bytes.items;
      counts : SameReadCounts old now;
      reading : now.reading ≡ true;
      kept : KeepsFiles old now;
      later : Later old now;
    }

abbrev pub decreases-pieces : goal.decreases-pieces
decreases-pieces g l = 2 ^ 27 + 1 - length l.bytes.items
