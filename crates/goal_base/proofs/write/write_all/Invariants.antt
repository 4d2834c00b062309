use Rattle.std.proofs.Common.{◌≡◌, ◌-◌, ◌≤◌, length, take}
use Rattle.goal_base.specs.Device.{SinkLater, Grows}
use Rattle.goal_base.proofs.write.write_all.Given as goal

abbrev pub invariant-pieces : goal.invariant-pieces
invariant-pieces g l =
    let old = g.S.Sink.state l.initial.sink in
    let now = g.S.Sink.state l.sink in
    record {
      within : l.done ≤ length l.piece;
      grown : Grows old now (take l.done l.piece);
      count : now.count ≡ old.count;
      later : SinkLater old now;
    }

abbrev pub decreases-pieces : goal.decreases-pieces
decreases-pieces g l = length l.piece - l.done
