use Rattle.std.proofs.Common.{◌≡◌, ◌≤◌, ◌-◌, length, take, []}
use Rattle.goal_lexer.specs.Scan.{scan}
use Rattle.goal_lexer.specs.Sound.{IsSound}
use Rattle.goal_lexer.proofs.scanning.take_open_piece.Given as goal

-- the bytes taken so far ended no token
abbrev pub invariant-loop-taken : goal.invariant-loop-taken
invariant-loop-taken l = record {
  within : l.taken ≤ length l.piece;
  quiet : scan l.initial.mode l.place (take l.taken l.piece) ≡ (l.mode, []);
  sound : IsSound l.mode;
}

abbrev pub decreases-loop-taken : goal.decreases-loop-taken
decreases-loop-taken l = length l.piece - l.taken
