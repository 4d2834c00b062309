use Rattle.std.proofs.Common.{◌≡◌, take}
use Rattle.std.specs.List.{flat_map}
use Rattle.sim_stuck.specs.StuckText.{stuck_line}
use Rattle.sim_stuck.proofs.lines.stuck_text.Given as goal

-- the lines so far
abbrev pub invariant-loop-stuck : goal.invariant-loop-stuck
invariant-loop-stuck l = l.out ≡ flat_map stuck_line (take l.stuck-index l.list)
