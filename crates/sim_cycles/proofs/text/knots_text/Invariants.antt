use Rattle.std.proofs.Common.{◌≡◌, take}
use Rattle.std.specs.List.{flat_map}
use Rattle.sim_cycles.specs.KnotsText.{knot_line}
use Rattle.sim_cycles.proofs.text.knots_text.Given as goal

-- the lines so far
abbrev pub invariant-loop-knot : goal.invariant-loop-knot
invariant-loop-knot l = l.out ≡ flat_map knot_line (take l.knot-index l.list)
