use Rattle.std.proofs.Common.{◌≡◌, flat_map, take}
use Rattle.goal_certify.specs.Touches.{touches_of}
use Rattle.goal_certify.proofs.races.touches.touches_of_rank.Given as goal

-- the touches of the notes so far
abbrev pub invariant-loop-note : goal.invariant-loop-note
invariant-loop-note l = l.touches.items ≡ flat_map (touches_of l.plan.ops) (take l.note-index l.plan.notes)
