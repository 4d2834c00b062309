use Rattle.std.proofs.Common.{◌≡◌, true, false, All, take, slice_index_or}
use Rattle.goal_graph.specs.declared.plan.Need.{Need}
use Rattle.goal_graph.specs.Schedule.{needs}
use Rattle.goal_certify.proofs.races.before.first_missing.Given as goal

-- the needs so far are done
abbrev pub invariant-loop-need : goal.invariant-loop-need
invariant-loop-need l = All (λ (d : Need). slice_index_or l.done d.op false ≡ true) (take l.need-index (needs l.sched l.fn.id))
