use Rattle.std.proofs.Common.{◌≡◌, ◌+◌}
use Rattle.goal_certify.specs.Cursors.{IsCursorOf}
use Rattle.goal_certify.proofs.walk.ready.is_ready.Given as goal

-- the needs before this place are met
abbrev pub invariant-loop-at : goal.invariant-loop-at
invariant-loop-at g l =
    IsCursorOf (g.P.Progress.plans l.progress) (g.P.Progress.eager l.progress) (g.P.Progress.actions l.progress) l.id (record { at = l.at }) × (l.looks + l.fn.cursor.at ≡ l.fn.looks + l.at)
