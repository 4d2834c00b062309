use Rattle.std.proofs.Common.{append_assoc}
use Rattle.sim_timeline.specs.Timeline.{timeline}
use Rattle.goal_views.proofs.printed.print_run.Goals as goal

pub returns-clause-text : goal.returns-clause-text
unfolding timeline
returns-clause-text g c =
    rw (c.in_ok-head.ensures.line, c.new.ensures, c.in_ok-tail.ensures, c.requires.same) (simp append_assoc)
