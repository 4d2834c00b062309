use Rattle.std.proofs.Common.{refl, ◌∙◌}
use Rattle.sim_timeline.specs.Timeline.{timeline}
use Rattle.sim_timeline.proofs.pages.timeline.Goals as goal

pub returns : goal.returns
unfolding timeline
returns g c =
    let head = rw c.new-out.ensures at c.in_ok-put_first_line.ensures in
    c.into_bytes.ensures ∙ c.in_ok-put_lines.ensures ∙ rw (head, c.operations.ensures.all, c.requires.same) refl
