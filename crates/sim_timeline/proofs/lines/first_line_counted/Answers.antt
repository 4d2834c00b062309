use Rattle.std.proofs.Common.{◌∙◌}
use Rattle.sim_timeline.proofs.TimelineLemmas.{summary_line_is_first_line}
use Rattle.sim_timeline.proofs.lines.first_line_counted.Goals as goal

pub returns-clause-line : goal.returns-clause-line
returns-clause-line g c =
    let line = summary_line_is_first_line c.args.sched.now (g.C.Costs.model c.args.engine.now.costs) c.args.engine.now.history _ _ _ c.sum_up-summary.ensures in
    c.into_bytes.ensures ∙ (rw (c.new-out.ensures, line) at c.in_ok-put_summary.ensures)

pub returns-clause-stuck : goal.returns-clause-stuck
returns-clause-stuck g c = c.sum_up-summary.ensures.stuck_is
