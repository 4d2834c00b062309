use Rattle.sim_timeline.proofs.TimelineLemmas.{summary_line_is_first_line}
use Rattle.sim_timeline.proofs.lines.put_first_line.Goals as goal

pub returns : goal.returns
returns g c =
    rw (summary_line_is_first_line c.args.sched.now (g.C.Costs.model c.args.engine.now.costs) c.args.engine.now.history _ _ _ c.sum_up.ensures) at c.put_summary.ensures
