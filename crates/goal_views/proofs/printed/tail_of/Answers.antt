use Rattle.std.proofs.Common.{sym, ◌∙◌}
use Rattle.goal_views.proofs.KnotLemmas.{no_stuck_line}
use Rattle.goal_views.proofs.printed.tail_of.Goals as goal

pub returns-then-stuck-eq0 : goal.returns-then-stuck-eq0
returns-then-stuck-eq0 g c =
    c.new.ensures.items ∙ no_stuck_line c.args.sched.now (g.C.Costs.model c.args.engine.now.costs) c.args.engine.now.history (sym c.requires.stuck ∙ c.if-stuck-eq0.true)

pub returns : goal.returns
returns g c = rw (c.deref.ensures.value, c.in_ok-list.ensures.list) at c.stuck_text.ensures
