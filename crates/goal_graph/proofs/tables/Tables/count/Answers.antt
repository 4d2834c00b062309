-- The last place is the number of all.
use Rattle.std.proofs.Common.{length, ◌∙◌, arith}
use Rattle.std.proofs.lemmas.List.{get_or_default}
use Rattle.goal_graph.proofs.Places.{AreStarts-last}
use Rattle.goal_graph.proofs.tables.Tables.count.Goals as goal

pub returns : goal.returns
returns c =
    let at = c.len.ensures ∙ c.self.inside.plans.ok.0 in
    let starts = c.self.invariant.starts_are in
    let read = get_or_default c.self.inside.starts.items (length c.self.inside.plans.items) c.index.result.now 0 (omega (arith, starts.one_each)) in
    rw (← c.self.view_is) (rw at at c.index.ensures ∙ read ∙ AreStarts-last c.self.inside.plans.items c.self.inside.starts.items starts)
