use Rattle.std.proofs.Common.{◌≡◌, ◌<◌, length, take, drop, sym, ◌∙◌, arith}
use Rattle.std.specs.List.{flat_map, All}
use Rattle.std.proofs.lemmas.List.{take_rest}
use Rattle.std.proofs.lemmas.List.Elements.{All-drop}
use Rattle.goal_graph.specs.Schedule.{operations}
use Rattle.goal_graph.specs.Fault.{IsOp}
use Rattle.sim_timeline.specs.Timeline.{line_of}
use Rattle.sim_timeline.proofs.TimelineLemmas.{page_and_rest, no_line_left}
use Rattle.sim_timeline.proofs.pages.Lines.next_page.Goals as goal

pub returns-clause-page : goal.returns-clause-page
returns-clause-page g c =
    let engine = c.self.inside.engine in
    let ops = operations engine.plans in
    let done = c.self.inside.done in
    let count = c.min-count.result in
    let line = line_of engine.plans (g.C.Costs.model engine.costs) engine.history in
    let page : c.in_ok-page.page.items ≡ flat_map line (take count (drop done ops)) =
    rw (take_rest c.operations.result.now done, c.operations.ensures.all, c.sched.ensures) at c.in_ok-page.ensures in
    rw page (sym c.self.view_is ∙ page_and_rest line ops done count)

pub returns-clause-end : goal.returns-clause-end
returns-clause-end g c empty =
    let engine = c.self.inside.engine in
    let ops = operations engine.plans in
    let done = c.self.inside.done in
    let count = c.min-count.result in
    let costs = g.C.Costs.model engine.costs in
    let line = line_of engine.plans costs engine.history in
    let page : c.in_ok-page.page.items ≡ flat_map line (take count (drop done ops)) =
    rw (take_rest c.operations.result.now done, c.operations.ensures.all, c.sched.ensures) at c.in_ok-page.ensures in
    let least =
    rw (take_rest c.operations.result.now done, c.operations.ensures.all, c.sched.ensures) at c.min-count.ensures in
    let some : 0 < length (drop done ops) → 0 < count = λ p. omega (arith, least) in
    let exist : All (IsOp engine.plans) ops = rw (c.operations.ensures.all, c.sched.ensures) at c.operations.ensures.exist in
    sym c.self.view_is
    ∙ no_line_left engine.plans costs engine.history (drop done ops) count some
    (All-drop (IsOp engine.plans) done ops exist) (sym page ∙ empty)
