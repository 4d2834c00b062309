-- Where all operations need only ones of lesser numbers, or only ones of greater numbers, each has a depth.
use Rattle.std.proofs.Common.{◌≡◌, sym, ap, ◌∙◌, List, get_or}
use Rattle.goal_graph.specs.Schedule.{Plan, deps_at}
use Rattle.goal_graph.proofs.Places.{deps_at-rank}
use Rattle.goal_graph.proofs.Backwards.{no_cycle_of_lesser_needs, no_cycle_of_greater_needs}
use Rattle.goal_graph.proofs.cycle.first_in_rank.Goals as goal

pub returns-then-all_go_back : goal.returns-then-all_go_back
returns-then-all_go_back c =
    let plans = c.args.tables.now in
    let p = c.index-plans-rank.result in
    let read : c.deref.result.now ≡ deps_at plans c.args.rank =
    c.deref.ensures.value ∙ ap (λ (q : Plan). q.deps) (c.plan.view_is ∙ c.index-plans-rank.is ∙ ap (λ (ps : List Plan). get_or ps c.args.rank p) c.plans.ensures.plans) ∙ sym (deps_at-rank plans c.args.rank p c.requires.rank) in
    no_cycle_of_lesser_needs plans c.args.rank (rw read at (c.all_go_back.ensures c.if-all_go_back.true))

pub returns-then-all_go_ahead : goal.returns-then-all_go_ahead
returns-then-all_go_ahead c =
    let plans = c.args.tables.now in
    let p = c.index-plans-rank.result in
    let read : c.deref-2.result.now ≡ deps_at plans c.args.rank =
    c.deref-2.ensures.value ∙ ap (λ (q : Plan). q.deps) (c.plan.view_is ∙ c.index-plans-rank.is ∙ ap (λ (ps : List Plan). get_or ps c.args.rank p) c.plans.ensures.plans) ∙ sym (deps_at-rank plans c.args.rank p c.requires.rank) in
    no_cycle_of_greater_needs plans c.args.rank c.requires.plain c.requires.rank (rw read at (c.all_go_ahead.ensures c.if-all_go_ahead.true))
