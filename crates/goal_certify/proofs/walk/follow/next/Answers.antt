use Rattle.std.proofs.Common.{List, get_or, ap, ◌∙◌}
use Rattle.goal_graph.specs.declared.action.OpId.{OpId}
use Rattle.goal_graph.specs.Schedule.{Plan, operations}
use Rattle.goal_certify.proofs.Queue.{complete, found_at, may_some, comes_first}
use Rattle.goal_certify.proofs.walk.follow.next.Goals as goal

abbrev none : OpId
none = record { rank = 0; op = 0 }

pub returns-in_default-clause-none : goal.returns-in_default-clause-none
returns-in_default-clause-none c =
    complete _ _ c.known.ensures.each c.args.queue.now c.requires c.in_default.ensures.none

pub class_of-requires-clause-some : goal.class_of-requires-clause-some
class_of-requires-clause-some c =
    let plans = c.args.state.now.plans in
    let h = c.args.state.now.history in
    let x = get_or c.operations.result.now c.in-Some.slot none in
    let items = c.operations.ensures.all ∙ ap (λ (ps : List Plan). operations ps) c.sched.ensures in
    let at = found_at plans h c.known.ensures.each c.args.queue.now c.requires c.operations.result.now items c.in-Some.slot c.in-Some.slot none c.in-Some.ensures.least.has in
    may_some plans h c.known.ensures.each c.args.queue.now c.requires c.in-Some.slot c.in-Some.slot x c.in-Some.ensures.least.has at

pub returns-clause-first : goal.returns-clause-first
returns-clause-first c =
    let plans = c.args.state.now.plans in
    let h = c.args.state.now.history in
    let x = get_or c.operations.result.now c.in-Some.slot none in
    let items = c.operations.ensures.all ∙ ap (λ (ps : List Plan). operations ps) c.sched.ensures in
    let at = found_at plans h c.known.ensures.each c.args.queue.now c.requires c.operations.result.now items c.in-Some.slot c.in-Some.slot none c.in-Some.ensures.least.has in
    comes_first plans h c.known.ensures.each c.args.queue.now c.requires c.in-Some.slot c.in-Some.slot x c.class_of.result c.in-Some.ensures.least at c.class_of.ensures
