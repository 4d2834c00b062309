use Rattle.std.proofs.Common.{List, length, refl, sym, ap, ◌∙◌, arith}
use Rattle.goal_graph.specs.Schedule.{Plan, operations, needs}
use Rattle.goal_certify.proofs.Chosen.{idle_at_first, acts_at_first, needs_empty_if_length_zero, needs_not_empty_if_length_not_zero}
use Rattle.goal_certify.proofs.Queue.{put_key}
use Rattle.goal_certify.proofs.walk.follow.fill_one.Goals as goal

pub put-requires : goal.put-requires
put-requires c =
    omega (arith, c.index-slot.ensures.below, c.requires.each, ap (λ (ps : List Plan). length (operations ps)) c.sched-sched.ensures)

pub take-requires : goal.take-requires
take-requires c =
    omega (arith, c.index-slot.ensures.below, c.requires.each, ap (λ (ps : List Plan). length (operations ps)) c.sched-sched.ensures)

pub returns-then-is_empty : goal.returns-then-is_empty
returns-then-is_empty c =
    let are = c.needs.ensures.needs ∙ ap (λ (ps : List Plan). needs ps c.args.id) c.sched-sched.ensures in
    put_key _ _ c.args.id _ c.index-slot.result _ _ _ c.sched-sched.ensures c.index-slot.ensures.index (refl, acts_at_first c.args.state.now.plans c.args.id c.args.state.now.history c.requires.start c.requires.exists (sym are ∙ needs_empty_if_length_zero c.needs.result.now (sym c.is_empty.ensures ∙ c.if-is_empty.true))) c.put.ensures

pub returns : goal.returns
returns c =
    let are = c.needs.ensures.needs ∙ ap (λ (ps : List Plan). needs ps c.args.id) c.sched-sched.ensures in
    put_key _ _ c.args.id _ c.index-slot.result _ _ _ c.sched-sched.ensures c.index-slot.ensures.index (idle_at_first c.args.state.now.plans c.args.id c.args.state.now.history c.requires.start c.needs.result.now are (needs_not_empty_if_length_not_zero c.needs.result.now (sym c.is_empty.ensures ∙ c.if-is_empty.false))) c.take.ensures
