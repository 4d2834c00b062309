use Rattle.std.proofs.Common.{◌≡◌, ◌&&◌, not, sym, ap, ◌∙◌}
use Rattle.goal_graph.specs.Action.{happened}
use Rattle.goal_graph.specs.Allowed.{is_ready}
use Rattle.goal_blocks.specs.Walk.{no_send}
use Rattle.goal_certify.specs.declared.walk.entry.OpProgress.{OpProgress}
use Rattle.goal_certify.specs.WalkSoFar.{is_done}
use Rattle.goal_certify.proofs.Choice.{first_action_may_act_iff_fresh_and_ready, done_known}
use Rattle.goal_certify.proofs.walk.state.WalkState.may_start.Goals as goal

pub returns-then-is_done-clause-may : goal.returns-then-is_done-clause-may
returns-then-is_done-clause-may c =
    let plans = c.args.self.now.plans in
    let h = c.args.self.now.history in
    let x = c.args.id in
    let done : c.is_done.result ≡ happened c.args.first x h = c.is_done.ensures ∙ ap (λ (e : OpProgress). is_done e c.args.first) c.entry.ensures ∙ done_known plans h x c.args.first in
    sym (first_action_may_act_iff_fresh_and_ready plans h x c.args.first c.requires.op c.requires.first ∙ ap (λ b. not b && is_ready plans no_send h x) (sym done ∙ c.if-is_done.true))

pub returns-clause-may : goal.returns-clause-may
returns-clause-may c =
    let plans = c.args.self.now.plans in
    let h = c.args.self.now.history in
    let x = c.args.id in
    let done : c.is_done.result ≡ happened c.args.first x h = c.is_done.ensures ∙ ap (λ (e : OpProgress). is_done e c.args.first) c.entry.ensures ∙ done_known plans h x c.args.first in
    c.is_ready_uncounted.ensures.ready ∙ sym (first_action_may_act_iff_fresh_and_ready plans h x c.args.first c.requires.op c.requires.first ∙ ap (λ b. not b && is_ready plans no_send h x) (sym done ∙ c.if-is_done.false))
