use Rattle.std.proofs.Common.{◌≡◌, List, Some, length, refl, inl, inr, sym, ap, ◌∙◌, subst, arith}
use Rattle.std.proofs.lemmas.Option.{same_Some}
use Rattle.goal_graph.specs.Schedule.{Plan, operations}
use Rattle.goal_graph.specs.Matching.{pairs, partner}
use Rattle.goal_graph.specs.Fault.{IsOp}
use Rattle.goal_graph.proofs.ForCallers.{partner_exists}
use Rattle.goal_certify.proofs.Chosen.{partner_acts}
use Rattle.goal_certify.proofs.Queue.{put_key, queue_after_refresh, fewer_due}
use Rattle.goal_certify.proofs.walk.follow.follow_partner.Goals as goal

pub index-requires : goal.index-requires
index-requires c =
    let plans = c.args.state.now.plans in
    let is : partner (pairs plans c.args.state.now.history) c.args.action.op ≡ Some c.in-Some.partner = sym c.partner.ensures ∙ c.in-Some.is in
    subst (λ (ps : List Plan). IsOp ps c.in-Some.partner) (sym c.sched.ensures) (partner_exists plans c.args.state.now.history c.args.action.op c.in-Some.partner is)

pub put-requires : goal.put-requires
put-requires c =
    omega (arith, c.index.ensures.below, c.requires.rest.each, ap (λ (ps : List Plan). length (operations ps)) c.sched.ensures)

pub returns : goal.returns
returns c =
    let plans = c.args.state.now.plans in
    let h = c.args.state.now.history in
    let x = c.args.action.op in
    let y = c.in-Some.partner in
    let is : Some y ≡ partner (pairs plans h) x = sym c.in-Some.is ∙ c.partner.ensures in
    let acts = partner_acts plans h x c.known.ensures.each c.args.action.class c.requires.newest (sym c.moves_partner.ensures ∙ c.if-not-moves_partner.false) y (sym is) in
    let put = put_key plans h y _ c.index.result _ _ _ c.sched.ensures c.index.ensures.index (refl, acts) c.put.ensures in
    queue_after_refresh _ _ _ _ _ _ _ c.requires.rest put (λ slot z at due differ. elim due [ inl e ↦ absurd (differ (sym (same_Some y z (is ∙ e.1)))) | inr w ↦ w ])

pub returns-in_default : goal.returns-in_default
returns-in_default c =
    fewer_due _ _ _ _ _ c.requires.rest (λ slot y at due. elim due [ inl e ↦ absurd (c.in_default.not-Some y (c.partner.ensures ∙ e.1)) | inr w ↦ w ])
