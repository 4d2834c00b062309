use Rattle.std.proofs.Common.{◌≡◌, Some, inl, inr, sym, ◌∙◌}
use Rattle.std.proofs.lemmas.Option.{same_Some}
use Rattle.sim_params.specs.Times.{mate}
use Rattle.sim_events.proofs.Queue.{possible_keys, refreshed_is_no_longer_due, fewer_due}
use Rattle.sim_events.proofs.follow.follow_partner.Goals as goal
use Rattle.goal_graph.proofs.ForCallers.{partner_exists}
use Rattle.goal_graph.specs.Action.{plain}

pub refresh-requires : goal.refresh-requires
refresh-requires g c =
    let is : mate c.args.state.now.plans (g.C.Costs.model c.args.state.now.costs) c.args.state.now.history c.args.action.op ≡ Some c.in-Some.partner = sym c.partner.ensures ∙ c.in-Some.is in
    record { exists = partner_exists c.args.state.now.plans (plain c.args.state.now.history) c.args.action.op c.in-Some.partner is; possible = possible_keys _ _ _ _ _ c.requires.rest }

pub returns-clause-queue : goal.returns-clause-queue
returns-clause-queue g c =
    let is : Some c.in-Some.partner ≡ mate c.args.state.now.plans (g.C.Costs.model c.args.state.now.costs) c.args.state.now.history c.args.action.op = sym c.in-Some.is ∙ c.partner.ensures in
    refreshed_is_no_longer_due _ _ _ _ _ _ _ _ c.requires.rest c.refresh.ensures.queue (λ y o due differ. elim due [ inl e ↦ absurd (differ (sym (same_Some c.in-Some.partner y (is ∙ e.1)))) | inr w ↦ w ])

pub returns-in_default-partner-clause-queue : goal.returns-in_default-partner-clause-queue
returns-in_default-partner-clause-queue g c =
    fewer_due _ _ _ _ _ _ c.requires.rest (λ y o due. elim due [ inl e ↦ absurd (c.in_default-partner.not-Some y (c.partner.ensures ∙ e.1)) | inr w ↦ w ])

pub returns-in-Serve-clause-queue : goal.returns-in-Serve-clause-queue
returns-in-Serve-clause-queue g c =
    fewer_due _ _ _ _ _ _ c.requires.rest (λ y o due. elim due [ inl e ↦ absurd (e.0 c.in-Serve.is) | inr w ↦ w ])
