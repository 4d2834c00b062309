use Rattle.std.proofs.Common.{◌≡◌, ◌&&◌, not, Some, None, Option, refl, sym, ap, ◌∙◌}
use Rattle.goal_graph.specs.declared.action.OpId.{OpId}
use Rattle.goal_graph.specs.Action.{happened}
use Rattle.goal_graph.specs.declared.action.Class.TheVariants.{Data}
use Rattle.goal_graph.proofs.ForCallers.{receive_is_op, partner_exists}
use Rattle.goal_certify.specs.declared.walk.entry.OpProgress.{OpProgress}
use Rattle.goal_certify.proofs.Choice.{unpaired_may_not_serve, may_serve_iff_fresh_and_transferred, and_is_second_if_first_true, and_is_first_if_first_false}
use Rattle.goal_certify.proofs.walk.state.WalkState.may_serve.Goals as goal

pub entry-entry-requires : goal.entry-entry-requires
entry-entry-requires c = receive_is_op _ c.args.recv c.requires

-- an option that is never `Some` is `None`
none_if_never_some : (o : Option OpId) → ((y : OpId) → o ≡ Some y → ⊥) → o ≡ None
none_if_never_some None f = refl
none_if_never_some (Some y) f = absurd (f y refl)

pub returns-in_default : goal.returns-in_default
returns-in_default c =
    sym (unpaired_may_not_serve _ c.args.self.now.history c.args.recv c.requires (sym (ap (λ (e : OpProgress). e.paired) c.entry-entry.ensures) ∙ none_if_never_some _ c.in_default.not-Some))

pub entry-requires : goal.entry-requires
entry-requires c =
    partner_exists _ c.args.self.now.history c.args.recv c.in-Some.send (sym (ap (λ (e : OpProgress). e.paired) c.entry-entry.ensures) ∙ c.in-Some.is)

pub returns-then-not-entry : goal.returns-then-not-entry
returns-then-not-entry c =
    let pair = sym (ap (λ (e : OpProgress). e.paired) c.entry-entry.ensures) ∙ c.in-Some.is in
    and_is_second_if_first_true _ _ _ (may_serve_iff_fresh_and_transferred _ c.args.self.now.history c.args.recv c.requires c.in-Some.send pair ∙ (λ i. not (sym (ap (λ (e : OpProgress). e.served) c.entry-entry.ensures) i) && sym (ap (λ (e : OpProgress). e.sent) c.entry.ensures) i)) c.if-not-entry.true

pub returns-else-not-entry : goal.returns-else-not-entry
returns-else-not-entry c =
    let pair = sym (ap (λ (e : OpProgress). e.paired) c.entry-entry.ensures) ∙ c.in-Some.is in
    and_is_first_if_first_false _ _ _ (may_serve_iff_fresh_and_transferred _ c.args.self.now.history c.args.recv c.requires c.in-Some.send pair ∙ ap (λ (e : OpProgress). not e.served && happened Data c.in-Some.send c.args.self.now.history) (sym c.entry-entry.ensures)) c.if-not-entry.false
