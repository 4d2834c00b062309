use Rattle.std.proofs.Common.{[], refl, sym, ap, ◌∙◌, subst}
use Rattle.goal_certify.specs.WalkSoFar.{WalkSoFar, IsLater}
use Rattle.goal_certify.proofs.Steps.{fewer_left, later_after, plans_after, walk_at, unchanged_if_none}
use Rattle.goal_certify.proofs.walk.Walker.finish.Goals as goal

pub steps-init : goal.steps-init
steps-init c = (refl, ([], refl))

pub steps-smaller : goal.steps-smaller
steps-smaller c =
    fewer_left c.steps.self c.next.new.self c.next.result (sym c.is_some.ensures ∙ c.steps-test.true) c.next.ensures.after c.next.ensures.each

pub steps-preserved : goal.steps-preserved
steps-preserved c =
    (plans_after c.steps.self c.next.new.self c.next.result (sym c.is_some.ensures ∙ c.steps-test.true) c.next.ensures.after ∙ c.steps.invariant.0, later_after c.steps.self c.next.new.self c.next.result _ (sym c.is_some.ensures ∙ c.steps-test.true) c.next.ensures.after c.steps.invariant.1)

pub returns-clause-plans : goal.returns-clause-plans
returns-clause-plans c =
    ap (λ (v : WalkSoFar). v.plans) (unchanged_if_none c.steps.self c.next.new.self c.next.result (sym c.is_some.ensures ∙ c.steps-test.false) c.next.ensures.same) ∙ c.steps.invariant.0

pub returns-clause-walk : goal.returns-clause-walk
returns-clause-walk c =
    walk_at c.steps.self c.next.new.self c.next.result (sym c.is_some.ensures ∙ c.steps-test.false) c.next.ensures.walk c.next.ensures.same

pub returns-clause-later : goal.returns-clause-later
returns-clause-later c =
    subst (λ (v : WalkSoFar). IsLater c.args.self.now.history v.history) (sym (unchanged_if_none c.steps.self c.next.new.self c.next.result (sym c.is_some.ensures ∙ c.steps-test.false) c.next.ensures.same)) c.steps.invariant.1
