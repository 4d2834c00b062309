use Rattle.std.proofs.Common.{is_some, sym, ap, ◌∙◌, subst}
use Rattle.goal_certify.specs.Carried.{HasEqualEnds}
use Rattle.goal_certify.specs.WalkSoFar.{WalkSoFar}
use Rattle.goal_certify.proofs.Steps.{fewer_left}
use Rattle.goal_certify.proofs.walk.values.carry.Goals as goal

pub apply-requires-clause-ends : goal.apply-requires-clause-ends
apply-requires-clause-ends c =
    subst HasEqualEnds (sym (ap (λ (v : WalkSoFar). v.plans) c.in-Some.ensures.after ∙ c.steps.invariant.0)) c.requires.ends

pub steps-smaller : goal.steps-smaller
steps-smaller c =
    fewer_left c.steps.walker c.next.new.self c.next.result (ap is_some c.in-Some.is) c.next.ensures.after c.next.ensures.each
