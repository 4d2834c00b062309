use Rattle.std.proofs.Common.{⊎_elim, inl, inr, refl}
use Rattle.std.proofs.lemmas.Bool.{both_ways}
use Rattle.goal_certify.proofs.Passes.{wildcard_read, wildcard_only, wildcard_nowhere, negation_false, negation_true}
use Rattle.goal_certify.proofs.channels.is_wildcard.Goals as goal

pub returns-then-is_none : goal.returns-then-is_none
returns-then-is_none c =
    (λ t. wildcard_read _ _ _ c.op.ensures.op _ _ _ c.in-Recv.is (inl c.if-is_none.ensures), λ w. c.if-is_none.true)

pub returns-else-is_none : goal.returns-else-is_none
returns-else-is_none c =
    (λ t. wildcard_read _ _ _ c.op.ensures.op _ _ _ c.in-Recv.is (inr (negation_false _ _ c.is_none-else-is_none.ensures t)), λ w. ⊎_elim (λ q. absurd (both_ways _ q c.if-is_none.ensures)) (λ q. negation_true _ _ c.is_none-else-is_none.ensures q) (wildcard_only _ _ _ c.op.ensures.op _ _ _ c.in-Recv.is w))

pub returns-in-Calc : goal.returns-in-Calc
returns-in-Calc c =
    (λ t. absurd (both_ways _ refl t), λ w. absurd (wildcard_nowhere _ _ _ c.op.ensures.op c.in-Calc.is w))
