-- Each law is a lemma.
use Rattle.std.proofs.Common.{⊎_elim}
use Rattle.sim_params.proofs.Reasons.{op_is_stuck, partner_is_stuck, op_is_unmet, partner_is_absent, partners_of_alone_taken, calc_is_not_alone}
use Rattle.sim_params.proofs.laws.laws_of_reasons.Goals as goal

pub returns-clause-reasons_are_stuck : goal.returns-clause-reasons_are_stuck
returns-clause-reasons_are_stuck c = λ plans eager h x y i. ⊎_elim (op_is_stuck plans eager h x y i) (partner_is_stuck plans eager h x y i)

pub returns-clause-op_is_needed : goal.returns-clause-op_is_needed
returns-clause-op_is_needed c = op_is_unmet

pub returns-clause-partner_is_absent : goal.returns-clause-partner_is_absent
returns-clause-partner_is_absent c = partner_is_absent

pub returns-clause-alone_is_alone : goal.returns-clause-alone_is_alone
returns-clause-alone_is_alone c = λ plans eager h x y done. partners_of_alone_taken plans eager h done x y

pub returns-clause-calc_is_not_alone : goal.returns-clause-calc_is_not_alone
returns-clause-calc_is_not_alone c = λ plans eager h x done. calc_is_not_alone plans eager h done x
