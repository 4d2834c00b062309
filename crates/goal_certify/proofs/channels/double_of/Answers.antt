use Rattle.std.proofs.Common.{subst}
use Rattle.goal_certify.specs.Ends.{IsFirstAt}
use Rattle.goal_certify.proofs.EndLemmas.{end_read, double_least, double_none, double_nowhere, double_no_end}
use Rattle.goal_certify.proofs.Passes.{ops_differ_if_test_true, same_op_told, holds_if_none}
use Rattle.goal_certify.proofs.channels.double_of.Goals as goal

pub returns-in-Some-first-clause-least : goal.returns-in-Some-first-clause-least
returns-in-Some-first-clause-least c =
    double_least _ _ c.requires.ends _ _ _ (end_read _ _ _ _ c.op.ensures.op c.in-Some.ensures) c.in-Some-first.ensures.found (ops_differ_if_test_true _ _ c.if-ne.ensures)

pub returns-in_default-clause-none : goal.returns-in_default-clause-none
returns-in_default-clause-none c =
    double_none _ _ c.requires.ends _ _ (end_read _ _ _ _ c.op.ensures.op c.in-Some.ensures) (subst (IsFirstAt _ _) (same_op_told _ _ c.if-ne.ensures) c.in-Some-first.ensures.found)

pub returns-in_default-2-clause-none : goal.returns-in_default-2-clause-none
returns-in_default-2-clause-none c =
    double_nowhere _ _ c.requires.ends _ _ (end_read _ _ _ _ c.op.ensures.op c.in-Some.ensures) (holds_if_none _ c.in_default.is c.first.ensures.none)

pub returns-in-None-clause-none : goal.returns-in-None-clause-none
returns-in-None-clause-none c =
    double_no_end _ _ c.requires.ends _ (end_read _ _ _ _ c.op.ensures.op c.in-None.ensures)
