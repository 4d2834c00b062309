use Rattle.std.proofs.Common.{rules, inl}
use Rattle.goal_cli.proofs.AnswerLemmas.{says_equal_line}
use Rattle.goal_cli.proofs.command.tell.Goals as goal

pub returns-in-BadLine-clause-answered : goal.returns-in-BadLine-clause-answered
returns-in-BadLine-clause-answered g c = rw c.in-BadLine.is c.say.ensures.said

pub returns-in-ReadFault-clause-answered : goal.returns-in-ReadFault-clause-answered
returns-in-ReadFault-clause-answered g c = rw c.in-ReadFault.is c.say-in-ReadFault.ensures.said

pub returns-in-WriteFault-clause-answered : goal.returns-in-WriteFault-clause-answered
returns-in-WriteFault-clause-answered g c = rw c.in-WriteFault.is c.say-in-WriteFault.ensures.said

pub returns-in-Ok-clause-answered : goal.returns-in-Ok-clause-answered
returns-in-Ok-clause-answered g c = rw c.in-Refused.is (inl (says_equal_line _ _ _ _ c.deref.result.now _ (search rules) c.say-in-Ok.ensures.said))
