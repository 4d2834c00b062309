use Rattle.std.proofs.Common.{refl, inl}
use Rattle.goal_cli.proofs.AnswerLemmas.{whole_line_is_said}
use Rattle.goal_cli.proofs.command.say.Goals as goal

pub returns-in-Ok-clause-said : goal.returns-in-Ok-clause-said
returns-in-Ok-clause-said g c = inl (refl, whole_line_is_said _ _ _ c.in-Ok.ensures.ok)
