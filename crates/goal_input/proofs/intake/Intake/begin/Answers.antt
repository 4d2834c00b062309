use Rattle.std.proofs.Common.{[], sym, ◌∙◌}
use Rattle.goal_input.proofs.FollowLemmas.{fresh}
use Rattle.goal_input.proofs.IntakeLemmas.{nonempty_input_begins}
use Rattle.goal_input.proofs.intake.Intake.begin.Goals as goal

pub returns-in_ok-feed : goal.returns-in_ok-feed
returns-in_ok-feed c = (
  nonempty_input_begins _ c.args.piece.now c.requires.some (sym c.is_compiled.ensures ∙ c.if-is_compiled.false),
  c.in_ok-feed.ensures [] (fresh c.new-reader.result c.new-reader.ensures.read c.new-reader.ensures.place),
)
