use Rattle.goal_certify.proofs.Rows.{cleared_word}
use Rattle.goal_certify.proofs.races.rows.clear.Goals as goal

pub returns : goal.returns
returns c = cleared_word c.args.rows.now c.args.row c.args.number c.requires.row c.requires.number
