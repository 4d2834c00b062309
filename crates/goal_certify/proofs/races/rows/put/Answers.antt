use Rattle.goal_certify.proofs.Rows.{put_adds, put_keeps, put_no_more}
use Rattle.goal_certify.proofs.races.rows.put.Goals as goal

pub returns-clause-adds : goal.returns-clause-adds
returns-clause-adds c = put_adds c.args.rows.now c.args.row c.args.number c.requires.row c.requires.number

pub returns-clause-keeps : goal.returns-clause-keeps
returns-clause-keeps c = put_keeps c.args.rows.now c.args.row c.args.number c.requires.row c.requires.number

pub returns-clause-no_more : goal.returns-clause-no_more
returns-clause-no_more c = put_no_more c.args.rows.now c.args.row c.args.number c.requires.row c.requires.number
