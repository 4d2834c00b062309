use Rattle.goal_lexer.proofs.AheadLaws.{stands_ahead_by_parts}
use Rattle.goal_lexer.proofs.lexing.Lexer.go_on.Goals as goal

pub returns-clause-stands : goal.returns-clause-stands
returns-clause-stands c text stands =
    let fields = c.self.inside in
    (stands_ahead_by_parts fields.mode fields.place fields.ends_run c.args.self.now c.self.view_is c.requires.between c.args.count c.args.rest.now
    c.args.ends_run c.requires.ahead.0 text c.requires.apart c.requires.some c.requires.ahead.1 stands).0

pub returns-clause-handed : goal.returns-clause-handed
returns-clause-handed c tokens ahead text stands =
    let fields = c.self.inside in
    (stands_ahead_by_parts fields.mode fields.place fields.ends_run c.args.self.now c.self.view_is c.requires.between c.args.count c.args.rest.now
    c.args.ends_run tokens text c.requires.apart c.requires.some ahead stands).1
