use Rattle.std.proofs.Common.{arith, subst, ◌+◌, [], ◌∷◌, true}
use Rattle.goal_lexer.specs.declared.tokens.Token.{Token}
use Rattle.goal_lexer.specs.declared.tokens.TokenKind.{TokenKind}
use Rattle.goal_lexer.specs.Ahead.{IsAhead}
use Rattle.goal_parser.proofs.reader.Reader.take_plain.Goals as goal

pub go_on-requires-clause-ahead : goal.go_on-requires-clause-ahead
go_on-requires-clause-ahead c = (_, c.spaced_word_ahead-count.ensures.ahead (omega arith) c.args.self.now.place)

pub returns-clause-ahead : goal.returns-clause-ahead
returns-clause-ahead c =
    let place = c.args.self.now.place in
    let count = c.spaced_word_ahead-count.result in
    let t : Token = record { kind = c.args.kind; start = place + 1; end = place + count } in
    c.go_on.ensures.ahead c.args.self.now.parser t
    (subst (λ (k : TokenKind). IsAhead place c.args.rest.now count true (record { kind = k; start = place + 1; end = place + count } ∷ [])) c.requires.kind
    (c.spaced_word_ahead-count.ensures.ahead (omega arith) place))
    c.take_plain-taken.ensures.ok

pub returns-clause-fault : goal.returns-clause-fault
returns-clause-fault c =
    let place = c.args.self.now.place in
    let count = c.spaced_word_ahead-count.result in
    let t : Token = record { kind = c.args.kind; start = place + 1; end = place + count } in
    c.go_on.ensures.fault c.args.self.now.parser t
    (subst (λ (k : TokenKind). IsAhead place c.args.rest.now count true (record { kind = k; start = place + 1; end = place + count } ∷ [])) c.requires.kind
    (c.spaced_word_ahead-count.ensures.ahead (omega arith) place))
    c.take_plain-taken.ensures.fault
