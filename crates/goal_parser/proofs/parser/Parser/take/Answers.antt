use Rattle.std.proofs.Common.{◌≢◌, sym, ap, ◌∙◌, subst, OnOk, IfErr}
use Rattle.goal_lexer.specs.declared.tokens.TokenKind.{TokenKind}
use Rattle.goal_lexer.specs.declared.tokens.TokenKind.TheVariants as token
use Rattle.goal_parser.specs.declared.token_faults.TokenFault.{TokenFault}
use Rattle.goal_parser.specs.declared.token_faults.TokenFault.TheVariants.{NoMemory}
use Rattle.goal_parser.specs.Taken.{Takes, Refuses}
use Rattle.goal_parser.proofs.parser.Parser.take.Goals as goal

pub returns-in-Label-clause-ok : goal.returns-in-Label-clause-ok
returns-in-Label-clause-ok c =
    let t = c.args.token.now in
    subst (λ (k : TokenKind). OnOk c.take_label.result (Takes c.args.self.now (record { kind = k; start = t.start; end = t.end }) c.take_label.new.self))
    (ap token.Label c.as_bytes.ensures.bytes ∙ sym c.in-Label.is) (c.take_label.ensures.ok t.end)

pub returns-in-Label-clause-fault : goal.returns-in-Label-clause-fault
returns-in-Label-clause-fault c =
    let t = c.args.token.now in
    subst (λ (k : TokenKind). IfErr c.take_label.result (λ (f : TokenFault). f ≢ NoMemory → Refuses c.args.self.now (record { kind = k; start = t.start; end = t.end }) f))
    (ap token.Label c.as_bytes.ensures.bytes ∙ sym c.in-Label.is) (c.take_label.ensures.fault t.end)
