use Rattle.std.proofs.Common.{◌≡◌, ℕ, List, ◌∷◌, [], ◌++◌, None, sym, ap, subst, ◌∙◌}
use Rattle.goal_lexer.specs.declared.tokens.TokenKind.{TokenKind}
use Rattle.goal_lexer.specs.declared.mode.Mode.{Mode}
use Rattle.goal_lexer.specs.Scan.{closing, fault_at_end, lexed}
use Rattle.goal_lexer.specs.Runs.{run_kind}
use Rattle.goal_lexer.specs.State.{LexState}
use Rattle.goal_lexer.specs.Stands.{Stands, handed}
use Rattle.goal_lexer.proofs.StandsLaws.{lexed_at_end}
use Rattle.goal_lexer.proofs.lexing.Lexer.finish.Goals as goal

pub returns-in-Run-clause-ok : goal.returns-in-Run-clause-ok
returns-in-Run-clause-ok c =
    let fields = c.self.inside in
    let kind = c.run_kind.ensures ∙ ap (run_kind c.in-Run.form) c.as_bytes.ensures.bytes in
    subst (λ (s : LexState). (text : List ℕ) → Stands s text →
    lexed text ≡ (handed s text ++ record { kind = c.run_kind.new.kind; start = c.in-Run.start; end = fields.place } ∷ [], None))
    c.self.view_is
    (λ text stands.
    lexed_at_end fields.mode fields.place fields.ends_run text stands
    ∙ ap (λ (m : Mode). (handed (record { mode = fields.mode; place = fields.place; ends_run = fields.ends_run }) text ++ closing fields.place m, fault_at_end m)) c.in-Run.is
    ∙ ap (λ (k : TokenKind). (handed (record { mode = fields.mode; place = fields.place; ends_run = fields.ends_run }) text ++ record { kind = k; start = c.in-Run.start; end = fields.place } ∷ [], None)) (sym kind))
