use Rattle.std.proofs.Common.{◌≡◌, ◌≢◌, refl, ap, sym, subst, ◌∙◌, arith, ℕ, ◌+◌, List, [], ◌∷◌, ◌++◌, take, reverse, Result, OnOk, IfErr}
use Rattle.std.specs.Prelude.{⊤}
use Rattle.goal_lexer.specs.declared.tokens.Token.{Token}
use Rattle.goal_lexer.specs.Ahead.{IsAhead}
use Rattle.goal_lexer.specs.Stands.{handed}
use Rattle.goal_lexer.proofs.ForCallers.{ahead_within}
use Rattle.goal_parser.specs.declared.reader.Reader.{Reader}
use Rattle.goal_parser.specs.declared.token_faults.TokenFault.{TokenFault}
use Rattle.goal_parser.specs.declared.token_faults.TokenFault.TheVariants.{NoMemory}
use Rattle.goal_parser.specs.FaultInText.{fault_in_text}
use Rattle.goal_parser.specs.Reads.{first_fault}
use Rattle.goal_parser.specs.Taken.{HasTaken, Takes, Refuses}
use Rattle.goal_parser.proofs.AheadLaws.{refused_token_is_fault_of_text}
use Rattle.goal_parser.proofs.ReaderLaws.{first_fault-more, reverse-more}
use Rattle.goal_parser.proofs.reader.Reader.go_on.Goals as goal

pub go_on-requires-clause-ahead : goal.go_on-requires-clause-ahead
go_on-requires-clause-ahead c =
    let known = c.requires.ahead in
    let ahead : IsAhead c.args.self.now.lexer.place c.args.rest.now c.args.count c.args.ends_run (known.0 ∷ []) =
    subst (λ (p : ℕ). IsAhead p c.args.rest.now c.args.count c.args.ends_run (known.0 ∷ [])) (sym c.requires.ready.same) known.1 in
    (known.0 ∷ [], ahead)

pub returns-in-Ok-clause-ahead : goal.returns-in-Ok-clause-ahead
returns-in-Ok-clause-ahead c before token ahead told =
    let old = c.args.self.now in
    let new = c.go_on.new.self in
    let rest = c.args.rest.now in
    let count = c.args.count in
    let ends = c.args.ends_run in
    let went = c.go_on.ensures in
    let takes : Takes before token old.parser = subst (λ (r : Result ⊤ TokenFault). OnOk r (Takes before token old.parser)) c.in-Ok.is told in
    let lexers : IsAhead old.lexer.place rest count ends (token ∷ []) =
    subst (λ (p : ℕ). IsAhead p rest count ends (token ∷ [])) (sym c.requires.ready.same) ahead in
    record {
      taken = ahead_within old.place rest count ends (token ∷ []) ahead;
      place = refl;
      same = went.place ∙ ap (λ (p : ℕ). p + count) c.requires.ready.same;
      apart = went.apart_next;
      left = λ some. went.left;
      between = λ was. went.between;
      stands = λ text stood.
          let hs = handed old.lexer text in
          let more : handed new (text ++ take count rest) ≡ hs ++ token ∷ [] = went.handed (token ∷ []) lexers text stood.lexer in
          let kept = takes (reverse hs) stood.taken in
          record {
            lexer = went.stands text stood.lexer;
            passed = ap (first_fault []) more ∙ first_fault-more hs token stood.passed ∙ kept.0;
            taken = subst (λ (ts : List Token). HasTaken old.parser (reverse ts)) (sym more)
                (subst (λ (ts : List Token). HasTaken old.parser ts) (reverse-more hs token) kept.1);
          };
      none = λ is. absurd (omega (arith, c.requires.some));
    }

pub returns-in-Err-clause-fault : goal.returns-in-Err-clause-fault
returns-in-Err-clause-fault c before token ahead told memory =
    let old : Reader = record c.args.self.now { parser = before } in
    let fault = c.in-Err.fault in
    let refuses : fault ≢ NoMemory → Refuses before token fault =
    subst (λ (r : Result ⊤ TokenFault). IfErr r (λ (f : TokenFault). f ≢ NoMemory → Refuses before token f)) c.in-Err.is told in
    refused_token_is_fault_of_text old c.args.rest.now c.args.count c.args.ends_run token (fault_in_text fault) c.requires.ready c.requires.some ahead (refuses memory)
