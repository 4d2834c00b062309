use Rattle.std.proofs.Common.{◌≡◌, sym, ap, ◌∙◌, subst, List, [], ◌∷◌, ◌++◌, reverse, option_to_list, Option}
use Rattle.goal_lexer.specs.declared.tokens.Token.{Token}
use Rattle.goal_parser.specs.Reads.{first_fault}
use Rattle.goal_parser.specs.Taken.{HasTaken}
use Rattle.goal_parser.proofs.ReaderLaws.{first_fault-more, reverse-more}
use Rattle.goal_parser.proofs.reader.Reader.close.Goals as goal

pub returns-in-Ok-clause-ok : goal.returns-in-Ok-clause-ok
returns-in-Ok-clause-ok c = λ hs passed taken.
    let t = c.in-Some.token in
    let kept = c.in-Ok.ensures.ok (reverse hs) taken in
    let last : hs ++ option_to_list c.args.last.now ≡ hs ++ t ∷ [] = ap (λ (o : Option Token). hs ++ option_to_list o) c.in-Some.is in (
      ap (first_fault []) last ∙ first_fault-more hs t passed ∙ kept.0,
      subst (λ (ts : List Token). HasTaken c.take.new.self (reverse ts)) (sym last) (subst (λ (ts : List Token). HasTaken c.take.new.self ts) (reverse-more hs t) kept.1),
    )

pub returns-in-Err-clause-fault : goal.returns-in-Err-clause-fault
returns-in-Err-clause-fault c = λ memory hs passed taken.
    let t = c.in-Some.token in
    let last : hs ++ option_to_list c.args.last.now ≡ hs ++ t ∷ [] = ap (λ (o : Option Token). hs ++ option_to_list o) c.in-Some.is in
    ap (first_fault []) last ∙ first_fault-more hs t passed ∙ c.in-Err.ensures.fault memory (reverse hs) taken
