use Rattle.std.proofs.Common.{◌≡◌, sym, ap, ◌∙◌, subst, List, [], ◌∷◌, ◌++◌, reverse, take, drop, option_to_list, Bool}
use Rattle.goal_lexer.specs.declared.tokens.Token.{Token}
use Rattle.goal_lexer.specs.Found.{found_token}
use Rattle.goal_lexer.specs.Scan.{lexed}
use Rattle.goal_lexer.specs.Stands.{handed}
use Rattle.goal_parser.specs.Reads.{first_fault}
use Rattle.goal_parser.specs.FaultInText.{fault_in_text}
use Rattle.goal_parser.specs.Taken.{HasTaken}
use Rattle.goal_parser.proofs.ReaderLaws.{first_fault-more, reverse-more, handed_front, fault_of_token, fault_of_lexer, taken_and_dropped_join, no_run_whatever_follows}
use Rattle.goal_parser.proofs.reader.Reader.step.Goals as goal

pub returns-in-Err-clause-fault : goal.returns-in-Err-clause-fault
returns-in-Err-clause-fault c = λ memory text more stood.
    fault_of_lexer (text ++ c.args.rest.now ++ more) (handed c.args.self.now.lexer text) c.in-Err.fault.at (c.in-Err.ensures.every text more stood.lexer) stood.passed

pub returns-in-Ok-take-clause-stands : goal.returns-in-Ok-take-clause-stands
returns-in-Ok-take-clause-stands c = λ text stood.
    let hs = handed c.args.self.now.lexer text in
    let t = c.next_token_into.new.token in
    let on = text ++ take c.in-Ok.lexed.taken c.args.rest.now in
    let more : handed c.next_token_into.new.self on ≡ hs ++ t ∷ [] = c.in-Ok.ensures.handed text stood.lexer ∙ ap (λ (found : Bool). hs ++ option_to_list (found_token found t)) c.if-lexed.true in
    let kept = c.in-Ok-take.ensures.ok (reverse hs) stood.taken in
    record {
      lexer = c.in-Ok.ensures.stands text stood.lexer;
      passed = ap (first_fault []) more ∙ first_fault-more hs t stood.passed ∙ kept.0;
      taken = subst (λ (ts : List Token). HasTaken c.take.new.self (reverse ts)) (sym more) (subst (λ (ts : List Token). HasTaken c.take.new.self ts) (reverse-more hs t) kept.1);
    }

pub returns-in-Err-take-clause-fault : goal.returns-in-Err-take-clause-fault
returns-in-Err-take-clause-fault c = λ memory text more stood.
    let hs = handed c.args.self.now.lexer text in
    let t = c.next_token_into.new.token in
    let n = c.in-Ok.lexed.taken in
    let rest = c.args.rest.now in
    let lexer = c.next_token_into.new.self in
    let on = text ++ take n rest in
    let tokens : handed lexer on ≡ hs ++ t ∷ [] = c.in-Ok.ensures.handed text stood.lexer ∙ ap (λ (found : Bool). hs ++ option_to_list (found_token found t)) c.if-lexed.true in
    let front = handed_front lexer on (drop n rest ++ more) (c.in-Ok.ensures.stands text stood.lexer)
    (λ ends. no_run_whatever_follows n rest more (c.in-Ok.ensures.left c.requires.some ends) (c.in-Ok.ensures.apart_next ends)) in
    fault_of_token (text ++ rest ++ more) hs front.0 t (fault_in_text c.in-Err-take.fault)
    (ap (λ w. (lexed w).0) (sym (taken_and_dropped_join text rest more n)) ∙ front.1 ∙ ap (λ (l : List Token). l ++ front.0) tokens)
    stood.passed (c.in-Err-take.ensures.fault memory (reverse hs) stood.taken)
