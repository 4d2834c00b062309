use Rattle.std.proofs.Common.{sym, ap, ◌∙◌, ◌++◌, None, option_to_list}
use Rattle.goal_lexer.specs.Stands.{handed}
use Rattle.std.specs.Option.{option_map}
use Rattle.goal_parser.specs.FaultInText.{fault_in_text}
use Rattle.goal_parser.specs.Reads.{end_fault}
use Rattle.goal_parser.proofs.ReaderLaws.{fault_of_lexer, fault_of_last, fault_of_end, plans_of_end}
use Rattle.goal_parser.proofs.reader.Reader.finish.Goals as goal

pub returns-in-Err-clause-fault : goal.returns-in-Err-clause-fault
returns-in-Err-clause-fault c = λ memory text stood.
    fault_of_lexer text (handed c.args.self.lexer text) c.in-Err.fault.at (c.in-Err.ensures.fault text stood.lexer) stood.passed

pub returns-in-Err-close-clause-fault : goal.returns-in-Err-close-clause-fault
returns-in-Err-close-clause-fault c = λ memory text stood.
    let hs = handed c.args.self.lexer text in
    fault_of_last text (hs ++ option_to_list c.in-Ok.last) None (fault_in_text c.in-Err-close.fault) (c.in-Ok.ensures.ok text stood.lexer) (c.in-Err-close.ensures.fault memory hs stood.passed stood.taken)

pub returns-in-Some-clause-fault : goal.returns-in-Some-clause-fault
returns-in-Some-clause-fault c = λ memory text stood.
    let hs = handed c.args.self.lexer text in
    let all = hs ++ option_to_list c.in-Ok.last in
    let closed = c.in-Ok-close.ensures.ok hs stood.passed stood.taken in
    fault_of_end text all c.args.self.place (c.in-Ok.ensures.ok text stood.lexer) closed.0 (stood.lexer.place ∙ c.requires)
    ∙ ap (λ s. end_fault s c.args.self.place) (sym closed.1.state) ∙ sym c.end_fault.ensures ∙ ap (option_map fault_in_text) c.in-Some.is

pub returns-in-None-clause-ok : goal.returns-in-None-clause-ok
returns-in-None-clause-ok c = λ text stood.
    let hs = handed c.args.self.lexer text in
    let all = hs ++ option_to_list c.in-Ok.last in
    let closed = c.in-Ok-close.ensures.ok hs stood.passed stood.taken in
    let is = c.in-Ok.ensures.ok text stood.lexer in (
      fault_of_end text all c.args.self.place is closed.0 (stood.lexer.place ∙ c.requires)
          ∙ ap (λ s. end_fault s c.args.self.place) (sym closed.1.state) ∙ sym c.end_fault.ensures ∙ ap (option_map fault_in_text) c.in-None.is,
      c.into_plans.ensures ∙ closed.1.plans ∙ sym (plans_of_end text all None is),
    )
