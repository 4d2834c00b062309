use Rattle.std.proofs.Common.{◌≡◌, ◌∙◌, ◌++◌, sym, ap, subst}
use Rattle.goal_parser.specs.declared.faults.TextFault.{TextFault}
use Rattle.goal_parser.specs.FaultInText.{fault_in_text}
use Rattle.goal_parser.specs.Reads.{reads, faulty}
use Rattle.goal_parser.proofs.ReaderLaws.{reads_fault}
use Rattle.goal_parser.proofs.pieces.TextReader.feed.Goals as goal

pub returns-in-Err-clause-fault : goal.returns-in-Err-clause-fault
returns-in-Err-clause-fault c = λ memory text more has.
    let whole = text ++ c.args.piece.now ++ more in
    let told = c.in-Err.ensures.fault (λ same. memory (c.fault_in_text-fault.ensures ∙ ap fault_in_text same)) text more has.stands in
    subst (λ (f : TextFault). reads whole ≡ faulty f) (sym c.fault_in_text-fault.ensures) (sym (reads_fault whole (fault_in_text c.in-Err.fault) told))
