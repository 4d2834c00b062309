use Rattle.std.proofs.Common.{[], ap, sym, ◌∙◌}
use Rattle.std.proofs.lemmas.List.{append-nil}
use Rattle.goal_parser.specs.Reads.{reads}
use Rattle.goal_parser.proofs.ReaderLaws.{IsFaultOf-faulty}
use Rattle.goal_parser.proofs.text.schedule_of.Goals as goal

pub returns-in-Err-clause-fault : goal.returns-in-Err-clause-fault
returns-in-Err-clause-fault c = λ memory.
    let text = c.args.text.now in
    IsFaultOf-faulty text c.in-Err.fault (ap reads (sym (append-nil text)) ∙ c.in-Err.ensures.fault memory [] [] c.new-reader.ensures.read)
