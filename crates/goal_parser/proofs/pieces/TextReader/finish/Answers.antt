use Rattle.std.proofs.Common.{◌≡◌, ◌≢◌, ◌∙◌, sym, ap, subst, rules}
use Rattle.goal_parser.specs.declared.faults.TextFault.{TextFault}
use Rattle.goal_parser.specs.declared.faults.TextFault.TheVariants as fault
use Rattle.goal_parser.specs.FaultInText.{fault_in_text}
use Rattle.goal_parser.specs.Reads.{reads, plans, IsFaultOf}
use Rattle.goal_parser.proofs.ReaderLaws.{reads_plans, IsFaultOf-reads, fault_of_plans-reads}
use Rattle.goal_parser.proofs.pieces.TextReader.finish.Goals as goal

pub returns-in-Err-clause-fault : goal.returns-in-Err-clause-fault
returns-in-Err-clause-fault c = λ memory text has.
    let told = c.in-Err.ensures.fault (λ same. memory (c.fault_in_text.ensures ∙ ap fault_in_text same)) text has.stands in
    subst (λ (f : TextFault). IsFaultOf (reads text) f) (sym c.fault_in_text.ensures) (IsFaultOf-reads text (fault_in_text c.in-Err.fault) told)

pub returns-in-Err-build-clause-fault : goal.returns-in-Err-build-clause-fault
returns-in-Err-build-clause-fault c = λ memory text has.
    let done = c.in-Ok.ensures.ok text has.stands in
    let said = reads_plans text c.in-Ok.plans.items done.0 done.1 in
    subst (λ (g : TextFault). g ≢ fault.NoMemory → IsFaultOf (reads text) g) (sym c.fault_of_plans.ensures)
    (fault_of_plans-reads text c.in-Ok.plans.items c.in-Err-build.fault said c.in-Err-build.ensures.fault) memory

pub returns-in-Ok-build-clause-ok : goal.returns-in-Ok-build-clause-ok
returns-in-Ok-build-clause-ok c = λ text has.
    let done = c.in-Ok.ensures.ok text has.stands in
    let same : c.in-Ok.plans.items ≡ c.in-Ok-build.sched = search (rules) in
    reads_plans text c.in-Ok.plans.items done.0 done.1 ∙ ap plans same
