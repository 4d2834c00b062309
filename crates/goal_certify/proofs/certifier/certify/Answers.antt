use Rattle.std.proofs.Common.{length}
use Rattle.goal_blocks.specs.Collectives.{initial, wanted}
use Rattle.goal_certify.proofs.Deciding.{certified_answer, right_answer, fault_answer, accepts_answer, faults_answer}
use Rattle.goal_certify.proofs.certifier.certify.Goals as goal

pub returns-clause-certified : goal.returns-clause-certified
returns-clause-certified c =
    let plans = c.args.sched.now in
    let first = initial c.args.what (length plans) in
    let wish = wanted c.args.what (length plans) in
    certified_answer plans first wish c.laws_of_faults.ensures.faultless_is_certified c.laws_of_faults.ensures.fault_excludes_certified c.laws_of_faults.ensures.one_first_fault c.laws_of_certified_schedules.ensures.certified_is_right_everywhere c.known.ensures.accepted c.find_fault.result c.find_fault.ensures.free

pub returns-clause-right : goal.returns-clause-right
returns-clause-right c =
    let plans = c.args.sched.now in
    let first = initial c.args.what (length plans) in
    let wish = wanted c.args.what (length plans) in
    right_answer plans first wish c.laws_of_faults.ensures.faultless_is_certified c.laws_of_faults.ensures.fault_excludes_certified c.laws_of_faults.ensures.one_first_fault c.laws_of_certified_schedules.ensures.certified_is_right_everywhere c.known.ensures.accepted c.find_fault.result c.find_fault.ensures.free

pub returns-clause-fault : goal.returns-clause-fault
returns-clause-fault c =
    let plans = c.args.sched.now in
    let first = initial c.args.what (length plans) in
    let wish = wanted c.args.what (length plans) in
    fault_answer plans first wish c.laws_of_faults.ensures.faultless_is_certified c.laws_of_faults.ensures.fault_excludes_certified c.laws_of_faults.ensures.one_first_fault c.laws_of_certified_schedules.ensures.certified_is_right_everywhere c.known.ensures.accepted c.find_fault.result c.find_fault.ensures.fault

pub returns-clause-accepts : goal.returns-clause-accepts
returns-clause-accepts c =
    let plans = c.args.sched.now in
    let first = initial c.args.what (length plans) in
    let wish = wanted c.args.what (length plans) in
    accepts_answer plans first wish c.laws_of_faults.ensures.faultless_is_certified c.laws_of_faults.ensures.fault_excludes_certified c.laws_of_faults.ensures.one_first_fault c.laws_of_certified_schedules.ensures.certified_is_right_everywhere c.known.ensures.accepted c.find_fault.result c.find_fault.ensures.fault

pub returns-clause-faults : goal.returns-clause-faults
returns-clause-faults c =
    let plans = c.args.sched.now in
    let first = initial c.args.what (length plans) in
    let wish = wanted c.args.what (length plans) in
    faults_answer plans first wish c.laws_of_faults.ensures.faultless_is_certified c.laws_of_faults.ensures.fault_excludes_certified c.laws_of_faults.ensures.one_first_fault c.laws_of_certified_schedules.ensures.certified_is_right_everywhere c.known.ensures.accepted c.find_fault.result c.find_fault.ensures.free c.find_fault.ensures.fault
