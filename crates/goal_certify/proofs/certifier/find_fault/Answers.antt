use Rattle.std.proofs.Common.{length, arith}
use Rattle.std.proofs.lemmas.Result.{err_from_is_err_and}
use Rattle.goal_blocks.specs.Collectives.{initial, wanted}
use Rattle.goal_certify.proofs.StageLemmas.{small_free, wildcard_free, lengths_free, free_within}
use Rattle.goal_certify.proofs.FirstSegment.{first_free, fault_of_first_segment}
use Rattle.goal_certify.proofs.Deciding.{fault_from_if_stopped, fault_from_with_later_end, none_on_ok_with_earlier_start, fault_on_err_with_earlier_start}
use Rattle.goal_certify.proofs.certifier.find_fault.Goals as goal

pub returns-in_err-check_plans-clause-fault : goal.returns-in_err-check_plans-clause-fault
returns-in_err-check_plans-clause-fault c =
    let plans = c.args.sched.now in
    let first = initial c.args.what (length plans) in
    let wish = wanted c.args.what (length plans) in
    let p = err_from_is_err_and c.from_residual.result c.from_residual.ensures.1 in
    rw (p.1, p.2) (fault_from_with_later_end plans first wish 0 6 9 _ (omega arith) (fault_from_if_stopped plans first wish 0 6 _ c.in_err-check_plans.ensures.fault))

pub check_walk-requires-clause-small : goal.check_walk-requires-clause-small
check_walk-requires-clause-small c =
    let plans = c.args.sched.now in
    let free = c.in_ok-check_plans.ensures.free in
    small_free plans (free_within plans 0 0 1 6 (omega arith) (omega arith) free)

pub check_walk-requires-clause-no_wildcard : goal.check_walk-requires-clause-no_wildcard
check_walk-requires-clause-no_wildcard c =
    let plans = c.args.sched.now in
    let free = c.in_ok-check_plans.ensures.free in
    wildcard_free plans (free_within plans 0 1 2 6 (omega arith) (omega arith) free)

pub check_walk-requires-clause-lengths : goal.check_walk-requires-clause-lengths
check_walk-requires-clause-lengths c =
    let plans = c.args.sched.now in
    let free = c.in_ok-check_plans.ensures.free in
    lengths_free plans (free_within plans 0 4 5 6 (omega arith) (omega arith) free)

pub returns-clause-free : goal.returns-clause-free
returns-clause-free c =
    let plans = c.args.sched.now in
    let first = initial c.args.what (length plans) in
    let wish = wanted c.args.what (length plans) in
    none_on_ok_with_earlier_start plans first wish c.check_walk.result 0 6 9 (c.in_ok-check_plans.ensures.free first wish) (first_free c.args.what plans c.first.result c.first.ensures c.check_walk.result c.check_walk.ensures.free)

pub returns-clause-fault : goal.returns-clause-fault
returns-clause-fault c =
    let plans = c.args.sched.now in
    let first = initial c.args.what (length plans) in
    let wish = wanted c.args.what (length plans) in
    fault_on_err_with_earlier_start plans first wish c.check_walk.result 0 6 9 (omega arith) (c.in_ok-check_plans.ensures.free first wish) (fault_of_first_segment c.args.what plans c.first.result c.first.ensures c.check_walk.result c.check_walk.ensures.fault)
