use Rattle.std.proofs.Common.{arith}
use Rattle.std.proofs.lemmas.Result.{err_from_is_err_and}
use Rattle.goal_certify.proofs.StageLemmas.{small_free, free_joined, stopped_with_earlier_start, stopped_with_later_end, free_on_ok_with_earlier_start, stopped_on_err_with_earlier_start}
use Rattle.goal_certify.proofs.certifier.check_plans.Goals as goal

pub returns-in_err-check_sizes-clause-fault : goal.returns-in_err-check_sizes-clause-fault
returns-in_err-check_sizes-clause-fault c =
    let p = err_from_is_err_and c.from_residual.result c.from_residual.ensures.1 in
    rw (p.1, p.2) (stopped_with_later_end c.args.sched.now 0 1 6 _ (omega arith) c.in_err-check_sizes.ensures.fault)

pub returns-in_err-check_channels-clause-fault : goal.returns-in_err-check_channels-clause-fault
returns-in_err-check_channels-clause-fault c =
    let p = err_from_is_err_and c.from_residual-in_err-check_channels.result c.from_residual-in_err-check_channels.ensures.1 in
    rw (p.1, p.2) (stopped_with_later_end c.args.sched.now 0 5 6 _ (omega arith) (stopped_with_earlier_start c.args.sched.now 0 1 5 _ (omega arith) c.in_ok-check_sizes.ensures.free c.in_err-check_channels.ensures.fault))

pub check_races-requires : goal.check_races-requires
check_races-requires c = record { small = small_free c.args.sched.now c.in_ok-check_sizes.ensures.free }

pub returns-clause-free : goal.returns-clause-free
returns-clause-free c =
    let free = free_joined c.args.sched.now 0 1 5 c.in_ok-check_sizes.ensures.free c.in_ok-check_channels.ensures.free in
    free_on_ok_with_earlier_start c.args.sched.now c.check_races.result 0 5 6 free c.check_races.ensures.free

pub returns-clause-fault : goal.returns-clause-fault
returns-clause-fault c =
    let free = free_joined c.args.sched.now 0 1 5 c.in_ok-check_sizes.ensures.free c.in_ok-check_channels.ensures.free in
    stopped_on_err_with_earlier_start c.args.sched.now c.check_races.result 0 5 6 (omega arith) free c.check_races.ensures.fault
