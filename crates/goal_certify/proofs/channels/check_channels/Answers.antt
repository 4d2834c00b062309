-- The answers of the passes join.
use Rattle.std.proofs.Common.{arith}
use Rattle.std.proofs.lemmas.Result.{err_from_is_err_and}
use Rattle.goal_certify.proofs.StageLemmas.{wildcard_free, double_free, free_joined, stopped_with_earlier_start, stopped_with_later_end, free_on_ok_with_earlier_start, stopped_on_err_with_earlier_start}
use Rattle.goal_certify.proofs.channels.check_channels.Goals as goal

pub returns-in_err-check_wildcards-clause-fault : goal.returns-in_err-check_wildcards-clause-fault
returns-in_err-check_wildcards-clause-fault c =
    let p = err_from_is_err_and c.from_residual.result c.from_residual.ensures.1 in
    rw (p.1, p.2) (stopped_with_later_end c.args.sched.now 1 2 5 _ (omega arith) c.in_err-check_wildcards.ensures.fault)

pub are_sound-requires-clause-no_wildcard : goal.are_sound-requires-clause-no_wildcard
are_sound-requires-clause-no_wildcard c = wildcard_free c.args.sched.now c.in_ok-check_wildcards.ensures.free

pub returns-then-are_sound-clause-free : goal.returns-then-are_sound-clause-free
returns-then-are_sound-clause-free c =
    free_joined c.args.sched.now 1 2 5 c.in_ok-check_wildcards.ensures.free (c.are_sound.ensures c.if-are_sound.true)

pub returns-in_err-check_doubles-clause-fault : goal.returns-in_err-check_doubles-clause-fault
returns-in_err-check_doubles-clause-fault c =
    let p = err_from_is_err_and c.from_residual-in_err-check_doubles.result c.from_residual-in_err-check_doubles.ensures.1 in
    rw (p.1, p.2) (stopped_with_later_end c.args.sched.now 1 3 5 _ (omega arith) (stopped_with_earlier_start c.args.sched.now 1 2 3 _ (omega arith) c.in_ok-check_wildcards.ensures.free c.in_err-check_doubles.ensures.fault))

pub check_pairs-requires-clause-no_wildcard : goal.check_pairs-requires-clause-no_wildcard
check_pairs-requires-clause-no_wildcard c = wildcard_free c.args.sched.now c.in_ok-check_wildcards.ensures.free

pub returns-in_err-check_pairs-clause-fault : goal.returns-in_err-check_pairs-clause-fault
returns-in_err-check_pairs-clause-fault c =
    let p = err_from_is_err_and c.from_residual-in_err-check_pairs.result c.from_residual-in_err-check_pairs.ensures.1 in
    let free = free_joined c.args.sched.now 1 2 3 c.in_ok-check_wildcards.ensures.free c.in_ok-check_doubles.ensures.free in
    rw (p.1, p.2) (stopped_with_later_end c.args.sched.now 1 4 5 _ (omega arith) (stopped_with_earlier_start c.args.sched.now 1 3 4 _ (omega arith) free c.in_err-check_pairs.ensures.fault))

pub check_lengths-requires-clause-no_double : goal.check_lengths-requires-clause-no_double
check_lengths-requires-clause-no_double c = double_free c.args.sched.now c.in_ok-check_doubles.ensures.free

pub returns-clause-free : goal.returns-clause-free
returns-clause-free c =
    let free = free_joined c.args.sched.now 1 2 3 c.in_ok-check_wildcards.ensures.free c.in_ok-check_doubles.ensures.free in
    let more = free_joined c.args.sched.now 1 3 4 free c.in_ok-check_pairs.ensures.free in
    free_on_ok_with_earlier_start c.args.sched.now c.check_lengths.result 1 4 5 more c.check_lengths.ensures.free

pub returns-clause-fault : goal.returns-clause-fault
returns-clause-fault c =
    let free = free_joined c.args.sched.now 1 2 3 c.in_ok-check_wildcards.ensures.free c.in_ok-check_doubles.ensures.free in
    let more = free_joined c.args.sched.now 1 3 4 free c.in_ok-check_pairs.ensures.free in
    stopped_on_err_with_earlier_start c.args.sched.now c.check_lengths.result 1 4 5 (omega arith) more c.check_lengths.ensures.fault
