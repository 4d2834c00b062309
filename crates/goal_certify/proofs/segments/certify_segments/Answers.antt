use Rattle.std.proofs.Common.{◌<◌, arith}
use Rattle.goal_certify.proofs.StageLemmas.{small_free, wildcard_free, lengths_free, free_within}
use Rattle.goal_certify.proofs.SegmentAnswers.{block_fits, block_certified, more_certified, first_segment_fault_if_stopped, segment_fault_from_late_stages, excluded, none_told, that_told}
use Rattle.goal_certify.proofs.segments.certify_segments.Goals as goal

pub check_walk-requires : goal.check_walk-requires
check_walk-requires c =
    let plans = c.args.sched.now in
    let free = c.in-Ok.ensures.free in
    record {
      fits = block_fits c.args.width c.args.count c.loop-block.block c.requires c.loop-block-test.true;
      small = small_free plans (free_within plans 0 0 1 6 (omega arith) (omega arith) free);
      no_wildcard = wildcard_free plans (free_within plans 0 1 2 6 (omega arith) (omega arith) free);
      lengths = lengths_free plans (free_within plans 0 4 5 6 (omega arith) (omega arith) free);
    }

pub loop-block-preserved : goal.loop-block-preserved
loop-block-preserved c =
    let laws = c.laws_of_faults.ensures in
    let plans = c.args.sched.now in
    let this = block_certified c.args.what c.args.width plans laws.fault_excludes_certified laws.faultless_is_certified laws.one_first_fault c.known.ensures.accepted c.loop-block.block c.in-Ok.ensures.free c.in-Ok-check_walk.ensures.free in
    more_certified c.args.what c.args.width plans laws.fault_excludes_certified laws.faultless_is_certified laws.one_first_fault c.known.ensures.accepted c.loop-block.block c.loop-block.invariant this

pub returns-in-Err-clause-fault : goal.returns-in-Err-clause-fault
returns-in-Err-clause-fault c =
    let laws = c.laws_of_faults.ensures in
    let some : 0 < c.args.count = omega (arith, c.if-count-eq0.false) in
    first_segment_fault_if_stopped c.args.what c.args.width c.args.sched.now laws.fault_excludes_certified laws.faultless_is_certified laws.one_first_fault c.known.ensures.accepted c.args.count c.in-Err.fault some c.in-Err.ensures.fault

pub returns-in-Err-clause-accepts : goal.returns-in-Err-clause-accepts
returns-in-Err-clause-accepts c =
    let laws = c.laws_of_faults.ensures in
    none_told c.args.what c.args.width c.args.sched.now laws.fault_excludes_certified laws.faultless_is_certified laws.one_first_fault c.known.ensures.accepted c.args.count (record { block = 0; fault = c.in-Err.fault }) (returns-in-Err-clause-fault c)

pub returns-in-Err-clause-faults : goal.returns-in-Err-clause-faults
returns-in-Err-clause-faults c =
    let laws = c.laws_of_faults.ensures in
    that_told c.args.what c.args.width c.args.sched.now laws.fault_excludes_certified laws.faultless_is_certified laws.one_first_fault c.known.ensures.accepted c.args.count (record { block = 0; fault = c.in-Err.fault }) (returns-in-Err-clause-fault c)

pub returns-in-Err-check_walk-clause-fault : goal.returns-in-Err-check_walk-clause-fault
returns-in-Err-check_walk-clause-fault c =
    let laws = c.laws_of_faults.ensures in
    segment_fault_from_late_stages c.args.what c.args.width c.args.sched.now laws.fault_excludes_certified laws.faultless_is_certified laws.one_first_fault c.known.ensures.accepted c.args.count c.loop-block.block c.in-Err-check_walk.fault c.loop-block-test.true c.loop-block.invariant c.in-Ok.ensures.free c.in-Err-check_walk.ensures.fault

pub returns-in-Err-check_walk-clause-accepts : goal.returns-in-Err-check_walk-clause-accepts
returns-in-Err-check_walk-clause-accepts c =
    let laws = c.laws_of_faults.ensures in
    none_told c.args.what c.args.width c.args.sched.now laws.fault_excludes_certified laws.faultless_is_certified laws.one_first_fault c.known.ensures.accepted c.args.count (record { block = c.loop-block.block; fault = c.in-Err-check_walk.fault }) (returns-in-Err-check_walk-clause-fault c)

pub returns-in-Err-check_walk-clause-faults : goal.returns-in-Err-check_walk-clause-faults
returns-in-Err-check_walk-clause-faults c =
    let laws = c.laws_of_faults.ensures in
    that_told c.args.what c.args.width c.args.sched.now laws.fault_excludes_certified laws.faultless_is_certified laws.one_first_fault c.known.ensures.accepted c.args.count (record { block = c.loop-block.block; fault = c.in-Err-check_walk.fault }) (returns-in-Err-check_walk-clause-fault c)

pub returns-clause-right : goal.returns-clause-right
returns-clause-right c =
    c.laws_of_segments.ensures.blocks_in_one_run c.args.what c.args.width c.args.count c.args.sched.now (λ block low. c.loop-block.invariant block (omega (arith, low, c.loop-block-test.false)))

pub returns-clause-faults : goal.returns-clause-faults
returns-clause-faults c = λ found is.
    let laws = c.laws_of_faults.ensures in
    let low = is.block in
    excluded c.args.what c.args.width c.args.sched.now laws.fault_excludes_certified laws.faultless_is_certified laws.one_first_fault c.known.ensures.accepted c.args.count found is (c.loop-block.invariant found.block (omega (arith, low, c.loop-block-test.false)))

pub returns-then-count-eq0-clause-right : goal.returns-then-count-eq0-clause-right
returns-then-count-eq0-clause-right c =
    c.laws_of_segments.ensures.blocks_in_one_run c.args.what c.args.width c.args.count c.args.sched.now (λ block low. absurd (omega (arith, low, c.if-count-eq0.true)))
