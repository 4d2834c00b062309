use Rattle.std.proofs.Common.{◌≡◌, get_or, ap, ◌∙◌, arith}
use Rattle.goal_certify.proofs.Before.{rows_same}
use Rattle.goal_certify.proofs.OpenPairs.{few_operations, known_touches, low_ops, low_slots}
use Rattle.goal_certify.proofs.races.race_in_rank.Goals as goal

pub mark-requires-clause-ops : goal.mark-requires-clause-ops
mark-requires-clause-ops c =
    let plans = c.args.sched.now in
    let p = c.index-plans-rank.result in
    let read : p ≡ get_or plans c.args.rank p = c.index-plans-rank.is ∙ ap (λ ps. get_or ps c.args.rank p) c.plans.ensures.plans in
    let known = known_touches plans c.args.rank c.requires.small c.requires.rank p read c.deref.result.now (c.deref.ensures.value ∙ c.in_ok-touches.ensures) in
    low_ops plans c.args.rank c.requires.small c.requires.rank p read c.deref.result.now known

pub mark-requires-clause-slots : goal.mark-requires-clause-slots
mark-requires-clause-slots c =
    let plans = c.args.sched.now in
    let p = c.index-plans-rank.result in
    let read : p ≡ get_or plans c.args.rank p = c.index-plans-rank.is ∙ ap (λ ps. get_or ps c.args.rank p) c.plans.ensures.plans in
    let known = known_touches plans c.args.rank c.requires.small c.requires.rank p read c.deref.result.now (c.deref.ensures.value ∙ c.in_ok-touches.ensures) in
    low_slots plans c.args.rank c.requires.small c.requires.rank p read c.deref.result.now known

pub mark-requires-2-clause-ops : goal.mark-requires-2-clause-ops
mark-requires-2-clause-ops c =
    let plans = c.args.sched.now in
    let p = c.index-plans-rank.result in
    let read : p ≡ get_or plans c.args.rank p = c.index-plans-rank.is ∙ ap (λ ps. get_or ps c.args.rank p) c.plans.ensures.plans in
    let known = known_touches plans c.args.rank c.requires.small c.requires.rank p read c.deref-2.result.now (c.deref-2.ensures.value ∙ c.in_ok-touches.ensures) in
    low_ops plans c.args.rank c.requires.small c.requires.rank p read c.deref-2.result.now known

pub mark-requires-2-clause-slots : goal.mark-requires-2-clause-slots
mark-requires-2-clause-slots c =
    let plans = c.args.sched.now in
    let p = c.index-plans-rank.result in
    let read : p ≡ get_or plans c.args.rank p = c.index-plans-rank.is ∙ ap (λ ps. get_or ps c.args.rank p) c.plans.ensures.plans in
    let known = known_touches plans c.args.rank c.requires.small c.requires.rank p read c.deref-2.result.now (c.deref-2.ensures.value ∙ c.in_ok-touches.ensures) in
    low_slots plans c.args.rank c.requires.small c.requires.rank p read c.deref-2.result.now known

pub find_race-requires-clause-few : goal.find_race-requires-clause-few
find_race-requires-clause-few c =
    let plans = c.args.sched.now in
    let p = c.index-plans-rank.result in
    let read : p ≡ get_or plans c.args.rank p = c.index-plans-rank.is ∙ ap (λ ps. get_or ps c.args.rank p) c.plans.ensures.plans in
    let known = known_touches plans c.args.rank c.requires.small c.requires.rank p read c.deref-3.result.now (c.deref-3.ensures.value ∙ c.in_ok-touches.ensures) in
    few_operations plans c.args.rank c.requires.small c.requires.rank p read

pub find_race-requires-clause-touches : goal.find_race-requires-clause-touches
find_race-requires-clause-touches c =
    let plans = c.args.sched.now in
    let p = c.index-plans-rank.result in
    let read : p ≡ get_or plans c.args.rank p = c.index-plans-rank.is ∙ ap (λ ps. get_or ps c.args.rank p) c.plans.ensures.plans in
    let known = known_touches plans c.args.rank c.requires.small c.requires.rank p read c.deref-3.result.now (c.deref-3.ensures.value ∙ c.in_ok-touches.ensures) in
    known

pub wipe-requires-clause-ops : goal.wipe-requires-clause-ops
wipe-requires-clause-ops c =
    let plans = c.args.sched.now in
    let p = c.index-plans-rank.result in
    let read : p ≡ get_or plans c.args.rank p = c.index-plans-rank.is ∙ ap (λ ps. get_or ps c.args.rank p) c.plans.ensures.plans in
    let known = known_touches plans c.args.rank c.requires.small c.requires.rank p read c.deref-7.result.now (c.deref-7.ensures.value ∙ c.in_ok-touches.ensures) in
    low_ops plans c.args.rank c.requires.small c.requires.rank p read c.deref-7.result.now known

pub wipe-requires-2-clause-ops : goal.wipe-requires-2-clause-ops
wipe-requires-2-clause-ops c =
    let plans = c.args.sched.now in
    let p = c.index-plans-rank.result in
    let read : p ≡ get_or plans c.args.rank p = c.index-plans-rank.is ∙ ap (λ ps. get_or ps c.args.rank p) c.plans.ensures.plans in
    let known = known_touches plans c.args.rank c.requires.small c.requires.rank p read c.deref-8.result.now (c.deref-8.ensures.value ∙ c.in_ok-touches.ensures) in
    low_ops plans c.args.rank c.requires.small c.requires.rank p read c.deref-8.result.now known

pub rows_before-requires-clause-few : goal.rows_before-requires-clause-few
rows_before-requires-clause-few c =
    let plans = c.args.sched.now in
    let p = c.index-plans-rank.result in
    let read : p ≡ get_or plans c.args.rank p = c.index-plans-rank.is ∙ ap (λ ps. get_or ps c.args.rank p) c.plans.ensures.plans in
    few_operations plans c.args.rank c.requires.small c.requires.rank p read

pub find_race-requires-clause-before : goal.find_race-requires-clause-before
find_race-requires-clause-before c =
    rows_same c.args.sched.now c.args.rank c.deref-6.result.now c.rows_before.new.rows.items _ c.deref-6.ensures.value c.in_ok-rows_before.ensures.rows

pub clear_rows-requires-clause-low : goal.clear_rows-requires-clause-low
clear_rows-requires-clause-low c r k few h =
    let rows = rows_same c.args.sched.now c.args.rank c.deref_mut-3.result.now c.rows_before.new.rows.items _ c.deref_mut-3.ensures.value c.in_ok-rows_before.ensures.rows in
    let low = rows.low r k few h in
    (omega (arith, low.0, c.op_count.ensures.count), omega (arith, low.1, c.op_count.ensures.count))

pub clear_rows-requires-clause-few : goal.clear_rows-requires-clause-few
clear_rows-requires-clause-few c =
    let plans = c.args.sched.now in
    let p = c.index-plans-rank.result in
    let read : p ≡ get_or plans c.args.rank p = c.index-plans-rank.is ∙ ap (λ ps. get_or ps c.args.rank p) c.plans.ensures.plans in
    omega (arith, few_operations plans c.args.rank c.requires.small c.requires.rank p read, c.op_count.ensures.count)
