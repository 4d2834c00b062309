use Rattle.std.proofs.Common.{ℕ, Some, None, subst, arith}
use Rattle.std.proofs.lemmas.List.Elements.{Contains-get_or}
use Rattle.goal_certify.specs.Races.{IsFirstOpen}
use Rattle.goal_certify.proofs.Table.{shared_same}
use Rattle.goal_certify.proofs.OpenPairs.{ordered_no_race, no_open_no_race, first_race, shared_mutual}
use Rattle.goal_certify.proofs.races.find_race.Goals as goal

pub shared_rows-requires-clause-ops : goal.shared_rows-requires-clause-ops
shared_rows-requires-clause-ops c k d within =
    omega (arith, c.requires.touches.op_below _ (Contains-get_or c.args.touches.now k d within), c.op_count-count.ensures.count)

pub are_ordered-requires-clause-few : goal.are_ordered-requires-clause-few
are_ordered-requires-clause-few c k d within =
    omega (arith, c.requires.touches.op_below _ (Contains-get_or c.args.touches.now k d within), c.requires.few)

pub are_ordered-requires-clause-before : goal.are_ordered-requires-clause-before
are_ordered-requires-clause-before c k d within =
    omega (arith, c.requires.touches.op_below _ (Contains-get_or c.args.touches.now k d within), c.requires.room)

pub returns-then-are_ordered : goal.returns-then-are_ordered
returns-then-are_ordered c =
    ordered_no_race c.args.sched.now c.args.rank c.args.touches.now c.args.touchers.now c.args.writers.now c.requires.touches c.requires.touchers c.requires.writers c.args.before.now c.requires.before c.requires.few (c.are_ordered.ensures c.if-are_ordered.true)

pub first_open-requires-clause-mutual : goal.first_open-requires-clause-mutual
first_open-requires-clause-mutual c =
    shared_mutual c.args.sched.now c.args.rank c.args.touches.now c.args.touchers.now c.args.writers.now c.requires.touches c.requires.touchers c.requires.writers c.deref.result.now (shared_same c.args.touchers.now c.args.writers.now c.args.touches.now c.deref.result.now c.in_ok-shared.shared.items c.deref.ensures.value c.in_ok-shared.ensures.shared)

pub returns-in_default : goal.returns-in_default
returns-in_default c =
    let shared = shared_same c.args.touchers.now c.args.writers.now c.args.touches.now c.deref.result.now c.in_ok-shared.shared.items c.deref.ensures.value c.in_ok-shared.ensures.shared in
    let P : ℕ → Type 0 = λ n. IsFirstOpen c.args.before.now c.deref.result.now n None in
    no_open_no_race c.args.sched.now c.args.rank c.args.touches.now c.args.touchers.now c.args.writers.now c.requires.touches c.requires.touchers c.requires.writers c.args.before.now c.deref.result.now c.requires.before shared c.requires.few (subst P c.op_count-count.ensures.count c.in_default.ensures)

pub returns : goal.returns
returns c =
    let shared = shared_same c.args.touchers.now c.args.writers.now c.args.touches.now c.deref.result.now c.in_ok-shared.shared.items c.deref.ensures.value c.in_ok-shared.ensures.shared in
    let P : ℕ → Type 0 = λ n. IsFirstOpen c.args.before.now c.deref.result.now n (Some c.in-Some.pair) in
    first_race c.args.sched.now c.args.rank c.args.touches.now c.args.touchers.now c.args.writers.now c.requires.touches c.requires.touchers c.requires.writers c.args.before.now c.deref.result.now c.requires.before shared c.requires.few c.in-Some.pair c.in-Some-least_slot.slot (subst P c.op_count-count.ensures.count c.in-Some.ensures) c.in-Some-least_slot.ensures
