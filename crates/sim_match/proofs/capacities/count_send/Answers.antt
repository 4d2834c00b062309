use Rattle.std.proofs.Common.{ℕ, List, Option, arith, subst}
use Rattle.std.proofs.lemmas.List.{take_all, get_or_default}
use Rattle.sim_match.specs.Capacities.{AreCounted}
use Rattle.sim_match.proofs.CapacityLemmas.{counted_for_no_numbers, counted_unchanged_by_no_number, count_within, count_fits, counted_with}
use Rattle.sim_match.proofs.capacities.count_send.Goals as goal
use Rattle.sim_match.proofs.capacities.count_send.Goals.{in-Some, in-None}

pub loop-number-init : goal.loop-number-init
loop-number-init c = counted_for_no_numbers _

pub bounds-capacities-list : goal.bounds-capacities-list
bounds-capacities-list c =
    count_within _ _ _ c.loop-number.number-index _ (omega arith) c.loop-number.invariant c.in-Some.list c.in-Some.is c.requires.once c.requires.within

pub overflow_add-capacity : goal.overflow_add-capacity
overflow_add-capacity c =
    let within = count_within _ _ _ c.loop-number.number-index _ (omega arith) c.loop-number.invariant c.in-Some.list c.in-Some.is c.requires.once c.requires.within in
    let fits = count_fits _ _ _ c.loop-number.number-index _ (omega arith) c.loop-number.invariant c.in-Some.list c.in-Some.is c.requires.once c.requires.within _ (get_or_default c.loop-number.capacities c.in-Some.list (record { receives = 0; sends = 0 }) _ within) c.requires.small in
    omega (arith, fits)

pub loop-number-preserved : goal.loop-number-preserved
loop-number-preserved c = elim c.match-number.branch [
  | in-Some w ↦
      let within = count_within _ _ _ c.loop-number.number-index _ (omega arith) c.loop-number.invariant w.in-Some.list w.in-Some.is c.requires.once c.requires.within in
      rw w.capacities-is (counted_with _ _ _ c.loop-number.number-index _ (omega arith) c.loop-number.invariant w.in-Some.list w.in-Some.is c.requires.once c.requires.within _ (get_or_default c.loop-number.capacities w.in-Some.list (record { receives = 0; sends = 0 }) _ within))
  | in-None w ↦ rw w.capacities-is (counted_unchanged_by_no_number _ _ _ c.loop-number.number-index _ (omega arith) c.loop-number.invariant w.in-None.is)
]

pub returns : goal.returns
returns c =
    subst (λ (ns : List (Option ℕ)). AreCounted ns c.args.capacities.now c.loop-number.capacities) (take_all c.loop-number.number-index c.args.numbers (omega (arith, c.loop-number-test.false))) c.loop-number.invariant
