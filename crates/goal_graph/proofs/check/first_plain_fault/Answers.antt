-- The counts come first, then one rank after another.
use Rattle.std.proofs.Common.{◌≡◌, All, length, Some, None, sym, ap, subst, ◌∙◌, arith}
use Rattle.std.proofs.lemmas.List.{take_all}
use Rattle.std.proofs.lemmas.List.Elements.{All-more}
use Rattle.goal_graph.specs.Schedule.{Plan}
use Rattle.goal_graph.specs.Fault.{rank_fault}
use Rattle.goal_graph.specs.Widths.{IsPlanInWidth}
use Rattle.goal_graph.proofs.Plain.{count_fault-none, plain_fault-counts, plain_fault-ranks}
use Rattle.goal_graph.proofs.Places.{lengths-le}
use Rattle.goal_graph.proofs.FirstFault.{first_fault-found, first_fault-more, first_fault-end}
use Rattle.goal_graph.proofs.check.first_plain_fault.Goals as goal

pub returns-in-Some-clause-fault : goal.returns-in-Some-clause-fault
returns-in-Some-clause-fault c = plain_fault-counts c.args.plans.now _ c.in-Some.ensures

pub overflow_cast-ranks : goal.overflow_cast-ranks
overflow_cast-ranks c = omega (arith, (count_fault-none c.args.plans.now (sym c.in_default.ensures)).ranks)

pub overflow_cast-rank : goal.overflow_cast-rank
overflow_cast-rank c = omega (arith, (count_fault-none c.args.plans.now (sym c.in_default.ensures)).ranks, c.loop-rank-test.true)

pub first_fault_in-requires-clause-ops : goal.first_fault_in-requires-clause-ops
first_fault_in-requires-clause-ops c =
    let le = lengths-le c.args.plans.now c.loop-rank.rank c.index-plans-rank.result c.loop-rank-test.true in
    let same = ap (λ (p : Plan). length p.ops) c.index-plans-rank.is in
    omega (arith, le.ops, same, (count_fault-none c.args.plans.now (sym c.in_default.ensures)).ops)

pub first_fault_in-requires-clause-deps : goal.first_fault_in-requires-clause-deps
first_fault_in-requires-clause-deps c =
    let le = lengths-le c.args.plans.now c.loop-rank.rank c.index-plans-rank.result c.loop-rank-test.true in
    let same = ap (λ (p : Plan). length p.deps) c.index-plans-rank.is in
    omega (arith, le.deps, same, (count_fault-none c.args.plans.now (sym c.in_default.ensures)).deps)

pub first_fault_in-requires-clause-notes : goal.first_fault_in-requires-clause-notes
first_fault_in-requires-clause-notes c =
    let le = lengths-le c.args.plans.now c.loop-rank.rank c.index-plans-rank.result c.loop-rank-test.true in
    let same = ap (λ (p : Plan). length p.notes) c.index-plans-rank.is in
    omega (arith, le.notes, same, (count_fault-none c.args.plans.now (sym c.in_default.ensures)).notes)

pub returns-in-Some-first_fault_in-clause-fault : goal.returns-in-Some-first_fault_in-clause-fault
returns-in-Some-first_fault_in-clause-fault c =
    let found = subst (λ p. Some c.in-Some-first_fault_in.fault ≡ rank_fault (length c.args.plans.now) c.loop-rank.rank p) c.index-plans-rank.is c.in-Some-first_fault_in.ensures.fault in
    first_fault-found (rank_fault (length c.args.plans.now)) c.args.plans.now c.loop-rank.rank _ _ c.loop-rank-test.true c.loop-rank.invariant.none_yet found
    ∙ plain_fault-ranks c.args.plans.now c.in_default.ensures

pub loop-rank-preserved : goal.loop-rank-preserved
loop-rank-preserved c =
    let none = subst (λ p. None ≡ rank_fault (length c.args.plans.now) c.loop-rank.rank p) c.index-plans-rank.is c.in_default-first_fault_in.ensures.fault in
    let width = subst IsPlanInWidth c.index-plans-rank.is c.in_default-first_fault_in.ensures.width in
    record {
      none_yet = first_fault-more (rank_fault (length c.args.plans.now)) c.args.plans.now c.loop-rank.rank _ c.loop-rank-test.true c.loop-rank.invariant.none_yet none;
      widths = All-more IsPlanInWidth c.args.plans.now c.loop-rank.rank _ c.loop-rank-test.true c.loop-rank.invariant.widths width;
    }

pub returns-clause-fault : goal.returns-clause-fault
returns-clause-fault c =
    first_fault-end (rank_fault (length c.args.plans.now)) c.args.plans.now c.loop-rank.rank c.loop-rank-test.false c.loop-rank.invariant.none_yet
    ∙ plain_fault-ranks c.args.plans.now c.in_default.ensures

pub returns-clause-width : goal.returns-clause-width
returns-clause-width c =
    record { ranks = subst (All IsPlanInWidth) (take_all c.loop-rank.rank c.args.plans.now c.loop-rank-test.false) c.loop-rank.invariant.widths }
