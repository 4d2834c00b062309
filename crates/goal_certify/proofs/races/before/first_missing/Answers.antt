use Rattle.std.proofs.Common.{◌≡◌, ◌<◌, true, false, List, length, take, slice_index_or, All, Contains, refl, ap, sym, subst, arith}
use Rattle.std.proofs.lemmas.List.{take_all}
use Rattle.std.proofs.lemmas.List.Elements.{All-more, Contains-get_or}
use Rattle.goal_graph.specs.declared.plan.Need.{Need}
use Rattle.goal_graph.specs.declared.plan.When.TheVariants.{AfterEnd}
use Rattle.goal_graph.specs.Schedule.{needs, needed, ops_at}
use Rattle.goal_certify.proofs.Before.{op_number_below_op_count}
use Rattle.goal_certify.proofs.races.before.first_missing.Goals as goal

pub bounds-done-need : goal.bounds-done-need
bounds-done-need c =
    let e : Need = record { op = 0; when = AfterEnd } in
    let d : Need = slice_index_or c.needs-need-items.result.now c.loop-need.need-index e in
    let below : d.op < length (ops_at c.args.sched.now c.args.id.rank) = op_number_below_op_count c.args.sched.now (needed c.args.id d) (c.needs-need-items.ensures.exist c.loop-need.need-index e (omega arith)) in
    omega arith

pub loop-need-preserved : goal.loop-need-preserved
loop-need-preserved c =
    let e : Need = record { op = 0; when = AfterEnd } in
    let i = c.loop-need.need-index in
    let ns = needs c.args.sched.now c.args.id in
    let inside : i < length ns = omega (arith, ap length c.needs-need-items.ensures.needs) in
    All-more (λ (d : Need). slice_index_or c.args.done.now d.op false ≡ true) ns i e inside c.loop-need.invariant
    (subst (λ (all : List Need). slice_index_or c.args.done.now (slice_index_or all i e).op false ≡ true) c.needs-need-items.ensures.needs c.if-not-done-need.false)

pub returns : goal.returns
returns c =
    let ns = needs c.args.sched.now c.args.id in
    let all : take c.loop-need.need-index ns ≡ ns = take_all c.loop-need.need-index ns (omega (arith, ap length c.needs-need-items.ensures.needs)) in
    subst (λ (some : List Need). All (λ (d : Need). slice_index_or c.args.done.now d.op false ≡ true) some) all c.loop-need.invariant

pub returns-then-not-done-need : goal.returns-then-not-done-need
returns-then-not-done-need c =
    let e : Need = record { op = 0; when = AfterEnd } in
    let i = c.loop-need.need-index in
    let ns = needs c.args.sched.now c.args.id in
    let d : Need = slice_index_or c.needs-need-items.result.now i e in
    let same : d ≡ slice_index_or ns i e = ap (λ (all : List Need). slice_index_or all i e) c.needs-need-items.ensures.needs in
    let inside : i < length ns = omega (arith, ap length c.needs-need-items.ensures.needs) in
    record {
      need = d;
      needed = subst (λ (n : Need). Contains ns n) (sym same) (Contains-get_or ns i e inside);
      same = refl;
      missing = c.if-not-done-need.true;
    }
