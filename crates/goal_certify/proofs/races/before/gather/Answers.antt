use Rattle.std.proofs.Common.{◌≡◌, ◌<◌, true, false, length, take, slice_index_or, ap, sym, subst, arith}
use Rattle.std.proofs.lemmas.List.{take_all}
use Rattle.goal_graph.specs.declared.plan.Need.{Need}
use Rattle.goal_graph.specs.declared.plan.When.TheVariants.{AfterEnd}
use Rattle.goal_graph.specs.Schedule.{ops_at, needs, needed}
use Rattle.goal_certify.proofs.Before.{op_number_below_op_count, rows_after_next_need, needs_taken_with_next, row_done}
use Rattle.goal_certify.proofs.races.before.gather.Goals as goal

pub take-requires-clause-op : goal.take-requires-clause-op
take-requires-clause-op c = omega (arith, op_number_below_op_count c.args.sched.now c.args.id c.requires.exists)

pub take-requires-clause-needed : goal.take-requires-clause-needed
take-requires-clause-needed c =
    let d : Need = slice_index_or c.needs-need-items.result.now c.loop-need.need-index (record { op = 0; when = AfterEnd }) in
    let below : d.op < length (ops_at c.args.sched.now c.args.id.rank) = op_number_below_op_count c.args.sched.now (needed c.args.id d) (c.needs-need-items.ensures.exist c.loop-need.need-index _ (omega arith)) in
    omega arith

pub take-requires-clause-few : goal.take-requires-clause-few
take-requires-clause-few c =
    let d : Need = slice_index_or c.needs-need-items.result.now c.loop-need.need-index (record { op = 0; when = AfterEnd }) in
    let below : d.op < length (ops_at c.args.sched.now c.args.id.rank) = op_number_below_op_count c.args.sched.now (needed c.args.id d) (c.needs-need-items.ensures.exist c.loop-need.need-index _ (omega arith)) in
    omega arith

pub take-requires-clause-low : goal.take-requires-clause-low
take-requires-clause-low c k few h =
    let low = (c.loop-need.invariant.rows.low _ k few h).1 in
    omega (arith, low, c.requires.marks)

pub loop-need-preserved : goal.loop-need-preserved
loop-need-preserved c =
    let e : Need = record { op = 0; when = AfterEnd } in
    let i = c.loop-need.need-index in
    let plans = c.args.sched.now in
    let d : Need = slice_index_or c.needs-need-items.result.now i e in
    let same : d ≡ slice_index_or (needs plans c.args.id) i e = ap (λ ns. slice_index_or ns i e) c.needs-need-items.ensures.needs in
    let inside : i < length (needs plans c.args.id) = omega (arith, ap length c.needs-need-items.ensures.needs) in
    let below : d.op < length (ops_at plans c.args.id.rank) = op_number_below_op_count plans (needed c.args.id d) (c.needs-need-items.ensures.exist i e (omega arith)) in
    let is_done : slice_index_or c.args.done.now d.op false ≡ true = subst (λ (n : Need). slice_index_or c.args.done.now n.op false ≡ true) (sym same) (c.requires.needs i e inside) in
    record {
      rows = rows_after_next_need plans c.args.id c.loop-need.rows c.take.new.rows _ c.loop-need.invariant.rows c.take.ensures.keeps i e d same inside (op_number_below_op_count plans c.args.id c.requires.exists) below c.take.ensures.no_more;
      row = needs_taken_with_next plans c.args.id c.loop-need.rows c.take.new.rows _ c.loop-need.invariant.rows c.take.ensures.keeps i e d same inside is_done c.take.ensures.adds c.take.ensures.ends c.loop-need.invariant.row;
    }

pub returns-clause-row : goal.returns-clause-row
returns-clause-row c =
    let ns = needs c.args.sched.now c.args.id in
    let all : take c.loop-need.need-index ns ≡ ns = take_all c.loop-need.need-index ns (omega (arith, ap length c.needs-need-items.ensures.needs)) in
    row_done c.args.sched.now c.args.id c.loop-need.rows (rw all at c.loop-need.invariant.row)
