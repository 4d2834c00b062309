use Rattle.std.proofs.Common.{◌≡◌, ◌+◌, ℕ, List, length, get_or, Some, slice_get, sym, ap, subst, arith}
use Rattle.std.proofs.lemmas.Option.{slice_get-get_or}
use Rattle.goal_graph.specs.declared.action.OpId.{OpId}
use Rattle.goal_graph.specs.Schedule.{operations}
use Rattle.sim_resources.proofs.Numbering.{AreNumberedTo, next_operation_numbered, all_operations_stationed, numbered_resources_exist}
use Rattle.sim_resources.proofs.station.number_all.Goals as goal

pub number-requires-clause-few : goal.number-requires-clause-few
number-requires-clause-few c =
    omega (arith, c.loop-id.invariant.to.few, c.loop-id-test.true, ap length c.operations-id-items.ensures.all, c.requires.few)

pub loop-id-preserved : goal.loop-id-preserved
loop-id-preserved c =
    let i = c.loop-id.id-index in
    let ids = c.operations-id-items.result.now in
    let this : OpId = get_or ids i (record { rank = 0; op = 0 }) in
    let at : slice_get (operations c.args.sched.now) i ≡ Some this = subst (λ (xs : List OpId). slice_get xs i ≡ Some this) c.operations-id-items.ensures.all (slice_get-get_or ids i (record { rank = 0; op = 0 }) (omega arith)) in
    let more = next_operation_numbered c.args.sched.now i _ _ _ _ c.loop-id.invariant.to this c.op.result.now at c.op.ensures.op _ _ _ c.in_ok-number.number c.in_ok-number.ensures.numbered c.in_ok-number.ensures.number in
    record {
      to = subst (λ (ns : List ℕ). AreNumberedTo c.args.sched.now (i + 1) c.number.new.self.stations c.number.new.self.resources c.number.new.self.pairs.items ns) (sym c.push_reserved.ensures.items) more;
      room = omega (arith, c.loop-id.invariant.room, c.push_reserved.ensures.capacity);
    }

pub returns-clause-few : goal.returns-clause-few
returns-clause-few c =
    omega (arith, c.loop-id.invariant.to.count, c.loop-id.auto.id-index-end, ap length c.operations-id-items.ensures.all, c.requires.few)

pub returns-clause-exist : goal.returns-clause-exist
returns-clause-exist c = numbered_resources_exist c.args.sched.now _ _ _ c.loop-id.invariant.to.numbering

pub returns-clause-stationed : goal.returns-clause-stationed
returns-clause-stationed c =
    all_operations_stationed c.args.sched.now c.loop-id.id-index _ _ _ c.loop-id.numbers.items c.loop-id.invariant.to (omega (arith, ap length c.operations-id-items.ensures.all, c.loop-id-test.false, c.loop-id.auto.id-index-end))
