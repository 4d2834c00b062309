-- Each turn lists one operation.
use Rattle.std.proofs.Common.{◌≡◌, ◌++◌, List, [], drop, refl, sym, ap, ◌∙◌, arith, append-nil}
use Rattle.std.proofs.lemmas.List.{drop_all}
use Rattle.goal_graph.specs.declared.action.OpId.{OpId}
use Rattle.goal_graph.specs.declared.plan.Op.{Op}
use Rattle.goal_graph.specs.Schedule.{places_of_rank}
use Rattle.goal_graph.proofs.ListingLemmas.{one_more_listed, places_of_rank-nil}
use Rattle.goal_graph.proofs.listing.list_rank.Goals as goal

pub loop-op-init : goal.loop-op-init
loop-op-init c = record { listed = rw c.in_ok-reserve.ensures.items refl; room = omega (arith, c.in_ok-reserve.ensures.ok) }

pub push_reserved-requires : goal.push_reserved-requires
push_reserved-requires c = omega (arith, c.loop-op.invariant.room, c.loop-op-test.true)

pub loop-op-preserved : goal.loop-op-preserved
loop-op-preserved c = record {
  listed = rw c.push_reserved.ensures.items (one_more_listed c.args.rank c.loop-op.op c.args.ops.now c.loop-op.ids.items _ c.loop-op-test.true c.loop-op.invariant.listed);
  room = omega (arith, c.push_reserved.ensures.len, c.push_reserved.ensures.capacity, c.loop-op.invariant.room);
}

pub returns : goal.returns
returns c =
    let left : places_of_rank c.args.rank c.loop-op.op (drop c.loop-op.op c.args.ops.now) ≡ [] =
    ap (λ (os : List Op). places_of_rank c.args.rank c.loop-op.op os) (drop_all c.loop-op.op c.args.ops.now c.loop-op-test.false) ∙ places_of_rank-nil c.args.rank c.loop-op.op in
    sym (append-nil c.loop-op.ids.items) ∙ ap (λ (xs : List OpId). c.loop-op.ids.items ++ xs) (sym left) ∙ c.loop-op.invariant.listed
