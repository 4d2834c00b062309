-- The sum so far is that of the operations so far.
use Rattle.std.proofs.Common.{◌≡◌, ◌≤◌, ◌^◌, ◌+◌, length, take, sum_by, ap, ◌∙◌, arith}
use Rattle.std.proofs.lemmas.List.{take_all, length-take}
use Rattle.std.proofs.lemmas.List.Sums.{sum_by_more}
use Rattle.goal_graph.specs.declared.action.OpId.{OpId}
use Rattle.sim_params.specs.Budget.{share, budget}
use Rattle.sim_params.proofs.SharesLemmas.{shares_bound}
use Rattle.sim_params.proofs.shares.budget.Given as given
use Rattle.sim_params.proofs.shares.budget.Goals as goal
use Rattle.sim_params.proofs.shares.budget.Goals.{After-share-sum}

abbrev default_op_id : OpId
default_op_id = record { rank = 0; op = 0 }

sum_with_next_share : (g : given.Over) → (c : After-share-sum g) → c.loop-id.sum + c.share-sum.result ≡ sum_by (share c.args.sched.now (g.C.Costs.model c.args.costs.now)) (take (c.loop-id.id-index + 1) c.operations-id-items.result.now)
sum_with_next_share g c =
    let more = sum_by_more (share c.args.sched.now (g.C.Costs.model c.args.costs.now)) c.operations-id-items.result.now c.loop-id.id-index default_op_id c.loop-id-test.true in
    omega (arith, more, c.loop-id.invariant, c.share-sum.ensures)

pub overflow_add-sum : goal.overflow_add-sum
overflow_add-sum g c =
    let few : length (take (c.loop-id.id-index + 1) c.operations-id-items.result.now) ≤ 2 ^ 20 = omega (arith, length-take (c.loop-id.id-index + 1) c.operations-id-items.result.now, ap length c.operations-id-items.ensures.all, c.count-count.ensures.count, c.count-count.ensures.small) in
    omega (arith, sum_with_next_share g c, shares_bound c.args.sched.now (g.C.Costs.model c.args.costs.now) c.known.ensures.accepted (g.met.C.Costs.bounded c.args.costs.now) _ few)

pub loop-id-preserved : goal.loop-id-preserved
loop-id-preserved g c = sum_with_next_share g c

pub returns : goal.returns
unfolding budget
returns g c =
    c.loop-id.invariant ∙ ap (sum_by (share c.args.sched.now (g.C.Costs.model c.args.costs.now))) (take_all c.loop-id.id-index c.operations-id-items.result.now c.loop-id-test.false ∙ c.operations-id-items.ensures.all)
