use Rattle.std.proofs.Common.{◌≡◌, ℕ, List, length, take, refl, subst, ◌∙◌, ap, arith}
use Rattle.std.proofs.lemmas.List.{take_all}
use Rattle.goal_graph.specs.declared.action.OpId.{OpId}
use Rattle.goal_graph.specs.Schedule.{places_from, operations}
use Rattle.sim_params.specs.Times.{greatest}
use Rattle.sim_timeline.specs.Pages.{IsSummary, before_rank}
use Rattle.sim_timeline.proofs.Ranks.{before_all_ranks}
use Rattle.sim_timeline.proofs.lines.sum_up.Goals as goal

pub loop-rank-init : goal.loop-rank-init
unfolding greatest places_from
loop-rank-init g c = (record { stuck_is = refl; unmatched_is = refl; finish_is = refl }, omega arith, omega arith)

pub returns : goal.returns
returns g c =
    let plans = c.args.sched.now in
    let end : c.loop-rank.rank ≡ length plans = omega (arith, c.loop-rank-test.false, c.loop-rank.auto.rank-end, ap length c.plans.ensures.plans) in
    let all : take (before_rank plans c.loop-rank.rank) (operations plans) ≡ operations plans = ap (λ (n : ℕ). take (before_rank plans n) (operations plans)) end ∙ ap (λ (n : ℕ). take n (operations plans)) (before_all_ranks plans) ∙ take_all (length (operations plans)) (operations plans) (omega arith) in
    subst (λ (xs : List OpId). IsSummary plans (g.C.Costs.model c.args.engine.now.costs) c.args.engine.now.history xs c.loop-rank.summary.stuck c.loop-rank.summary.unmatched c.loop-rank.summary.finish) all c.loop-rank.invariant.0
