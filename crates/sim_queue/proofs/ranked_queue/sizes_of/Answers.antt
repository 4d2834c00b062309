use Rattle.std.proofs.Common.{◌≡◌, ◌<◌, ◌^◌, List, ℕ, length, map, sum, ap, ◌∙◌, sym, subst, arith}
use Rattle.std.proofs.lemmas.List.{take_all, length-map}
use Rattle.sim_queue.specs.Ranked.{size_of}
use Rattle.sim_queue.proofs.Ranking.{sizes_with_next_rank, sum_of_sizes_fits}
use Rattle.sim_queue.proofs.ranked_queue.sizes_of.Goals as goal

pub ranks-preserved : goal.ranks-preserved
ranks-preserved c =
    let within : c.ranks.rank < length c.args.sched.now = omega (arith, ap length c.plans.ensures.plans, c.ranks-test.true) in
    sizes_with_next_rank c.args.sched.now c.ranks.rank c.op_count.result c.ranks.sizes.items c.push.new.self.items within c.ranks.invariant c.op_count.ensures.count c.in_ok-push.ensures.items

pub returns-clause-sizes : goal.returns-clause-sizes
returns-clause-sizes c =
    c.ranks.invariant ∙ ap (map size_of) (take_all c.ranks.rank c.args.sched.now (omega (arith, ap length c.plans.ensures.plans, c.ranks-test.false)))

pub returns-clause-few : goal.returns-clause-few
returns-clause-few c =
    let all : c.ranks.sizes.items ≡ map size_of c.args.sched.now = c.ranks.invariant ∙ ap (map size_of) (take_all c.ranks.rank c.args.sched.now (omega (arith, ap length c.plans.ensures.plans, c.ranks-test.false))) in
    subst (λ (sizes : List ℕ). sum sizes < 2 ^ 32) (sym all) (sum_of_sizes_fits c.args.sched.now c.plans.ensures.counts)

pub returns-clause-ranks : goal.returns-clause-ranks
returns-clause-ranks c =
    let all : c.ranks.sizes.items ≡ map size_of c.args.sched.now = c.ranks.invariant ∙ ap (map size_of) (take_all c.ranks.rank c.args.sched.now (omega (arith, ap length c.plans.ensures.plans, c.ranks-test.false))) in
    omega (arith, ap length all, length-map c.args.sched.now size_of, c.plans.ensures.counts.ranks)
