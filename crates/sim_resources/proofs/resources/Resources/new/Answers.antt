use Rattle.std.proofs.Common.{◌∙◌, refl, sym}
use Rattle.goal_graph.specs.declared.plan.Op.{Op}
use Rattle.sim_resources.proofs.FreeTimes.{free_at-unheld, free_at-empty}
use Rattle.sim_resources.proofs.Placed.{cpus_placed, txs_placed, rxs_placed}
use Rattle.sim_resources.proofs.resources.Resources.new.Goals as goal

pub returns : goal.returns
returns c =
    let plans = c.args.sched.now in
    let s = c.in_ok-stations.stations in
    let n = c.in_ok-stations.ensures in
    let none = c.in_ok-free.ensures.items_if_clones_equal (λ y e. e) in
    record {
      plans = refl;
      cpu = λ x. free_at-unheld (λ (o : Op). o.cpu) plans _ _ _ (cpus_placed plans s n) _ none x ∙ sym (free_at-empty (λ (o : Op). o.cpu) plans x);
      tx = λ x. free_at-unheld (λ (o : Op). o.nic) plans _ _ _ (txs_placed plans s n) _ none x ∙ sym (free_at-empty (λ (o : Op). o.nic) plans x);
      rx = λ x. free_at-unheld (λ (o : Op). o.nic) plans _ _ _ (rxs_placed plans s n) _ none x ∙ sym (free_at-empty (λ (o : Op). o.nic) plans x);
    }
