-- The run on other ranks, renamed back, is the run in which ties are broken by the renamed ranks.
use Rattle.std.proofs.Common.{ℕ, ◌≤◌, ◌≡◌, List, [], ◌∷◌, length, map, refl, sym, ap, ◌∙◌, subst}
use Rattle.std.proofs.lemmas.List.Elements.{All-map}
use Rattle.goal_graph.specs.declared.action.OpId.{OpId}
use Rattle.goal_graph.specs.declared.action.Timed.{Timed}
use Rattle.goal_graph.specs.Schedule.{Plan}
use Rattle.goal_graph.specs.Laws.{IsApart}
use Rattle.goal_blocks.specs.Placed.{IsPermutation, IsPlaced, placed_op}
use Rattle.goal_blocks.proofs.ForCallers.{placed_op_after_back}
use Rattle.sim_params.specs.Costs.{CostModel}
use Rattle.sim_params.specs.Times.{start, end}
use Rattle.sim_params.specs.Run.{IsRun, IsCompleteRun}
use Rattle.sim_params.specs.Laws.{NewestIsLast}
use Rattle.sim_placed.specs.PlacedRuns.{placed_timed, AreAlike, IsCompleteRunBy, TakesTime}
use Rattle.sim_placed.proofs.PlacedTimes.{start_placed, end_placed, runs_alike}
use Rattle.sim_placed.proofs.Tails.{Rises}
use Rattle.sim_placed.proofs.Mates.{Each}
use Rattle.sim_placed.proofs.SameRuns.{start_same, end_same}

module _ (newest : NewestIsLast) (plans : List Plan) (costs : CostModel) where
  rises_run : (h : List Timed) → IsRun plans costs h → Rises h
  rises_run [] run = tt
  rises_run (a ∷ h) run = (rises_run h run.0, newest plans costs h a run)

  each_run : (h : List Timed) → IsRun plans costs h → Each plans costs h
  each_run [] run = tt
  each_run (a ∷ h) run = (each_run h run.0, run.1.possible)

rises_placed : (to : ℕ → ℕ) (h : List Timed) → Rises h → Rises (map (placed_timed to) h)
rises_placed to [] rises = tt
rises_placed to (a ∷ h) rises =
    (rises_placed to h rises.0, All-map (λ (b : Timed). b.time ≤ a.time) (placed_timed to) h rises.1)

module _ (to back : ℕ → ℕ) (plans other : List Plan) (costs there : CostModel) (perm : IsPermutation (length plans) to back) (placed : IsPlaced to plans other) (alike : AreAlike to costs there) where
  placed_there_after_back : (g : List Timed) → map (placed_timed to) (map (placed_timed back) g) ≡ g
  placed_there_after_back [] = refl
  placed_there_after_back (a ∷ g) =
      λ i. record { time = a.time; class = a.class; op = placed_op_after_back (length plans) to back perm a.op i } ∷ placed_there_after_back g i

  module _ (newest : NewestIsLast) (apart : IsApart plans) (takes : TakesTime plans costs) (h g : List Timed) (run : IsCompleteRun plans costs h) (run_there : IsCompleteRun other there g) where
    -- the other run, renamed back
    abbrev k : List Timed
    k = map (placed_timed back) g

    run_by : IsCompleteRunBy to plans costs k
    run_by =
        (runs_alike (length plans) to back perm plans other placed costs there alike k).0 (subst (λ (l : List Timed). IsCompleteRun other there l) (sym (placed_there_after_back g)) run_there)

    rises_k : Rises k
    rises_k = rises_placed back g (rises_run newest other there g run_there.run)

    each_h : Each plans costs h
    each_h = each_run newest plans costs h run.run

    rises_h : Rises h
    rises_h = rises_run newest plans costs h run.run

    pub same_there : (x : OpId) → (start other there g (placed_op to x) ≡ start plans costs h x) × (end other there g (placed_op to x) ≡ end plans costs h x)
    same_there x =
        (ap (λ (l : List Timed). start other there l (placed_op to x)) (sym (placed_there_after_back g)) ∙ (start_placed (length plans) to back perm plans other placed costs there alike k x ∙ start_same plans costs apart takes h each_h run rises_h to k rises_k run_by x), ap (λ (l : List Timed). end other there l (placed_op to x)) (sym (placed_there_after_back g)) ∙ (end_placed (length plans) to back perm plans other placed costs there alike k x ∙ end_same plans costs apart takes h each_h run rises_h to k rises_k run_by x))
