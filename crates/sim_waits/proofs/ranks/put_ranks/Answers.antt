use Rattle.std.proofs.Common.{◌≡◌, ℕ, ◌+◌, ◌<◌, ◌++◌, List, length, drop, sym, ap, ◌∙◌, arith, append_assoc}
use Rattle.std.proofs.lemmas.List.{append-nil}
use Rattle.sim_waits.specs.WaitKeys.{places_at}
use Rattle.sim_waits.specs.WaitsText.{line_of_rank, rank_lines, rank_line}
use Rattle.sim_waits.proofs.RankLemmas.{lines_with_next_rank, no_lines_past_end}
use Rattle.sim_waits.proofs.ranks.put_ranks.Goals as goal

pub loop-rank-preserved : goal.loop-rank-preserved
unfolding line_of_rank
loop-rank-preserved g c =
    let plans = c.args.engine.now.plans in
    let costs = g.C.Costs.model c.args.engine.now.costs in
    let h = c.args.engine.now.history in
    let rank = c.loop-rank.rank in
    let below : rank < length plans = omega (arith, c.loop-rank-test.true, ap length (c.plans.ensures.plans ∙ c.sched.ensures)) in
    let rest = rank_lines plans costs h (rank + 1) (drop (rank + 1) plans) in
    let line : rank_line rank c.rank_waits.result.ended c.rank_waits.result.total ≡ line_of_rank plans costs h rank (places_at plans rank) = (λ i. rank_line rank (c.rank_waits.ensures.ended i) (c.rank_waits.ensures.total i)) in
    ap (λ (text : List ℕ). text ++ rest) (c.in_ok-put_rank.ensures ∙ ap (λ (l : List ℕ). c.loop-rank.out ++ l) line)
    ∙ append_assoc c.loop-rank.out (line_of_rank plans costs h rank (places_at plans rank)) rest
    ∙ ap (λ (text : List ℕ). c.loop-rank.out ++ text) (sym (lines_with_next_rank plans costs h rank below))
    ∙ c.loop-rank.invariant

pub returns : goal.returns
returns g c =
    let plans = c.args.engine.now.plans in
    let costs = g.C.Costs.model c.args.engine.now.costs in
    let h = c.args.engine.now.history in
    let none = no_lines_past_end plans costs h c.loop-rank.rank (omega (arith, c.loop-rank-test.false, ap length (c.plans.ensures.plans ∙ c.sched.ensures))) in
    sym (append-nil c.loop-rank.out) ∙ ap (λ (text : List ℕ). c.loop-rank.out ++ text) (sym none) ∙ c.loop-rank.invariant
