use Rattle.std.proofs.Common.{◌≡◌, ◌++◌, ℕ, List, ap, ◌∙◌, subst}
use Rattle.std.specs.List.{flat_map}
use Rattle.goal_graph.specs.Schedule.{Plan, operations}
use Rattle.sim_waits.specs.WaitsText.{rank_lines, wait_line_of, oversize_of, waits_text, IsWaitsText}
use Rattle.sim_waits.proofs.report.waits.Goals as goal

pub returns : goal.returns
unfolding waits_text
returns g c =
    let plans = c.args.engine.now.plans in
    let costs = g.C.Costs.model c.args.engine.now.costs in
    let h = c.args.engine.now.history in
    let longest = c.in_ok-put_longest.ensures in
    let ranks = rank_lines plans costs h 0 plans in
    let lines = flat_map (wait_line_of plans costs h) longest.longest in
    let oversize = flat_map (oversize_of plans costs h) (operations plans) in
    let first : c.put_ranks.new.out ≡ ranks = c.in_ok-put_ranks.ensures ∙ ap (λ (text : List ℕ). text ++ ranks) c.new-out.ensures in
    let second : c.put_longest.new.out ≡ ranks ++ lines = longest.lines ∙ ap (λ (text : List ℕ). text ++ lines) first in
    let third : c.put_oversize.new.out ≡ ranks ++ lines ++ oversize = c.in_ok-put_oversize.ensures ∙ ap (λ (text : List ℕ). text ++ oversize) second in
    subst (λ (ps : List Plan). IsWaitsText ps costs h c.into_bytes.result.items) c.requires.same (record { longest = longest.longest; greatest = longest.greatest; lines = c.into_bytes.ensures ∙ third })
