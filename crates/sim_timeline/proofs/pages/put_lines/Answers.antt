use Rattle.std.proofs.Common.{ℕ, List, ◌++◌, take, get_or, ap, ◌∙◌, arith}
use Rattle.std.proofs.lemmas.List.{take_more, flat_map_more}
use Rattle.goal_base.proofs.ForCallers.{line_appended_after_kept_lines}
use Rattle.sim_timeline.specs.Timeline.{line_of}
use Rattle.sim_timeline.proofs.pages.put_lines.Goals as goal

pub loop-id-preserved : goal.loop-id-preserved
loop-id-preserved g c =
    let costs = g.C.Costs.model c.args.engine.now.costs in
    let h = c.args.engine.now.history in
    let plans = c.args.engine.now.plans in
    let items = c.args.ids.now in
    let i = c.loop-id.id-index in
    let id = get_or items i (record { rank = 0; op = 0 }) in
    let lines = line_of plans costs h in
    record {
      text =
          rw (take_more items i (record { rank = 0; op = 0 }) c.loop-id-test.true)
          (line_appended_after_kept_lines c.loop-id.out _ (take c.loop-id.end c.loop-id.lines) _ _ (lines id) c.in_ok-at.ensures.text c.put_operation-end.ensures.text
          ∙ ap (λ (l : List ℕ). l ++ lines id) c.loop-id.invariant.text ∙ flat_map_more lines c.args.out.now (take i items) id);
      within = omega (arith, c.put_operation-end.ensures.end, c.in_ok-at.ensures.room);
    }
