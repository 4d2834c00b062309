use Rattle.std.proofs.Common.{ℕ, List, Option, Some, None, cond, get_or, sym, ap, ◌∙◌}
use Rattle.std.specs.Ordering.{is_eq}
use Rattle.std.specs.BTreeMap.{get}
use Rattle.goal_graph.specs.declared.action.OpId.{OpId}
use Rattle.goal_graph.specs.declared.plan.Kind.{Kind}
use Rattle.sim_match.specs.declared.pattern.Pattern.{Pattern}
use Rattle.sim_match.specs.Patterns.{pattern_cmp}
use Rattle.sim_stuck.specs.Patterns.{is_for}
use Rattle.sim_stuck.proofs.PatternFacts.{put_at_four_patterns_where_accepted}
use Rattle.sim_stuck.proofs.partner.Firsts.put.Goals as goal

-- what is at q after it was put at the pattern at this index
abbrev put_at : List Pattern → ℕ → Pattern → Option OpId → Option OpId → Option OpId
put_at patterns place q id was = cond (is_eq (pattern_cmp (get_or patterns place (record { rank = 0; from = None; tag = None })) q)) id was

pub returns-in_ok-insert-in-Send-4-clause-sends : goal.returns-in_ok-insert-in-Send-4-clause-sends
returns-in_ok-insert-in-Send-4-clause-sends c = λ q.
    let patterns = c.patterns_for.result in
    let id = Some c.args.id in
    let was = get pattern_cmp c.args.self.now.sends q in
    c.in_ok-insert-in-Send-4.ensures.updates.0 q
    ∙ ap (put_at patterns 3 q id) (c.in_ok-insert-in-Send-3.ensures.updates.0 q
    ∙ ap (put_at patterns 2 q id) (c.in_ok-insert-in-Send-2.ensures.updates.0 q
    ∙ ap (put_at patterns 1 q id) (c.in_ok-insert-in-Send.ensures.updates.0 q)))
    ∙ ap (λ (ps : List Pattern). put_at ps 3 q id (put_at ps 2 q id (put_at ps 1 q id (put_at ps 0 q id was)))) c.patterns_for.ensures
    ∙ put_at_four_patterns_where_accepted q c.args.id.rank c.in-Send.to c.in-Send.tag id was
    ∙ ap (λ (kind : Kind). cond (is_for q c.args.id (Some kind)) id was) (sym c.in-Send.is)
