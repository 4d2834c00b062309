-- Each turn lists one rank.
use Rattle.std.proofs.Common.{◌≡◌, ◌++◌, List, [], length, get_or, drop, sym, ap, ◌∙◌, arith, append-nil}
use Rattle.std.proofs.lemmas.List.{drop_all, get_or_default}
use Rattle.goal_graph.specs.declared.action.OpId.{OpId}
use Rattle.goal_graph.specs.Schedule.{Plan, places_from}
use Rattle.goal_graph.proofs.Places.{op_count-more_le, no_plan}
use Rattle.goal_graph.proofs.ListingLemmas.{one_rank_listed, places_from-nil}
use Rattle.goal_graph.proofs.listing.list_operations.Goals as goal
use Rattle.goal_graph.proofs.listing.list_operations.Goals.{After-deref}

-- the list that is read is that of the rank's operations
listed : (c : After-deref) → c.deref.result.now ≡ (get_or c.args.plans.now c.loop-rank.rank c.index-plans-rank.result).ops
listed c = c.deref.ensures.value ∙ ap (λ (p : Plan). p.ops) (c.plan.view_is ∙ c.index-plans-rank.is)

pub list_rank-requires : goal.list_rank-requires
list_rank-requires c =
    let same = ap length (listed (goal.at.list_rank-requires c).After-deref) in
    omega (arith, same, op_count-more_le c.args.plans.now c.loop-rank.rank c.index-plans-rank.result c.loop-rank-test.true)

pub loop-rank-preserved : goal.loop-rank-preserved
loop-rank-preserved c =
    let same = listed (goal.at.loop-rank-preserved c).After-deref in
    let by_rank : c.deref.result.now ≡ (get_or c.args.plans.now c.loop-rank.rank no_plan).ops =
    same ∙ ap (λ (p : Plan). p.ops) (get_or_default c.args.plans.now c.loop-rank.rank c.index-plans-rank.result no_plan c.loop-rank-test.true) in
    rw c.in_ok-list_rank.ensures (one_rank_listed c.loop-rank.rank c.args.plans.now c.deref.result.now c.loop-rank.ids.items _ c.loop-rank-test.true by_rank c.loop-rank.invariant)

pub returns : goal.returns
returns c =
    let left : places_from c.loop-rank.rank (drop c.loop-rank.rank c.args.plans.now) ≡ [] =
    ap (λ (ps : List Plan). places_from c.loop-rank.rank ps) (drop_all c.loop-rank.rank c.args.plans.now c.loop-rank-test.false) ∙ places_from-nil c.loop-rank.rank in
    sym (append-nil c.loop-rank.ids.items) ∙ ap (λ (xs : List OpId). c.loop-rank.ids.items ++ xs) (sym left) ∙ c.loop-rank.invariant
