-- Before the first action.
use Rattle.std.proofs.Common.{◌≡◌, ℕ, Bool, false, not, cond, if◌then◌else◌, max, count_by, length, List, [], ◌∷◌, Some, None, refl, sym, ap, ap₂, ◌∙◌, arith}
use Rattle.std.proofs.lemmas.Bool.{cond-false}
use Rattle.goal_graph.specs.declared.action.OpId.{OpId}
use Rattle.goal_graph.specs.declared.plan.Need.{Need}
use Rattle.goal_graph.specs.declared.plan.When.{When}
use Rattle.goal_graph.specs.declared.plan.When.TheVariants.{AfterEnd, AfterStart}
use Rattle.goal_graph.specs.Schedule.{Plan, needs, needed}
use Rattle.goal_graph.specs.Action.{happened, plain}
use Rattle.goal_graph.specs.Matching.{pairs, partner}
use Rattle.goal_graph.specs.Allowed.{is_met}
use Rattle.goal_graph.proofs.ForCallers.{count-cons}
use Rattle.sim_params.specs.Costs.{CostModel, is_eager}
use Rattle.sim_params.specs.Times.{cpu, tx, rx, greatest, mate, met_at}
use Rattle.sim_match.specs.PostsAndArrivals.{PostsAndArrivals}
use Rattle.sim_resources.specs.FreeTimes.{Holds, free_at, cpu_free, tx_free, rx_free, unheld, SameFreeTimes}
use Rattle.sim_state.specs.Engine.{start_known, end_known}
use Rattle.sim_state.specs.Awaited.{is_there, unmet, awaited_known}
use Rattle.sim_state.specs.Tasks.{work_of}
use Rattle.sim_state.specs.Tables.{fresh_entry}
use Rattle.sim_state.specs.Represents.{entry_known, AreFreeTimes, KnowsPostsAndArrivals}

module _ (plans : List Plan) (costs : CostModel) where
  module _ (x : OpId) where
    no_start : start_known plans costs [] x ≡ None
    unfolding plain happened
    no_start = refl

    no_end : end_known plans costs [] x ≡ None
    unfolding plain happened
    no_end = refl

    -- no moment is there
    none_met : (w : When) (y : OpId) → is_met plans (is_eager plans costs) (plain []) w y ≡ false
    unfolding plain happened
    none_met AfterEnd y = refl
    none_met AfterStart y = refl

    none_there : (d : Need) → is_there plans costs [] x d ≡ false
    none_there d = none_met d.when (needed x d)

    none_last : (ds : List Need) → greatest (λ (d : Need). if is_there plans costs [] x d then met_at plans costs [] d.when (needed x d) else 0) ds ≡ 0
    unfolding greatest
    none_last [] = refl
    none_last (d ∷ ds) = ap₂ max (cond-false _ _ _ (none_there d)) (none_last ds)

    none_given : awaited_known plans costs [] x ≡ Some 0
    unfolding plain happened
    none_given = ap Some (none_last (needs plans x))

    all_of : (ds : List Need) → length ds ≡ count_by (λ (d : Need). not (is_there plans costs [] x d)) ds
    all_of [] = refl
    all_of (d ∷ ds) =
        let here = ap {B = ℕ} (λ (b : Bool). cond (not b) 1 0) (none_there d) in
        let rest = all_of ds in
        omega (arith, here, rest, count-cons (λ (d : Need). not (is_there plans costs [] x d)) d ds)

    all_unmet : length (needs plans x) ≡ unmet plans costs [] x
    all_unmet = all_of (needs plans x)

    no_partner : mate plans costs [] x ≡ None
    unfolding plain pairs partner
    no_partner = refl

    -- nothing is known of any operation but what it does
    pub nothing_known : fresh_entry (work_of plans costs x) (length (needs plans x)) ≡ entry_known plans costs [] x
    nothing_known =
        sym (λ i. record { work = work_of plans costs x; times = record { start = no_start i; end = no_end i; awaited = none_given i }; link = record { unmet = sym all_unmet i; partner = no_partner i } })

    cpu_first : cpu_free (unheld plans) x ≡ cpu plans costs [] x
    unfolding free_at cpu
    cpu_first = refl

    tx_first : tx_free (unheld plans) x ≡ tx plans costs [] x
    unfolding free_at tx
    tx_first = refl

    rx_first : rx_free (unheld plans) x ≡ rx plans costs [] x
    unfolding free_at rx
    rx_first = refl

  -- all is free at 0
  pub unheld_is_free_at_start : (res : Holds) → SameFreeTimes res (unheld plans) → AreFreeTimes plans costs [] res
  unheld_is_free_at_start res same = record {
    same_plans = same.plans;
    cpus = λ x. same.cpu x ∙ cpu_first x;
    senders = λ x. same.tx x ∙ tx_first x;
    receivers = λ x. same.rx x ∙ rx_first x;
  }

  -- a new matcher
  pub new_matcher_knows_empty_history : (matcher : PostsAndArrivals) → matcher ≡ record { plans = plans; actions = [] } → KnowsPostsAndArrivals plans costs [] matcher
  unfolding plain
  new_matcher_knows_empty_history matcher e = record {
    same_plans = ap (λ (m : PostsAndArrivals). m.plans) e;
    events = ap (λ (m : PostsAndArrivals). m.actions) e;
  }
