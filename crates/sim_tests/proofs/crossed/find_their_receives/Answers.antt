-- An operation is posted or arrives for the first time.
use Rattle.std.proofs.Common.{◌≡◌, ℕ, ◌<◌, false, List, ◌∷◌, refl, ap, ◌∙◌, arith}
use Rattle.std.proofs.lemmas.Bool.{false_from_ne_true}
use Rattle.goal_graph.specs.declared.action.OpId.{OpId}
use Rattle.goal_graph.specs.declared.action.Class.{Class}
use Rattle.goal_graph.specs.declared.action.Class.TheVariants.{Arrive, Post}
use Rattle.goal_graph.specs.Action.{Act, happened}
use Rattle.goal_graph.proofs.ForCallers.{happened_none, not_happened_after_other_action, is_act_op}
use Rattle.sim_match.specs.PostsAndArrivals.{PostsAndArrivals}
use Rattle.sim_tests.proofs.crossed.find_their_receives.Goals as goal

-- an operation of a lesser number does not change those of greater numbers
later_fresh : (class other : Class) (rank op i : ℕ) (h : List Act) → op < i → happened class (record { rank = rank; op = i }) h ≡ false → happened class (record { rank = rank; op = i }) (record { class = other; op = record { rank = rank; op = op } } ∷ h) ≡ false
later_fresh class other rank op i h below fresh =
    not_happened_after_other_action class (record { rank = rank; op = i }) (record { class = other; op = record { rank = rank; op = op } }) h fresh
    (false_from_ne_true _ (λ t. absurd (omega (arith, ap (λ (x : OpId). x.op) (is_act_op class (record { rank = rank; op = i }) (record { class = other; op = record { rank = rank; op = op } }) t)))))

pub posts-init : goal.posts-init
posts-init c = record {
  plans = ap (λ (m : PostsAndArrivals). m.plans) c.in_ok-matcher.ensures;
  fresh = λ i b.
      ap (λ (m : PostsAndArrivals). happened Post (record { rank = 1; op = i }) m.actions) c.in_ok-matcher.ensures ∙ happened_none Post (record { rank = 1; op = i });
  none = λ x. ap (λ (m : PostsAndArrivals). happened Arrive x m.actions) c.in_ok-matcher.ensures ∙ happened_none Arrive x;
}

pub posts-preserved : goal.posts-preserved
posts-preserved c = record {
  plans = ap (λ (m : PostsAndArrivals). m.plans) c.post.ensures.actions ∙ c.posts.invariant.plans;
  fresh = λ i b.
      ap (λ (m : PostsAndArrivals). happened Post (record { rank = 1; op = i }) m.actions) c.post.ensures.actions
      ∙ later_fresh Post Post 1 c.posts.op i c.posts.matcher.actions (omega arith) (c.posts.invariant.fresh i (omega arith));
  none = λ x.
      ap (λ (m : PostsAndArrivals). happened Arrive x m.actions) c.post.ensures.actions
      ∙ not_happened_after_other_action Arrive x (record { class = Post; op = record { rank = 1; op = c.posts.op } }) c.posts.matcher.actions
      (c.posts.invariant.none x) refl;
}

pub arrivals-preserved : goal.arrivals-preserved
arrivals-preserved c = record {
  plans = ap (λ (m : PostsAndArrivals). m.plans) c.arrive.ensures.actions ∙ c.arrivals.invariant.plans;
  fresh = λ i b.
      ap (λ (m : PostsAndArrivals). happened Arrive (record { rank = 0; op = i }) m.actions) c.arrive.ensures.actions
      ∙ later_fresh Arrive Arrive 0 c.arrivals.op i c.arrivals.matcher.actions (omega arith) (c.arrivals.invariant.fresh i (omega arith));
}
