-- What the matcher knows after one more action.
use Rattle.std.proofs.Common.{◌≡◌, true, false, List, ◌∷◌, sym, ap, ◌∙◌, subst}
use Rattle.goal_graph.specs.declared.action.Timed.{Timed}
use Rattle.goal_graph.specs.declared.action.Class.{Class}
use Rattle.goal_graph.specs.declared.action.Class.TheVariants.{Arrive, Post}
use Rattle.goal_graph.specs.Schedule.{Plan}
use Rattle.goal_graph.specs.Action.{Act, happened, plain, plain_act}
use Rattle.goal_graph.proofs.ForCallers.{allowed_fresh}
use Rattle.sim_params.specs.Costs.{CostModel, is_eager}
use Rattle.sim_params.specs.Times.{Possible}
use Rattle.sim_match.specs.PostsAndArrivals.{PostsAndArrivals, is_post_or_arrival_class, with_post, with_arrival}
use Rattle.sim_match.proofs.ForCallers.{filtered_with_newest, filtered_without_newest, happened_filtered}
use Rattle.sim_state.specs.Represents.{KnowsPostsAndArrivals}

module _ (plans : List Plan) (costs : CostModel) (h : List Timed) (a : Timed) (m : PostsAndArrivals) (before : KnowsPostsAndArrivals plans costs h m) where
  -- an action that is neither a post nor an arrival
  pub posts_and_arrivals_kept_by_other_action : is_post_or_arrival_class a.class ≡ false → KnowsPostsAndArrivals plans costs (a ∷ h) m
  unfolding plain
  posts_and_arrivals_kept_by_other_action e = record {
    same_plans = before.same_plans;
    events = before.events ∙ sym (filtered_without_newest (plain_act a) (plain h) e);
  }

  posts_and_arrivals_with_newest : (n : PostsAndArrivals) → n.plans ≡ m.plans → n.actions ≡ plain_act a ∷ m.actions → is_post_or_arrival_class a.class ≡ true → KnowsPostsAndArrivals plans costs (a ∷ h) n
  unfolding plain
  posts_and_arrivals_with_newest n e f t = record {
    same_plans = e ∙ before.same_plans;
    events = f ∙ ap (λ (l : List Act). plain_act a ∷ l) before.events ∙ sym (filtered_with_newest (plain_act a) (plain h) t);
  }

  -- a post, and an arrival
  pub post_known : (n : PostsAndArrivals) → a.class ≡ Post → n ≡ with_post m a.op → KnowsPostsAndArrivals plans costs (a ∷ h) n
  post_known n c e =
      posts_and_arrivals_with_newest n (ap (λ (n : PostsAndArrivals). n.plans) e) (ap (λ (n : PostsAndArrivals). n.actions) e ∙ ap (λ (d : Class). record { class = d; op = a.op } ∷ m.actions) (sym c)) (ap is_post_or_arrival_class c)

  pub arrival_known : (n : PostsAndArrivals) → a.class ≡ Arrive → n ≡ with_arrival m a.op → KnowsPostsAndArrivals plans costs (a ∷ h) n
  arrival_known n c e =
      posts_and_arrivals_with_newest n (ap (λ (n : PostsAndArrivals). n.plans) e) (ap (λ (n : PostsAndArrivals). n.actions) e ∙ ap (λ (d : Class). record { class = d; op = a.op } ∷ m.actions) (sym c)) (ap is_post_or_arrival_class c)

  -- what is possible did not happen before
  pub possible_not_happened_in_matcher : (c : Class) → Possible plans costs h a → a.class ≡ c → is_post_or_arrival_class c ≡ true → happened c a.op m.actions ≡ false
  possible_not_happened_in_matcher c p e t =
      ap (happened c a.op) before.events ∙ happened_filtered c a.op (plain h) t ∙ subst (λ (d : Class). happened d a.op (plain h) ≡ false) e (allowed_fresh plans (is_eager plans costs) (plain h) a.class a.op p.allowed)
