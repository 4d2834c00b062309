-- What operations wait for stays the same once it is known.
-- its station is free.
use Rattle.std.proofs.Common.{◌≡◌, ◌≤◌, ◌+◌, ◌||◌, ℕ, max, Bool, true, false, not, List, [], ◌∷◌, Option, Some, None, if◌then◌else◌, refl, ap, ap₂, ◌∙◌, arith}
use Rattle.std.specs.List.{list_all}
use Rattle.std.proofs.lemmas.Bool.{and_parts, both_ways}
use Rattle.goal_graph.specs.declared.action.OpId.{OpId}
use Rattle.goal_graph.specs.declared.action.Timed.{Timed}
use Rattle.goal_graph.specs.declared.action.Class.{Class}
use Rattle.goal_graph.specs.declared.action.Class.TheVariants.{Arrive, Serve, Data, Post, Begin}
use Rattle.goal_graph.specs.declared.plan.Kind.{Kind}
use Rattle.goal_graph.specs.declared.plan.Kind.TheVariants.{Calc, Send, Recv}
use Rattle.goal_graph.specs.declared.plan.Need.{Need}
use Rattle.goal_graph.specs.declared.plan.When.{When}
use Rattle.goal_graph.specs.declared.plan.When.TheVariants.{AfterEnd, AfterStart}
use Rattle.goal_graph.specs.Schedule.{Plan, kind_at, needs, needed, IsSend}
use Rattle.goal_graph.specs.Action.{happened, plain}
use Rattle.goal_graph.specs.Matching.{pairs, is_paired}
use Rattle.goal_graph.specs.Allowed.{is_met, is_ready, is_served, may, allowed}
use Rattle.goal_graph.proofs.ForCallers.{and_left, and_right, started_send, is_some_from}
use Rattle.sim_params.specs.Costs.{CostModel, flight, is_eager}
use Rattle.sim_params.specs.Times.{since, mate, greatest, met_at, ready, cpu, tx, rx, paired_at, there_at, time_of, time}
use Rattle.sim_params.specs.Run.{IsRun}
use Rattle.sim_params.proofs.ForCallers.{run_is_each_possible, start_kept, end_kept, paired_at_kept, mate_stays, since_kept}
use Rattle.sim_stations.specs.Stations.{holds_cpu}
use Rattle.sim_state.specs.Free.{free, free_of}
use Rattle.sim_state.specs.Awaited.{is_there}
use Rattle.sim_state.proofs.ForCallers.{there_at as moment_at}

module _ (plans : List Plan) (costs : CostModel) (h : List Timed) where
  -- what waits is not possible before all is free
  not_possible_before_free : (class : Class) (x : OpId) (k : Option Kind) → holds_cpu class ≡ true → may plans (is_eager plans costs) (plain h) class x k ≡ true → free_of plans costs h x k ≤ time_of plans costs h class x k
  not_possible_before_free class x None w m = omega arith
  not_possible_before_free Arrive x (Some k) w m = absurd (cc)
  not_possible_before_free Post x (Some k) w m = absurd (cc)
  not_possible_before_free Begin x (Some (Calc nanos)) w m = omega arith
  not_possible_before_free Begin x (Some (Send bytes to tag)) w m = omega arith
  not_possible_before_free Begin x (Some (Recv room from tag)) w m = absurd (cc)
  not_possible_before_free Data x (Some (Calc nanos)) w m = absurd (cc)
  not_possible_before_free Data x (Some (Send bytes to tag)) w m = omega arith
  not_possible_before_free Data x (Some (Recv room from tag)) w m = absurd (cc)
  not_possible_before_free Serve x (Some (Calc nanos)) w m = absurd (cc)
  not_possible_before_free Serve x (Some (Send bytes to tag)) w m = absurd (cc)
  not_possible_before_free Serve x (Some (Recv room from tag)) w m = omega arith

  pub free_before_possible : (class : Class) (x : OpId) → holds_cpu class ≡ true → allowed plans (is_eager plans costs) (plain h) class x ≡ true → free plans costs h x ≤ time plans costs h class x
  unfolding time allowed
  free_before_possible class x w a =
      let both = and_parts (not (happened class x (plain h))) (may plans (is_eager plans costs) (plain h) class x (kind_at plans x)) a in
      not_possible_before_free class x (kind_at plans x) w both.1

module _ (plans : List Plan) (costs : CostModel) (a : Timed) (h : List Timed) where
  -- a station is not free sooner
  free_of_grows : (x : OpId) (k : Option Kind) → free_of plans costs h x k ≤ free_of plans costs (a ∷ h) x k
  unfolding cpu tx rx
  free_of_grows x None = omega arith
  free_of_grows x (Some (Calc nanos)) = omega arith
  free_of_grows x (Some (Send bytes to tag)) = omega arith
  free_of_grows x (Some (Recv room from tag)) = omega arith

  module _ (run : IsRun plans costs h) where
    -- a moment that is there stays the same
    moment_kept : (w : When) (y : OpId) → is_met plans (is_eager plans costs) (plain h) w y ≡ true → met_at plans costs (a ∷ h) w y ≡ met_at plans costs h w y
    moment_kept AfterEnd y e = end_kept plans costs a h y (run_is_each_possible plans costs h run) e
    moment_kept AfterStart y e = start_kept plans costs a h y e

    greatest_kept : (x : OpId) (ds : List Need) → list_all (is_there plans costs h x) ds ≡ true → greatest (moment_at plans costs (a ∷ h) x) ds ≡ greatest (moment_at plans costs h x) ds
    unfolding greatest
    greatest_kept x [] e = refl
    greatest_kept x (d ∷ ds) e =
        ap₂ max (moment_kept d.when (needed x d) (and_left _ _ e)) (greatest_kept x ds (and_right _ _ e))

    ready_kept : (x : OpId) → is_ready plans (is_eager plans costs) (plain h) x ≡ true → ready plans costs (a ∷ h) x ≡ ready plans costs h x
    unfolding is_ready ready
    ready_kept x e = greatest_kept x (needs plans x) e

    -- a message that is there is there since the same time
    message_kept : (x : OpId) → is_served plans (is_eager plans costs) (plain h) (mate plans costs h x) ≡ true → there_at plans costs (a ∷ h) x (mate plans costs (a ∷ h) x) ≡ there_at plans costs h x (mate plans costs h x)
    message_kept x e = go (mate plans costs h x) refl e
      where
        part : (m : OpId) (b : Bool) → is_paired (pairs plans (plain h)) x ≡ true → (b || happened Data m (plain h)) ≡ true → (if b then paired_at plans costs (a ∷ h) x else since (happened Data m) (a ∷ h) + flight plans costs m) ≡ (if b then paired_at plans costs h x else since (happened Data m) h + flight plans costs m)
        part m true paired e = paired_at_kept plans costs a h x paired
        part m false paired e = ap (λ (n : ℕ). n + flight plans costs m) (since_kept (happened Data m) a h e)

        go : (o : Option OpId) → mate plans costs h x ≡ o → is_served plans (is_eager plans costs) (plain h) o ≡ true → there_at plans costs (a ∷ h) x (mate plans costs (a ∷ h) x) ≡ there_at plans costs h x o
        go None is e = absurd (both_ways false refl e)
        go (Some m) is e =
            ap (there_at plans costs (a ∷ h) x) (mate_stays plans costs a h x m is) ∙ part m (is_eager plans costs m) (is_some_from _ m is) e

    -- the time of an action that may happen, after one more
    time_of_kind_after_action : (class : Class) (x : OpId) (k : Option Kind) → kind_at plans x ≡ k → may plans (is_eager plans costs) (plain h) class x k ≡ true
        → time_of plans costs (a ∷ h) class x k ≡ (if holds_cpu class then max (time_of plans costs h class x k) (free_of plans costs (a ∷ h) x k) else time_of plans costs h class x k)
    time_of_kind_after_action Begin x (Some (Calc nanos)) is m = omega (arith, ready_kept x m, free_of_grows x (Some (Calc nanos)))
    time_of_kind_after_action Begin x (Some (Send bytes to tag)) is m = omega (arith, ready_kept x m, free_of_grows x (Some (Send bytes to tag)))
    time_of_kind_after_action Post x (Some (Recv room from tag)) is m = ready_kept x m
    time_of_kind_after_action Arrive x (Some (Send bytes to tag)) is m =
        let send : IsSend plans x = record { bytes = bytes; to = to; tag = tag; kind = is } in
        omega (arith, start_kept plans costs a h x (started_send plans (plain h) x send ∙ m))
    time_of_kind_after_action Data x (Some (Send bytes to tag)) is m =
        omega (arith, paired_at_kept plans costs a h x (and_parts _ _ m).1, free_of_grows x (Some (Send bytes to tag)))
    time_of_kind_after_action Serve x (Some (Recv room from tag)) is m = omega (arith, message_kept x m, free_of_grows x (Some (Recv room from tag)))
    time_of_kind_after_action _ x _ is m = absurd (both_ways false refl m)

    pub time_after : (class : Class) (x : OpId) → allowed plans (is_eager plans costs) (plain h) class x ≡ true → time plans costs (a ∷ h) class x ≡ (if holds_cpu class then max (time plans costs h class x) (free plans costs (a ∷ h) x) else time plans costs h class x)
    unfolding time allowed
    time_after class x p = time_of_kind_after_action class x (kind_at plans x) refl (and_parts (not (happened class x (plain h))) _ p).1
