-- An operation is ready before it starts, and starts before its last action: its wait is the difference.
use Rattle.std.proofs.Common.{ℕ, ◌+◌, ◌≤◌, ◌≡◌, ◌⊎◌, Bool, true, false, List, [], ◌∷◌, Option, Some, None, All, Contains, max, inl, inr, if◌then◌else◌, refl, ap₂, subst, arith, le_trans}
use Rattle.std.proofs.lemmas.Bool.{cases_Bool, both_ways}
use Rattle.std.proofs.lemmas.List.Elements.{All-nil, All-cons, All-head, All-tail}
use Rattle.goal_graph.specs.declared.action.OpId.{OpId}
use Rattle.goal_graph.specs.declared.action.Timed.{Timed}
use Rattle.goal_graph.specs.declared.action.Class.{Class}
use Rattle.goal_graph.specs.declared.plan.Kind.{Kind}
use Rattle.goal_graph.specs.declared.plan.Kind.TheVariants.{Calc, Send, Recv}
use Rattle.goal_graph.specs.declared.plan.Need.{Need}
use Rattle.goal_graph.specs.declared.plan.When.{When}
use Rattle.goal_graph.specs.declared.plan.When.TheVariants.{AfterEnd, AfterStart}
use Rattle.goal_graph.specs.Schedule.{Plan, kind_at, needs, needed}
use Rattle.goal_graph.specs.Action.{Act, plain, plain_act, happened, is_act}
use Rattle.goal_graph.specs.Allowed.{first_class, has_started, has_ended, is_met, is_ready, may}
use Rattle.goal_graph.proofs.ForCallers.{contains_first, contains_more, ready_need, started_ready, ended_started, happened_none, happened_cases, is_act_class, is_act_op, allowed_may}
use Rattle.sim_params.specs.Costs.{CostModel, is_eager}
use Rattle.sim_params.specs.Times.{since, greatest, met_at, start, ready, time_of, time, Possible}
use Rattle.sim_params.specs.Run.{IsRun}
use Rattle.sim_params.specs.Laws.{NewestIsLast}
use Rattle.sim_params.proofs.ForCallers.{since_kept, since_new, start_kept, end_kept, run_is_each_possible, run_interleaving}
use Rattle.sim_waits.specs.Waits.{ended, last_time, wait}

-- functions that agree on a list have the same greatest number
greatest_of_equal_functions : {A : Type 0} (f g : A → ℕ) (xs : List A) → ((x : A) → Contains xs x → f x ≡ g x) → greatest f xs ≡ greatest g xs
unfolding greatest
greatest_of_equal_functions f g [] same = refl
greatest_of_equal_functions f g (x ∷ xs) same =
    ap₂ max (same x (contains_first x xs x refl)) (greatest_of_equal_functions f g xs (λ y c. same y (contains_more x xs y c)))

-- a test that holds has held since one of the actions of the history
since_within : (test : List Act → Bool) (n : ℕ) (h : List Timed) → All (λ (b : Timed). b.time ≤ n) h → since test h ≤ n
unfolding since
since_within test n [] each = omega arith
since_within test n (a ∷ h) each = go (test (plain h)) (test (plain (a ∷ h))) (since_within test n h (All-tail (λ (b : Timed). b.time ≤ n) a h each))
  where
    first : a.time ≤ n
    first = All-head (λ (b : Timed). b.time ≤ n) a h each

    go : (s t : Bool) → since test h ≤ n → (if s then since test h else (if t then a.time else 0)) ≤ n
    go true t rest = rest
    go false true rest = first
    go false false rest = omega arith

module _ (plans : List Plan) (costs : CostModel) where
  met_time_stays : (a : Timed) (h : List Timed) (w : When) (y : OpId) → IsRun plans costs h → is_met plans (is_eager plans costs) (plain h) w y ≡ true → met_at plans costs (a ∷ h) w y ≡ met_at plans costs h w y
  met_time_stays a h AfterEnd y run e = end_kept plans costs a h y (run_is_each_possible plans costs h run) e
  met_time_stays a h AfterStart y run e = start_kept plans costs a h y e

  -- the ready time of an operation that is ready stays
  ready_kept : (a : Timed) (h : List Timed) (x : OpId) → IsRun plans costs h → is_ready plans (is_eager plans costs) (plain h) x ≡ true → ready plans costs (a ∷ h) x ≡ ready plans costs h x
  unfolding ready
  ready_kept a h x run e =
      greatest_of_equal_functions (λ (d : Need). met_at plans costs (a ∷ h) d.when (needed x d)) (λ (d : Need). met_at plans costs h d.when (needed x d)) (needs plans x) (λ d c. met_time_stays a h d.when (needed x d) run (ready_need plans (is_eager plans costs) (plain h) x d e c))

  -- the first action of an operation comes when it is ready, or later
  first_action_is_ready : (h : List Timed) (x : OpId) (k : Option Kind) → may plans (is_eager plans costs) (plain h) (first_class k) x k ≡ true → (is_ready plans (is_eager plans costs) (plain h) x ≡ true) × (ready plans costs h x ≤ time_of plans costs h (first_class k) x k)
  first_action_is_ready h x None e = absurd (cc)
  first_action_is_ready h x (Some (Calc nanos)) e = (e, omega arith)
  first_action_is_ready h x (Some (Send bytes to tag)) e = (e, omega arith)
  first_action_is_ready h x (Some (Recv room from tag)) e = (e, omega arith)

  -- what is possible as the first action of an operation
  first_action_at_ready_or_later : (a : Timed) (h : List Timed) (x : OpId) → Possible plans costs h a → a.class ≡ first_class (kind_at plans x) → a.op ≡ x → (is_ready plans (is_eager plans costs) (plain h) x ≡ true) × (ready plans costs h x ≤ a.time)
  unfolding time
  first_action_at_ready_or_later a h x p c o =
      let found = first_action_is_ready h x (kind_at plans x) (at_x (first_class (kind_at plans x)) c) in
      (found.0, le_trans found.1 (omega (arith, at_its_time (first_class (kind_at plans x)) c, p.time)))
    where
      at_x : (d : Class) → a.class ≡ d → may plans (is_eager plans costs) (plain h) d x (kind_at plans x) ≡ true
      at_x d e =
          subst (λ (c : Class). may plans (is_eager plans costs) (plain h) c x (kind_at plans x) ≡ true) e (subst (λ (y : OpId). may plans (is_eager plans costs) (plain h) a.class y (kind_at plans y) ≡ true) o (allowed_may plans (is_eager plans costs) (plain h) a.class a.op p.allowed))

      at_its_time : (d : Class) → a.class ≡ d → time plans costs h a.class a.op ≡ time_of plans costs h d x (kind_at plans x)
      at_its_time d e =
          ap₂ (λ (c : Class) (y : OpId). time_of plans costs h c y (kind_at plans y)) e o

  module _ (last : NewestIsLast) where
    -- an operation that has started was ready by then
    ready_before_start : (h : List Timed) (x : OpId) → IsRun plans costs h → has_started plans x (plain h) ≡ true → ready plans costs h x ≤ start plans costs h x
    unfolding plain
    ready_before_start [] x run s = absurd (both_ways _ (happened_none (first_class (kind_at plans x)) x) s)
    ready_before_start (a ∷ h) x (run, next) s =
        elim (cases_Bool (has_started plans x (plain h))) [ inl t ↦ before t (ready_before_start h x run t) | inr f ↦ now f (happened_cases (first_class (kind_at plans x)) x (plain_act a) (plain h) s) ]
      where
        before : has_started plans x (plain h) ≡ true → ready plans costs h x ≤ start plans costs h x → ready plans costs (a ∷ h) x ≤ start plans costs (a ∷ h) x
        before t rest =
            let was = started_ready plans (is_eager plans costs) (plain h) x (run_interleaving plans costs h run) t in
            omega (arith, rest, ready_kept a h x run was, start_kept plans costs a h x t)

        now : has_started plans x (plain h) ≡ false → (happened (first_class (kind_at plans x)) x (plain h) ≡ true) ⊎ (is_act (first_class (kind_at plans x)) x (plain_act a) ≡ true) → ready plans costs (a ∷ h) x ≤ start plans costs (a ∷ h) x
        now f (inl t) = absurd (both_ways _ f t)
        now f (inr is) =
            let found = first_action_at_ready_or_later a h x next.possible (is_act_class _ x (plain_act a) is) (is_act_op _ x (plain_act a) is) in
            omega (arith, found.1, ready_kept a h x run found.0, since_new (has_started plans x) a h f s)

    -- an operation does not start after its last action
    start_before_last_action : (h : List Timed) (x : OpId) → IsRun plans costs h → ended plans costs h x ≡ true → start plans costs h x ≤ last_time plans costs h x
    unfolding plain
    start_before_last_action [] x run e =
        omega (arith, since_within (has_started plans x) 0 [] (All-nil (λ (b : Timed). b.time ≤ 0)))
    start_before_last_action (a ∷ h) x (run, next) e =
        elim (cases_Bool (ended plans costs h x)) [ inl t ↦ before t (start_before_last_action h x run t) | inr f ↦ now f ]
      where
        before : ended plans costs h x ≡ true → start plans costs h x ≤ last_time plans costs h x → start plans costs (a ∷ h) x ≤ last_time plans costs (a ∷ h) x
        before t rest =
            omega (arith, rest, start_kept plans costs a h x (ended_started plans (is_eager plans costs) (plain h) x (run_interleaving plans costs h run) t), since_kept (has_ended plans (is_eager plans costs) x) a h t)

        now : ended plans costs h x ≡ false → start plans costs (a ∷ h) x ≤ last_time plans costs (a ∷ h) x
        now f =
            omega (arith, since_within (has_started plans x) a.time (a ∷ h) (All-cons (λ (b : Timed). b.time ≤ a.time) a h (omega arith) (last plans costs h a (run, next))), since_new (has_ended plans (is_eager plans costs) x) a h f e)

    -- an operation that has ended was ready when its last action happened, or before
    pub ready_before_last_action : (h : List Timed) (x : OpId) → IsRun plans costs h → ended plans costs h x ≡ true → ready plans costs h x ≤ last_time plans costs h x
    ready_before_last_action h x run e =
        le_trans (ready_before_start h x run (ended_started plans (is_eager plans costs) (plain h) x (run_interleaving plans costs h run) e)) (start_before_last_action h x run e)

    -- so its wait is the difference
    pub wait_is_difference : (h : List Timed) (x : OpId) → IsRun plans costs h → ended plans costs h x ≡ true → ready plans costs h x + wait plans costs h x ≡ last_time plans costs h x
    unfolding wait
    wait_is_difference h x run e = omega (arith, ready_before_last_action h x run e)
