-- Times never fall: for every history, each time after another action is at least what it was.
use Rattle.std.proofs.Common.{ℕ, ◌+◌, ◌≤◌, ◌≡◌, Bool, true, false, List, [], ◌∷◌, Option, Some, None, if◌then◌else◌, inl, inr, refl, sym, ◌∙◌, subst, arith, le_refl}
use Rattle.std.proofs.Math.Nat.{le-max_left}
use Rattle.std.proofs.lemmas.Bool.{cases_Bool, both_ways, cond-true, cond-false}
use Rattle.goal_graph.specs.declared.action.OpId.{OpId}
use Rattle.goal_graph.specs.declared.action.Timed.{Timed}
use Rattle.goal_graph.specs.declared.action.Class.{Class}
use Rattle.goal_graph.specs.declared.action.Class.TheVariants.{Arrive, Serve, Data, Post, Begin}
use Rattle.goal_graph.specs.declared.plan.Kind.{Kind}
use Rattle.goal_graph.specs.declared.plan.Kind.TheVariants.{Calc, Send, Recv}
use Rattle.goal_graph.specs.declared.plan.Need.{Need}
use Rattle.goal_graph.specs.declared.plan.When.{When}
use Rattle.goal_graph.specs.declared.plan.When.TheVariants.{AfterEnd, AfterStart}
use Rattle.goal_graph.specs.Schedule.{Plan, kind_at, needs, needed}
use Rattle.goal_graph.specs.Action.{Act, happened, plain, plain_act}
use Rattle.goal_graph.specs.Matching.{pairs, is_paired}
use Rattle.goal_graph.specs.Allowed.{last_class, has_started, has_ended}
use Rattle.goal_graph.proofs.ForCallers.{happened_stays, partner_stays, paired_stays, started_stays, ended_stays}
use Rattle.sim_params.specs.Costs.{CostModel, over, flight, is_eager}
use Rattle.sim_params.specs.Times.{since, greatest, at_partner, mate, cpu_hold, cpu, tx, rx, start, end, met_at, ready, paired_at, there_at, time_of, time}
use Rattle.sim_params.specs.Laws.{NoneFalls}

-- a test that once passed still passes
abbrev pub Stays : (List Act → Bool) → Type 0
Stays test = (a : Act) (l : List Act) → test l ≡ true → test (a ∷ l) ≡ true

-- the time of a test that passed is fixed
pub since_kept : (test : List Act → Bool) (a : Timed) (h : List Timed) → test (plain h) ≡ true → since test (a ∷ h) ≡ since test h
unfolding since
since_kept test a h e = cond-true _ _ _ e

-- a test that passes from an action on has the time of that action
pub since_new : (test : List Act → Bool) (a : Timed) (h : List Timed) → test (plain h) ≡ false → test (plain (a ∷ h)) ≡ true → since test (a ∷ h) ≡ a.time
unfolding since
since_new test a h e f = cond-false _ _ _ e ∙ cond-true _ _ _ f

-- a test that has not passed has no time
pub since_absent : (test : List Act → Bool) (a : Timed) (h : List Timed) → test (plain h) ≡ false → test (plain (a ∷ h)) ≡ false → since test (a ∷ h) ≡ 0
unfolding since
since_absent test a h e f = cond-false _ _ _ e ∙ cond-false _ _ _ f

passed_test_stays_passed : (test : List Act → Bool) (a : Timed) (h : List Timed) → Stays test → test (plain h) ≡ true → test (plain (a ∷ h)) ≡ true
unfolding plain
passed_test_stays_passed test a h stays e = stays (plain_act a) (plain h) e

pub since_of_unpassed : (test : List Act → Bool) (h : List Timed) → Stays test → test (plain h) ≡ false → since test h ≡ 0
unfolding since
since_of_unpassed test [] stays e = refl
since_of_unpassed test (a ∷ h) stays e =
    elim (cases_Bool (test (plain h))) [ inl t ↦ absurd (both_ways _ e (passed_test_stays_passed test a h stays t)) | inr f ↦ since_absent test a h f e ]

pub since_grows : (test : List Act → Bool) (a : Timed) (h : List Timed) → Stays test → since test h ≤ since test (a ∷ h)
since_grows test a h stays =
    elim (cases_Bool (test (plain h))) [ inl t ↦ omega (arith, since_kept test a h t) | inr f ↦ omega (arith, since_of_unpassed test h stays f) ]

-- the greatest of greater numbers is greater
pub greatest_grows : {A : Type 0} (f g : A → ℕ) (xs : List A) → ((x : A) → f x ≤ g x) → greatest f xs ≤ greatest g xs
unfolding greatest
greatest_grows f g [] le = omega arith
greatest_grows f g (x ∷ xs) le = omega (arith, le x, greatest_grows f g xs le)

-- a number at a partner that stays
pub at_partner_grows : (f : OpId → ℕ) (o p : Option OpId) → ((m : OpId) → o ≡ Some m → p ≡ Some m) → at_partner f o ≤ at_partner f p
at_partner_grows f None p stays = omega arith
at_partner_grows f (Some m) p stays = subst (λ o. f m ≤ at_partner f o) (sym (stays m refl)) (le_refl (f m))

module _ (plans : List Plan) where
  pub started_is_kept : (x : OpId) → Stays (has_started plans x)
  started_is_kept x a l e = started_stays plans a l x e

  pub paired_is_kept : (x : OpId) → Stays (λ l. is_paired (pairs plans l) x)
  paired_is_kept x a l e = paired_stays plans a l x e

  pub happened_is_kept : (class : Class) (x : OpId) → Stays (happened class x)
  happened_is_kept class x a l e = happened_stays class x a l e

  pub mate_stays : (costs : CostModel) (a : Timed) (h : List Timed) (x m : OpId) → mate plans costs h x ≡ Some m → mate plans costs (a ∷ h) x ≡ Some m
  unfolding plain
  mate_stays costs a h x m e = partner_stays plans (plain_act a) (plain h) x m e

  module _ (costs : CostModel) where
    pub ended_is_kept : (x : OpId) → Stays (has_ended plans (is_eager plans costs) x)
    ended_is_kept x a l e = ended_stays plans (is_eager plans costs) a l x e

    pub cpu_grows : (a : Timed) (h : List Timed) (x : OpId) → cpu plans costs h x ≤ cpu plans costs (a ∷ h) x
    unfolding cpu
    cpu_grows a h x = le-max_left _ _

    pub tx_grows : (a : Timed) (h : List Timed) (x : OpId) → tx plans costs h x ≤ tx plans costs (a ∷ h) x
    unfolding tx
    tx_grows a h x = le-max_left _ _

    pub rx_grows : (a : Timed) (h : List Timed) (x : OpId) → rx plans costs h x ≤ rx plans costs (a ∷ h) x
    unfolding rx
    rx_grows a h x = le-max_left _ _

    pub start_grows : (a : Timed) (h : List Timed) (x : OpId) → start plans costs h x ≤ start plans costs (a ∷ h) x
    start_grows a h x = since_grows (has_started plans x) a h (started_is_kept x)

    pub paired_at_grows : (a : Timed) (h : List Timed) (x : OpId) → paired_at plans costs h x ≤ paired_at plans costs (a ∷ h) x
    paired_at_grows a h x = since_grows (λ l. is_paired (pairs plans l) x) a h (paired_is_kept x)

    pub cpu_hold_grows : (a : Timed) (h : List Timed) (c : Class) (x : OpId) (k : Option Kind) → cpu_hold plans costs h c x k ≤ cpu_hold plans costs (a ∷ h) c x k
    cpu_hold_grows a h Begin x (Some (Calc nanos)) = le_refl _
    cpu_hold_grows a h Begin x (Some (Send bytes to tag)) = le_refl _
    cpu_hold_grows a h Data x (Some (Send bytes to tag)) = le_refl _
    cpu_hold_grows a h Serve x (Some (Recv room from tag)) = at_partner_grows (over plans costs) (mate plans costs h x) (mate plans costs (a ∷ h) x) (λ m e. mate_stays costs a h x m e)
    cpu_hold_grows a h _ x _ = le_refl _

    pub end_grows : (a : Timed) (h : List Timed) (x : OpId) → end plans costs h x ≤ end plans costs (a ∷ h) x
    end_grows a h x =
        omega (arith, since_grows (has_ended plans (is_eager plans costs) x) a h (ended_is_kept x), cpu_hold_grows a h (last_class (is_eager plans costs x) (kind_at plans x)) x (kind_at plans x))

    pub met_at_grows : (a : Timed) (h : List Timed) (w : When) (y : OpId) → met_at plans costs h w y ≤ met_at plans costs (a ∷ h) w y
    met_at_grows a h AfterEnd y = end_grows a h y
    met_at_grows a h AfterStart y = start_grows a h y

    pub ready_grows : (a : Timed) (h : List Timed) (x : OpId) → ready plans costs h x ≤ ready plans costs (a ∷ h) x
    unfolding ready
    ready_grows a h x =
        greatest_grows (λ (d : Need). met_at plans costs h d.when (needed x d)) (λ (d : Need). met_at plans costs (a ∷ h) d.when (needed x d)) (needs plans x) (λ d. met_at_grows a h d.when (needed x d))

    pub there_at_grows : (a : Timed) (h : List Timed) (x : OpId) → there_at plans costs h x (mate plans costs h x) ≤ there_at plans costs (a ∷ h) x (mate plans costs (a ∷ h) x)
    there_at_grows a h x = go (mate plans costs h x) (λ m e. mate_stays costs a h x m e)
      where
        part : (m : OpId) → there_at plans costs h x (Some m) ≤ there_at plans costs (a ∷ h) x (Some m)
        part m =
            elim (is_eager plans costs m) as (λ e. (if e then paired_at plans costs h x else since (happened Data m) h + flight plans costs m) ≤ (if e then paired_at plans costs (a ∷ h) x else since (happened Data m) (a ∷ h) + flight plans costs m)) [ true ↦ paired_at_grows a h x | false ↦ omega (arith, since_grows (happened Data m) a h (happened_is_kept Data m)) ]

        go : (o : Option OpId) → ((m : OpId) → o ≡ Some m → mate plans costs (a ∷ h) x ≡ Some m) → there_at plans costs h x o ≤ there_at plans costs (a ∷ h) x (mate plans costs (a ∷ h) x)
        go None stays = omega arith
        go (Some m) stays = subst (λ o. there_at plans costs h x (Some m) ≤ there_at plans costs (a ∷ h) x o) (sym (stays m refl)) (part m)

    time_of_grows : (a : Timed) (h : List Timed) (c : Class) (x : OpId) (k : Option Kind) → time_of plans costs h c x k ≤ time_of plans costs (a ∷ h) c x k
    time_of_grows a h Begin x (Some (Calc nanos)) = omega (arith, ready_grows a h x, cpu_grows a h x)
    time_of_grows a h Begin x (Some (Send bytes to tag)) = omega (arith, ready_grows a h x, cpu_grows a h x, tx_grows a h x)
    time_of_grows a h Post x (Some (Recv room from tag)) = ready_grows a h x
    time_of_grows a h Arrive x (Some (Send bytes to tag)) = omega (arith, start_grows a h x)
    time_of_grows a h Data x (Some (Send bytes to tag)) = omega (arith, paired_at_grows a h x, cpu_grows a h x, tx_grows a h x)
    time_of_grows a h Serve x (Some (Recv room from tag)) = omega (arith, there_at_grows a h x, cpu_grows a h x, rx_grows a h x)
    time_of_grows a h _ x _ = le_refl _

    -- the time of an action never falls
    pub time_grows : (a : Timed) (h : List Timed) (c : Class) (x : OpId) → time plans costs h c x ≤ time plans costs (a ∷ h) c x
    unfolding time
    time_grows a h c x = time_of_grows a h c x (kind_at plans x)

    pub no_time_falls : (h : List Timed) (a : Timed) → NoneFalls plans costs h a
    no_time_falls h a = record {
      times = λ c x. time_grows a h c x;
      starts = λ x. start_grows a h x;
      ends = λ x. end_grows a h x;
      ready_times = λ x. ready_grows a h x;
      pair_times = λ x. paired_at_grows a h x;
      free_cpus = λ x. cpu_grows a h x;
      free_senders = λ x. tx_grows a h x;
      free_receivers = λ x. rx_grows a h x;
    }
