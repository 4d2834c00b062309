-- No start, end or free time is later than the reach of a history, and a possible action waits at most its lag.
use Rattle.std.proofs.Common.{ℕ, ◌+◌, ◌≤◌, ◌≡◌, ◌⊎◌, ◌&&◌, Bool, true, false, List, [], ◌∷◌, Option, Some, None, if◌then◌else◌, inl, inr, sym, subst, arith, le_trans, zero-le, All}
use Rattle.std.specs.List.{list_all}
use Rattle.std.proofs.lemmas.Bool.{cases_Bool, both_ways, and_parts}
use Rattle.std.proofs.lemmas.List.Elements.{All-nil, All-cons, All-weaker}
use Rattle.goal_graph.specs.declared.action.OpId.{OpId}
use Rattle.goal_graph.specs.declared.action.Timed.{Timed}
use Rattle.goal_graph.specs.declared.action.Class.{Class}
use Rattle.goal_graph.specs.declared.action.Class.TheVariants.{Arrive, Serve, Data, Post, Begin}
use Rattle.goal_graph.specs.declared.plan.Kind.{Kind}
use Rattle.goal_graph.specs.declared.plan.Kind.TheVariants.{Calc, Send, Recv}
use Rattle.goal_graph.specs.declared.plan.Op.{Op}
use Rattle.goal_graph.specs.declared.plan.Need.{Need}
use Rattle.goal_graph.specs.declared.plan.When.{When}
use Rattle.goal_graph.specs.declared.plan.When.TheVariants.{AfterEnd, AfterStart}
use Rattle.goal_graph.specs.Schedule.{Plan, op_at, kind_at, needs, needed}
use Rattle.goal_graph.specs.Action.{Act, is_act, happened, plain, plain_act, holds_cpu}
use Rattle.goal_graph.specs.Matching.{pairs, is_paired}
use Rattle.goal_graph.specs.Allowed.{last_class, has_started, has_ended, is_met, is_ready, may}
use Rattle.goal_graph.proofs.ForCallers.{happened_none, happened_cases, is_act_class, is_act_op, allowed_may}
use Rattle.sim_params.specs.Costs.{CostModel, flight, flight_one, latency, is_eager}
use Rattle.sim_params.specs.Times.{since, greatest, at_partner, mate, holds_tx, holds_rx, same_place, cpu_hold, tx_hold, rx_hold, cpu, tx, rx, end, met_at, ready, paired_at, there_at, time_of, time, Possible}
use Rattle.sim_params.specs.Laws.{hold, reach, IsWithin}
use Rattle.sim_params.proofs.Grow.{since_kept, since_new, since_absent}
use Rattle.sim_params.proofs.Fixed.{end_kept, end_at_newest}
use Rattle.sim_params.proofs.Interleavings.{EachPossible}

-- a number under a test is at most a bound of the number
if_within_bound : (b : Bool) (n m : ℕ) → n ≤ m → (if b then n else 0) ≤ m
if_within_bound true n m le = le
if_within_bound false n m le = zero-le

-- the greatest is at most a bound of each
greatest_le : {A : Type 0} (test : A → Bool) (f : A → ℕ) (n : ℕ) (xs : List A) → ((x : A) → test x ≡ true → f x ≤ n) → list_all test xs ≡ true → greatest f xs ≤ n
unfolding greatest
greatest_le test f n [] le all = zero-le
greatest_le test f n (x ∷ xs) le all =
    let parts = and_parts (test x) (list_all test xs) all in
    omega (arith, le x parts.0, greatest_le test f n xs le parts.1)

module _ (plans : List Plan) (costs : CostModel) where
  pub reach_grows : (a : Timed) (h : List Timed) → reach plans costs h ≤ reach plans costs (a ∷ h)
  unfolding reach
  reach_grows a h = omega arith

  pub newest_within_reach : (a : Timed) (h : List Timed) → a.time + hold plans costs h a ≤ reach plans costs (a ∷ h)
  unfolding reach
  newest_within_reach a h = omega arith

  pub cpu_reach : (h : List Timed) (x : OpId) → cpu plans costs h x ≤ reach plans costs h
  unfolding cpu
  cpu_reach [] x = zero-le
  cpu_reach (a ∷ h) x =
      let le : a.time + cpu_hold plans costs h a.class a.op (kind_at plans a.op) ≤ reach plans costs (a ∷ h) = omega (arith, newest_within_reach a h) in
      omega (arith, cpu_reach h x, reach_grows a h, if_within_bound (holds_cpu a.class && same_place (λ (o : Op). o.cpu) x (op_at plans x) a.op (op_at plans a.op)) _ _ le)

  pub tx_reach : (h : List Timed) (x : OpId) → tx plans costs h x ≤ reach plans costs h
  unfolding tx
  tx_reach [] x = zero-le
  tx_reach (a ∷ h) x =
      let le : a.time + tx_hold plans costs a.class a.op (kind_at plans a.op) ≤ reach plans costs (a ∷ h) = omega (arith, newest_within_reach a h) in
      omega (arith, tx_reach h x, reach_grows a h, if_within_bound (holds_tx a.class (kind_at plans a.op) && same_place (λ (o : Op). o.nic) x (op_at plans x) a.op (op_at plans a.op)) _ _ le)

  pub rx_reach : (h : List Timed) (x : OpId) → rx plans costs h x ≤ reach plans costs h
  unfolding rx
  rx_reach [] x = zero-le
  rx_reach (a ∷ h) x =
      let le : a.time + rx_hold plans costs h a.class a.op (kind_at plans a.op) ≤ reach plans costs (a ∷ h) = omega (arith, newest_within_reach a h) in
      omega (arith, rx_reach h x, reach_grows a h, if_within_bound (holds_rx a.class && same_place (λ (o : Op). o.nic) x (op_at plans x) a.op (op_at plans a.op)) _ _ le)

  pub since_reach : (test : List Act → Bool) (h : List Timed) → since test h ≤ reach plans costs h
  unfolding since
  since_reach test [] = zero-le
  since_reach test (a ∷ h) =
      elim (cases_Bool (test (plain h))) [ inl t ↦ omega (arith, since_kept test a h t, since_reach test h, reach_grows a h) | inr f ↦ elim (cases_Bool (test (plain (a ∷ h)))) [ inl t ↦ omega (arith, since_new test a h f t, newest_within_reach a h) | inr g ↦ omega (arith, since_absent test a h f g) ] ]

  pub end_reach : (h : List Timed) (x : OpId) → EachPossible plans costs h → has_ended plans (is_eager plans costs) x (plain h) ≡ true → end plans costs h x ≤ reach plans costs h
  unfolding plain
  end_reach [] x each e = absurd (both_ways _ (happened_none (last_class (is_eager plans costs x) (kind_at plans x)) x) e)
  end_reach (a ∷ h) x each e =
      elim (cases_Bool (has_ended plans (is_eager plans costs) x (plain h))) [ inl t ↦ omega (arith, end_kept plans costs a h x each.0 t, end_reach h x each.0 t, reach_grows a h) | inr f ↦ new f (happened_cases last x (plain_act a) (plain h) e) ]
    where
      last : Class
      last = last_class (is_eager plans costs x) (kind_at plans x)

      new : has_ended plans (is_eager plans costs) x (plain h) ≡ false → (happened last x (plain h) ≡ true) ⊎ (is_act last x (plain_act a) ≡ true) → end plans costs (a ∷ h) x ≤ reach plans costs (a ∷ h)
      new f (inl t) = absurd (both_ways _ f t)
      new f (inr t) =
          omega (arith, end_at_newest plans costs a h x f (is_act_class last x (plain_act a) t) (is_act_op last x (plain_act a) t), newest_within_reach a h)

  met_reach : (h : List Timed) (w : When) (y : OpId) → EachPossible plans costs h → is_met plans (is_eager plans costs) (plain h) w y ≡ true → met_at plans costs h w y ≤ reach plans costs h
  met_reach h AfterEnd y each e = end_reach h y each e
  met_reach h AfterStart y each e = since_reach (has_started plans y) h

  pub ready_reach : (h : List Timed) (x : OpId) → EachPossible plans costs h → is_ready plans (is_eager plans costs) (plain h) x ≡ true → ready plans costs h x ≤ reach plans costs h
  unfolding ready is_ready
  ready_reach h x each e =
      greatest_le (λ (d : Need). is_met plans (is_eager plans costs) (plain h) d.when (needed x d)) (λ (d : Need). met_at plans costs h d.when (needed x d)) (reach plans costs h) (needs plans x) (λ d t. met_reach h d.when (needed x d) each t) e

  -- how long after all before it an action may happen
  abbrev pub lag : List Timed → Class → OpId → Option Kind → ℕ
  lag h Arrive x (Some (Send bytes to tag)) =
      if is_eager plans costs x then flight plans costs x else flight_one plans costs x
  lag h Data x (Some (Send bytes to tag)) = latency plans costs x
  lag h Serve x (Some (Recv room from tag)) =
      at_partner (λ m. if is_eager plans costs m then 0 else flight plans costs m) (mate plans costs h x)
  lag h _ x _ = 0

  there_reach : (h : List Timed) (x : OpId) (o : Option OpId) → there_at plans costs h x o ≤ reach plans costs h + at_partner (λ m. if is_eager plans costs m then 0 else flight plans costs m) o
  there_reach h x None = zero-le
  there_reach h x (Some m) =
      elim (is_eager plans costs m) as (λ b. (if b then paired_at plans costs h x else since (happened Data m) h + flight plans costs m) ≤ reach plans costs h + (if b then 0 else flight plans costs m)) [ true ↦ omega (arith, since_reach (λ l. is_paired (pairs plans l) x) h) | false ↦ omega (arith, since_reach (happened Data m) h) ]

  time_of_reach : (h : List Timed) (c : Class) (x : OpId) (k : Option Kind) → EachPossible plans costs h → may plans (is_eager plans costs) (plain h) c x k ≡ true → time_of plans costs h c x k ≤ reach plans costs h + lag h c x k
  time_of_reach h Begin x (Some (Calc nanos)) each e = omega (arith, ready_reach h x each e, cpu_reach h x)
  time_of_reach h Begin x (Some (Send bytes to tag)) each e = omega (arith, ready_reach h x each e, cpu_reach h x, tx_reach h x)
  time_of_reach h Post x (Some (Recv room from tag)) each e = omega (arith, ready_reach h x each e)
  time_of_reach h Arrive x (Some (Send bytes to tag)) each e = omega (arith, since_reach (has_started plans x) h)
  time_of_reach h Data x (Some (Send bytes to tag)) each e = omega (arith, since_reach (λ l. is_paired (pairs plans l) x) h, cpu_reach h x, tx_reach h x)
  time_of_reach h Serve x (Some (Recv room from tag)) each e = omega (arith, there_reach h x (mate plans costs h x), cpu_reach h x, rx_reach h x)
  time_of_reach h _ x _ each e = zero-le

  -- a possible action happens at most its lag after the reach
  pub time_reach : (h : List Timed) (a : Timed) → EachPossible plans costs h → Possible plans costs h a → a.time ≤ reach plans costs h + lag h a.class a.op (kind_at plans a.op)
  unfolding time
  time_reach h a each p =
      subst (λ n. n ≤ reach plans costs h + lag h a.class a.op (kind_at plans a.op)) (sym p.time) (time_of_reach h a.class a.op (kind_at plans a.op) each (allowed_may plans (is_eager plans costs) (plain h) a.class a.op p.allowed))

  times_reach : (h : List Timed) → All (λ (a : Timed). a.time ≤ reach plans costs h) h
  times_reach [] = All-nil (λ (a : Timed). a.time ≤ reach plans costs [])
  times_reach (a ∷ h) =
      All-cons (λ (b : Timed). b.time ≤ reach plans costs (a ∷ h)) a h (omega (arith, newest_within_reach a h)) (All-weaker (λ (b : Timed). b.time ≤ reach plans costs h) (λ (b : Timed). b.time ≤ reach plans costs (a ∷ h)) (λ b le. le_trans le (reach_grows a h)) h (times_reach h))

  pub within_reach : (h : List Timed) → EachPossible plans costs h → IsWithin plans costs h (reach plans costs h)
  within_reach h each = record {
    times = times_reach h;
    starts = λ x. since_reach (has_started plans x) h;
    ends = λ x e. end_reach h x each e;
    ready_times = λ x e. ready_reach h x each e;
    free_cpus = λ x. cpu_reach h x;
    free_senders = λ x. tx_reach h x;
    free_receivers = λ x. rx_reach h x;
  }

  -- a greater bound is a bound
  pub within_later : (h : List Timed) (m n : ℕ) → m ≤ n → IsWithin plans costs h m → IsWithin plans costs h n
  within_later h m n le w = record {
    times = All-weaker (λ (a : Timed). a.time ≤ m) (λ (a : Timed). a.time ≤ n) (λ a s. le_trans s le) h w.times;
    starts = λ x. le_trans (w.starts x) le;
    ends = λ x e. le_trans (w.ends x e) le;
    ready_times = λ x e. le_trans (w.ready_times x e) le;
    free_cpus = λ x. le_trans (w.free_cpus x) le;
    free_senders = λ x. le_trans (w.free_senders x) le;
    free_receivers = λ x. le_trans (w.free_receivers x) le;
  }
