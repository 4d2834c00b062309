-- Times rise along a run: what an action makes possible is not earlier than it.
use Rattle.std.proofs.Common.{ℕ, ◌+◌, ◌≤◌, ◌≡◌, ◌⊎◌, ◌||◌, Bool, true, false, not, List, [], ◌∷◌, Option, Some, None, if◌then◌else◌, All, inl, inr, refl, sym, ◌∙◌, subst, arith, le_trans}
use Rattle.std.proofs.Math.Nat.{le-max_left, le-max_right}
use Rattle.std.specs.List.{list_all}
use Rattle.std.proofs.lemmas.Bool.{cases_Bool, cases_lt, both_ways, and_parts, and_cases, or_left, or_right, false_from_ne_true}
use Rattle.std.proofs.lemmas.List.Elements.{All-nil, All-cons, All-weaker}
use Rattle.goal_graph.specs.declared.action.OpId.{OpId}
use Rattle.goal_graph.specs.declared.action.Timed.{Timed}
use Rattle.goal_graph.specs.declared.action.Class.{Class}
use Rattle.goal_graph.specs.declared.action.Class.TheVariants.{Arrive, Serve, Data, Post, Begin}
use Rattle.goal_graph.specs.declared.plan.Kind.{Kind}
use Rattle.goal_graph.specs.declared.plan.Kind.TheVariants.{Calc, Send, Recv}
use Rattle.goal_graph.specs.declared.plan.Need.{Need}
use Rattle.goal_graph.specs.declared.plan.When.{When}
use Rattle.goal_graph.specs.declared.plan.When.TheVariants.{AfterEnd, AfterStart}
use Rattle.goal_graph.specs.Schedule.{Plan, kind_at, needs, needed, IsSend}
use Rattle.goal_graph.specs.Action.{Act, happened, plain, plain_act}
use Rattle.goal_graph.specs.Matching.{pairs, is_paired}
use Rattle.goal_graph.specs.Allowed.{has_started, has_ended, is_met, is_ready, is_served, may, allowed}
use Rattle.goal_graph.specs.Interleaving.{IsInterleaving}
use Rattle.goal_graph.proofs.ForCallers.{started_send, not_happened_before_newest, is_some_from, value_of_is_some, allowed_may, allowed_fresh, allowed_from, data_paired, partners_mutual}
use Rattle.sim_params.specs.Costs.{CostModel, flight, is_eager}
use Rattle.sim_params.specs.Times.{since, greatest, mate, met_at, ready, paired_at, there_at, time_of, time, Possible}
use Rattle.sim_params.specs.Run.{IsRun}
use Rattle.sim_params.specs.Laws.{at_its_time}
use Rattle.sim_params.proofs.Grow.{since_new, mate_stays, time_grows}
use Rattle.sim_params.proofs.Interleavings.{possible_at, run_interleaving}

-- if not all passed before, and all pass now, one passes newly
greatest_after_new : {A : Type 0} (before now : A → Bool) (f : A → ℕ) (n : ℕ) (xs : List A) → ((x : A) → before x ≡ false → now x ≡ true → n ≤ f x) → list_all before xs ≡ false → list_all now xs ≡ true → n ≤ greatest f xs
unfolding greatest
greatest_after_new before now f n [] new p q = absurd (both_ways _ p refl)
greatest_after_new before now f n (x ∷ xs) new p q =
    let t = and_parts (now x) (list_all now xs) q in
    elim (and_cases (before x) (list_all before xs) p) [ inl s ↦ le_trans (new x s t.0) (le-max_left (f x) (greatest f xs)) | inr s ↦ le_trans (greatest_after_new before now f n xs new s t.1) (le-max_right (f x) (greatest f xs)) ]

module _ (plans : List Plan) (costs : CostModel) where
  since_rises : (test : List Act → Bool) (a : Timed) (h : List Timed) → test (plain h) ≡ false → test (plain (a ∷ h)) ≡ true → a.time ≤ since test (a ∷ h)
  since_rises test a h p q = omega (arith, since_new test a h p q)

  met_rises : (a : Timed) (h : List Timed) (w : When) (y : OpId) → is_met plans (is_eager plans costs) (plain h) w y ≡ false → is_met plans (is_eager plans costs) (plain (a ∷ h)) w y ≡ true → a.time ≤ met_at plans costs (a ∷ h) w y
  met_rises a h AfterEnd y p q = omega (arith, since_new (has_ended plans (is_eager plans costs) y) a h p q)
  met_rises a h AfterStart y p q = omega (arith, since_new (has_started plans y) a h p q)

  ready_rises : (a : Timed) (h : List Timed) (x : OpId) → is_ready plans (is_eager plans costs) (plain h) x ≡ false → is_ready plans (is_eager plans costs) (plain (a ∷ h)) x ≡ true → a.time ≤ ready plans costs (a ∷ h) x
  unfolding ready is_ready
  ready_rises a h x p q =
      greatest_after_new (λ (d : Need). is_met plans (is_eager plans costs) (plain h) d.when (needed x d)) (λ (d : Need). is_met plans (is_eager plans costs) (plain (a ∷ h)) d.when (needed x d)) (λ (d : Need). met_at plans costs (a ∷ h) d.when (needed x d)) a.time (needs plans x) (λ d s t. met_rises a h d.when (needed x d) s t) p q

  -- the message of a partner that was not there before
  there_rises : (a : Timed) (h : List Timed) (x : OpId) → IsInterleaving plans (is_eager plans costs) (plain (a ∷ h)) → is_served plans (is_eager plans costs) (plain h) (mate plans costs h x) ≡ false → is_served plans (is_eager plans costs) (plain (a ∷ h)) (mate plans costs (a ∷ h) x) ≡ true → a.time ≤ there_at plans costs (a ∷ h) x (mate plans costs (a ∷ h) x)
  unfolding plain
  there_rises a h x i p q = go (mate plans costs (a ∷ h) x) refl q
    where
      eager : OpId → Bool
      eager = is_eager plans costs

      -- x was not paired with m before
      apart : (m : OpId) → (eager m ≡ true) ⊎ (happened Data m (plain h) ≡ true) → mate plans costs h x ≡ Some m → ⊥
      apart m s e =
          let t : is_served plans eager (plain h) (Some m) ≡ true = elim s [ inl u ↦ or_left (eager m) _ u | inr u ↦ or_right (eager m) _ u ] in
          both_ways _ p (subst (λ o. is_served plans eager (plain h) o ≡ true) (sym e) t)

      newly : (m : OpId) → mate plans costs (a ∷ h) x ≡ Some m → eager m ≡ true → is_paired (pairs plans (plain h)) x ≡ false
      newly m e s =
          false_from_ne_true _ (λ t. let o = value_of_is_some (mate plans costs h x) t in let same : Some m ≡ Some o.0 = sym e ∙ mate_stays plans costs a h x o.0 o.1 in apart m (inl s) (o.1 ∙ sym same))

      -- a partner that had transferred its data was the partner before
      partner_before : (m : OpId) → mate plans costs (a ∷ h) x ≡ Some m → happened Data m (plain h) ≡ true → ⊥
      partner_before m e t =
          let o = value_of_is_some (mate plans costs h m) (data_paired plans eager (plain h) m i.0 t) in
          let same : Some o.0 ≡ Some x = sym (mate_stays plans costs a h m o.0 o.1) ∙ partners_mutual plans eager (plain (a ∷ h)) x m i e in
          apart m (inr t) (partners_mutual plans eager (plain h) m x i.0 (o.1 ∙ same))

      part : (m : OpId) → mate plans costs (a ∷ h) x ≡ Some m → (b : Bool) → eager m ≡ b → (b || happened Data m (plain (a ∷ h))) ≡ true → a.time ≤ (if b then paired_at plans costs (a ∷ h) x else since (happened Data m) (a ∷ h) + flight plans costs m)
      part m e true s t =
          since_rises (λ l. is_paired (pairs plans l) x) a h (newly m e s) (is_some_from (mate plans costs (a ∷ h) x) m e)
      part m e false s t =
          let r : a.time ≤ since (happened Data m) (a ∷ h) = since_rises (happened Data m) a h (false_from_ne_true _ (partner_before m e)) t in
          omega arith

      go : (o : Option OpId) → mate plans costs (a ∷ h) x ≡ o → is_served plans eager (plain (a ∷ h)) o ≡ true → a.time ≤ there_at plans costs (a ∷ h) x o
      go None e t = absurd (both_ways false refl t)
      go (Some m) e t = part m e (eager m) refl t

  time_of_rises : (a : Timed) (h : List Timed) (c : Class) (x : OpId) (k : Option Kind) → kind_at plans x ≡ k → IsInterleaving plans (is_eager plans costs) (plain (a ∷ h)) → may plans (is_eager plans costs) (plain h) c x k ≡ false → may plans (is_eager plans costs) (plain (a ∷ h)) c x k ≡ true → a.time ≤ time_of plans costs (a ∷ h) c x k
  time_of_rises a h Begin x (Some (Calc nanos)) e i p q = omega (arith, ready_rises a h x p q)
  time_of_rises a h Begin x (Some (Send bytes to tag)) e i p q = omega (arith, ready_rises a h x p q)
  time_of_rises a h Post x (Some (Recv room from tag)) e i p q = omega (arith, ready_rises a h x p q)
  time_of_rises a h Arrive x (Some (Send bytes to tag)) e i p q =
      let send : IsSend plans x = record { bytes = bytes; to = to; tag = tag; kind = e } in
      omega (arith, since_rises (has_started plans x) a h (started_send plans (plain h) x send ∙ p) (started_send plans (plain (a ∷ h)) x send ∙ q))
  time_of_rises a h Data x (Some (Send bytes to tag)) e i p q =
      let t = and_parts (not (is_eager plans costs x)) (is_paired (pairs plans (plain (a ∷ h))) x) q in
      elim (and_cases (not (is_eager plans costs x)) (is_paired (pairs plans (plain h)) x) p) [ inl s ↦ absurd (both_ways _ s t.0) | inr s ↦ omega (arith, since_rises (λ l. is_paired (pairs plans l) x) a h s t.1) ]
  time_of_rises a h Serve x (Some (Recv room from tag)) e i p q = omega (arith, there_rises a h x i p q)
  time_of_rises a h _ x _ e i p q = absurd (both_ways false refl q)

  -- what an action makes possible is not earlier than it
  pub newly_possible : (a b : Timed) (h : List Timed) → IsInterleaving plans (is_eager plans costs) (plain (a ∷ h)) → Possible plans costs (a ∷ h) b → allowed plans (is_eager plans costs) (plain h) b.class b.op ≡ false → a.time ≤ b.time
  unfolding plain time
  newly_possible a b h i p q =
      let eager = is_eager plans costs in
      let fresh : happened b.class b.op (plain h) ≡ false = not_happened_before_newest b.class b.op (plain_act a) (plain h) (allowed_fresh plans eager (plain (a ∷ h)) b.class b.op p.allowed) in
      let before : may plans eager (plain h) b.class b.op (kind_at plans b.op) ≡ false = false_from_ne_true _ (λ t. both_ways _ q (allowed_from plans eager (plain h) b.class b.op fresh t)) in
      subst (λ n. a.time ≤ n) (sym p.time) (time_of_rises a h b.class b.op (kind_at plans b.op) refl i before (allowed_may plans eager (plain (a ∷ h)) b.class b.op p.allowed))

  -- what was possible before the next action, or is possible by it, is not earlier than it
  pub next_rises : (a b : Timed) (h : List Timed) → IsRun plans costs (a ∷ h) → Possible plans costs (a ∷ h) b → a.time ≤ b.time
  next_rises a b h r p =
      elim (cases_Bool (allowed plans (is_eager plans costs) (plain h) b.class b.op)) [ inl t ↦ was t | inr f ↦ newly_possible a b h (run_interleaving plans costs (a ∷ h) r) p f ]
    where
      was : allowed plans (is_eager plans costs) (plain h) b.class b.op ≡ true → a.time ≤ b.time
      was t =
          let before = at_its_time plans costs h b.class b.op in
          let grows : time plans costs h b.class b.op ≤ b.time = subst (λ n. time plans costs h b.class b.op ≤ n) (sym p.time) (time_grows plans costs a h b.class b.op) in
          elim (cases_lt (time plans costs h b.class b.op) a.time) [ inl s ↦ absurd (r.1.least before (possible_at plans costs h b.class b.op t) (inl s)) | inr s ↦ le_trans s grows ]

  -- no time of a run is later than that of a possible action
  pub possible_not_earlier_than_run : (h : List Timed) (b : Timed) → IsRun plans costs h → Possible plans costs h b → All (λ (a : Timed). a.time ≤ b.time) h
  possible_not_earlier_than_run [] b r p = All-nil (λ (a : Timed). a.time ≤ b.time)
  possible_not_earlier_than_run (a ∷ h) b r p =
      let le : a.time ≤ b.time = next_rises a b h r p in
      All-cons (λ (c : Timed). c.time ≤ b.time) a h le (All-weaker (λ (c : Timed). c.time ≤ a.time) (λ (c : Timed). c.time ≤ b.time) (λ c s. le_trans s le) h (possible_not_earlier_than_run h a r.0 r.1.possible))

  -- times rise along a run
  pub times_rise : (a b : Timed) (h : List Timed) → IsRun plans costs (b ∷ a ∷ h) → a.time ≤ b.time
  times_rise a b h r = next_rises a b h r.0 r.1.possible

  pub newest_is_latest : (a : Timed) (h : List Timed) → IsRun plans costs (a ∷ h) → All (λ (b : Timed). b.time ≤ a.time) h
  newest_is_latest a h r = possible_not_earlier_than_run h a r.0 r.1.possible
