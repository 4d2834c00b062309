-- What is possible for an operation is possible in every part of a history with the same actions of its rank, at the
-- same time, if what it needs of other ranks has happened.
use Rattle.std.proofs.Common.{ℕ, ◌+◌, ◌≡◌, ◌⊎◌, inl, inr, ◌&&◌, ◌||◌, max, not, Bool, true, false, List, [], ◌∷◌, Option, Some, None, if◌then◌else◌, refl, sym, ap, ◌∙◌}
use Rattle.std.specs.List.{list_all}
use Rattle.std.proofs.lemmas.Bool.{and_parts, true≢false, or_cases, or_left, or_right}
use Rattle.goal_graph.specs.declared.action.OpId.{OpId}
use Rattle.goal_graph.specs.declared.action.Timed.{Timed}
use Rattle.goal_graph.specs.declared.action.Class.{Class}
use Rattle.goal_graph.specs.declared.action.Class.TheVariants.{Arrive, Serve, Data, Post, Begin}
use Rattle.goal_graph.specs.declared.plan.Kind.{Kind}
use Rattle.goal_graph.specs.declared.plan.Kind.TheVariants.{Calc, Send, Recv}
use Rattle.goal_graph.specs.declared.plan.Need.{Need}
use Rattle.goal_graph.specs.declared.plan.When.{When}
use Rattle.goal_graph.specs.declared.plan.When.TheVariants.{AfterEnd, AfterStart}
use Rattle.goal_graph.specs.Schedule.{Plan, kind_at, needs, needed, IsSend, IsReceive}
use Rattle.goal_graph.specs.Action.{happened, plain}
use Rattle.goal_graph.specs.Matching.{pairs, is_paired}
use Rattle.goal_graph.specs.Allowed.{first_class, last_class, has_started, has_ended, is_met, is_ready, is_served, may}
use Rattle.goal_graph.specs.Laws.{IsApart}
use Rattle.goal_graph.proofs.ForCallers.{allowed_fresh, allowed_may, allowed_from, is_some_from, value_of_is_some}
use Rattle.sim_params.specs.Costs.{CostModel, flight, flight_one, latency, is_eager}
use Rattle.sim_params.specs.Times.{since, greatest, mate, cpu, tx, rx, start, met_at, ready, paired_at, there_at, time_of, time, Possible}
use Rattle.sim_placed.proofs.Tails.{on_rank, Below, Rises}
use Rattle.sim_placed.proofs.Local.{has_happened, time_happened, has_happened_alike, time_happened_alike, time_happened_below}
use Rattle.sim_placed.proofs.Mates.{Each, Met, mates, met_of_receive, met_of_send, same_paired}
use Rattle.sim_placed.proofs.Holds.{happened_hold, same_cpu, same_rx, same_tx}

greatest_where : {A : Type 0} (test : A → Bool) (f g : A → ℕ) → ((x : A) → test x ≡ true → f x ≡ g x) → (xs : List A) → list_all test xs ≡ true → greatest f xs ≡ greatest g xs
unfolding greatest
greatest_where test f g same [] all = refl
greatest_where test f g same (x ∷ xs) all =
    let parts = and_parts (test x) (list_all test xs) all in
    λ i. max (same x parts.0 i) (greatest_where test f g same xs parts.1 i)

module _ (plans : List Plan) (costs : CostModel) (apart : IsApart plans) (w : List Timed) (each_w : Each plans costs w) where
  abbrev eager : OpId → Bool
  eager = is_eager plans costs

  -- a part of the whole
  pub record IsPart (p : List Timed) : Type 0 where
    pub each : Each plans costs p
    pub rises : Rises p
    pub below : Below p w

  module _ (p q : List Timed) (part_p : IsPart p) (part_q : IsPart q) (x : OpId) (same : on_rank x.rank p ≡ on_rank x.rank q) where
    -- an operation of its rank
    abbrev sibling : Need → OpId
    sibling d = needed x d

    ended_same : (d : Need) → has_ended plans eager (sibling d) (plain q) ≡ has_ended plans eager (sibling d) (plain p)
    ended_same d =
        sym (has_happened_alike (last_class (eager (sibling d)) (kind_at plans (sibling d))) (sibling d) p q same)

    started_same : (d : Need) → has_started plans (sibling d) (plain q) ≡ has_started plans (sibling d) (plain p)
    started_same d = sym (has_happened_alike (first_class (kind_at plans (sibling d))) (sibling d) p q same)

    met_same : (d : Need) → is_met plans eager (plain q) d.when (sibling d) ≡ is_met plans eager (plain p) d.when (sibling d)
    met_same d = go d.when
      where
        go : (when : When) → is_met plans eager (plain q) when (sibling d) ≡ is_met plans eager (plain p) when (sibling d)
        go AfterEnd = ended_same d
        go AfterStart = started_same d

    ready_same : is_ready plans eager (plain q) x ≡ is_ready plans eager (plain p) x
    unfolding is_ready
    ready_same = λ i. list_all (λ (d : Need). met_same d i) (needs plans x)

    met_at_same : (d : Need) → is_met plans eager (plain q) d.when (sibling d) ≡ true → met_at plans costs q d.when (sibling d) ≡ met_at plans costs p d.when (sibling d)
    met_at_same d met = go d.when met
      where
        go : (when : When) → is_met plans eager (plain q) when (sibling d) ≡ true → met_at plans costs q when (sibling d) ≡ met_at plans costs p when (sibling d)
        go AfterEnd e =
            let c : Class = last_class (eager (sibling d)) (kind_at plans (sibling d)) in
            let f = sym (ended_same d) ∙ e in
            let hold = happened_hold plans costs apart w each_w q part_q.each part_q.below c (sibling d) e ∙ sym (happened_hold plans costs apart w each_w p part_p.each part_p.below c (sibling d) f) in
            λ i. sym (time_happened_alike c (sibling d) p q same f) i + hold i
        go AfterStart e =
            sym (time_happened_alike (first_class (kind_at plans (sibling d))) (sibling d) p q same (sym (started_same d) ∙ e))

    ready_at : is_ready plans eager (plain q) x ≡ true → ready plans costs q x ≡ ready plans costs p x
    unfolding ready is_ready
    ready_at all =
        greatest_where (λ (d : Need). is_met plans eager (plain q) d.when (sibling d)) (λ (d : Need). met_at plans costs q d.when (sibling d)) (λ (d : Need). met_at plans costs p d.when (sibling d)) met_at_same (needs plans x) all

    free_cpu : cpu plans costs q x ≡ cpu plans costs p x
    free_cpu =
        sym (same_cpu plans costs apart w each_w p q part_p.each part_q.each part_p.below part_q.below x same)

    free_rx : rx plans costs q x ≡ rx plans costs p x
    free_rx =
        sym (same_rx plans costs apart w each_w p q part_p.each part_q.each part_p.below part_q.below x same)

    free_tx : tx plans costs q x ≡ tx plans costs p x
    free_tx =
        sym (same_tx plans costs apart w each_w p q part_p.each part_q.each part_p.below part_q.below x same)

    -- what an action of x needs of other ranks has happened in p if it has in q
    pub record Crosses (c : Class) : Type 0 where
      pub posted : c ≡ Data → (y : OpId) → mate plans costs q x ≡ Some y → has_happened Post y p ≡ true
      pub arrived : c ≡ Serve → (m : OpId) → mate plans costs q x ≡ Some m → has_happened Arrive m p ≡ true
      pub handed : c ≡ Serve → (m : OpId) → mate plans costs q x ≡ Some m → has_happened Data m q ≡ true → has_happened Data m p ≡ true

    -- the partner of a send, and that of a receive
    met_data : Crosses Data → IsSend plans x → (y : OpId) → mate plans costs q x ≡ Some y → Met plans costs q x y × Met plans costs p x y
    met_data crosses s y e =
        let met = met_of_send plans costs apart q part_q.each x y s e in
        (met, record { arrived = has_happened_alike Arrive x p q same ∙ met.arrived; posted = crosses.posted refl y e; fit = met.fit })

    met_serve : Crosses Serve → IsReceive plans x → (m : OpId) → mate plans costs q x ≡ Some m → Met plans costs q m x × Met plans costs p m x
    met_serve crosses r m e =
        let met = met_of_receive plans costs apart q m x r e in
        (met, record { arrived = crosses.arrived refl m e; posted = has_happened_alike Post x p q same ∙ met.posted; fit = met.fit })

    -- that it may happen, and when
    abbrev Moves : Class → Option Kind → Type 0
    Moves c k = (may plans eager (plain p) c x k ≡ true) × (time_of plans costs q c x k ≡ time_of plans costs p c x k)

    moves : (c : Class) (k : Option Kind) → Crosses c → kind_at plans x ≡ k → may plans eager (plain q) c x k ≡ true → Moves c k
    moves Begin (Some (Calc nanos)) crosses e ok =
        (sym ready_same ∙ ok, λ i. max (ready_at ok i) (free_cpu i))
    moves Begin (Some (Send bytes to tag)) crosses e ok =
        (sym ready_same ∙ ok, λ i. max (ready_at ok i) (max (free_cpu i) (free_tx i)))
    moves Begin (Some (Recv room from tag)) crosses e ok = absurd (true≢false (sym ok))
    moves Begin None crosses e ok = absurd (true≢false (sym ok))
    moves Post (Some (Recv room from tag)) crosses e ok = (sym ready_same ∙ ok, ready_at ok)
    moves Post (Some (Calc nanos)) crosses e ok = absurd (true≢false (sym ok))
    moves Post (Some (Send bytes to tag)) crosses e ok = absurd (true≢false (sym ok))
    moves Post None crosses e ok = absurd (true≢false (sym ok))
    moves Arrive (Some (Send bytes to tag)) crosses e ok =
        let begun = has_happened_alike Begin x p q same ∙ ok in
        let first : first_class (kind_at plans x) ≡ Begin = ap first_class e in
        let started : start plans costs q x ≡ start plans costs p x = ap (λ (c : Class). since (happened c x) q) first ∙ (sym (time_happened_alike Begin x p q same begun) ∙ ap (λ (c : Class). since (happened c x) p) (sym first)) in
        (begun, λ i. started i + (if eager x then flight plans costs x else flight_one plans costs x))
    moves Arrive (Some (Calc nanos)) crosses e ok = absurd (true≢false (sym ok))
    moves Arrive (Some (Recv room from tag)) crosses e ok = absurd (true≢false (sym ok))
    moves Arrive None crosses e ok = absurd (true≢false (sym ok))
    moves Data (Some (Send bytes to tag)) crosses e ok =
        let parts = and_parts (not (eager x)) (is_paired (pairs plans (plain q)) x) ok in
        let o = value_of_is_some (mate plans costs q x) parts.1 in
        let both = met_data crosses (record { bytes = bytes; to = to; tag = tag; kind = e }) o.0 o.1 in
        let paired = is_some_from (mate plans costs p x) o.0 (mates plans costs apart p part_p.each x o.0 both.1).0 in
        let at_same = (same_paired plans costs apart w p q part_p.each part_q.each part_p.rises part_q.rises part_p.below part_q.below x o.0 both.1 both.0).0 in
        ((λ i. parts.0 i && paired i), λ i. max (sym at_same i + latency plans costs x) (max (free_cpu i) (free_tx i)))
    moves Data (Some (Calc nanos)) crosses e ok = absurd (true≢false (sym ok))
    moves Data (Some (Recv room from tag)) crosses e ok = absurd (true≢false (sym ok))
    moves Data None crosses e ok = absurd (true≢false (sym ok))
    moves Serve (Some (Recv room from tag)) crosses e ok = go (mate plans costs q x) refl ok
      where
        go : (o : Option OpId) → mate plans costs q x ≡ o → is_served plans eager (plain q) o ≡ true → Moves Serve (Some (Recv room from tag))
        go None f served = absurd (true≢false (sym served))
        go (Some m) f served =
            let both = met_serve crosses (record { room = room; from = from; tag = tag; kind = e }) m f in
            let there : mate plans costs p x ≡ Some m = (mates plans costs apart p part_p.each m x both.1).1 in
            let at_same = (same_paired plans costs apart w p q part_p.each part_q.each part_p.rises part_q.rises part_p.below part_q.below m x both.1 both.0).1 in
            (ap (is_served plans eager (plain p)) there ∙ message (or_cases (eager m) (has_happened Data m q) served), λ i. max ((ap (there_at plans costs q x) f ∙ (times at_same (eager m) refl served ∙ ap (there_at plans costs p x) (sym there))) i) (max (free_cpu i) (free_rx i)))
          where
            message : (eager m ≡ true) ⊎ (has_happened Data m q ≡ true) → (eager m || has_happened Data m p) ≡ true
            message (inl t) = or_left (eager m) (has_happened Data m p) t
            message (inr t) = or_right (eager m) (has_happened Data m p) (crosses.handed refl m f t)

            times : paired_at plans costs p x ≡ paired_at plans costs q x → (b : Bool) → eager m ≡ b → (b || has_happened Data m q) ≡ true → (if b then paired_at plans costs q x else since (happened Data m) q + flight plans costs m) ≡ (if b then paired_at plans costs p x else since (happened Data m) p + flight plans costs m)
            times paired true t ok2 = sym paired
            times paired false t ok2 =
                let handed = crosses.handed refl m f ok2 in
                let when : time_happened Data m q ≡ time_happened Data m p = sym (time_happened_below Data m q w part_q.below ok2) ∙ time_happened_below Data m p w part_p.below handed in
                ap (λ (n : ℕ). n + flight plans costs m) when
    moves Serve (Some (Calc nanos)) crosses e ok = absurd (true≢false (sym ok))
    moves Serve (Some (Send bytes to tag)) crosses e ok = absurd (true≢false (sym ok))
    moves Serve None crosses e ok = absurd (true≢false (sym ok))

    -- so what is possible after q is possible after p
    pub moved : (c : Class) (t : ℕ) → Crosses c → Possible plans costs q (record { time = t; class = c; op = x }) → Possible plans costs p (record { time = t; class = c; op = x })
    unfolding time
    moved c t crosses possible =
        let fresh = allowed_fresh plans eager (plain q) c x possible.allowed in
        let both = moves c (kind_at plans x) crosses refl (allowed_may plans eager (plain q) c x possible.allowed) in
        record {
          allowed = allowed_from plans eager (plain p) c x (has_happened_alike c x p q same ∙ fresh) both.0;
          time = possible.time ∙ both.1;
        }
