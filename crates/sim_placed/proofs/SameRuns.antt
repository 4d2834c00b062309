-- Runs of schedules without wildcards have the same times, however ties are broken, if messages to other ranks take
-- time.
use Rattle.std.proofs.Common.{ℕ, ◌+◌, ◌<◌, ◌≤◌, ◌≡◌, ◌==◌, ◌&&◌, ◌⊎◌, inl, inr, ⊎_elim, Bool, true, false, List, [], ◌∷◌, length, All, Option, Some, None, if◌then◌else◌, refl, sym, ap, ◌∙◌, subst, arith}
use Rattle.std.proofs.lemmas.Bool.{false_from_ne_true, or_cases, both_ways, cases_Bool, cases_eq, cases_lt, and_parts, eqb-true, true≢false}
use Rattle.std.proofs.lemmas.List.Elements.{All-head}
use Rattle.goal_graph.specs.declared.action.OpId.{OpId}
use Rattle.goal_graph.specs.declared.action.Timed.{Timed}
use Rattle.goal_graph.specs.declared.action.Class.{Class}
use Rattle.goal_graph.specs.declared.action.Class.TheVariants.{Arrive, Serve, Data, Post, Begin}
use Rattle.goal_graph.specs.declared.plan.Kind.{Kind}
use Rattle.goal_graph.specs.declared.plan.Kind.TheVariants.{Calc, Send, Recv}
use Rattle.goal_graph.specs.Schedule.{Plan, kind_at, IsSend, IsReceive}
use Rattle.goal_graph.specs.Action.{place, is_act, happened, plain, plain_act}
use Rattle.goal_graph.specs.Matching.{accepts, fits_kinds, fits}
use Rattle.goal_graph.specs.Allowed.{first_class, last_class, is_served, may, allowed}
use Rattle.goal_graph.specs.Laws.{IsApart}
use Rattle.goal_graph.proofs.ForCallers.{fits_send, allowed_data, allowed_serve, allowed_arrive, allowed_from, arrived_begun, data_paired, value_of_is_some, is_act_class, is_act_op, place_injective}
use Rattle.sim_params.specs.Costs.{CostModel, flight, flight_one, latency, is_eager}
use Rattle.sim_params.specs.Times.{since, mate, start, end, paired_at, there_at, time_of, time, Possible}
use Rattle.sim_params.specs.Run.{IsNext, IsRun, IsCompleteRun}
use Rattle.sim_params.proofs.ForCallers.{since_kept, since_new}
use Rattle.sim_placed.specs.PlacedRuns.{TakesTime, IsNextBy, IsRunBy, IsCompleteRunBy}
use Rattle.sim_placed.proofs.Tails.{IsTail, whole, newer, empty_tail, tail_length, tail_of_tail, shorter_tail, on_rank, on_rank_of_own_action, on_rank_of_other_action, rank_tail, Below, tail_below, next_of_rank, Frontier, find_frontier, below_each_other_same_on_rank, Rises, rises_tail}
use Rattle.sim_placed.proofs.Local.{has_happened, time_happened, has_happened_nothing, has_happened_more, has_happened_cases, has_happened_below, has_happened_alike, time_happened_below, time_happened_alike, time_happened_at_most, time_happened_at_least}
use Rattle.sim_placed.proofs.Mates.{Each, each_interleaving, Met, met_below, mates, met_of_receive, met_of_send, paired_later}
use Rattle.sim_placed.proofs.Holds.{hold_with_same_mate}
use Rattle.sim_placed.proofs.Moved.{IsPart, Crosses, moved}

-- the time of the newest action
abbrev newest_time : List Timed → ℕ
newest_time [] = 0
newest_time (a ∷ h) = a.time

newest_tail : (u v : List Timed) → IsTail u v → Rises v → newest_time u ≤ newest_time v
newest_tail u v whole rises = omega arith
newest_tail u (b ∷ v) (newer t) rises =
    let le = newest_tail u v t rises.0 in
    let last = below_newest v rises.1 in
    omega (arith, le, last)
  where
    below_newest : (l : List Timed) → All (λ (d : Timed). d.time ≤ b.time) l → newest_time l ≤ b.time
    below_newest [] all = omega arith
    below_newest (d ∷ l) all = All-head (λ (c : Timed). c.time ≤ b.time) d l all

-- a shorter tail is one of the older actions
inner_tail : (s : List Timed) (f : Timed) (u : List Timed) → IsTail s (f ∷ u) → length s < length (f ∷ u) → IsTail s u
inner_tail s f u whole less = absurd (omega (arith, less))
inner_tail s f u (newer t) less = t

arrive_is_not_data : Arrive ≡ Data → ⊥
arrive_is_not_data e = cc

arrive_is_not_serve : Arrive ≡ Serve → ⊥
arrive_is_not_serve e = cc

time_of_not_happened_is_zero : (c : Class) (x : OpId) (h : List Timed) → has_happened c x h ≡ false → time_happened c x h ≡ 0
unfolding since
time_of_not_happened_is_zero c x [] e = refl
time_of_not_happened_is_zero c x (a ∷ h) e =
    let before : has_happened c x h ≡ false = false_from_ne_true _ (λ t. both_ways _ e (has_happened_more c x a h t)) in
    ap (λ (b : Bool). if b then time_happened c x h else (if has_happened c x (a ∷ h) then a.time else 0)) before ∙ ap (λ (b : Bool). if b then a.time else 0) e

module _ (plans : List Plan) (costs : CostModel) (apart : IsApart plans) (takes : TakesTime plans costs) where
  abbrev eager : OpId → Bool
  eager = is_eager plans costs

  -- a send that fits a receive is to its rank
  fits_target : (x m : OpId) (s : IsSend plans m) → fits plans x m ≡ true → s.to ≡ x.rank
  unfolding fits
  fits_target x m s fit = go (kind_at plans x) (ap (fits_kinds x (kind_at plans x) m) (sym s.kind) ∙ fit)
    where
      go : (k : Option Kind) → fits_kinds x k m (Some (Send s.bytes s.to s.tag)) ≡ true → s.to ≡ x.rank
      go None e = absurd (true≢false (sym e))
      go (Some (Calc nanos)) e = absurd (true≢false (sym e))
      go (Some (Send bytes to tag)) e = absurd (true≢false (sym e))
      go (Some (Recv room from tag)) e =
          eqb-true s.to x.rank (and_parts (s.to == x.rank) (accepts from m.rank) (and_parts ((s.to == x.rank) && accepts from m.rank) (accepts tag s.tag) e).0).0

  message_to_other_rank_takes_time : (x m : OpId) → IsSend plans m → fits plans x m ≡ true → (m.rank ≡ x.rank → ⊥) → (1 ≤ flight plans costs m) × (1 ≤ flight_one plans costs m) × (1 ≤ latency plans costs m)
  message_to_other_rank_takes_time x m s fit ne = takes m s (λ e. ne (e ∙ fits_target x m s fit))

  -- how long after its begin a send arrives
  abbrev time_to_arrive : OpId → ℕ
  time_to_arrive m = if eager m then flight plans costs m else flight_one plans costs m

  time_to_arrive_is_positive : (x m : OpId) → IsSend plans m → fits plans x m ≡ true → (m.rank ≡ x.rank → ⊥) → 1 ≤ time_to_arrive m
  time_to_arrive_is_positive x m s fit ne = go (eager m) (message_to_other_rank_takes_time x m s fit ne)
    where
      go : (b : Bool) → (1 ≤ flight plans costs m) × (1 ≤ flight_one plans costs m) × (1 ≤ latency plans costs m) → 1 ≤ (if b then flight plans costs m else flight_one plans costs m)
      go true l = l.0
      go false l = l.1

  start_of_send : (p : List Timed) (m : OpId) → IsSend plans m → start plans costs p m ≡ time_happened Begin m p
  start_of_send p m s = ap (λ (k : Option Kind). since (happened (first_class k) m) p) s.kind

  time_of_arrive : (p : List Timed) (m : OpId) → IsSend plans m → time plans costs p Arrive m ≡ time_happened Begin m p + time_to_arrive m
  unfolding time
  time_of_arrive p m s =
      ap (λ (k : Option Kind). time_of plans costs p Arrive m k) s.kind ∙ ap (λ (n : ℕ). n + time_to_arrive m) (start_of_send p m s)

  -- a send arrives `way m` after its begin
  arrive_time : (p : List Timed) → Each plans costs p → (m : OpId) → IsSend plans m → has_happened Arrive m p ≡ true → time_happened Arrive m p ≡ time_happened Begin m p + time_to_arrive m
  arrive_time [] each m s e = absurd (has_happened_nothing Arrive m e)
  arrive_time (a ∷ p) each m s e = go (λ t. arrive_time p each.0 m s t) (cases_Bool (has_happened Arrive m p))
    where
      begun : has_happened Begin m p ≡ true → time_happened Begin m (a ∷ p) ≡ time_happened Begin m p
      begun t = since_kept (happened Begin m) a p t

      new : has_happened Arrive m p ≡ false → (has_happened Arrive m p ≡ true) ⊎ (is_act Arrive m (plain_act a) ≡ true) → time_happened Arrive m (a ∷ p) ≡ time_happened Begin m (a ∷ p) + time_to_arrive m
      new f (inl t) = absurd (both_ways _ f t)
      new f (inr t) =
          let class = is_act_class Arrive m (plain_act a) t in
          let op = is_act_op Arrive m (plain_act a) t in
          let ok : allowed plans eager (plain p) Arrive m ≡ true = subst (λ (y : OpId). allowed plans eager (plain p) Arrive y ≡ true) op (subst (λ (c : Class). allowed plans eager (plain p) c a.op ≡ true) class each.1.allowed) in
          let when : a.time ≡ time plans costs p Arrive m = each.1.time ∙ λ i. time plans costs p (class i) (op i) in
          since_new (happened Arrive m) a p f e ∙ (when ∙ (time_of_arrive p m s ∙ ap (λ (n : ℕ). n + time_to_arrive m) (sym (begun (allowed_arrive plans eager (plain p) m ok).1))))

      go : (has_happened Arrive m p ≡ true → time_happened Arrive m p ≡ time_happened Begin m p + time_to_arrive m) → (has_happened Arrive m p ≡ true) ⊎ (has_happened Arrive m p ≡ false) → time_happened Arrive m (a ∷ p) ≡ time_happened Begin m (a ∷ p) + time_to_arrive m
      go rest (inl t) =
          since_kept (happened Arrive m) a p t ∙ (rest t ∙ ap (λ (n : ℕ). n + time_to_arrive m) (sym (begun (arrived_begun plans eager (plain p) m (each_interleaving plans costs p each.0) t))))
      go rest (inr f) = new f (has_happened_cases Arrive m a p e)

  -- a send transfers its data no sooner than its request has arrived
  data_arrived : (p : List Timed) → Each plans costs p → (m : OpId) → IsSend plans m → has_happened Data m p ≡ true → has_happened Arrive m p ≡ true
  data_arrived p each m s e =
      let o = value_of_is_some (mate plans costs p m) (data_paired plans eager (plain p) m (each_interleaving plans costs p each) e) in
      (met_of_send plans costs apart p each m o.0 s o.1).arrived

  data_not_before_arrive : (p : List Timed) → Each plans costs p → Rises p → (m : OpId) → IsSend plans m → has_happened Data m p ≡ true → time_happened Arrive m p ≤ time_happened Data m p
  data_not_before_arrive [] each rises m s e = absurd (has_happened_nothing Data m e)
  data_not_before_arrive (a ∷ p) each rises m s e = go (λ t. data_not_before_arrive p each.0 rises.0 m s t) (cases_Bool (has_happened Data m p))
    where
      new : has_happened Data m p ≡ false → (has_happened Data m p ≡ true) ⊎ (is_act Data m (plain_act a) ≡ true) → time_happened Arrive m (a ∷ p) ≤ time_happened Data m (a ∷ p)
      new f (inl t) = absurd (both_ways _ f t)
      new f (inr t) =
          let class = is_act_class Data m (plain_act a) t in
          let op = is_act_op Data m (plain_act a) t in
          let ok : allowed plans eager (plain p) Data m ≡ true = subst (λ (y : OpId). allowed plans eager (plain p) Data y ≡ true) op (subst (λ (c : Class). allowed plans eager (plain p) c a.op ≡ true) class each.1.allowed) in
          let o = value_of_is_some (mate plans costs p m) (allowed_data plans eager (plain p) m ok).2 in
          let arrived = (met_of_send plans costs apart p each.0 m o.0 s o.1).arrived in
          let le = time_happened_at_most Arrive m p a.time rises.1 arrived in
          let kept = since_kept (happened Arrive m) a p arrived in
          let here = since_new (happened Data m) a p f e in
          omega (arith, le, kept, here)

      go : (has_happened Data m p ≡ true → time_happened Arrive m p ≤ time_happened Data m p) → (has_happened Data m p ≡ true) ⊎ (has_happened Data m p ≡ false) → time_happened Arrive m (a ∷ p) ≤ time_happened Data m (a ∷ p)
      go rest (inl t) =
          let le = rest t in
          let kept = since_kept (happened Data m) a p t in
          let arrived = since_kept (happened Arrive m) a p (data_arrived p each.0 m s t) in
          omega (arith, le, kept, arrived)
      go rest (inr f) = new f (has_happened_cases Data m a p e)

  data_is_not_eager : (p : List Timed) → Each plans costs p → (m : OpId) → has_happened Data m p ≡ true → eager m ≡ false
  data_is_not_eager [] each m e = absurd (has_happened_nothing Data m e)
  data_is_not_eager (a ∷ p) each m e = go (λ t. data_is_not_eager p each.0 m t) (has_happened_cases Data m a p e)
    where
      go : (has_happened Data m p ≡ true → eager m ≡ false) → (has_happened Data m p ≡ true) ⊎ (is_act Data m (plain_act a) ≡ true) → eager m ≡ false
      go rest (inl t) = rest t
      go rest (inr t) =
          (allowed_data plans eager (plain p) m (subst (λ (y : OpId). allowed plans eager (plain p) Data y ≡ true) (is_act_op Data m (plain_act a) t) (subst (λ (c : Class). allowed plans eager (plain p) c a.op ≡ true) (is_act_class Data m (plain_act a) t) each.1.allowed))).1

  -- bounds of when actions are possible
  data_bound : (q : List Timed) → Each plans costs q → Rises q → (m y : OpId) → IsSend plans m → Met plans costs q m y → time_happened Post y q + latency plans costs m ≤ time plans costs q Data m
  unfolding time
  data_bound q each rises m y s met =
      let paired = (paired_later plans costs apart q each rises m y met).0 in
      let is = ap (λ (k : Option Kind). time_of plans costs q Data m k) s.kind in
      omega (arith, paired, is)

  serve_bound : (q : List Timed) → Each plans costs q → Rises q → (x m : OpId) → IsReceive plans x → Met plans costs q m x → mate plans costs q x ≡ Some m → (if eager m then paired_at plans costs q x else since (happened Data m) q + flight plans costs m) ≤ time plans costs q Serve x
  unfolding time
  serve_bound q each rises x m r met e =
      let is = ap (λ (k : Option Kind). time_of plans costs q Serve x k) r.kind in
      let there : there_at plans costs q x (mate plans costs q x) ≡ there_at plans costs q x (Some m) = ap (there_at plans costs q x) e in
      subst (λ (n : ℕ). (if eager m then paired_at plans costs q x else since (happened Data m) q + flight plans costs m) ≤ n) (sym is) (omega (arith, there))

  module _ (h : List Timed) (each_h : Each plans costs h) where
    abbrev Part : List Timed → Type 0
    Part p = IsPart plans costs apart h each_h p

    -- what happens before n in the whole has happened in p
    abbrev Older : List Timed → ℕ → Type 0
    Older p n = (c : Class) (y : OpId) → has_happened c y h ≡ true → time_happened c y h < n → has_happened c y p ≡ true

    -- an arrival that is not in p yet is possible there
    arrival : (p q : List Timed) (n : ℕ) → Part p → Part q → Older p n → (x m : OpId) → IsSend plans m → fits plans x m ≡ true → (m.rank ≡ x.rank → ⊥) → has_happened Arrive m q ≡ true → time_happened Arrive m q ≤ n → has_happened Arrive m p ≡ false → Possible plans costs p (record { time = time_happened Arrive m q; class = Arrive; op = m })
    arrival p q n part_p part_q older x m s fit ne arrived le fresh =
        let begun = arrived_begun plans eager (plain q) m (each_interleaving plans costs q part_q.each) arrived in
        let when = arrive_time q part_q.each m s arrived in
        let some = time_to_arrive_is_positive x m s fit ne in
        let whole_at = time_happened_below Begin m q h part_q.below begun in
        let there = older Begin m (has_happened_below Begin m q h part_q.below begun) (omega (arith, whole_at, when, some, le)) in
        let same : time_happened Begin m p ≡ time_happened Begin m q = sym (time_happened_below Begin m p h part_p.below there) ∙ whole_at in
        record {
          allowed = allowed_from plans eager (plain p) Arrive m fresh (ap (λ (k : Option Kind). may plans eager (plain p) Arrive m k) s.kind ∙ there);
          time = when ∙ (ap (λ (k : ℕ). k + time_to_arrive m) (sym same) ∙ sym (time_of_arrive p m s));
        }

    -- what an action needs of other ranks has happened in p, except an arrival at the same time
    crosses_by : (p q : List Timed) (n : ℕ) (part_p : Part p) (part_q : Part q) (x : OpId) (same : on_rank x.rank p ≡ on_rank x.rank q) (c : Class) (t : ℕ) → Older p n → t ≤ n → Possible plans costs q (record { time = t; class = c; op = x })
        → ((m : OpId) → c ≡ Serve → IsSend plans m → fits plans x m ≡ true → (m.rank ≡ x.rank → ⊥) → has_happened Arrive m q ≡ true → time_happened Arrive m q ≡ n → t ≡ n → has_happened Arrive m p ≡ false → ⊥)
        → Crosses plans costs apart h each_h p q part_p part_q x same c
    crosses_by p q n part_p part_q x same c t older le possible late =
        record { posted = posted; arrived = arrived; handed = handed }
      where
        of_class : (d : Class) → c ≡ d → allowed plans eager (plain q) d x ≡ true
        of_class d e = subst (λ (b : Class). allowed plans eager (plain q) b x ≡ true) e possible.allowed

        when : (d : Class) → c ≡ d → t ≡ time plans costs q d x
        when d e = possible.time ∙ ap (λ (b : Class). time plans costs q b x) e

        -- by the rank's own actions
        own : (d : Class) (y : OpId) → y.rank ≡ x.rank → has_happened d y q ≡ true → has_happened d y p ≡ true
        own d y e there =
            has_happened_alike d y p q (subst (λ (r : ℕ). on_rank r p ≡ on_rank r q) (sym e) same) ∙ there

        sooner : (d : Class) (y : OpId) → has_happened d y q ≡ true → time_happened d y q < n → has_happened d y p ≡ true
        sooner d y there less =
            let is = time_happened_below d y q h part_q.below there in
            older d y (has_happened_below d y q h part_q.below there) (omega (arith, is, less))

        posted : c ≡ Data → (y : OpId) → mate plans costs q x ≡ Some y → has_happened Post y p ≡ true
        posted e y m =
            let s = (allowed_data plans eager (plain q) x (of_class Data e)).0 in
            let met = met_of_send plans costs apart q part_q.each x y s m in
            let bound = data_bound q part_q.each part_q.rises x y s met in
            let is = when Data e in
            ⊎_elim (λ f. own Post y f met.posted) (λ ne. let l = (message_to_other_rank_takes_time y x s met.fit (λ f. ne (sym f))).2 in sooner Post y met.posted (omega (arith, bound, is, l, le))) (cases_eq y.rank x.rank)

        -- the message of a receive that is served
        ready_of : c ≡ Serve → (m : OpId) → mate plans costs q x ≡ Some m → IsReceive plans x × ((eager m ≡ true) ⊎ (has_happened Data m q ≡ true))
        ready_of e m is =
            let ok = allowed_serve plans eager (plain q) x (of_class Serve e) in
            (ok.0, or_cases (eager m) (has_happened Data m q) (sym (ap (is_served plans eager (plain q)) is) ∙ ok.1))

        -- it is served no sooner than it has arrived
        arrive_bound : (m : OpId) → IsSend plans m → IsReceive plans x → Met plans costs q m x → mate plans costs q x ≡ Some m → (eager m ≡ true) ⊎ (has_happened Data m q ≡ true) → time_happened Arrive m q ≤ time plans costs q Serve x
        arrive_bound m s r met e told = go (eager m) refl (serve_bound q part_q.each part_q.rises x m r met e)
          where
            go : (b : Bool) → eager m ≡ b → (if b then paired_at plans costs q x else since (happened Data m) q + flight plans costs m) ≤ time plans costs q Serve x → time_happened Arrive m q ≤ time plans costs q Serve x
            go true f bound =
                let paired = (paired_later plans costs apart q part_q.each part_q.rises m x met).1 in omega (arith, paired, bound)
            go false f bound =
                ⊎_elim (λ u. absurd (both_ways _ f u)) (λ there. let l = data_not_before_arrive q part_q.each part_q.rises m s there in omega (arith, l, bound)) told

        arrived : c ≡ Serve → (m : OpId) → mate plans costs q x ≡ Some m → has_happened Arrive m p ≡ true
        arrived e m is =
            let told = ready_of e m is in
            let met = met_of_receive plans costs apart q m x told.0 is in
            let s = fits_send plans x m met.fit in
            let bound = arrive_bound m s told.0 met is told.1 in
            let now = when Serve e in
            ⊎_elim (λ f. own Arrive m f met.arrived) (λ ne. ⊎_elim (λ less. sooner Arrive m met.arrived less) (λ over. ⊎_elim (λ there. there) (λ none. absurd (late m e s met.fit ne met.arrived (omega (arith, bound, now, le, over)) (omega (arith, bound, now, le, over)) none)) (cases_Bool (has_happened Arrive m p))) (cases_lt (time_happened Arrive m q) n)) (cases_eq m.rank x.rank)

        handed : c ≡ Serve → (m : OpId) → mate plans costs q x ≡ Some m → has_happened Data m q ≡ true → has_happened Data m p ≡ true
        handed e m is there =
            let told = ready_of e m is in
            let met = met_of_receive plans costs apart q m x told.0 is in
            let s = fits_send plans x m met.fit in
            let large = data_is_not_eager q part_q.each m there in
            let bound : since (happened Data m) q + flight plans costs m ≤ time plans costs q Serve x = subst (λ (b : Bool). (if b then paired_at plans costs q x else since (happened Data m) q + flight plans costs m) ≤ time plans costs q Serve x) large (serve_bound q part_q.each part_q.rises x m told.0 met is) in
            let now = when Serve e in
            ⊎_elim (λ f. own Data m f there) (λ ne. let l = (message_to_other_rank_takes_time x m s met.fit ne).0 in sooner Data m there (omega (arith, bound, now, l, le))) (cases_eq m.rank x.rank)

    module _ (run : IsCompleteRun plans costs h) (rises_h : Rises h) where
      whole_part : Part h
      whole_part = record { each = each_h; rises = rises_h; below = λ r. whole }

      each_tail : (u v : List Timed) → IsTail u v → Each plans costs v → Each plans costs u
      each_tail u v whole each = each
      each_tail u (b ∷ v) (newer t) each = each_tail u v t each.0

      run_tail : (u v : List Timed) → IsTail u v → IsRun plans costs v → IsRun plans costs u
      run_tail u v whole r = r
      run_tail u (b ∷ v) (newer t) r = run_tail u v t r.0

      tail_part : (u : List Timed) → IsTail u h → Part u
      tail_part u t = record {
        each = each_tail u h t each_h;
        rises = rises_tail u h t rises_h;
        below = tail_below u h t;
      }

      -- what is before the next action of a part
      older_tail : (a : Timed) (p : List Timed) → IsTail (a ∷ p) h → Older p a.time
      older_tail a p t c y there less =
          ⊎_elim (λ e. e) (λ f. let le = time_happened_at_least c y a p h t rises_h there f in absurd (omega (arith, le, less))) (cases_Bool (has_happened c y p))

      next_tail : (a : Timed) (p : List Timed) → IsTail (a ∷ p) h → IsNext plans costs p a
      next_tail a p t = (run_tail (a ∷ p) h t run.run).1

      -- in a history above q, all has happened that an action possible after q needs of other ranks
      crosses_up : (p q : List Timed) (part_p : Part p) (part_q : Part q) → Below q p → (x : OpId) (same : on_rank x.rank p ≡ on_rank x.rank q) (c : Class) (t : ℕ) → Possible plans costs q (record { time = t; class = c; op = x }) → Crosses plans costs apart h each_h p q part_p part_q x same c
      crosses_up p q part_p part_q below x same c t possible = record {
        posted = λ e y m. let s = (allowed_data plans eager (plain q) x (subst (λ (b : Class). allowed plans eager (plain q) b x ≡ true) e possible.allowed)).0 in has_happened_below Post y q p below (met_of_send plans costs apart q part_q.each x y s m).posted;
        arrived = λ e m is. let r = (allowed_serve plans eager (plain q) x (subst (λ (b : Class). allowed plans eager (plain q) b x ≡ true) e possible.allowed)).0 in has_happened_below Arrive m q p below (met_of_receive plans costs apart q m x r is).arrived;
        handed = λ e m is there. has_happened_below Data m q p below there;
      }

      moved_up : (p q : List Timed) → Part p → Part q → Below q p → (a : Timed) → on_rank a.op.rank p ≡ on_rank a.op.rank q → Possible plans costs q a → Possible plans costs p a
      moved_up p q part_p part_q below a same possible =
          moved plans costs apart h each_h p q part_p part_q a.op same a.class a.time (crosses_up p q part_p part_q below a.op same a.class a.time possible) possible

      -- one step of a run in which ties are broken otherwise
      module _ (to : ℕ → ℕ) (q : List Timed) (part_q : Part q) (b : Timed) (next : IsNextBy to plans costs q b) where
        time_least : (e : Timed) → Possible plans costs q e → b.time ≤ e.time
        time_least e p =
            ⊎_elim (λ less. absurd (next.least e p (inl less))) (λ le. le) (cases_lt e.time b.time)

        place_least : (e : Timed) → Possible plans costs q e → e.time ≡ b.time → place b.class ≤ place e.class
        place_least e p t =
            ⊎_elim (λ less. absurd (next.least e p (inr (t, inl less)))) (λ le. le) (cases_lt (place e.class) (place b.class))

        op_least : (e : Timed) → Possible plans costs q e → e.time ≡ b.time → place e.class ≡ place b.class → e.op.rank ≡ b.op.rank → b.op.op ≤ e.op.op
        op_least e p t c r =
            ⊎_elim (λ less. absurd (next.least e p (inr (t, inr (c, inr (ap to r, inl less)))))) (λ le. le) (cases_lt e.op.op b.op.op)

        -- the run is not over for its rank
        none_gone : on_rank b.op.rank h ≡ on_rank b.op.rank q → ⊥
        none_gone e =
            run.finished b (moved_up h q whole_part part_q part_q.below b e next.possible)

        -- the oldest action that is not in q, and the next one of the rank of b
        module _ (f : Timed) (u : List Timed) (tail_f : IsTail (f ∷ u) h) (below_f : Below u q) (same_f : on_rank f.op.rank u ≡ on_rank f.op.rank q) (a : Timed) (p : List Timed) (tail_a : IsTail (a ∷ p) h) (rank_a : a.op.rank ≡ b.op.rank) (same_a : on_rank b.op.rank p ≡ on_rank b.op.rank q) where
          part_f : Part u
          part_f = tail_part u (tail_of_tail u (f ∷ u) h (newer whole) tail_f)

          part_a : Part p
          part_a = tail_part p (tail_of_tail p (a ∷ p) h (newer whole) tail_a)

          older_q : Older q f.time
          older_q c y there less = has_happened_below c y u q below_f (older_tail f u tail_f c y there less)

          not_after_f : b.time ≤ f.time
          not_after_f =
              time_least f (moved_up q u part_q part_f below_f f (sym same_f) (next_tail f u tail_f).possible)

          -- a does not come before f
          not_before_f : f.time ≤ a.time
          not_before_f = ⊎_elim before after (cases_lt (length (a ∷ p)) (length (f ∷ u)))
            where
              inner : IsTail (a ∷ p) u → ⊥
              inner t =
                  let one = tail_length (on_rank b.op.rank (a ∷ p)) (on_rank b.op.rank u) (rank_tail b.op.rank (a ∷ p) u t) in
                  let two = tail_length (on_rank b.op.rank u) (on_rank b.op.rank q) (below_f b.op.rank) in
                  let size = ap length (on_rank_of_own_action b.op.rank a p rank_a) in
                  let same = ap length same_a in
                  omega (arith, one, two, size, same)

              before : length (a ∷ p) < length (f ∷ u) → f.time ≤ a.time
              before less =
                  absurd (inner (inner_tail (a ∷ p) f u (shorter_tail (a ∷ p) (f ∷ u) h tail_a tail_f (omega (arith, less))) less))

              after : length (f ∷ u) ≤ length (a ∷ p) → f.time ≤ a.time
              after le =
                  newest_tail (f ∷ u) (a ∷ p) (shorter_tail (f ∷ u) (a ∷ p) h tail_f tail_a le) (rises_tail (a ∷ p) h tail_a rises_h)

          next_a : IsNext plans costs p a
          next_a = next_tail a p tail_a

          same_back : on_rank a.op.rank q ≡ on_rank a.op.rank p
          same_back = subst (λ (r : ℕ). on_rank r q ≡ on_rank r p) (sym rank_a) (sym same_a)

          -- an arrival needs nothing of other ranks
          arrive_crosses : a.class ≡ Arrive → Crosses plans costs apart h each_h q p part_q part_a a.op same_back a.class
          arrive_crosses is = record {
            posted = λ e y m. absurd (arrive_is_not_data (sym is ∙ e));
            arrived = λ e m n. absurd (arrive_is_not_serve (sym is ∙ e));
            handed = λ e m n t. absurd (arrive_is_not_serve (sym is ∙ e));
          }

          serve_place : (c : Class) → c ≡ Serve → place c ≡ 1
          serve_place c e = ap place e

          late_in_p : (m : OpId) → b.class ≡ Serve → IsSend plans m → fits plans b.op m ≡ true → (m.rank ≡ b.op.rank → ⊥) → has_happened Arrive m q ≡ true → time_happened Arrive m q ≡ a.time → b.time ≡ a.time → has_happened Arrive m p ≡ false → ⊥
          late_in_p m is s fit ne there when same_time fresh =
              let e : Timed = record { time = time_happened Arrive m q; class = Arrive; op = m } in
              let possible = arrival p q a.time part_a part_q (older_tail a p tail_a) b.op m s fit ne there (omega (arith, when)) fresh in
              let low : place a.class ≤ 0 = ⊎_elim (λ less. absurd (next_a.least e possible (inr (when, inl less)))) (λ le. le) (cases_lt 0 (place a.class)) in
              let class_a = place_injective a.class Arrive (omega (arith, low)) in
              let possible_a = moved plans costs apart h each_h q p part_q part_a a.op same_back a.class a.time (arrive_crosses class_a) next_a.possible in
              let least = place_least a possible_a (sym same_time) in
              let one = serve_place b.class is in
              omega (arith, least, low, one)

          possible_b : Possible plans costs p b
          possible_b =
              moved plans costs apart h each_h p q part_a part_q b.op same_a b.class b.time (crosses_by p q a.time part_a part_q b.op same_a b.class b.time (older_tail a p tail_a) (omega (arith, not_after_f, not_before_f)) next.possible late_in_p) next.possible

          same_time : a.time ≡ b.time
          same_time =
              let le : a.time ≤ b.time = ⊎_elim (λ less. absurd (next_a.least b possible_b (inl less))) (λ l. l) (cases_lt b.time a.time) in
              omega (arith, le, not_after_f, not_before_f)

          place_a : place a.class ≤ place b.class
          place_a =
              ⊎_elim (λ less. absurd (next_a.least b possible_b (inr (sym same_time, inl less)))) (λ le. le) (cases_lt (place b.class) (place a.class))

          late_in_q : (m : OpId) → a.class ≡ Serve → IsSend plans m → fits plans a.op m ≡ true → (m.rank ≡ a.op.rank → ⊥) → has_happened Arrive m p ≡ true → time_happened Arrive m p ≡ f.time → a.time ≡ f.time → has_happened Arrive m q ≡ false → ⊥
          late_in_q m is s fit ne there when at_once fresh =
              let e : Timed = record { time = time_happened Arrive m p; class = Arrive; op = m } in
              let possible = arrival q p f.time part_q part_a older_q a.op m s fit ne there (omega (arith, when)) fresh in
              let least = place_least e possible (when ∙ (sym at_once ∙ same_time)) in
              let one = serve_place a.class is in
              omega (arith, least, place_a, one)

          possible_a : Possible plans costs q a
          possible_a =
              moved plans costs apart h each_h q p part_q part_a a.op same_back a.class a.time (crosses_by q p f.time part_q part_a a.op same_back a.class a.time older_q (omega (arith, same_time, not_after_f)) next_a.possible late_in_q) next_a.possible

          same_class : place a.class ≡ place b.class
          same_class = let le = place_least a possible_a same_time in omega (arith, le, place_a)

          same_number : a.op.op ≡ b.op.op
          same_number =
              let le = op_least a possible_a same_time same_class rank_a in
              let ge : a.op.op ≤ b.op.op = ⊎_elim (λ less. absurd (next_a.least b possible_b (inr (sym same_time, inr (sym same_class, inr (sym rank_a, inl less)))))) (λ l. l) (cases_lt b.op.op a.op.op) in
              omega (arith, le, ge)

          -- so they are one action
          same_action : a ≡ b
          same_action =
              let class = place_injective a.class b.class same_class in
              λ i. record { time = same_time i; class = class i; op = record { rank = rank_a i; op = same_number i } }

          below_next : Below (b ∷ q) h
          below_next r =
              ⊎_elim (λ e. subst (λ (s : ℕ). IsTail (on_rank s (b ∷ q)) (on_rank s h)) e here) (λ ne. subst (λ (l : List Timed). IsTail l (on_rank r h)) (sym (on_rank_of_other_action r b q ne)) (part_q.below r)) (cases_eq b.op.rank r)
            where
              here : IsTail (on_rank b.op.rank (b ∷ q)) (on_rank b.op.rank h)
              here =
                  subst (λ (l : List Timed). IsTail l (on_rank b.op.rank h)) (on_rank_of_own_action b.op.rank a p rank_a ∙ ((λ i. same_action i ∷ same_a i) ∙ sym (on_rank_of_own_action b.op.rank b q refl))) (rank_tail b.op.rank (a ∷ p) h tail_a)

        step : Below (b ∷ q) h
        step = ⊎_elim over found (find_frontier h q part_q.below h whole)
          where
            over : Below h q → Below (b ∷ q) h
            over below = absurd (none_gone (below_each_other_same_on_rank h q below part_q.below b.op.rank))

            found : Frontier h q → Below (b ∷ q) h
            found n =
                ⊎_elim (λ e. absurd (none_gone (sym e))) (λ m. below_next n.0 n.1 n.2 n.3 n.4 m.0 m.1 m.2 m.3 m.4) (next_of_rank b.op.rank (on_rank b.op.rank q) h (part_q.below b.op.rank))

      -- each such run is a part of the run
      pub run_part : (to : ℕ → ℕ) (k : List Timed) → Rises k → IsRunBy to plans costs k → Part k
      run_part to [] rises r = record { each = tt; rises = tt; below = λ s. empty_tail (on_rank s h) }
      run_part to (b ∷ q) rises r =
          let part = run_part to q rises.0 r.0 in
          record {
            each = (part.each, r.1.possible);
            rises = rises;
            below = step to q part b r.1;
          }

      -- it is the whole run if it is complete
      pub same_actions : (to : ℕ → ℕ) (k : List Timed) → Rises k → IsCompleteRunBy to plans costs k → (r : ℕ) → on_rank r h ≡ on_rank r k
      same_actions to k rises c = below_each_other_same_on_rank h k under (run_part to k rises c.run).below
        where
          part : Part k
          part = run_part to k rises c.run

          under : Below h k
          under = ⊎_elim (λ below. below) (λ n. absurd (left n)) (find_frontier h k part.below h whole)
            where
              left : Frontier h k → ⊥
              left n =
                  c.finished n.0 (moved_up k n.1 part (tail_part n.1 (tail_of_tail n.1 (n.0 ∷ n.1) h (newer whole) n.2)) n.3 n.0 (sym n.4) (next_tail n.0 n.1 n.2).possible)

      module _ (to : ℕ → ℕ) (k : List Timed) (rises : Rises k) (c : IsCompleteRunBy to plans costs k) where
        alike : (r : ℕ) → on_rank r h ≡ on_rank r k
        alike = same_actions to k rises c

        since_same : (d : Class) (x : OpId) → time_happened d x h ≡ time_happened d x k
        since_same d x =
            ⊎_elim (λ t. time_happened_alike d x h k (alike x.rank) t) (λ f. time_of_not_happened_is_zero d x h f ∙ sym (time_of_not_happened_is_zero d x k (sym (has_happened_alike d x h k (alike x.rank)) ∙ f))) (cases_Bool (has_happened d x h))

        under : Below h k
        under r = subst (λ (l : List Timed). IsTail (on_rank r h) l) (alike r) whole

        mate_same : (x : OpId) → IsReceive plans x → mate plans costs k x ≡ mate plans costs h x
        mate_same x r = go (mate plans costs k x) (mate plans costs h x) refl refl
          where
            part : Part k
            part = run_part to k rises c.run

            go : (o p : Option OpId) → mate plans costs k x ≡ o → mate plans costs h x ≡ p → o ≡ p
            go None None e f = refl
            go (Some m) p e f =
                sym (mates plans costs apart h each_h m x (met_below plans costs k h part.below m x (met_of_receive plans costs apart k m x r e))).1 ∙ f
            go None (Some m) e f =
                sym e ∙ (mates plans costs apart k part.each m x (met_below plans costs h k under m x (met_of_receive plans costs apart h m x r f))).1

        pub start_same : (x : OpId) → start plans costs k x ≡ start plans costs h x
        start_same x = sym (since_same (first_class (kind_at plans x)) x)

        pub end_same : (x : OpId) → end plans costs k x ≡ end plans costs h x
        end_same x =
            let d : Class = last_class (eager x) (kind_at plans x) in
            let hold = (hold_with_same_mate plans costs apart h each_h k d x (kind_at plans x) refl (λ e r. mate_same x r)).0 in
            λ i. sym (since_same d x) i + hold i
