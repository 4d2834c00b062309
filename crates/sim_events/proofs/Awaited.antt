-- What an action newly allows: actions of its own operation, of its partner, and of those that wait for a moment that it
-- gives.
use Rattle.std.proofs.Common.{⊎_elim, ◌≡◌, ◌==◌, ◌||◌, ◌⊎◌, ◌+◌, ◌<◌, ◌≤◌, ℕ, zero, suc, Bool, true, false, cond, List, [], ◌∷◌, Contains, length, drop, get_or, filter, map, Option, Some, None, inl, inr, is_some, refl, sym, ap, ◌∙◌, subst, arith, eq-eqb}
use Rattle.std.proofs.lemmas.Bool.{and_parts, and_from, or_cases, or_left, or_right, cases_Bool, both_ways, eqb-true}
use Rattle.goal_graph.specs.declared.action.OpId.{OpId}
use Rattle.goal_graph.specs.declared.action.Class.{Class}
use Rattle.goal_graph.specs.declared.action.Class.TheVariants.{Arrive, Serve, Data, Post, Begin}
use Rattle.goal_graph.specs.declared.plan.Dep.{Dep}
use Rattle.goal_graph.specs.declared.plan.Kind.{Kind}
use Rattle.goal_graph.specs.declared.plan.Kind.TheVariants.{Calc, Send, Recv}
use Rattle.goal_graph.specs.declared.plan.Need.{Need}
use Rattle.goal_graph.specs.declared.plan.When.{When}
use Rattle.goal_graph.specs.declared.plan.When.TheVariants.{AfterEnd, AfterStart}
use Rattle.goal_graph.specs.Schedule.{Plan, kind_at, deps_at, earlier_of, needs, needed}
use Rattle.goal_graph.specs.Concerned.{later_of, waiting_on}
use Rattle.goal_graph.specs.Action.{Act, happened}
use Rattle.goal_graph.specs.Matching.{Pair, new_pair, add_pair, pairs, partner, is_paired}
use Rattle.goal_graph.specs.Allowed.{first_class, last_class, is_met, is_ready, is_served, may, allowed}
use Rattle.goal_graph.specs.Interleaving.{IsInterleaving}
use Rattle.goal_graph.proofs.ForCallers.{contains_first, contains_more, act_of, not_happened_before_newest, happened_cases, is_act_class, is_act_op, is_some_from, partner_stays, allowed_fresh, allowed_from, allowed_may, IsListed, listed_partners, new_pair_is_of_action, newly_paired, partners_mutual, ready_need, unready_need, unread_after_next, nothing_after_end}
use Rattle.sim_events.specs.Queue.{IsAwaiting, Awaits}
use Rattle.sim_state.specs.Awaited.{gives}
use Rattle.sim_state.proofs.ForCallers.{first_gives, last_gives}

abbrev is_later : ℕ → Dep → Bool
is_later op p = p.later == op

abbrev is_earlier : ℕ → Dep → Bool
is_earlier op p = p.earlier == op

-- a dependency is listed at its earlier side as at its later side, for the same moment
listed_on_both_sides : (ds : List Dep) (later : ℕ) (d : Need) → Contains (map earlier_of (filter (is_later later) ds)) d → Contains (map later_of (filter (is_earlier d.op) ds)) (record { op = later; when = d.when })
listed_on_both_sides [] later d c = absurd (omega (arith, c.1))
listed_on_both_sides (p ∷ ds) later d c =
    go (λ q. listed_on_both_sides ds later d q) (is_later later p) refl (is_earlier d.op p) refl c
  where
    go : (Contains (map earlier_of (filter (is_later later) ds)) d → Contains (map later_of (filter (is_earlier d.op) ds)) (record { op = later; when = d.when })) → (s : Bool) → is_later later p ≡ s → (b : Bool) → is_earlier d.op p ≡ b → Contains (map earlier_of (cond s (p ∷ filter (is_later later) ds) (filter (is_later later) ds))) d → Contains (map later_of (cond b (p ∷ filter (is_earlier d.op) ds) (filter (is_earlier d.op) ds))) (record { op = later; when = d.when })
    go more false l false f q = more q
    go more false l true f q = contains_more (later_of p) _ _ (more q)
    go more true l true f (zero, k, g) =
        let same : p.later ≡ later = eqb-true p.later later l in
        contains_first (later_of p) _ _ (λ i. record { op = same i; when = ap (λ (n : Need). n.when) g i })
    go more true l false f (zero, k, g) = absurd (both_ways _ f (eq-eqb p.earlier d.op (ap (λ (n : Need). n.op) g)))
    go more true l true f (suc n, k, g) = contains_more (later_of p) _ _ (more (n, omega (arith, k), g))
    go more true l false f (suc n, k, g) = more (n, omega (arith, k), g)

-- what x needs, x waits for
need_is_awaited : (plans : List Plan) (class : Class) (x y : OpId) (d : Need) → Contains (needs plans x) d → gives class d.when ≡ true → y ≡ needed x d → Awaits plans class y x
unfolding needs waiting_on
need_is_awaited plans class x y d c given e =
    let awaits : Awaits plans class (needed x d) x = record { need = record { op = x.op; when = d.when }; listed = listed_on_both_sides (deps_at plans x.rank) x.op d c; named = refl; given = given } in
    subst (λ (z : OpId). Awaits plans class z x) (sym e) awaits

-- after h, y is the operation of an action, or its partner, or waits for a moment that the action gives
abbrev pub IsConcerned : List Plan → List Act → Act → OpId → Type 0
IsConcerned plans h a y = (y ≡ a.op) ⊎ ((partner (pairs plans h) a.op ≡ Some y) ⊎ Awaits plans a.class a.op y)

module _ (plans : List Plan) (eager : OpId → Bool) (a : Act) (h : List Act) (now : IsInterleaving plans eager (a ∷ h)) where
  abbrev MayConcern : OpId → Type 0
  MayConcern y = IsConcerned plans (a ∷ h) a y

  newly_happened : (c : Class) (y : OpId) → happened c y h ≡ false → happened c y (a ∷ h) ≡ true → (a.class ≡ c) × (a.op ≡ y)
  newly_happened c y e f =
      elim (happened_cases c y a h f) [ inl was ↦ absurd (both_ways _ e was) | inr new ↦ (is_act_class c y a new, is_act_op c y a new) ]

  newly_met : (w : When) (y : OpId) → is_met plans eager h w y ≡ false → is_met plans eager (a ∷ h) w y ≡ true → (gives a.class w ≡ true) × (a.op ≡ y)
  newly_met AfterEnd y e f =
      let new = newly_happened (last_class (eager y) (kind_at plans y)) y e f in
      (ap (λ (c : Class). gives c AfterEnd) new.0 ∙ last_gives (eager y) (kind_at plans y), new.1)
  newly_met AfterStart y e f =
      let new = newly_happened (first_class (kind_at plans y)) y e f in
      (ap (λ (c : Class). gives c AfterStart) new.0 ∙ first_gives (kind_at plans y), new.1)

  newly_ready : (x : OpId) → is_ready plans eager (a ∷ h) x ≡ true → (is_ready plans eager h x ≡ true) ⊎ MayConcern x
  newly_ready x e = go (cases_Bool (is_ready plans eager h x))
    where
      go : (is_ready plans eager h x ≡ true) ⊎ (is_ready plans eager h x ≡ false) → (is_ready plans eager h x ≡ true) ⊎ MayConcern x
      go (inl t) = inl t
      go (inr f) =
          let d = unready_need plans eager h x f in
          let met = newly_met d.0.when (needed x d.0) d.2 (ready_need plans eager (a ∷ h) x d.0 e d.1) in
          inr (inr (inr (need_is_awaited plans a.class x a.op d.0 d.1 met.0 met.1)))

  new_pair_is_listed : (p : Pair) → new_pair plans (pairs plans h) h a.class a.op ≡ Some p → IsListed p (pairs plans (a ∷ h))
  unfolding pairs
  new_pair_is_listed p e = subst (λ (o : Option Pair). IsListed p (add_pair (pairs plans h) o)) (sym e) (inl refl)

  newly_partner : (x : OpId) → is_paired (pairs plans h) x ≡ false → is_paired (pairs plans (a ∷ h)) x ≡ true → MayConcern x
  newly_partner x free taken =
      let p = newly_paired plans a h x free taken in
      let both = listed_partners plans eager (a ∷ h) p.0 now (new_pair_is_listed p.0 p.1) in
      go p.0 (new_pair_is_of_action plans a h p.0 p.1).by both p.2
    where
      go : (p : Pair) → ((a ≡ act_of Arrive p.send) × (is_paired (pairs plans h) p.recv ≡ false)) ⊎ ((a ≡ act_of Post p.recv) × (is_paired (pairs plans h) p.send ≡ false)) → (partner (pairs plans (a ∷ h)) p.send ≡ Some p.recv) × (partner (pairs plans (a ∷ h)) p.recv ≡ Some p.send) → ((p.send ≡ x) ⊎ (p.recv ≡ x)) → MayConcern x
      go p (inl (e, f)) both (inl s) = inl (sym s ∙ sym (ap (λ (b : Act). b.op) e))
      go p (inl (e, f)) both (inr r) =
          inr (inl (ap (λ (b : Act). partner (pairs plans (a ∷ h)) b.op) e ∙ both.0 ∙ ap Some r))
      go p (inr (e, f)) both (inl s) =
          inr (inl (ap (λ (b : Act). partner (pairs plans (a ∷ h)) b.op) e ∙ both.1 ∙ ap Some s))
      go p (inr (e, f)) both (inr r) = inl (sym r ∙ sym (ap (λ (b : Act). b.op) e))

  newly_served : (x : OpId) → is_served plans eager (a ∷ h) (partner (pairs plans (a ∷ h)) x) ≡ true → (is_served plans eager h (partner (pairs plans h) x) ≡ true) ⊎ MayConcern x
  newly_served x e = go (partner (pairs plans h) x) refl (partner (pairs plans (a ∷ h)) x) refl e
    where
      sent : (m : OpId) → partner (pairs plans (a ∷ h)) x ≡ Some m → (eager m || happened Data m (a ∷ h)) ≡ true → ((eager m || happened Data m h) ≡ true) ⊎ MayConcern x
      sent m f t = elim (or_cases (eager m) (happened Data m (a ∷ h)) t) [ inl s ↦ inl (or_left (eager m) _ s) | inr s ↦ elim (happened_cases Data m a h s) [ inl was ↦ inl (or_right (eager m) _ was) | inr new ↦ inr (inr (inl (ap (partner (pairs plans (a ∷ h))) (is_act_op Data m a new) ∙ partners_mutual plans eager (a ∷ h) x m now f))) ] ]

      go : (o : Option OpId) → partner (pairs plans h) x ≡ o → (n : Option OpId) → partner (pairs plans (a ∷ h)) x ≡ n → is_served plans eager (a ∷ h) n ≡ true → (is_served plans eager h o ≡ true) ⊎ MayConcern x
      go None q None r t = absurd (both_ways false refl t)
      go None q (Some m) r t = inr (newly_partner x (ap is_some q) (is_some_from _ m r))
      go (Some m) q n r t =
          let same : partner (pairs plans (a ∷ h)) x ≡ Some m = partner_stays plans a h x m q in
          sent m same (subst (λ (o : Option OpId). is_served plans eager (a ∷ h) o ≡ true) (sym r ∙ same) t)

  newly_may : (c : Class) (x : OpId) (k : Option Kind) → may plans eager (a ∷ h) c x k ≡ true → (may plans eager h c x k ≡ true) ⊎ MayConcern x
  newly_may Begin x (Some (Calc nanos)) e = newly_ready x e
  newly_may Begin x (Some (Send bytes to tag)) e = newly_ready x e
  newly_may Post x (Some (Recv room from tag)) e = newly_ready x e
  newly_may Arrive x (Some (Send bytes to tag)) e =
      elim (cases_Bool (happened Begin x h)) [ inl t ↦ inl t | inr f ↦ inr (inl (sym (newly_happened Begin x f e).1)) ]
  newly_may Data x (Some (Send bytes to tag)) e =
      let parts = and_parts _ _ e in
      elim (cases_Bool (is_paired (pairs plans h) x)) [ inl t ↦ inl (and_from _ _ parts.0 t) | inr f ↦ inr (newly_partner x f parts.1) ]
  newly_may Serve x (Some (Recv room from tag)) e = newly_served x e
  newly_may _ x _ e = absurd (both_ways false refl e)

  -- an action that a newly allows is one of an operation that it concerns
  pub newly_allowed : (c : Class) (x : OpId) → allowed plans eager (a ∷ h) c x ≡ true → (allowed plans eager h c x ≡ true) ⊎ MayConcern x
  newly_allowed c x e =
      let before = not_happened_before_newest c x a h (allowed_fresh plans eager (a ∷ h) c x e) in
      ⊎_elim (λ m. inl (allowed_from plans eager h c x before m)) (λ m. inr m) (newly_may c x (kind_at plans x) (allowed_may plans eager (a ∷ h) c x e))

-- those of a list of needs that are not yet read
module _ (items : List Need) (k : ℕ) (d : Need) (class : Class) (x y : OpId) where
  pub awaiting_after_next : k < length items → IsAwaiting (drop k items) class x y → ¬ (y ≡ needed x (get_or items k d)) → IsAwaiting (drop (k + 1) items) class x y
  awaiting_after_next l n differ = record {
    need = n.need;
    listed = unread_after_next items k d n.need l n.listed (λ e. differ (n.named ∙ ap (needed x) e));
    named = n.named;
    given = n.given;
  }

  -- nor do those wait for it whose need is of the other moment
  pub awaiting_after_other_moment : k < length items → gives class (get_or items k d).when ≡ false → IsAwaiting (drop k items) class x y → IsAwaiting (drop (k + 1) items) class x y
  awaiting_after_other_moment l other n = record {
    need = n.need;
    listed = unread_after_next items k d n.need l n.listed (λ e. both_ways _ other (ap (λ (m : Need). gives class m.when) (sym e) ∙ n.given));
    named = n.named;
    given = n.given;
  }

  pub none_awaiting_past_end : length items ≤ k → IsAwaiting (drop k items) class x y → ⊥
  none_awaiting_past_end l n = nothing_after_end items k n.need l n.listed
