-- What an action of the walk newly allows: actions of its own operation, of its partner where it moves that, and of those that
-- wait for it.
use Rattle.std.proofs.Common.{⊎_elim, ◌≡◌, ◌==◌, ◌⊎◌, ◌+◌, ◌<◌, ◌≤◌, ℕ, zero, suc, Bool, true, false, cond, List, [], ◌∷◌, Contains, length, drop, get_or, filter, map, Option, Some, None, inl, inr, refl, sym, ap, ◌∙◌, subst, arith, eq-eqb}
use Rattle.std.proofs.lemmas.Bool.{cases_Bool, both_ways, eqb-true}
use Rattle.std.proofs.lemmas.Option.{same_Some}
use Rattle.goal_graph.specs.declared.action.OpId.{OpId}
use Rattle.goal_graph.specs.declared.action.Class.{Class}
use Rattle.goal_graph.specs.declared.action.Class.TheVariants.{Arrive, Serve, Data, Post, Begin}
use Rattle.goal_graph.specs.declared.plan.Dep.{Dep}
use Rattle.goal_graph.specs.declared.plan.Kind.{Kind}
use Rattle.goal_graph.specs.declared.plan.Kind.TheVariants.{Calc, Send, Recv}
use Rattle.goal_graph.specs.declared.plan.Need.{Need}
use Rattle.goal_graph.specs.declared.plan.When.{When}
use Rattle.goal_graph.specs.declared.plan.When.TheVariants.{AfterEnd, AfterStart}
use Rattle.goal_graph.specs.Schedule.{Plan, kind_at, deps_at, earlier_of, needs, needed, IsSend, IsReceive}
use Rattle.goal_graph.specs.Action.{Act, happened}
use Rattle.goal_graph.specs.Matching.{Pair, new_pair, add_pair, pairs, partner, is_paired}
use Rattle.goal_graph.specs.Allowed.{is_met, is_ready, is_served, may, allowed}
use Rattle.goal_graph.specs.Interleaving.{IsInterleaving}
use Rattle.goal_graph.specs.Concerned.{later_of, waiting_on}
use Rattle.goal_graph.proofs.ForCallers.{act_of, contains_first, contains_more, not_happened_before_newest, happened_cases, is_act_class, is_act_op, value_of_is_some, partner_stays, allowed_fresh, allowed_from, allowed_may, fits_receive, not_send_receive, data_paired, IsListed, listed_partners, new_pair_is_of_action, newly_paired, partners_mutual, ready_need, unready_need, unread_after_next, nothing_after_end}
use Rattle.goal_blocks.specs.Walk.{no_send}
use Rattle.goal_certify.specs.WalkQueue.{class_at, moves_partner, IsNamedAt, WaitsAt, IsMoved}

abbrev is_later : ℕ → Dep → Bool
is_later op p = p.later == op

abbrev is_earlier : ℕ → Dep → Bool
is_earlier op p = p.earlier == op

-- one of the needs names that operation, and waits for its start or its end, as given
abbrev IsListedAt : List Need → ℕ → When → Type 0
IsListedAt ws op when = (w : Need) × Contains ws w × (w.op ≡ op) × (w.when ≡ when)

one_before : (v : Need) (ws : List Need) (op : ℕ) (when : When) → IsListedAt ws op when → IsListedAt (v ∷ ws) op when
one_before v ws op when n = (n.0, contains_more v ws n.0 n.1, n.2, n.3)

-- a dependency is listed at its earlier side as at its later side
listed_at_earlier_side : (ds : List Dep) (later earlier : ℕ) (d : Need) → Contains (map earlier_of (filter (is_later later) ds)) d → d.op ≡ earlier → IsListedAt (map later_of (filter (is_earlier earlier) ds)) later d.when
listed_at_earlier_side [] later earlier d c e = absurd (omega (arith, c.1))
listed_at_earlier_side (p ∷ ds) later earlier d c e =
    go (λ q. listed_at_earlier_side ds later earlier d q e) (is_later later p) refl (is_earlier earlier p) refl c
  where
    go : (Contains (map earlier_of (filter (is_later later) ds)) d → IsListedAt (map later_of (filter (is_earlier earlier) ds)) later d.when) → (s : Bool) → is_later later p ≡ s → (b : Bool) → is_earlier earlier p ≡ b → Contains (map earlier_of (cond s (p ∷ filter (is_later later) ds) (filter (is_later later) ds))) d → IsListedAt (map later_of (cond b (p ∷ filter (is_earlier earlier) ds) (filter (is_earlier earlier) ds))) later d.when
    go more false l false f q = more q
    go more false l true f q = one_before (later_of p) _ later d.when (more q)
    go more true l true f (zero, k, g) =
        (later_of p, contains_first (later_of p) _ (later_of p) refl, eqb-true p.later later l, ap (λ (n : Need). n.when) g)
    go more true l false f (zero, k, g) =
        absurd (both_ways _ f (eq-eqb p.earlier earlier (ap (λ (n : Need). n.op) g ∙ e)))
    go more true l true f (suc n, k, g) = one_before (later_of p) _ later d.when (more (n, omega (arith, k), g))
    go more true l false f (suc n, k, g) = more (n, omega (arith, k), g)

-- x waits for the start or end of each operation that it needs
waits_at : (plans : List Plan) (x y : OpId) (d : Need) (class : Class) → Contains (needs plans x) d → y ≡ needed x d → class_at d.when (kind_at plans y) ≡ class → WaitsAt plans class y x
unfolding needs waiting_on
waits_at plans x y d class c e at =
    let found = listed_at_earlier_side (deps_at plans x.rank) x.op d.op d c refl in
    let same : x.op ≡ found.0.op = sym found.2 in
    let reached : class_at found.0.when (kind_at plans (needed x d)) ≡ class = ap (λ (w : When). class_at w (kind_at plans (needed x d))) found.3 ∙ ap (λ (z : OpId). class_at d.when (kind_at plans z)) (sym e) ∙ at in
    let waits : WaitsAt plans class (needed x d) x = record { need = found.0; listed = found.1; named = λ i. record { rank = x.rank; op = same i }; at = reached } in
    subst (λ (z : OpId). WaitsAt plans class z x) (sym e) waits

module _ (plans : List Plan) (a : Act) (h : List Act) (now : IsInterleaving plans no_send (a ∷ h)) where
  abbrev MayMove : OpId → Type 0
  MayMove y = IsMoved plans (a ∷ h) a.class a.op y

  -- what has newly happened is this action
  abbrev IsNow : Class → OpId → Type 0
  IsNow c y = (a.class ≡ c) × (a.op ≡ y)

  newly_happened : (c : Class) (y : OpId) → happened c y h ≡ false → happened c y (a ∷ h) ≡ true → IsNow c y
  newly_happened c y e f =
      elim (happened_cases c y a h f) [ inl was ↦ absurd (both_ways _ e was) | inr new ↦ (is_act_class c y a new, is_act_op c y a new) ]

  newly_met : (w : When) (y : OpId) → is_met plans no_send h w y ≡ false → is_met plans no_send (a ∷ h) w y ≡ true → IsNow (class_at w (kind_at plans y)) y
  newly_met AfterEnd y e f = newly_happened (class_at AfterEnd (kind_at plans y)) y e f
  newly_met AfterStart y e f = newly_happened (class_at AfterStart (kind_at plans y)) y e f

  newly_ready : (x : OpId) → is_ready plans no_send (a ∷ h) x ≡ true → (is_ready plans no_send h x ≡ true) ⊎ MayMove x
  newly_ready x e = go (cases_Bool (is_ready plans no_send h x))
    where
      go : (is_ready plans no_send h x ≡ true) ⊎ (is_ready plans no_send h x ≡ false) → (is_ready plans no_send h x ≡ true) ⊎ MayMove x
      go (inl t) = inl t
      go (inr f) =
          let d = unready_need plans no_send h x f in
          let met = newly_met d.0.when (needed x d.0) d.2 (ready_need plans no_send (a ∷ h) x d.0 e d.1) in
          inr (inr (inr (waits_at plans x a.op d.0 a.class d.1 met.1 (ap (λ (z : OpId). class_at d.0.when (kind_at plans z)) met.1 ∙ sym met.0))))

  listed_new : (p : Pair) → new_pair plans (pairs plans h) h a.class a.op ≡ Some p → IsListed p (pairs plans (a ∷ h))
  unfolding pairs
  listed_new p e = subst (λ (o : Option Pair). IsListed p (add_pair (pairs plans h) o)) (sym e) (inl refl)

  -- a send that is newly paired arrives now, or the receive that is posted is its partner
  newly_partner : (x : OpId) → IsSend plans x → is_paired (pairs plans h) x ≡ false → is_paired (pairs plans (a ∷ h)) x ≡ true → MayMove x
  newly_partner x is free taken =
      let p = newly_paired plans a h x free taken in
      let both = listed_partners plans no_send (a ∷ h) p.0 now (listed_new p.0 p.1) in
      let new = new_pair_is_of_action plans a h p.0 p.1 in
      go p.0 new.by (λ r. not_send_receive plans x is (subst (λ (y : OpId). IsReceive plans y) r (fits_receive plans p.0.recv p.0.send new.met.fit))) both p.2
    where
      go : (p : Pair) → ((a ≡ act_of Arrive p.send) × (is_paired (pairs plans h) p.recv ≡ false)) ⊎ ((a ≡ act_of Post p.recv) × (is_paired (pairs plans h) p.send ≡ false)) → (p.recv ≡ x → ⊥) → (partner (pairs plans (a ∷ h)) p.send ≡ Some p.recv) × (partner (pairs plans (a ∷ h)) p.recv ≡ Some p.send) → ((p.send ≡ x) ⊎ (p.recv ≡ x)) → MayMove x
      go p (inl (e, f)) apart both (inl s) = inl (sym s ∙ sym (ap (λ (b : Act). b.op) e))
      go p (inr (e, f)) apart both (inl s) =
          inr (inl (ap (λ (b : Act). moves_partner b.class) e, ap (λ (b : Act). partner (pairs plans (a ∷ h)) b.op) e ∙ both.1 ∙ ap Some s))
      go p by apart both (inr r) = absurd (apart r)

  newly_served : (x : OpId) → is_served plans no_send (a ∷ h) (partner (pairs plans (a ∷ h)) x) ≡ true → (is_served plans no_send h (partner (pairs plans h) x) ≡ true) ⊎ MayMove x
  newly_served x e = go (partner (pairs plans (a ∷ h)) x) refl e
    where
      -- its send had transferred its data before, so the two were paired
      before : (m : OpId) → partner (pairs plans (a ∷ h)) x ≡ Some m → happened Data m h ≡ true → is_served plans no_send h (partner (pairs plans h) x) ≡ true
      before m f was =
          let y = value_of_is_some (partner (pairs plans h) m) (data_paired plans no_send h m now.0 was) in
          let back = partners_mutual plans no_send (a ∷ h) x m now f in
          let same : y.0 ≡ x = same_Some y.0 x (sym (partner_stays plans a h m y.0 y.1) ∙ back) in
          let there = partners_mutual plans no_send h m x now.0 (y.1 ∙ ap Some same) in
          subst (λ (o : Option OpId). is_served plans no_send h o ≡ true) (sym there) was

      go : (n : Option OpId) → partner (pairs plans (a ∷ h)) x ≡ n → is_served plans no_send (a ∷ h) n ≡ true → (is_served plans no_send h (partner (pairs plans h) x) ≡ true) ⊎ MayMove x
      go None r t = absurd (both_ways false refl t)
      go (Some m) r t =
          elim (happened_cases Data m a h t) [ inl was ↦ inl (before m r was) | inr new ↦ inr (inr (inl (ap moves_partner (is_act_class Data m a new), ap (partner (pairs plans (a ∷ h))) (is_act_op Data m a new) ∙ partners_mutual plans no_send (a ∷ h) x m now r))) ]

  newly_may : (c : Class) (x : OpId) (k : Option Kind) → kind_at plans x ≡ k → may plans no_send (a ∷ h) c x k ≡ true → (may plans no_send h c x k ≡ true) ⊎ MayMove x
  newly_may Begin x (Some (Calc nanos)) is e = newly_ready x e
  newly_may Begin x (Some (Send bytes to tag)) is e = newly_ready x e
  newly_may Post x (Some (Recv room from tag)) is e = newly_ready x e
  newly_may Arrive x (Some (Send bytes to tag)) is e =
      elim (cases_Bool (happened Begin x h)) [ inl t ↦ inl t | inr f ↦ inr (inl (sym (newly_happened Begin x f e).1)) ]
  newly_may Data x (Some (Send bytes to tag)) is e =
      elim (cases_Bool (is_paired (pairs plans h) x)) [ inl t ↦ inl t | inr f ↦ inr (newly_partner x (record { bytes = bytes; to = to; tag = tag; kind = is }) f e) ]
  newly_may Serve x (Some (Recv room from tag)) is e = newly_served x e
  newly_may _ x _ is e = absurd (both_ways false refl e)

  -- an action that a newly allows is one of an operation that it moves
  pub newly_moved : (c : Class) (x : OpId) → allowed plans no_send (a ∷ h) c x ≡ true → (allowed plans no_send h c x ≡ true) ⊎ MayMove x
  newly_moved c x e =
      let before = not_happened_before_newest c x a h (allowed_fresh plans no_send (a ∷ h) c x e) in
      ⊎_elim (λ m. inl (allowed_from plans no_send h c x before m)) (λ m. inr m) (newly_may c x (kind_at plans x) refl (allowed_may plans no_send (a ∷ h) c x e))

-- the needs that are not yet read, where this one was read or does not wait for the action
pub named_at_after_next_need : (plans : List Plan) (items : List Need) (k : ℕ) (d : Need) (class : Class) (x y : OpId) → k < length items → IsNamedAt plans (drop k items) class x y → (class_at (get_or items k d).when (kind_at plans x) ≡ class → ¬ (y ≡ needed x (get_or items k d))) → IsNamedAt plans (drop (k + 1) items) class x y
named_at_after_next_need plans items k d class x y l n differ = record {
  need = n.need;
  listed = unread_after_next items k d n.need l n.listed (λ e. differ (ap (λ (m : Need). class_at m.when (kind_at plans x)) (sym e) ∙ n.at) (n.named ∙ ap (needed x) e));
  named = n.named;
  at = n.at;
}

pub none_named_past_end : (plans : List Plan) (items : List Need) (k : ℕ) (class : Class) (x y : OpId) → length items ≤ k → IsNamedAt plans (drop k items) class x y → ⊥
none_named_past_end plans items k class x y l n = nothing_after_end items k n.need l n.listed
