-- What one more action changes of what is known of an operation.
use Rattle.std.proofs.Common.{◌≡◌, ◌==◌, ◌&&◌, ◌+◌, ℕ, Bool, true, false, not, cond, count_by, List, [], ◌∷◌, Option, Some, None, if◌then◌else◌, is_some, inl, inr, refl, sym, ap, ap₂, ◌∙◌, subst, arith}
use Rattle.std.specs.List.{list_all}
use Rattle.std.specs.Option.{option_map, option_or}
use Rattle.std.proofs.lemmas.Bool.{cond-true, cond-false, and_left, and_right, and_parts, both_ways, false_from_ne_true}
use Rattle.goal_graph.specs.declared.action.OpId.{OpId}
use Rattle.goal_graph.specs.declared.action.Timed.{Timed}
use Rattle.goal_graph.specs.declared.action.Class.{Class}
use Rattle.goal_graph.specs.declared.action.Class.TheVariants.{Arrive, Data, Begin}
use Rattle.goal_graph.specs.declared.plan.Kind.{Kind}
use Rattle.goal_graph.specs.declared.plan.Kind.TheVariants.{Calc, Send, Recv}
use Rattle.goal_graph.specs.Schedule.{Plan, kind_at, needs, IsSend, IsReceive}
use Rattle.goal_graph.specs.Action.{place, same_op, is_act, happened, plain, plain_act}
use Rattle.goal_graph.specs.Matching.{pairs, is_paired}
use Rattle.goal_graph.specs.Allowed.{first_class, last_class, has_started, is_ready, may, allowed}
use Rattle.goal_graph.specs.Interleaving.{IsInterleaving}
use Rattle.goal_graph.specs.Laws.{IsCalc}
use Rattle.goal_graph.proofs.ForCallers.{happened_unless_newest, happened_new, is_act_from, arrived_begun, count-cons, fits_receive, fits_send, is_some_from, allowed_fresh, partners_met, started_receive, started_send, started_stays}
use Rattle.sim_params.specs.Costs.{CostModel, flight, flight_one, is_eager}
use Rattle.sim_params.specs.Times.{mate, cpu_hold, start, paired_at, time_of, time, Possible}
use Rattle.sim_params.specs.Run.{IsRun}
use Rattle.sim_params.proofs.ForCallers.{start_kept, start_at_newest, end_kept, end_last, paired_at_kept, since_kept, since_new, run_is_each_possible, run_interleaving}
use Rattle.sim_state.specs.Engine.{start_known, end_known}
use Rattle.sim_state.specs.Awaited.{is_there, unmet, awaited_known, delivered_known, paired_since}
use Rattle.sim_state.specs.Enabled.{time_known}
use Rattle.sim_state.proofs.Handed.{arriving_none, undelivered, unpaired_unhanded}

-- a number that is known alike
known_alike : (b c : Bool) (m n : ℕ) → c ≡ b → (b ≡ true → n ≡ m) → (if c then Some n else None) ≡ (if b then Some m else None)
known_alike true c m n e same = subst (λ c. (if c then Some n else None) ≡ Some m) (sym e) (ap Some (same refl))
known_alike false c m n e same = subst (λ c. (if c then Some n else None) ≡ None) (sym e) refl

-- where all pass, none fails
none_fails : {A : Type 0} (p : A → Bool) (xs : List A) → list_all p xs ≡ true → count_by (λ (x : A). not (p x)) xs ≡ 0
none_fails p [] e = refl
none_fails {A} p (x ∷ xs) e =
    let both = and_parts (p x) (list_all p xs) e in
    let here = ap {B = ℕ} (λ (b : Bool). cond (not b) 1 0) both.0 in
    let rest = none_fails p xs both.1 in
    omega (arith, rest, here, count-cons (λ (x : A). not (p x)) x xs)

module _ (plans : List Plan) (costs : CostModel) (l : List Timed) (x : OpId) where
  -- an operation that is ready has no unmet needs
  pub none_unmet : is_ready plans (is_eager plans costs) (plain l) x ≡ true → unmet plans costs l x ≡ 0
  unfolding is_ready
  none_unmet e = none_fails (is_there plans costs l x) (needs plans x) e

  -- an operation without a partner has no pairing time
  pub unpaired_has_no_pairing_time : mate plans costs l x ≡ None → paired_since plans costs l x ≡ None
  unpaired_has_no_pairing_time e = ap (option_map (λ (y : OpId). paired_at plans costs l x)) e

  -- what is paired has started
  paired_started : (y : OpId) → mate plans costs l x ≡ Some y → IsInterleaving plans (is_eager plans costs) (plain l) → has_started plans x (plain l) ≡ true
  paired_started y e between = elim (partners_met plans (plain l) x y e) [
    | inl met ↦ started_send plans (plain l) x (fits_send plans y x met.fit) ∙ arrived_begun plans (is_eager plans costs) (plain l) x between met.arrived
    | inr met ↦ started_receive plans (plain l) x (fits_receive plans x y met.fit) ∙ met.posted
  ]

  -- and what has not started is not paired
  pub unstarted_unpaired : IsInterleaving plans (is_eager plans costs) (plain l) → has_started plans x (plain l) ≡ false → mate plans costs l x ≡ None
  unstarted_unpaired between f = go (mate plans costs l x) refl
    where
      go : (o : Option OpId) → mate plans costs l x ≡ o → o ≡ None
      go None e = refl
      go (Some y) e = absurd (both_ways _ f (paired_started y e between))

module _ (plans : List Plan) (costs : CostModel) (h : List Timed) (a : Timed) where
  -- the newest action is another one: of another operation, of another class
  pub newest_is_not_act_of_other_op : (c : Class) (x : OpId) → same_op a.op x ≡ false → is_act c x (plain_act a) ≡ false
  newest_is_not_act_of_other_op c x e = and_right (place a.class == place c) (same_op a.op x) e

  pub newest_is_not_act_of_other_class : (c : Class) (x : OpId) → (place a.class == place c) ≡ false → is_act c x (plain_act a) ≡ false
  newest_is_not_act_of_other_class c x e = and_left (place a.class == place c) (same_op a.op x) e

  pub happened_kept_by_other_action : (c : Class) (x : OpId) → is_act c x (plain_act a) ≡ false → happened c x (plain (a ∷ h)) ≡ happened c x (plain h)
  unfolding plain
  happened_kept_by_other_action c x e = happened_unless_newest c x (plain_act a) (plain h) e

  pub newest_action_has_happened : (c : Class) → a.class ≡ c → happened c a.op (plain (a ∷ h)) ≡ true
  unfolding plain
  newest_action_has_happened c e =
      happened_new c a.op (plain_act a) (plain h) (is_act_from c a.op (plain_act a) e refl)

  -- it had not happened before
  pub not_happened_yet : (c : Class) → Possible plans costs h a → a.class ≡ c → happened c a.op (plain h) ≡ false
  not_happened_yet c p e =
      subst (λ (d : Class). happened d a.op (plain h) ≡ false) e (allowed_fresh plans (is_eager plans costs) (plain h) a.class a.op p.allowed)

  -- the start
  pub start_kept_by_other_action : (x : OpId) → is_act (first_class (kind_at plans x)) x (plain_act a) ≡ false → start_known plans costs (a ∷ h) x ≡ start_known plans costs h x
  start_kept_by_other_action x e =
      known_alike _ _ _ _ (happened_kept_by_other_action (first_class (kind_at plans x)) x e) (start_kept plans costs a h x)

  pub start_known_after_first_action : Possible plans costs h a → a.class ≡ first_class (kind_at plans a.op) → start_known plans costs (a ∷ h) a.op ≡ Some a.time
  start_known_after_first_action p e =
      cond-true _ _ _ (newest_action_has_happened (first_class (kind_at plans a.op)) e) ∙ ap Some (start_at_newest plans costs a h p e)

  -- the end
  pub end_kept_by_other_action : IsRun plans costs h → (x : OpId) → is_act (last_class (is_eager plans costs x) (kind_at plans x)) x (plain_act a) ≡ false → end_known plans costs (a ∷ h) x ≡ end_known plans costs h x
  end_kept_by_other_action run x e =
      known_alike _ _ _ _ (happened_kept_by_other_action (last_class (is_eager plans costs x) (kind_at plans x)) x e) (end_kept plans costs a h x (run_is_each_possible plans costs h run))

  pub end_known_after_last_action : Possible plans costs h a → a.class ≡ last_class (is_eager plans costs a.op) (kind_at plans a.op) → end_known plans costs (a ∷ h) a.op ≡ Some (a.time + cpu_hold plans costs h a.class a.op (kind_at plans a.op))
  end_known_after_last_action p e =
      cond-true _ _ _ (newest_action_has_happened (last_class (is_eager plans costs a.op) (kind_at plans a.op)) e) ∙ ap Some (end_last plans costs a h p e)

  -- the arrival that is under way
  abbrev arriving_of : List Timed → OpId → Option Kind → Option ℕ
  arriving_of l x k =
      if not (happened Arrive x (plain l)) && may plans (is_eager plans costs) (plain l) Arrive x k then Some (time_of plans costs l Arrive x k) else None

  arrive_time_by_kind : (l : List Timed) (x : OpId) (k : Option Kind) → kind_at plans x ≡ k → time_known plans costs l Arrive x ≡ arriving_of l x k
  unfolding allowed time
  arrive_time_by_kind l x k e = ap (arriving_of l x) e

  if_both_false : (b : Bool) (n : ℕ) → (if b && false then Some n else None) ≡ None
  if_both_false b n = cond-false _ _ _ (and_right b false refl)

  abbrev travel : OpId → ℕ
  travel x = if is_eager plans costs x then flight plans costs x else flight_one plans costs x

  pub arrival_kept_by_other_action : (x : OpId) → is_act Arrive x (plain_act a) ≡ false → is_act Begin x (plain_act a) ≡ false → time_known plans costs (a ∷ h) Arrive x ≡ time_known plans costs h Arrive x
  arrival_kept_by_other_action x e f = go (kind_at plans x) refl
    where
      go : (k : Option Kind) → kind_at plans x ≡ k → time_known plans costs (a ∷ h) Arrive x ≡ time_known plans costs h Arrive x
      go (Some (Send bytes to tag)) k =
          let send : IsSend plans x = record { bytes = bytes; to = to; tag = tag; kind = k } in
          let same : arriving_of (a ∷ h) x (Some (Send bytes to tag)) ≡ arriving_of h x (Some (Send bytes to tag)) = known_alike (not (happened Arrive x (plain h)) && happened Begin x (plain h)) (not (happened Arrive x (plain (a ∷ h))) && happened Begin x (plain (a ∷ h))) (start plans costs h x + travel x) (start plans costs (a ∷ h) x + travel x) (ap₂ (λ (b c : Bool). not b && c) (happened_kept_by_other_action Arrive x e) (happened_kept_by_other_action Begin x f)) (λ t. ap (λ (n : ℕ). n + travel x) (start_kept plans costs a h x (started_send plans (plain h) x send ∙ (and_parts (not (happened Arrive x (plain h))) (happened Begin x (plain h)) t).1))) in
          arrive_time_by_kind (a ∷ h) x _ k ∙ same ∙ sym (arrive_time_by_kind h x _ k)
      go (Some (Calc nanos)) k = arrive_time_by_kind (a ∷ h) x _ k ∙ if_both_false _ _ ∙ sym (if_both_false _ _) ∙ sym (arrive_time_by_kind h x _ k)
      go (Some (Recv room from tag)) k = arrive_time_by_kind (a ∷ h) x _ k ∙ if_both_false _ _ ∙ sym (if_both_false _ _) ∙ sym (arrive_time_by_kind h x _ k)
      go None k = arrive_time_by_kind (a ∷ h) x _ k ∙ if_both_false _ _ ∙ sym (if_both_false _ _) ∙ sym (arrive_time_by_kind h x _ k)

  -- only sends arrive
  pub arriving_calc : (l : List Timed) (x : OpId) → IsCalc plans x → time_known plans costs l Arrive x ≡ None
  arriving_calc l x k = arrive_time_by_kind l x _ k.kind ∙ if_both_false _ _

  pub arriving_receive : (l : List Timed) (x : OpId) → IsReceive plans x → time_known plans costs l Arrive x ≡ None
  arriving_receive l x k = arrive_time_by_kind l x _ k.kind ∙ if_both_false _ _

  -- and what is paired arrives no more
  arriving_paired : (l : List Timed) (x y : OpId) → mate plans costs l x ≡ Some y → time_known plans costs l Arrive x ≡ None
  arriving_paired l x y e = elim (partners_met plans (plain l) x y e) [
    | inl met ↦ arriving_none plans costs l x met.arrived
    | inr met ↦ arriving_receive l x (fits_receive plans x y met.fit)
  ]

  -- what an operation awaits once it has started
  pub awaited_started : (l : List Timed) (x : OpId) → has_started plans x (plain l) ≡ true → awaited_known plans costs l x ≡ option_or (time_known plans costs l Arrive x) (option_or (delivered_known plans costs l x) (paired_since plans costs l x))
  awaited_started l x e = cond-true _ _ _ e

  pub first_action_starts_op : a.class ≡ first_class (kind_at plans a.op) → has_started plans a.op (plain (a ∷ h)) ≡ true
  first_action_starts_op e = newest_action_has_happened (first_class (kind_at plans a.op)) e

  pub started_stays_started : (x : OpId) → has_started plans x (plain h) ≡ true → has_started plans x (plain (a ∷ h)) ≡ true
  unfolding plain
  started_stays_started x e = started_stays plans (plain_act a) (plain h) x e

  -- a send that begins is under way
  pub arriving_begun : IsRun plans costs h → Possible plans costs h a → a.class ≡ Begin → IsSend plans a.op → time_known plans costs (a ∷ h) Arrive a.op ≡ Some (a.time + (if is_eager plans costs a.op then flight plans costs a.op else flight_one plans costs a.op))
  arriving_begun run p e s =
      let not_begun = not_happened_yet Begin p e in
      let not_arrived : happened Arrive a.op (plain h) ≡ false = false_from_ne_true _ (λ t. both_ways _ not_begun (arrived_begun plans (is_eager plans costs) (plain h) a.op (run_interleaving plans costs h run) t)) in
      let other : is_act Arrive a.op (plain_act a) ≡ false = newest_is_not_act_of_other_class Arrive a.op (ap (λ (c : Class). place c == 0) e) in
      let under_way : (not (happened Arrive a.op (plain (a ∷ h))) && happened Begin a.op (plain (a ∷ h))) ≡ true = ap₂ (λ (b c : Bool). not b && c) (happened_kept_by_other_action Arrive a.op other ∙ not_arrived) (newest_action_has_happened Begin e) in
      let first : a.class ≡ first_class (kind_at plans a.op) = e ∙ sym (ap first_class s.kind) in
      arrive_time_by_kind (a ∷ h) a.op _ s.kind ∙ cond-true _ _ _ under_way ∙ ap (λ (n : ℕ). Some (n + travel a.op)) (start_at_newest plans costs a h p first)

  -- a send that has arrived has no Arrive to come
  pub arrived_has_no_arrive_time : a.class ≡ Arrive → time_known plans costs (a ∷ h) Arrive a.op ≡ None
  arrived_has_no_arrive_time e =
      arrive_time_by_kind (a ∷ h) a.op (kind_at plans a.op) refl ∙ cond-false _ _ _ (and_left _ _ (ap not (newest_action_has_happened Arrive e)))

  -- the bytes that are handed over
  pub delivered_kept_by_other_action : (x : OpId) → is_act Data x (plain_act a) ≡ false → delivered_known plans costs (a ∷ h) x ≡ delivered_known plans costs h x
  delivered_kept_by_other_action x e =
      known_alike _ _ _ _ (happened_kept_by_other_action Data x e) (λ t. ap (λ (n : ℕ). n + flight plans costs x) (since_kept (happened Data x) a h t))

  pub delivered_known_after_data : Possible plans costs h a → a.class ≡ Data → delivered_known plans costs (a ∷ h) a.op ≡ Some (a.time + flight plans costs a.op)
  delivered_known_after_data p e =
      cond-true _ _ _ (newest_action_has_happened Data e) ∙ ap (λ (n : ℕ). Some (n + flight plans costs a.op)) (since_new (happened Data a.op) a h (not_happened_yet Data p e) (newest_action_has_happened Data e))

  -- since when it is paired
  paired_since_kept_with_mate : (x : OpId) → mate plans costs (a ∷ h) x ≡ mate plans costs h x → paired_since plans costs (a ∷ h) x ≡ paired_since plans costs h x
  paired_since_kept_with_mate x e = go (mate plans costs h x) refl
    where
      go : (o : Option OpId) → mate plans costs h x ≡ o → paired_since plans costs (a ∷ h) x ≡ paired_since plans costs h x
      go None s = unpaired_has_no_pairing_time plans costs (a ∷ h) x (e ∙ s) ∙ sym (unpaired_has_no_pairing_time plans costs h x s)
      go (Some m) s =
          ap₂ (λ (n : ℕ) (o : Option OpId). option_map (λ (y : OpId). n) o) (paired_at_kept plans costs a h x (is_some_from _ m s)) e

  paired_since_newest_action : (x y : OpId) → mate plans costs h x ≡ None → mate plans costs (a ∷ h) x ≡ Some y → paired_since plans costs (a ∷ h) x ≡ Some a.time
  paired_since_newest_action x y e f =
      let before : is_paired (pairs plans (plain h)) x ≡ false = ap is_some e in
      let now : is_paired (pairs plans (plain (a ∷ h))) x ≡ true = ap is_some f in
      ap₂ (λ (n : ℕ) (o : Option OpId). option_map (λ (y : OpId). n) o) (since_new (λ l. is_paired (pairs plans l) x) a h before now) f

  -- what has started and keeps its partner awaits what it did, unless it begins, arrives or transfers its data
  pub awaited_kept_by_other_action : (x : OpId) → mate plans costs (a ∷ h) x ≡ mate plans costs h x → is_act Arrive x (plain_act a) ≡ false → is_act Begin x (plain_act a) ≡ false → is_act Data x (plain_act a) ≡ false → has_started plans x (plain h) ≡ true → awaited_known plans costs (a ∷ h) x ≡ awaited_known plans costs h x
  awaited_kept_by_other_action x m e f g s =
      awaited_started (a ∷ h) x (started_stays_started x s) ∙ (λ i. option_or (arrival_kept_by_other_action x e f i) (option_or (delivered_kept_by_other_action x g i) (paired_since_kept_with_mate x m i))) ∙ sym (awaited_started h x s)

  module _ (run : IsRun plans costs h) (p : Possible plans costs h a) (x y : OpId) (taken : mate plans costs (a ∷ h) x ≡ Some y) where
    -- what is paired then has started
    pub started_then : has_started plans x (plain (a ∷ h)) ≡ true
    unfolding plain
    started_then =
        paired_started plans costs (a ∷ h) x y taken (run_interleaving plans costs h run, p.allowed)

    -- an operation that the action pairs awaits the time of the pairing
    pub awaited_paired : (place a.class == 2) ≡ false → mate plans costs h x ≡ None → awaited_known plans costs (a ∷ h) x ≡ Some a.time
    awaited_paired e free =
        let none : delivered_known plans costs (a ∷ h) x ≡ None = delivered_kept_by_other_action x (newest_is_not_act_of_other_class Data x e) ∙ undelivered plans costs h x (unpaired_unhanded plans costs h x run free) in
        awaited_started (a ∷ h) x started_then ∙ (λ i. option_or (arriving_paired (a ∷ h) x y taken i) (option_or (none i) (paired_since_newest_action x y free taken i)))
