-- A start, an end and the time of a pair stay.
use Rattle.std.proofs.Common.{ℕ, ◌+◌, ◌≡◌, true, false, List, ◌∷◌, Option, Some, None, if◌then◌else◌, refl, sym, ap, ap₂, ◌∙◌, subst}
use Rattle.std.proofs.lemmas.Bool.{both_ways}
use Rattle.goal_graph.specs.declared.action.OpId.{OpId}
use Rattle.goal_graph.specs.declared.action.Timed.{Timed}
use Rattle.goal_graph.specs.declared.action.Class.{Class}
use Rattle.goal_graph.specs.declared.action.Class.TheVariants.{Serve, Data, Begin}
use Rattle.goal_graph.specs.declared.plan.Kind.{Kind}
use Rattle.goal_graph.specs.declared.plan.Kind.TheVariants.{Calc, Send, Recv}
use Rattle.goal_graph.specs.Schedule.{Plan, kind_at}
use Rattle.goal_graph.specs.Action.{happened, plain, plain_act}
use Rattle.goal_graph.specs.Matching.{pairs, partner, is_paired, add_pair, new_pair}
use Rattle.goal_graph.specs.Allowed.{first_class, last_class, has_started, has_ended, is_served}
use Rattle.goal_graph.proofs.ForCallers.{happened_new, is_act_from, allowed_fresh, served_message}
use Rattle.sim_params.specs.Costs.{CostModel, over, is_eager}
use Rattle.sim_params.specs.Times.{at_partner, mate, cpu_hold, start, end, paired_at, Possible}
use Rattle.sim_params.proofs.Grow.{since_kept, since_new, mate_stays}
use Rattle.sim_params.proofs.Interleavings.{EachPossible, each_possible_is_interleaving}

module _ (plans : List Plan) (costs : CostModel) where
  pub start_kept : (a : Timed) (h : List Timed) (x : OpId) → has_started plans x (plain h) ≡ true → start plans costs (a ∷ h) x ≡ start plans costs h x
  start_kept a h x e = since_kept (has_started plans x) a h e

  pub paired_at_kept : (a : Timed) (h : List Timed) (x : OpId) → is_paired (pairs plans (plain h)) x ≡ true → paired_at plans costs (a ∷ h) x ≡ paired_at plans costs h x
  paired_at_kept a h x e = since_kept (λ l. is_paired (pairs plans l) x) a h e

  -- an operation is paired at the time of the action that pairs it
  pub paired_at_newest : (a : Timed) (h : List Timed) (x : OpId) → is_paired (pairs plans (plain h)) x ≡ false → is_paired (pairs plans (plain (a ∷ h))) x ≡ true → paired_at plans costs (a ∷ h) x ≡ a.time
  paired_at_newest a h x unpaired e = since_new (λ l. is_paired (pairs plans l) x) a h unpaired e

  pub newest_happened : (a : Timed) (h : List Timed) (c : Class) (x : OpId) → a.class ≡ c → a.op ≡ x → happened c x (plain (a ∷ h)) ≡ true
  unfolding plain
  newest_happened a h c x p q = happened_new c x (plain_act a) (plain h) (is_act_from c x (plain_act a) p q)

  possible_not_happened : (a : Timed) (h : List Timed) (c : Class) → Possible plans costs h a → a.class ≡ c → happened c a.op (plain h) ≡ false
  possible_not_happened a h c p e =
      subst (λ (d : Class). happened d a.op (plain h) ≡ false) e (allowed_fresh plans (is_eager plans costs) (plain h) a.class a.op p.allowed)

  -- an operation starts at its first action
  pub start_at_newest : (a : Timed) (h : List Timed) → Possible plans costs h a → a.class ≡ first_class (kind_at plans a.op) → start plans costs (a ∷ h) a.op ≡ a.time
  start_at_newest a h p e =
      since_new (has_started plans a.op) a h (possible_not_happened a h (first_class (kind_at plans a.op)) p e) (newest_happened a h (first_class (kind_at plans a.op)) a.op e refl)

  -- a receive that has its message has a partner
  pub served_mate : (h : List Timed) (x : OpId) → EachPossible plans costs h → happened Serve x (plain h) ≡ true → (m : OpId) × (mate plans costs h x ≡ Some m)
  served_mate h x each e = go (mate plans costs h x) refl (served_message plans (is_eager plans costs) (plain h) x (each_possible_is_interleaving plans costs h each) e)
    where
      go : (o : Option OpId) → mate plans costs h x ≡ o → is_served plans (is_eager plans costs) (plain h) o ≡ true → (m : OpId) × (mate plans costs h x ≡ Some m)
      go None p q = absurd (both_ways false refl q)
      go (Some m) p q = (m, p)

  -- what an action held does not change later
  last_hold_kept : (a : Timed) (h : List Timed) (x : OpId) (k : Option Kind) → EachPossible plans costs h → happened (last_class (is_eager plans costs x) k) x (plain h) ≡ true → cpu_hold plans costs (a ∷ h) (last_class (is_eager plans costs x) k) x k ≡ cpu_hold plans costs h (last_class (is_eager plans costs x) k) x k
  last_hold_kept a h x (Some (Calc nanos)) each e = refl
  last_hold_kept a h x (Some (Send bytes to tag)) each e =
      elim (is_eager plans costs x) as (λ b. cpu_hold plans costs (a ∷ h) (if b then Begin else Data) x (Some (Send bytes to tag)) ≡ cpu_hold plans costs h (if b then Begin else Data) x (Some (Send bytes to tag))) [ true ↦ refl | false ↦ refl ]
  last_hold_kept a h x (Some (Recv room from tag)) each e =
      let m = served_mate h x each e in
      ap (at_partner (over plans costs)) (mate_stays plans costs a h x m.0 m.1 ∙ sym m.1)
  last_hold_kept a h x None each e = refl

  -- a Serve pairs nothing
  mate_served : (a : Timed) (h : List Timed) (x : OpId) → a.class ≡ Serve → mate plans costs (a ∷ h) x ≡ mate plans costs h x
  unfolding plain pairs
  mate_served a h x e =
      ap (λ (c : Class). partner (add_pair (pairs plans (plain h)) (new_pair plans (pairs plans (plain h)) (plain h) c a.op)) x) e

  -- the newest action itself does not change what it holds
  hold_unchanged_by_newest : (a : Timed) (h : List Timed) (c : Class) (x : OpId) (k : Option Kind) → a.class ≡ c → cpu_hold plans costs (a ∷ h) c x k ≡ cpu_hold plans costs h c x k
  hold_unchanged_by_newest a h Serve x (Some (Recv room from tag)) e = ap (at_partner (over plans costs)) (mate_served a h x e)
  hold_unchanged_by_newest a h Begin x (Some (Calc nanos)) e = refl
  hold_unchanged_by_newest a h Begin x (Some (Send bytes to tag)) e = refl
  hold_unchanged_by_newest a h Data x (Some (Send bytes to tag)) e = refl
  hold_unchanged_by_newest a h _ x _ e = refl

  pub end_kept : (a : Timed) (h : List Timed) (x : OpId) → EachPossible plans costs h → has_ended plans (is_eager plans costs) x (plain h) ≡ true → end plans costs (a ∷ h) x ≡ end plans costs h x
  end_kept a h x each e =
      ap₂ (λ (m n : ℕ). m + n) (since_kept (has_ended plans (is_eager plans costs) x) a h e) (last_hold_kept a h x (kind_at plans x) each e)

  -- an operation ends when its last action releases the cpu
  pub end_at_newest : (a : Timed) (h : List Timed) (x : OpId) → has_ended plans (is_eager plans costs) x (plain h) ≡ false → a.class ≡ last_class (is_eager plans costs x) (kind_at plans x) → a.op ≡ x → end plans costs (a ∷ h) x ≡ a.time + cpu_hold plans costs h a.class a.op (kind_at plans a.op)
  end_at_newest a h x f p q =
      let last = last_class (is_eager plans costs x) (kind_at plans x) in
      let time = since_new (has_ended plans (is_eager plans costs) x) a h f (newest_happened a h last x p q) in
      let held : cpu_hold plans costs h a.class a.op (kind_at plans a.op) ≡ cpu_hold plans costs h last x (kind_at plans x) = ap₂ (λ (c : Class) (y : OpId). cpu_hold plans costs h c y (kind_at plans y)) p q in
      ap₂ (λ (m n : ℕ). m + n) time (hold_unchanged_by_newest a h last x (kind_at plans x) p ∙ sym held)

  pub end_last : (a : Timed) (h : List Timed) → Possible plans costs h a → a.class ≡ last_class (is_eager plans costs a.op) (kind_at plans a.op) → end plans costs (a ∷ h) a.op ≡ a.time + cpu_hold plans costs h a.class a.op (kind_at plans a.op)
  end_last a h p e =
      end_at_newest a h a.op (possible_not_happened a h (last_class (is_eager plans costs a.op) (kind_at plans a.op)) p e) e refl
