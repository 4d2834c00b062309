-- What holds after some actions holds after another.
use Rattle.std.proofs.Common.{◌≡◌, Bool, true, false, ◌||◌, inl, inr, List, [], ◌∷◌, Option, Some, None, refl, sym, ◌∙◌, subst, is_some}
use Rattle.std.specs.List.{list_all}
use Rattle.std.specs.Option.{option_or}
use Rattle.std.proofs.lemmas.Bool.{and_parts, and_from, or_cases, or_left, or_right, both_ways, not-true, not_from_false}
use Rattle.goal_graph.specs.declared.action.OpId.{OpId}
use Rattle.goal_graph.specs.declared.action.Class.{Class}
use Rattle.goal_graph.specs.declared.action.Class.TheVariants.{Arrive, Serve, Data, Post, Begin}
use Rattle.goal_graph.specs.declared.plan.Kind.{Kind}
use Rattle.goal_graph.specs.declared.plan.Kind.TheVariants.{Calc, Send, Recv}
use Rattle.goal_graph.specs.declared.plan.Need.{Need}
use Rattle.goal_graph.specs.declared.plan.When.{When}
use Rattle.goal_graph.specs.declared.plan.When.TheVariants.{AfterEnd, AfterStart}
use Rattle.goal_graph.specs.Schedule.{Plan, kind_at, needs, needed}
use Rattle.goal_graph.specs.Action.{Act, is_act, happened}
use Rattle.goal_graph.specs.Matching.{Pair, other_in, partner, is_paired, add_pair, new_pair, pairs}
use Rattle.goal_graph.specs.Allowed.{first_class, last_class, has_started, has_ended, is_met, is_ready, is_served, may, allowed}
use Rattle.goal_graph.proofs.Actions.{happened_stays, happened_unless_newest}

pub is_some_from : {A : Type 0} (o : Option A) (y : A) → o ≡ Some y → is_some o ≡ true
is_some_from o y e = subst (λ o. is_some o ≡ true) (sym e) refl

pub value_of_is_some : {A : Type 0} (o : Option A) → is_some o ≡ true → (y : A) × (o ≡ Some y)
value_of_is_some None h = absurd (both_ways false refl h)
value_of_is_some (Some y) h = (y, refl)

pub partner_more : (p : Pair) (ps : List Pair) (x y : OpId) → partner ps x ≡ Some y → partner (p ∷ ps) x ≡ Some y
unfolding partner
partner_more p ps x y e = subst (λ o. option_or o (other_in p x) ≡ Some y) (sym e) refl

pub partner_added : (o : Option Pair) (ps : List Pair) (x y : OpId) → partner ps x ≡ Some y → partner (add_pair ps o) x ≡ Some y
partner_added None ps x y e = e
partner_added (Some p) ps x y e = partner_more p ps x y e

module _ (plans : List Plan) where
  -- a partner stays the partner
  pub partner_stays : (a : Act) (h : List Act) (x y : OpId) → partner (pairs plans h) x ≡ Some y → partner (pairs plans (a ∷ h)) x ≡ Some y
  unfolding pairs
  partner_stays a h x y e = partner_added (new_pair plans (pairs plans h) h a.class a.op) (pairs plans h) x y e

  pub paired_stays : (a : Act) (h : List Act) (x : OpId) → is_paired (pairs plans h) x ≡ true → is_paired (pairs plans (a ∷ h)) x ≡ true
  paired_stays a h x e =
      let p = value_of_is_some (partner (pairs plans h) x) e in
      is_some_from _ p.0 (partner_stays a h x p.0 p.1)

  pub started_stays : (a : Act) (h : List Act) (x : OpId) → has_started plans x h ≡ true → has_started plans x (a ∷ h) ≡ true
  started_stays a h x e = happened_stays (first_class (kind_at plans x)) x a h e

  module _ (eager : OpId → Bool) where
    pub ended_stays : (a : Act) (h : List Act) (x : OpId) → has_ended plans eager x h ≡ true → has_ended plans eager x (a ∷ h) ≡ true
    ended_stays a h x e = happened_stays (last_class (eager x) (kind_at plans x)) x a h e

    pub met_stays : (a : Act) (h : List Act) (w : When) (y : OpId) → is_met plans eager h w y ≡ true → is_met plans eager (a ∷ h) w y ≡ true
    met_stays a h AfterEnd y e = ended_stays a h y e
    met_stays a h AfterStart y e = started_stays a h y e

    needs_stay : (a : Act) (h : List Act) (x : OpId) (ds : List Need) → list_all (λ (d : Need). is_met plans eager h d.when (needed x d)) ds ≡ true → list_all (λ (d : Need). is_met plans eager (a ∷ h) d.when (needed x d)) ds ≡ true
    needs_stay a h x [] e = refl
    needs_stay a h x (d ∷ ds) e =
        let parts = and_parts _ _ e in
        and_from _ _ (met_stays a h d.when (needed x d) parts.0) (needs_stay a h x ds parts.1)

    pub ready_stays : (a : Act) (h : List Act) (x : OpId) → is_ready plans eager h x ≡ true → is_ready plans eager (a ∷ h) x ≡ true
    unfolding is_ready
    ready_stays a h x e = needs_stay a h x (needs plans x) e

    message_stays : (a : Act) (h : List Act) (m : OpId) → (eager m || happened Data m h) ≡ true → (eager m || happened Data m (a ∷ h)) ≡ true
    message_stays a h m s =
        elim (or_cases (eager m) (happened Data m h) s) [ inl t ↦ or_left (eager m) _ t | inr t ↦ or_right (eager m) _ (happened_stays Data m a h t) ]

    pub served_stays : (a : Act) (h : List Act) (x : OpId) → is_served plans eager h (partner (pairs plans h) x) ≡ true → is_served plans eager (a ∷ h) (partner (pairs plans (a ∷ h)) x) ≡ true
    served_stays a h x e = go (partner (pairs plans h) x) refl e
      where
        go : (o : Option OpId) → partner (pairs plans h) x ≡ o → is_served plans eager h o ≡ true → is_served plans eager (a ∷ h) (partner (pairs plans (a ∷ h)) x) ≡ true
        go None q s = absurd (both_ways false refl s)
        go (Some m) q s =
            subst (λ o. is_served plans eager (a ∷ h) o ≡ true) (sym (partner_stays a h x m q)) (message_stays a h m s)

    pub may_stays : (a : Act) (h : List Act) (c : Class) (x : OpId) (k : Option Kind) → may plans eager h c x k ≡ true → may plans eager (a ∷ h) c x k ≡ true
    may_stays a h Begin x (Some (Calc nanos)) e = ready_stays a h x e
    may_stays a h Begin x (Some (Send bytes to tag)) e = ready_stays a h x e
    may_stays a h Post x (Some (Recv room from tag)) e = ready_stays a h x e
    may_stays a h Arrive x (Some (Send bytes to tag)) e = happened_stays Begin x a h e
    may_stays a h Data x (Some (Send bytes to tag)) e =
        let parts = and_parts _ _ e in and_from _ _ parts.0 (paired_stays a h x parts.1)
    may_stays a h Serve x (Some (Recv room from tag)) e = served_stays a h x e
    may_stays a h _ x _ e = absurd (both_ways false refl e)

    -- an allowed action stays allowed until it happens
    pub allowed_stays : (a : Act) (h : List Act) (c : Class) (x : OpId) → is_act c x a ≡ false → allowed plans eager h c x ≡ true → allowed plans eager (a ∷ h) c x ≡ true
    unfolding allowed
    allowed_stays a h c x other e =
        let parts = and_parts _ _ e in
        and_from _ _ (not_from_false _ (happened_unless_newest c x a h other ∙ not-true _ parts.0)) (may_stays a h c x (kind_at plans x) parts.1)
