-- Which moments an action gives: those of its operation that are there after it, and were not there before.
use Rattle.std.proofs.Common.{◌≡◌, ◌&&◌, Bool, true, false, List, ◌∷◌, ◌⊎◌, Option, Some, None, inl, inr, refl, sym, ap, ap₂, ◌∙◌, subst}
use Rattle.std.proofs.lemmas.Bool.{cases_Bool, both_ways, false_from_ne_true, and_parts}
use Rattle.goal_graph.specs.declared.action.OpId.{OpId}
use Rattle.goal_graph.specs.declared.action.Timed.{Timed}
use Rattle.goal_graph.specs.declared.action.Class.{Class}
use Rattle.goal_graph.specs.declared.action.Class.TheVariants.{Arrive, Serve, Data, Post, Begin}
use Rattle.goal_graph.specs.declared.plan.Kind.{Kind}
use Rattle.goal_graph.specs.declared.plan.Kind.TheVariants.{Calc, Send, Recv}
use Rattle.goal_graph.specs.declared.plan.When.{When}
use Rattle.goal_graph.specs.declared.plan.When.TheVariants.{AfterEnd, AfterStart}
use Rattle.goal_graph.specs.Schedule.{Plan, kind_at, IsSend}
use Rattle.goal_graph.specs.Action.{same_op, is_act, happened, plain, plain_act}
use Rattle.goal_graph.specs.Allowed.{first_class, last_class, has_started, is_met, is_ready, allowed}
use Rattle.goal_graph.specs.Laws.{IsCalc}
use Rattle.goal_graph.proofs.ForCallers.{allowed_begin, allowed_data, allowed_post, allowed_serve, ended_started, first_of_calc, first_of_send, first_of_receive, last_of_rendezvous, last_of_receive, not_happened_before_newest, happened_cases, is_act_class, is_act_op, started_ready}
use Rattle.sim_params.specs.Costs.{CostModel, is_eager}
use Rattle.sim_params.specs.Times.{met_at, Possible}
use Rattle.sim_params.specs.Run.{IsRun}
use Rattle.sim_params.proofs.ForCallers.{start_kept, end_kept, run_is_each_possible, run_interleaving}
use Rattle.sim_state.specs.Awaited.{gives}
use Rattle.sim_state.proofs.After.{newest_is_not_act_of_other_op, happened_kept_by_other_action, not_happened_yet}

-- an arrival gives none
pub gives_none : (c : Class) (w : When) → c ≡ Arrive → gives c w ≡ false
gives_none c w e = ap (λ (d : Class). gives d w) e

-- the first action of an operation gives its start, the last its end
pub first_gives : (k : Option Kind) → gives (first_class k) AfterStart ≡ true
first_gives None = refl
first_gives (Some (Calc nanos)) = refl
first_gives (Some (Send bytes to tag)) = refl
first_gives (Some (Recv room from tag)) = refl

pub last_gives : (eager : Bool) (k : Option Kind) → gives (last_class eager k) AfterEnd ≡ true
last_gives eager None = refl
last_gives eager (Some (Calc nanos)) = refl
last_gives true (Some (Send bytes to tag)) = refl
last_gives false (Some (Send bytes to tag)) = refl
last_gives eager (Some (Recv room from tag)) = refl

module _ (plans : List Plan) (costs : CostModel) (h : List Timed) (a : Timed) where
  -- whether the moment of x is there before the action, and after it
  abbrev pub was_there : When → OpId → Bool
  was_there w x = is_met plans (is_eager plans costs) (plain h) w x

  abbrev pub there_now : When → OpId → Bool
  there_now w x = is_met plans (is_eager plans costs) (plain (a ∷ h)) w x

  -- whether the action gives its operation that moment
  abbrev pub is_given : When → Bool
  is_given w = gives a.class w && there_now w a.op

  -- the action from which a moment is counted
  abbrev class_of : When → OpId → Class
  class_of AfterEnd x = last_class (is_eager plans costs x) (kind_at plans x)
  class_of AfterStart x = first_class (kind_at plans x)

  -- those of another operation stay
  pub met_kept_for_other_op : (w : When) (x : OpId) → same_op a.op x ≡ false → there_now w x ≡ was_there w x
  met_kept_for_other_op AfterEnd x e =
      happened_kept_by_other_action plans costs h a (class_of AfterEnd x) x (newest_is_not_act_of_other_op plans costs h a (class_of AfterEnd x) x e)
  met_kept_for_other_op AfterStart x e =
      happened_kept_by_other_action plans costs h a (class_of AfterStart x) x (newest_is_not_act_of_other_op plans costs h a (class_of AfterStart x) x e)

  -- what was there is there at the same time
  pub same_moment : IsRun plans costs h → (w : When) (x : OpId) → was_there w x ≡ true → met_at plans costs (a ∷ h) w x ≡ met_at plans costs h w x
  same_moment run AfterEnd x e = end_kept plans costs a h x (run_is_each_possible plans costs h run) e
  same_moment run AfterStart x e = start_kept plans costs a h x e

  happened_before_or_by_newest : (c : Class) (x : OpId) → happened c x (plain (a ∷ h)) ≡ true → (happened c x (plain h) ≡ true) ⊎ (is_act c x (plain_act a) ≡ true)
  unfolding plain
  happened_before_or_by_newest c x e = happened_cases c x (plain_act a) (plain h) e

  -- a moment of its own that is new is given
  new_is_given : (w : When) → there_now w a.op ≡ true → was_there w a.op ≡ false → gives a.class w ≡ true
  new_is_given AfterEnd t f =
      elim (happened_before_or_by_newest (class_of AfterEnd a.op) a.op t) [ inl before ↦ absurd (both_ways _ f before) | inr act ↦ ap (λ (c : Class). gives c AfterEnd) (is_act_class (class_of AfterEnd a.op) a.op (plain_act a) act) ∙ last_gives (is_eager plans costs a.op) (kind_at plans a.op) ]
  new_is_given AfterStart t f =
      elim (happened_before_or_by_newest (class_of AfterStart a.op) a.op t) [ inl before ↦ absurd (both_ways _ f before) | inr act ↦ ap (λ (c : Class). gives c AfterStart) (is_act_class (class_of AfterStart a.op) a.op (plain_act a) act) ∙ first_gives (kind_at plans a.op) ]

  unmet_now_was_unmet_before : (w : When) (x : OpId) → there_now w x ≡ false → was_there w x ≡ false
  unfolding plain
  unmet_now_was_unmet_before AfterEnd x e = not_happened_before_newest (class_of AfterEnd x) x (plain_act a) (plain h) e
  unmet_now_was_unmet_before AfterStart x e = not_happened_before_newest (class_of AfterStart x) x (plain_act a) (plain h) e

  -- where it gives none, its own stay
  pub met_kept_where_none_given : (w : When) → is_given w ≡ false → there_now w a.op ≡ was_there w a.op
  met_kept_where_none_given w none =
      elim (cases_Bool (there_now w a.op)) [ inr f ↦ f ∙ sym (unmet_now_was_unmet_before w a.op f) | inl t ↦ elim (cases_Bool (was_there w a.op)) [ inl u ↦ t ∙ sym u | inr f ↦ absurd (both_ways _ none (ap₂ (λ (b c : Bool). b && c) (new_is_given w t f) t)) ] ]

  module _ (run : IsRun plans costs h) (p : Possible plans costs h a) where
    not_started : (c : Class) → a.class ≡ c → first_class (kind_at plans a.op) ≡ c → was_there AfterStart a.op ≡ false
    not_started c e f = ap (λ (d : Class). happened d a.op (plain h)) f ∙ not_happened_yet plans costs h a c p e

    not_ended : (c : Class) → a.class ≡ c → last_class (is_eager plans costs a.op) (kind_at plans a.op) ≡ c → was_there AfterEnd a.op ≡ false
    not_ended c e f = ap (λ (d : Class). happened d a.op (plain h)) f ∙ not_happened_yet plans costs h a c p e

    is_allowed : (c : Class) → a.class ≡ c → allowed plans (is_eager plans costs) (plain h) c a.op ≡ true
    is_allowed c e =
        subst (λ (d : Class). allowed plans (is_eager plans costs) (plain h) d a.op ≡ true) e p.allowed

    -- what had not started had not ended
    unstarted_unended : was_there AfterStart a.op ≡ false → was_there AfterEnd a.op ≡ false
    unstarted_unended f =
        false_from_ne_true _ (λ t. both_ways _ f (ended_started plans (is_eager plans costs) (plain h) a.op (run_interleaving plans costs h run) t))

    begin_first : a.class ≡ Begin → first_class (kind_at plans a.op) ≡ Begin
    begin_first e = go (allowed_begin plans (is_eager plans costs) (plain h) a.op (is_allowed Begin e)).0
      where
        go : IsCalc plans a.op ⊎ IsSend plans a.op → first_class (kind_at plans a.op) ≡ Begin
        go (inl k) = first_of_calc plans a.op k
        go (inr k) = first_of_send plans a.op k

    post_first : a.class ≡ Post → first_class (kind_at plans a.op) ≡ Post
    post_first e =
        first_of_receive plans a.op (allowed_post plans (is_eager plans costs) (plain h) a.op (is_allowed Post e)).0

    data_last : a.class ≡ Data → last_class (is_eager plans costs a.op) (kind_at plans a.op) ≡ Data
    data_last e =
        let s = allowed_data plans (is_eager plans costs) (plain h) a.op (is_allowed Data e) in
        last_of_rendezvous plans (is_eager plans costs) a.op s.0 s.1

    serve_last : a.class ≡ Serve → last_class (is_eager plans costs a.op) (kind_at plans a.op) ≡ Serve
    serve_last e =
        last_of_receive plans (is_eager plans costs) a.op (allowed_serve plans (is_eager plans costs) (plain h) a.op (is_allowed Serve e)).0

    -- what an action gives was not there before
    gives_new : (w : When) → gives a.class w ≡ true → was_there w a.op ≡ false
    gives_new w g = go a.class refl w g
      where
        go : (c : Class) → a.class ≡ c → (w : When) → gives c w ≡ true → was_there w a.op ≡ false
        go Begin e AfterStart g = not_started Begin e (begin_first e)
        go Begin e AfterEnd g = unstarted_unended (not_started Begin e (begin_first e))
        go Post e AfterStart g = not_started Post e (post_first e)
        go Post e AfterEnd g = absurd (both_ways _ refl g)
        go Data e AfterStart g = absurd (both_ways _ refl g)
        go Data e AfterEnd g = not_ended Data e (data_last e)
        go Serve e AfterStart g = absurd (both_ways _ refl g)
        go Serve e AfterEnd g = not_ended Serve e (serve_last e)
        go Arrive e w g = absurd (both_ways _ refl g)

    pub given_is_new : (w : When) → is_given w ≡ true → (was_there w a.op ≡ false) × (there_now w a.op ≡ true)
    given_is_new w e =
        let parts = and_parts (gives a.class w) (there_now w a.op) e in
        (gives_new w parts.0, parts.1)

    -- what has started was ready before the action
    pub started_was_ready : (x : OpId) → has_started plans x (plain (a ∷ h)) ≡ true → is_ready plans (is_eager plans costs) (plain h) x ≡ true
    started_was_ready x t =
        elim (happened_before_or_by_newest (class_of AfterStart x) x t) [ inl before ↦ started_ready plans (is_eager plans costs) (plain h) x (run_interleaving plans costs h run) before | inr act ↦ own (is_act_class (class_of AfterStart x) x (plain_act a) act) (is_act_op (class_of AfterStart x) x (plain_act a) act) ]
      where
        begun : (y : OpId) → a.op ≡ y → a.class ≡ Begin → is_ready plans (is_eager plans costs) (plain h) y ≡ true
        begun y o c =
            subst (λ (z : OpId). is_ready plans (is_eager plans costs) (plain h) z ≡ true) o (allowed_begin plans (is_eager plans costs) (plain h) a.op (is_allowed Begin c)).1

        of : (y : OpId) → a.op ≡ y → (k : Option Kind) → kind_at plans y ≡ k → a.class ≡ first_class k → is_ready plans (is_eager plans costs) (plain h) y ≡ true
        of y o None e c = begun y o c
        of y o (Some (Calc nanos)) e c = begun y o c
        of y o (Some (Send bytes to tag)) e c = begun y o c
        of y o (Some (Recv room from tag)) e c =
            subst (λ (z : OpId). is_ready plans (is_eager plans costs) (plain h) z ≡ true) o (allowed_post plans (is_eager plans costs) (plain h) a.op (is_allowed Post c)).1

        own : a.class ≡ first_class (kind_at plans x) → a.op ≡ x → is_ready plans (is_eager plans costs) (plain h) x ≡ true
        own c o = of x o (kind_at plans x) refl c
