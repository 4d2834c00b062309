-- The possible action of one operation, class by class.
use Rattle.std.proofs.Common.{◌≡◌, ◌⊎◌, true, false, List, Option, Some, None, is_some, inl, inr, refl, sym, ◌∙◌, subst}
use Rattle.std.specs.Option.{option_or}
use Rattle.std.proofs.lemmas.Bool.{cond-true, cond-false, cases_Bool, both_ways, false_from_ne_true}
use Rattle.goal_graph.specs.declared.action.OpId.{OpId}
use Rattle.goal_graph.specs.declared.action.Timed.{Timed}
use Rattle.goal_graph.specs.declared.action.Class.{Class}
use Rattle.goal_graph.specs.declared.action.Class.TheVariants.{Arrive, Serve, Data, Post, Begin}
use Rattle.goal_graph.specs.Schedule.{Plan, IsSend, IsReceive}
use Rattle.goal_graph.specs.Action.{plain}
use Rattle.goal_graph.specs.Allowed.{has_started, allowed}
use Rattle.goal_graph.specs.Laws.{IsCalc}
use Rattle.goal_graph.proofs.ForCallers.{not_send_receive, not_receive_calc, not_send_calc, allowed_arrive, allowed_data, allowed_serve, allowed_post, allowed_begin, allowed_fresh, started_send}
use Rattle.sim_params.specs.Costs.{CostModel, is_eager}
use Rattle.sim_params.specs.Laws.{at_its_time}
use Rattle.sim_params.specs.Run.{IsRun}
use Rattle.sim_params.proofs.ForCallers.{possible_at}
use Rattle.sim_state.specs.Enabled.{enabled_action, IsEnabledActionOf}
use Rattle.sim_state.proofs.Started.{arrive_started, data_started}

-- an option that has no value is None
pub is_some_false_means_none : {A : Type 0} (o : Option A) → is_some o ≡ false → o ≡ None
is_some_false_means_none None e = refl
is_some_false_means_none (Some x) e = absurd (both_ways true e refl)

-- the first of two that is there
pub option_or_of_some : (a b : Option Timed) → is_some a ≡ true → a ≡ option_or a b
option_or_of_some None b e = absurd (both_ways false refl e)
option_or_of_some (Some x) b e = refl

pub option_or_of_none : (a b : Option Timed) → is_some a ≡ false → b ≡ option_or a b
option_or_of_none None b e = refl
option_or_of_none (Some x) b e = absurd (both_ways true e refl)

module _ (plans : List Plan) (costs : CostModel) (h : List Timed) (x : OpId) where
  abbrev pub Can : Class → Type 0
  Can c = allowed plans (is_eager plans costs) (plain h) c x ≡ true

  abbrev pub IsEnabledAction : Option Timed → Type 0
  IsEnabledAction r = IsEnabledActionOf plans costs h x r

  -- where no other class is allowed, the enabled action of that class is the one of x
  enabled_of_class : (c : Class) → ((d : Class) → Can d → d ≡ c) → IsEnabledAction (enabled_action plans costs h c x)
  enabled_of_class c only = go (cases_Bool (allowed plans (is_eager plans costs) (plain h) c x))
    where
      go : (Can c) ⊎ (allowed plans (is_eager plans costs) (plain h) c x ≡ false) → IsEnabledAction (enabled_action plans costs h c x)
      go (inl t) =
          subst IsEnabledAction (sym (cond-true _ (Some (at_its_time plans costs h c x)) None t)) (refl, possible_at plans costs h c x t)
      go (inr f) =
          subst IsEnabledAction (sym (cond-false _ (Some (at_its_time plans costs h c x)) None f)) (λ d. false_from_ne_true _ (λ t. both_ways _ f (subst Can (only d t) t)))

  -- where that class is allowed, its enabled action is the one of x
  enabled_action_of_class_else_rest : (c : Class) (rest : Option Timed) → ((Can c → ⊥) → IsEnabledAction rest) → IsEnabledAction (option_or (enabled_action plans costs h c x) rest)
  enabled_action_of_class_else_rest c rest other = go (cases_Bool (allowed plans (is_eager plans costs) (plain h) c x))
    where
      go : (Can c) ⊎ (allowed plans (is_eager plans costs) (plain h) c x ≡ false) → IsEnabledAction (option_or (enabled_action plans costs h c x) rest)
      go (inl t) =
          subst (λ (o : Option Timed). IsEnabledAction (option_or o rest)) (sym (cond-true _ (Some (at_its_time plans costs h c x)) None t)) (refl, possible_at plans costs h c x t)
      go (inr f) =
          subst (λ (o : Option Timed). IsEnabledAction (option_or o rest)) (sym (cond-false _ (Some (at_its_time plans costs h c x)) None f)) (other (λ t. both_ways _ f t))

  -- the classes of each kind
  calc_may_only_begin : IsCalc plans x → (c : Class) → Can c → c ≡ Begin
  calc_may_only_begin k Begin e = refl
  calc_may_only_begin k Arrive e = absurd (not_send_calc plans x (allowed_arrive plans (is_eager plans costs) (plain h) x e).0 k)
  calc_may_only_begin k Data e = absurd (not_send_calc plans x (allowed_data plans (is_eager plans costs) (plain h) x e).0 k)
  calc_may_only_begin k Post e = absurd (not_receive_calc plans x (allowed_post plans (is_eager plans costs) (plain h) x e).0 k)
  calc_may_only_begin k Serve e = absurd (not_receive_calc plans x (allowed_serve plans (is_eager plans costs) (plain h) x e).0 k)

  send_may_else_only_data : IsSend plans x → (Can Begin → ⊥) → (Can Arrive → ⊥) → (c : Class) → Can c → c ≡ Data
  send_may_else_only_data k b a Begin e = absurd (b e)
  send_may_else_only_data k b a Arrive e = absurd (a e)
  send_may_else_only_data k b a Data e = refl
  send_may_else_only_data k b a Post e = absurd (not_send_receive plans x k (allowed_post plans (is_eager plans costs) (plain h) x e).0)
  send_may_else_only_data k b a Serve e = absurd (not_send_receive plans x k (allowed_serve plans (is_eager plans costs) (plain h) x e).0)

  receive_may_else_only_serve : IsReceive plans x → (Can Post → ⊥) → (c : Class) → Can c → c ≡ Serve
  receive_may_else_only_serve k p Begin e = absurd (elim (allowed_begin plans (is_eager plans costs) (plain h) x e).0 [ inl calc ↦ not_receive_calc plans x k calc | inr send ↦ not_send_receive plans x send k ])
  receive_may_else_only_serve k p Arrive e = absurd (not_send_receive plans x (allowed_arrive plans (is_eager plans costs) (plain h) x e).0 k)
  receive_may_else_only_serve k p Data e = absurd (not_send_receive plans x (allowed_data plans (is_eager plans costs) (plain h) x e).0 k)
  receive_may_else_only_serve k p Post e = absurd (p e)
  receive_may_else_only_serve k p Serve e = refl

  pub calc_choice : IsCalc plans x → (r : Option Timed) → r ≡ enabled_action plans costs h Begin x → IsEnabledAction r
  calc_choice k r e = subst IsEnabledAction (sym e) (enabled_of_class Begin (calc_may_only_begin k))

  -- a send that has not started may only begin
  only_begins : IsSend plans x → IsRun plans costs h → has_started plans x (plain h) ≡ false → (c : Class) → Can c → c ≡ Begin
  only_begins k run f Begin e = refl
  only_begins k run f Arrive e = absurd (both_ways _ f (arrive_started plans costs h x e))
  only_begins k run f Data e = absurd (both_ways _ f (data_started plans costs h x run e))
  only_begins k run f Post e = absurd (not_send_receive plans x k (allowed_post plans (is_eager plans costs) (plain h) x e).0)
  only_begins k run f Serve e = absurd (not_send_receive plans x k (allowed_serve plans (is_eager plans costs) (plain h) x e).0)

  pub fresh_send_choice : IsSend plans x → IsRun plans costs h → has_started plans x (plain h) ≡ false → (r : Option Timed) → r ≡ enabled_action plans costs h Begin x → IsEnabledAction r
  fresh_send_choice k run f r e = subst IsEnabledAction (sym e) (enabled_of_class Begin (only_begins k run f))

  -- one that has started does not begin
  pub begun_send_choice : IsSend plans x → has_started plans x (plain h) ≡ true → (a b r : Option Timed) → a ≡ enabled_action plans costs h Arrive x → b ≡ enabled_action plans costs h Data x → r ≡ option_or a b → IsEnabledAction r
  begun_send_choice k s a b r ae be re =
      let not_begin : Can Begin → ⊥ = λ e. both_ways _ (allowed_fresh plans (is_eager plans costs) (plain h) Begin x e) (sym (started_send plans (plain h) x k) ∙ s) in
      let enabled = enabled_action_of_class_else_rest Arrive (enabled_action plans costs h Data x) (λ na. enabled_of_class Data (send_may_else_only_data k not_begin na)) in
      let parts : r ≡ option_or (enabled_action plans costs h Arrive x) (enabled_action plans costs h Data x) = re ∙ (λ i. option_or (ae i) (be i)) in
      subst IsEnabledAction (sym parts) enabled

  pub receive_choice : IsReceive plans x → (a b r : Option Timed) → a ≡ enabled_action plans costs h Post x → b ≡ enabled_action plans costs h Serve x → r ≡ option_or a b → IsEnabledAction r
  receive_choice k a b r ae be re =
      let enabled = enabled_action_of_class_else_rest Post (enabled_action plans costs h Serve x) (λ np. enabled_of_class Serve (receive_may_else_only_serve k np)) in
      let parts : r ≡ option_or (enabled_action plans costs h Post x) (enabled_action plans costs h Serve x) = re ∙ (λ i. option_or (ae i) (be i)) in
      subst IsEnabledAction (sym parts) enabled
