-- What an operation awaits once it has started: a send its arrival, before it is paired; then since when it is paired, and where it has
-- transferred its data, that these are delivered.
use Rattle.std.proofs.Common.{◌≡◌, ℕ, true, false, not, List, [], ◌∷◌, Option, None, Some, is_some, inl, inr, refl, sym, ap, ◌∙◌, subst}
use Rattle.std.specs.Option.{option_map, option_or}
use Rattle.std.proofs.lemmas.Bool.{and_left, both_ways, cond-true, cond-false, false_from_ne_true, true_from_ne_false}
use Rattle.goal_graph.specs.declared.action.OpId.{OpId}
use Rattle.goal_graph.specs.declared.action.Timed.{Timed}
use Rattle.goal_graph.specs.declared.action.Class.{Class}
use Rattle.goal_graph.specs.declared.action.Class.TheVariants.{Arrive, Data}
use Rattle.goal_graph.specs.Schedule.{Plan, IsSend, IsReceive}
use Rattle.goal_graph.specs.Action.{is_act, happened, plain, plain_act}
use Rattle.goal_graph.specs.Allowed.{has_started, allowed}
use Rattle.goal_graph.proofs.ForCallers.{allowed_arrive, allowed_data, arrived_begun, data_paired, happened_cases, happened_none, is_act_class, is_act_op, unarrived_send_has_no_partner, unposted_receive_has_no_partner, not_send_receive, started_receive, started_send}
use Rattle.sim_params.specs.Costs.{CostModel, is_eager}
use Rattle.sim_params.specs.Times.{mate, paired_at}
use Rattle.sim_params.specs.Run.{IsRun}
use Rattle.sim_params.proofs.ForCallers.{run_interleaving}
use Rattle.sim_state.specs.Awaited.{awaited_known, delivered_known, paired_since}
use Rattle.sim_state.specs.Enabled.{time_known}

pub or_none : {A : Type 0} (o : Option A) → option_or o None ≡ o
or_none None = refl
or_none (Some x) = refl

module _ (plans : List Plan) (costs : CostModel) where
  -- only sends transfer their data
  handed_send : (h : List Timed) (x : OpId) → IsRun plans costs h → happened Data x (plain h) ≡ true → IsSend plans x
  unfolding plain
  handed_send [] x run e = absurd (both_ways _ (happened_none Data x) e)
  handed_send (b ∷ h) x run e =
      elim (happened_cases Data x (plain_act b) (plain h) e) [ inl was ↦ handed_send h x run.0 was | inr now ↦ (allowed_data plans (is_eager plans costs) (plain h) x (here now)).0 ]
    where
      here : is_act Data x (plain_act b) ≡ true → allowed plans (is_eager plans costs) (plain h) Data x ≡ true
      here now =
          subst (λ (y : OpId). allowed plans (is_eager plans costs) (plain h) Data y ≡ true) (is_act_op Data x (plain_act b) now) (subst (λ (c : Class). allowed plans (is_eager plans costs) (plain h) c b.op ≡ true) (is_act_class Data x (plain_act b) now) run.1.possible.allowed)

  module _ (h : List Timed) (x : OpId) where
    -- a send that is paired has arrived
    pub paired_arrived : IsSend plans x → is_some (mate plans costs h x) ≡ true → happened Arrive x (plain h) ≡ true
    paired_arrived send e =
        true_from_ne_false _ (λ f. both_ways _ (ap is_some (unarrived_send_has_no_partner plans (plain h) x send f)) e)

    -- a receive that is paired has been posted, and it never arrives
    paired_posted : IsReceive plans x → is_some (mate plans costs h x) ≡ true → has_started plans x (plain h) ≡ true
    paired_posted recv e =
        started_receive plans (plain h) x recv ∙ true_from_ne_false _ (λ f. both_ways _ (ap is_some (unposted_receive_has_no_partner plans (plain h) x recv f)) e)

    no_arrival : IsReceive plans x → time_known plans costs h Arrive x ≡ None
    no_arrival recv =
        cond-false _ _ _ (false_from_ne_true _ (λ t. not_send_receive plans x (allowed_arrive plans (is_eager plans costs) (plain h) x t).0 recv))

    -- since when x is paired, whomever with
    abbrev since_then : OpId → ℕ
    since_then y = paired_at plans costs h x

    -- what has arrived arrives no more
    pub arriving_none : happened Arrive x (plain h) ≡ true → time_known plans costs h Arrive x ≡ None
    unfolding allowed
    arriving_none e = cond-false _ _ _ (and_left _ _ (ap not e))

    pub undelivered : happened Data x (plain h) ≡ false → delivered_known plans costs h x ≡ None
    undelivered e = cond-false _ _ _ e

    module _ (run : IsRun plans costs h) where
      handed_arrived : happened Data x (plain h) ≡ true → happened Arrive x (plain h) ≡ true
      handed_arrived e =
          paired_arrived (handed_send h x run e) (data_paired plans (is_eager plans costs) (plain h) x (run_interleaving plans costs h run) e)

      arrived_started : IsSend plans x → happened Arrive x (plain h) ≡ true → has_started plans x (plain h) ≡ true
      arrived_started send e =
          started_send plans (plain h) x send ∙ arrived_begun plans (is_eager plans costs) (plain h) x (run_interleaving plans costs h run) e

      -- what has not started, what has not arrived and what is not paired has not transferred its data
      pub unstarted_unhanded : has_started plans x (plain h) ≡ false → happened Data x (plain h) ≡ false
      unstarted_unhanded f =
          false_from_ne_true _ (λ t. both_ways _ f (arrived_started (handed_send h x run t) (handed_arrived t)))

      pub unarrived_unhanded : happened Arrive x (plain h) ≡ false → happened Data x (plain h) ≡ false
      unarrived_unhanded f = false_from_ne_true _ (λ t. both_ways _ f (handed_arrived t))

      pub unpaired_unhanded : mate plans costs h x ≡ None → happened Data x (plain h) ≡ false
      unpaired_unhanded e =
          false_from_ne_true _ (λ t. both_ways _ (ap is_some e) (data_paired plans (is_eager plans costs) (plain h) x (run_interleaving plans costs h run) t))

      -- nor does a receive hand over bytes
      no_bytes : IsReceive plans x → happened Data x (plain h) ≡ false
      no_bytes recv = false_from_ne_true _ (λ t. not_send_receive plans x (handed_send h x run t) recv)

      -- what it awaits before it is paired
      pub awaited_unpaired : has_started plans x (plain h) ≡ true → mate plans costs h x ≡ None → awaited_known plans costs h x ≡ time_known plans costs h Arrive x
      awaited_unpaired s e =
          cond-true _ _ _ s ∙ ap (option_or (time_known plans costs h Arrive x)) (ap (λ o. option_or o (paired_since plans costs h x)) (undelivered (unpaired_unhanded e)) ∙ ap (option_map since_then) e) ∙ or_none (time_known plans costs h Arrive x)

      -- and once it is paired, while it has not transferred its data
      paired_waits : has_started plans x (plain h) ≡ true → time_known plans costs h Arrive x ≡ None → happened Data x (plain h) ≡ false → (m : OpId) → mate plans costs h x ≡ Some m → awaited_known plans costs h x ≡ Some (paired_at plans costs h x)
      paired_waits s a d m e =
          cond-true _ _ _ s ∙ ap (λ o. option_or o (option_or (delivered_known plans costs h x) (paired_since plans costs h x))) a ∙ ap (λ o. option_or o (paired_since plans costs h x)) (undelivered d) ∙ ap (option_map since_then) e

      -- so for a send
      pub send_waits : IsSend plans x → happened Data x (plain h) ≡ false → (m : OpId) → mate plans costs h x ≡ Some m → awaited_known plans costs h x ≡ Some (paired_at plans costs h x)
      send_waits send d m e =
          let arrived = paired_arrived send (ap is_some e) in
          paired_waits (arrived_started send arrived) (arriving_none arrived) d m e

      -- and for a receive, which neither arrives nor hands over bytes
      pub receive_waits : IsReceive plans x → (m : OpId) → mate plans costs h x ≡ Some m → awaited_known plans costs h x ≡ Some (paired_at plans costs h x)
      receive_waits recv m e = paired_waits (paired_posted recv (ap is_some e)) (no_arrival recv) (no_bytes recv) m e

      -- one that has transferred its data awaits that they are delivered
      pub awaited_handed : happened Data x (plain h) ≡ true → awaited_known plans costs h x ≡ delivered_known plans costs h x
      awaited_handed d =
          let arrived = handed_arrived d in
          cond-true _ _ _ (arrived_started (handed_send h x run d) arrived) ∙ ap (λ o. option_or o (option_or (delivered_known plans costs h x) (paired_since plans costs h x))) (arriving_none arrived) ∙ ap (λ o. option_or o (paired_since plans costs h x)) (cond-true _ _ _ d) ∙ sym (cond-true _ _ _ d)
