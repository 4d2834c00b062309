-- No sum of a time and a cost is over the budget.
use Rattle.std.proofs.Common.{◌≡◌, ◌==◌, ◌≤◌, ◌||◌, ◌+◌, Bool, true, false, List, ◌∷◌, Some, if◌then◌else◌, inl, inr, sym, ap, ◌∙◌, subst, arith}
use Rattle.std.proofs.lemmas.Bool.{both_ways, false_from_ne_true, or_right, or_cases}
use Rattle.goal_graph.specs.declared.action.OpId.{OpId}
use Rattle.goal_graph.specs.declared.action.Timed.{Timed}
use Rattle.goal_graph.specs.declared.action.Class.{Class}
use Rattle.goal_graph.specs.declared.action.Class.TheVariants.{Arrive, Serve, Data, Post, Begin}
use Rattle.goal_graph.specs.Schedule.{Plan, kind_at, IsSend, IsReceive}
use Rattle.goal_graph.specs.Action.{place, is_act, happened, plain, plain_act}
use Rattle.goal_graph.specs.Matching.{pairs, is_paired}
use Rattle.goal_graph.specs.Allowed.{first_class, may, is_served, allowed}
use Rattle.goal_graph.proofs.ForCallers.{arrived_begun, served_message, value_of_is_some, allowed_from, allowed_arrive, allowed_data, allowed_post, allowed_serve, partners_mutual, partner_is_receive}
use Rattle.sim_params.specs.Costs.{CostModel, flight, flight_one, is_eager}
use Rattle.sim_params.specs.Times.{since, mate, cpu_hold, tx_hold, rx_hold, paired_at, there_at, time_of, time, Possible}
use Rattle.sim_params.specs.Run.{IsRun}
use Rattle.sim_params.specs.Budget.{budget}
use Rattle.sim_params.specs.Laws.{at_its_time}
use Rattle.sim_params.proofs.ForCallers.{possible_within_budget, start_at_newest, since_new, mate_stays, possible_at, run_is_each_possible, run_interleaving}
use Rattle.sim_state.proofs.After.{happened_kept_by_other_action, newest_action_has_happened, not_happened_yet, newest_is_not_act_of_other_class}

module _ (plans : List Plan) (costs : CostModel) (h : List Timed) (a : Timed) (run : IsRun plans costs h) (p : Possible plans costs h a) where
  -- the action releases what it holds within the budget
  pub cpu_fits : a.time + cpu_hold plans costs h a.class a.op (kind_at plans a.op) ≤ budget plans costs
  cpu_fits = omega (arith, possible_within_budget plans costs h a (run_is_each_possible plans costs h run) p)

  pub tx_fits : a.time + tx_hold plans costs a.class a.op (kind_at plans a.op) ≤ budget plans costs
  tx_fits = omega (arith, possible_within_budget plans costs h a (run_is_each_possible plans costs h run) p)

  pub rx_fits : a.time + rx_hold plans costs h a.class a.op (kind_at plans a.op) ≤ budget plans costs
  rx_fits = omega (arith, possible_within_budget plans costs h a (run_is_each_possible plans costs h run) p)

  -- what is allowed after it happens within the budget
  next_fits : (c : Class) (x : OpId) → allowed plans (is_eager plans costs) (plain (a ∷ h)) c x ≡ true → time plans costs (a ∷ h) c x ≤ budget plans costs
  next_fits c x e =
      omega (arith, possible_within_budget plans costs (a ∷ h) (at_its_time plans costs (a ∷ h) c x) (run_is_each_possible plans costs h run, p) (possible_at plans costs (a ∷ h) c x e))

  -- the message of a send that begins arrives within the budget
  flight_fits : a.class ≡ Begin → IsSend plans a.op → a.time + (if is_eager plans costs a.op then flight plans costs a.op else flight_one plans costs a.op) ≤ budget plans costs
  unfolding time
  flight_fits e s =
      let not_arrived : happened Arrive a.op (plain h) ≡ false = false_from_ne_true _ (λ t. both_ways _ (not_happened_yet plans costs h a Begin p e) (arrived_begun plans (is_eager plans costs) (plain h) a.op (run_interleaving plans costs h run) t)) in
      let other : is_act Arrive a.op (plain_act a) ≡ false = newest_is_not_act_of_other_class plans costs h a Arrive a.op (ap (λ (c : Class). place c == 0) e) in
      let still : happened Arrive a.op (plain (a ∷ h)) ≡ false = happened_kept_by_other_action plans costs h a Arrive a.op other ∙ not_arrived in
      let may_arrive : may plans (is_eager plans costs) (plain (a ∷ h)) Arrive a.op (kind_at plans a.op) ≡ true = ap (may plans (is_eager plans costs) (plain (a ∷ h)) Arrive a.op) s.kind ∙ newest_action_has_happened plans costs h a Begin e in
      let first : a.class ≡ first_class (kind_at plans a.op) = e ∙ sym (ap first_class s.kind) in
      let bound = next_fits Arrive a.op (allowed_from plans (is_eager plans costs) (plain (a ∷ h)) Arrive a.op still may_arrive) in
      let when = ap (time_of plans costs (a ∷ h) Arrive a.op) s.kind in
      omega (arith, bound, when, start_at_newest plans costs a h p first)

  pub flight_of_eager : a.class ≡ Begin → IsSend plans a.op → is_eager plans costs a.op ≡ true → a.time + flight plans costs a.op ≤ budget plans costs
  flight_of_eager e s eager = subst (λ (b : Bool). a.time + (if b then flight plans costs a.op else flight_one plans costs a.op) ≤ budget plans costs) eager (flight_fits e s)

  pub flight_of_request : a.class ≡ Begin → IsSend plans a.op → is_eager plans costs a.op ≡ false → a.time + flight_one plans costs a.op ≤ budget plans costs
  flight_of_request e s large = subst (λ (b : Bool). a.time + (if b then flight plans costs a.op else flight_one plans costs a.op) ≤ budget plans costs) large (flight_fits e s)

  -- Data is of a rendezvous send
  pub data_is_of_paired_rendezvous_send : a.class ≡ Data → IsSend plans a.op × (is_eager plans costs a.op ≡ false) × (is_paired (pairs plans (plain h)) a.op ≡ true)
  data_is_of_paired_rendezvous_send e = allowed_data plans (is_eager plans costs) (plain h) a.op (subst (λ (c : Class). allowed plans (is_eager plans costs) (plain h) c a.op ≡ true) e p.allowed)

  -- Post is of a receive, Arrive of a send
  pub post_is_of_receive : a.class ≡ Post → IsReceive plans a.op
  post_is_of_receive e = (allowed_post plans (is_eager plans costs) (plain h) a.op (subst (λ (c : Class). allowed plans (is_eager plans costs) (plain h) c a.op ≡ true) e p.allowed)).0

  pub arrives : a.class ≡ Arrive → IsSend plans a.op
  arrives e = (allowed_arrive plans (is_eager plans costs) (plain h) a.op (subst (λ (c : Class). allowed plans (is_eager plans costs) (plain h) c a.op ≡ true) e p.allowed)).0

  -- Serve is of a receive that is paired
  pub serve_is_of_served_receive : a.class ≡ Serve → IsReceive plans a.op × (is_served plans (is_eager plans costs) (plain h) (mate plans costs h a.op) ≡ true)
  serve_is_of_served_receive e = allowed_serve plans (is_eager plans costs) (plain h) a.op (subst (λ (c : Class). allowed plans (is_eager plans costs) (plain h) c a.op ≡ true) e p.allowed)

  -- the bytes of a rendezvous send are at its receive within the budget
  pub bytes_fit : a.class ≡ Data → a.time + flight plans costs a.op ≤ budget plans costs
  unfolding time
  bytes_fit e = go (data_is_of_paired_rendezvous_send e)
    where
      eager : OpId → Bool
      eager = is_eager plans costs

      go : IsSend plans a.op × (eager a.op ≡ false) × (is_paired (pairs plans (plain h)) a.op ≡ true) → a.time + flight plans costs a.op ≤ budget plans costs
      go (s, large, paired) =
          let with = value_of_is_some (mate plans costs h a.op) paired in
          let x = with.0 in
          let r = partner_is_receive plans (plain h) a.op x s with.1 in
          let back : mate plans costs h x ≡ Some a.op = partners_mutual plans eager (plain h) a.op x (run_interleaving plans costs h run) with.1 in
          let back_now : mate plans costs (a ∷ h) x ≡ Some a.op = mate_stays plans costs a h x a.op back in
          let unsent = not_happened_yet plans costs h a Data p e in
          let unserved : happened Serve x (plain h) ≡ false = false_from_ne_true _ (λ t. absent large unsent (subst (λ o. is_served plans eager (plain h) o ≡ true) back (served_message plans eager (plain h) x (run_interleaving plans costs h run) t))) in
          let other : is_act Serve x (plain_act a) ≡ false = newest_is_not_act_of_other_class plans costs h a Serve x (ap (λ (c : Class). place c == 1) e) in
          let still : happened Serve x (plain (a ∷ h)) ≡ false = happened_kept_by_other_action plans costs h a Serve x other ∙ unserved in
          let there : is_served plans eager (plain (a ∷ h)) (mate plans costs (a ∷ h) x) ≡ true = subst (λ o. is_served plans eager (plain (a ∷ h)) o ≡ true) (sym back_now) (or_right (eager a.op) _ (newest_action_has_happened plans costs h a Data e)) in
          let may_serve : may plans eager (plain (a ∷ h)) Serve x (kind_at plans x) ≡ true = ap (may plans eager (plain (a ∷ h)) Serve x) r.kind ∙ there in
          let bound = next_fits Serve x (allowed_from plans eager (plain (a ∷ h)) Serve x still may_serve) in
          let when = ap (time_of plans costs (a ∷ h) Serve x) r.kind in
          let at : there_at plans costs (a ∷ h) x (mate plans costs (a ∷ h) x) ≡ since (happened Data a.op) (a ∷ h) + flight plans costs a.op = ap (there_at plans costs (a ∷ h) x) back_now ∙ ap (λ (b : Bool). if b then paired_at plans costs (a ∷ h) x else since (happened Data a.op) (a ∷ h) + flight plans costs a.op) large in
          let now = since_new (happened Data a.op) a h unsent (newest_action_has_happened plans costs h a Data e) in
          omega (arith, bound, when, at, now)
        where
          absent : eager a.op ≡ false → happened Data a.op (plain h) ≡ false → (eager a.op || happened Data a.op (plain h)) ≡ true → ⊥
          absent f g t = elim (or_cases (eager a.op) (happened Data a.op (plain h)) t) [ inl u ↦ both_ways _ f u | inr u ↦ both_ways _ g u ]
