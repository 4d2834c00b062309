-- What a post, an arrival, the hand-over of bytes and the taking of a message change, and that their times fit.
use Rattle.std.proofs.Common.{◌≡◌, ℕ, ◌+◌, ◌<◌, ◌^◌, false, List, ◌∷◌, map, filter, Option, Some, None, refl, sym, ap, ◌∙◌, subst, arith}
use Rattle.goal_graph.specs.declared.action.OpId.{OpId}
use Rattle.goal_graph.specs.declared.action.Timed.{Timed}
use Rattle.goal_graph.specs.declared.action.Class.{Class}
use Rattle.goal_graph.specs.declared.action.Class.TheVariants.{Arrive, Serve, Data, Post}
use Rattle.goal_graph.specs.Schedule.{Plan, kind_at, operations, IsSend, IsReceive}
use Rattle.goal_graph.specs.Action.{happened, plain, holds_cpu}
use Rattle.goal_graph.specs.Fault.{IsOp}
use Rattle.goal_graph.proofs.ForCallers.{partner_is_send, send_is_op}
use Rattle.sim_params.specs.Costs.{CostModel, over, gap, flight}
use Rattle.sim_params.specs.Times.{cpu_hold, holds_tx, holds_rx, mate, Possible}
use Rattle.sim_params.specs.Run.{IsRun}
use Rattle.sim_params.specs.Budget.{budget}
use Rattle.sim_match.specs.PostsAndArrivals.{PostsAndArrivals, is_post_or_arrival, send_for, receive_for, with_post, with_arrival}
use Rattle.sim_eager.specs.Messages.{IsMessage}
use Rattle.sim_resources.specs.FreeTimes.{Holds, SameFreeTimes, hold_cpu, hold_tx, hold_rx}
use Rattle.sim_state.specs.declared.entry.Change.{Change}
use Rattle.sim_state.specs.declared.entry.Times.{Times}
use Rattle.sim_state.specs.declared.work.Work.{Work}
use Rattle.sim_state.specs.Changes.{IsChange}
use Rattle.sim_state.specs.Tasks.{work_of}
use Rattle.sim_state.specs.Tables.{with_times}
use Rattle.sim_state.specs.Represents.{AreFreeTimes, KnowsPostsAndArrivals, entry_known, entry_then, times_known}
use Rattle.sim_state.proofs.Entries.{posted, arrived, data_sent, message_taken, sender_exists, receiver_exists}
use Rattle.sim_state.proofs.Fits.{cpu_fits, tx_fits, rx_fits, bytes_fit, data_is_of_paired_rendezvous_send, post_is_of_receive, arrives, serve_is_of_served_receive}
use Rattle.sim_state.proofs.FreeTimes.{free_same, free_send, free_serve}
use Rattle.sim_state.proofs.HoldTimes.{cpu_of_data, tx_of_data, sends_at_data, cpu_of_serve, rx_of_serve}
use Rattle.sim_state.proofs.Pairings.{served_mate}
use Rattle.sim_state.proofs.PostsAndArrivals.{post_known, arrival_known, possible_not_happened_in_matcher}
use Rattle.sim_state.proofs.Tasks.{send_work_is_message}

module _ (plans : List Plan) (costs : CostModel) (h : List Timed) (a : Timed) where
  -- the times of the action's operation before it
  abbrev pub before : Times
  before = times_known plans costs h a.op

  -- written, these times make known what is known after the action
  abbrev pub Known : Times → Type 0
  Known t =
      map (with_times a.op t (entry_known plans costs h)) (operations plans) ≡ map (entry_then plans costs h a) (operations plans)

module _ (plans : List Plan) (costs : CostModel) (h : List Timed) (a : Timed) (run : IsRun plans costs h) (within : budget plans costs < 2 ^ 63) (p : Possible plans costs h a) where
  pub at_fits : a.time < 2 ^ 63
  at_fits = omega (arith, cpu_fits plans costs h a run p, within)

  -- a change of times
  pub times_changed : (c : Change) (t : Times) → c ≡ record { times = t; partner = None } → Known plans costs h a t → IsChange plans costs h a c
  times_changed c t e known =
      subst (IsChange plans costs h a) (sym e) (record { exists = tt; known = known })

  -- a post, where the matcher has returned the partner
  module _ (m : PostsAndArrivals) (knows : KnowsPostsAndArrivals plans costs h m) (is : a.class ≡ Post) where
    pub post_receive : IsReceive m.plans a.op
    post_receive =
        subst (λ (ps : List Plan). IsReceive ps a.op) (sym knows.same_plans) (post_is_of_receive plans costs h a run p is)

    pub post_fresh : happened Post a.op m.actions ≡ false
    post_fresh = possible_not_happened_in_matcher plans costs h a m knows Post p is refl

    pub post_changes : (t : Times) (partner : Option OpId) → t ≡ record (before plans costs h a) { start = Some a.time; awaited = None } → partner ≡ send_for m.plans m.actions a.op → IsChange plans costs h a (record { times = t; partner = partner })
    post_changes t partner e told =
        let taken : partner ≡ send_for plans (filter is_post_or_arrival (plain h)) a.op = told ∙ (λ i. send_for (knows.same_plans i) (knows.events i) a.op) in
        subst (λ (t : Times). IsChange plans costs h a (record { times = t; partner = partner })) (sym e) (record {
          exists = sender_exists plans costs h a run p partner is taken;
          known = posted plans costs h a run p (entry_known plans costs h a.op) refl partner is (post_is_of_receive plans costs h a run p is) taken;
        })

    pub post_free : (r : Holds) → AreFreeTimes plans costs h r → AreFreeTimes plans costs (a ∷ h) r
    post_free r free =
        free_same plans costs h a r free (ap holds_cpu is) (ap (λ (k : Class). holds_tx k (kind_at plans a.op)) is) (ap holds_rx is)

    pub post_told : (n : PostsAndArrivals) → n ≡ with_post m a.op → KnowsPostsAndArrivals plans costs (a ∷ h) n
    post_told n e = post_known plans costs h a m knows n is e

  -- an arrival
  module _ (m : PostsAndArrivals) (knows : KnowsPostsAndArrivals plans costs h m) (is : a.class ≡ Arrive) where
    pub arrival_send : IsSend m.plans a.op
    arrival_send =
        subst (λ (ps : List Plan). IsSend ps a.op) (sym knows.same_plans) (arrives plans costs h a run p is)

    pub arrival_fresh : happened Arrive a.op m.actions ≡ false
    arrival_fresh = possible_not_happened_in_matcher plans costs h a m knows Arrive p is refl

    pub arrival_changes : (t : Times) (partner : Option OpId) → t ≡ record (before plans costs h a) { awaited = None } → partner ≡ receive_for m.plans m.actions a.op → IsChange plans costs h a (record { times = t; partner = partner })
    arrival_changes t partner e told =
        let taken : partner ≡ receive_for plans (filter is_post_or_arrival (plain h)) a.op = told ∙ (λ i. receive_for (knows.same_plans i) (knows.events i) a.op) in
        subst (λ (t : Times). IsChange plans costs h a (record { times = t; partner = partner })) (sym e) (record {
          exists = receiver_exists plans costs h a run p partner is taken;
          known = arrived plans costs h a run p (entry_known plans costs h a.op) refl partner is (arrives plans costs h a run p is) taken;
        })

    pub arrival_free : (r : Holds) → AreFreeTimes plans costs h r → AreFreeTimes plans costs (a ∷ h) r
    arrival_free r free =
        free_same plans costs h a r free (ap holds_cpu is) (ap (λ (k : Class). holds_tx k (kind_at plans a.op)) is) (ap holds_rx is)

    pub arrival_told : (n : PostsAndArrivals) → n ≡ with_arrival m a.op → KnowsPostsAndArrivals plans costs (a ∷ h) n
    arrival_told n e = arrival_known plans costs h a m knows n is e

  -- a rendezvous send transfers its data
  module _ (is : a.class ≡ Data) (w : Work) (does : w ≡ work_of plans costs a.op) where
    send : IsSend plans a.op
    send = (data_is_of_paired_rendezvous_send plans costs h a run p is).0

    pub data_message : IsMessage plans a.op w.to w.amount
    data_message = send_work_is_message plans costs a.op w does send

    data_until : (n : ℕ) → n ≡ a.time + over plans costs a.op → n ≡ a.time + cpu_hold plans costs h a.class a.op (kind_at plans a.op)
    data_until n e = e ∙ ap (λ (n : ℕ). a.time + n) (sym (cpu_of_data plans costs h a.class a.op send is))

    pub data_over : a.time + over plans costs a.op < 2 ^ 63
    data_over = omega (arith, cpu_fits plans costs h a run p, data_until _ refl, within)

    pub data_gap : a.time + gap plans costs a.op < 2 ^ 63
    data_gap =
        omega (arith, tx_fits plans costs h a run p, tx_of_data plans costs h a.class a.op send is, within)

    pub data_flight : a.time + flight plans costs a.op < 2 ^ 63
    data_flight = omega (arith, bytes_fit plans costs h a run p is, within)

    pub data_known : (until there : ℕ) → until ≡ a.time + over plans costs a.op → there ≡ a.time + flight plans costs a.op → (t : Times) → t ≡ record (before plans costs h a) { end = Some until; awaited = Some there } → Known plans costs h a t
    data_known until there ends arrives t e =
        subst (Known plans costs h a) (sym e) (data_sent plans costs h a run p (entry_known plans costs h a.op) refl until (data_until until ends) there is send (data_is_of_paired_rendezvous_send plans costs h a run p is).1 arrives)

    pub data_free : (r s : Holds) (until : ℕ) → until ≡ a.time + over plans costs a.op → AreFreeTimes plans costs h r → SameFreeTimes s (hold_tx (hold_cpu r a.op until) a.op (a.time + gap plans costs a.op)) → AreFreeTimes plans costs (a ∷ h) s
    data_free r s until ends free after =
        free_send plans costs h a r free s until (ap holds_cpu is) (data_until until ends) (a.time + gap plans costs a.op) after (sends_at_data plans costs h a.class a.op send is) (ap (λ (n : ℕ). a.time + n) (sym (tx_of_data plans costs h a.class a.op send is))) (ap holds_rx is)

  -- a receive takes its message
  module _ (is : a.class ≡ Serve) where
    receive : IsReceive plans a.op
    receive = (serve_is_of_served_receive plans costs h a run p is).0

    pub serve_receive : IsReceive plans a.op
    serve_receive = receive

    -- it has a partner
    pub paired : (o : Option OpId) → o ≡ mate plans costs h a.op → ((m : OpId) → o ≡ Some m → ⊥) → ⊥
    paired o e none =
        let told = served_mate plans costs h a a.op (serve_is_of_served_receive plans costs h a run p is).1 in none told.0 (e ∙ told.1)

    module _ (m : OpId) (known : Some m ≡ mate plans costs h a.op) where
      partner : mate plans costs h a.op ≡ Some m
      partner = sym known

      pub sender : IsSend plans m
      sender = partner_is_send plans (plain h) a.op m receive partner

      pub sender_is_op : IsOp plans m
      sender_is_op = send_is_op plans m sender

      pub taken_message : (w : Work) → w ≡ work_of plans costs m → IsMessage plans m w.to w.amount
      taken_message w does = send_work_is_message plans costs m w does sender

      serve_until : (n : ℕ) → n ≡ a.time + over plans costs m → n ≡ a.time + cpu_hold plans costs h a.class a.op (kind_at plans a.op)
      serve_until n e =
          e ∙ ap (λ (n : ℕ). a.time + n) (sym (cpu_of_serve plans costs h a.class a.op receive m partner is))

      pub serve_over : a.time + over plans costs m < 2 ^ 63
      serve_over = omega (arith, cpu_fits plans costs h a run p, serve_until _ refl, within)

      pub serve_gap : a.time + gap plans costs m < 2 ^ 63
      serve_gap =
          omega (arith, rx_fits plans costs h a run p, rx_of_serve plans costs h a.class a.op receive m partner is, within)

      pub serve_known : (until : ℕ) → until ≡ a.time + over plans costs m → (t : Times) → t ≡ record (before plans costs h a) { end = Some until } → Known plans costs h a t
      serve_known until ends t e =
          subst (Known plans costs h a) (sym e) (message_taken plans costs h a run p (entry_known plans costs h a.op) refl until (serve_until until ends) is receive)

      pub serve_free : (q s : Holds) (until : ℕ) → until ≡ a.time + over plans costs m → AreFreeTimes plans costs h q → SameFreeTimes s (hold_rx (hold_cpu q a.op until) a.op (a.time + gap plans costs m)) → AreFreeTimes plans costs (a ∷ h) s
      serve_free q s until ends free after =
          free_serve plans costs h a q free s until (ap holds_cpu is) (serve_until until ends) (a.time + gap plans costs m) after (ap (λ (k : Class). holds_tx k (kind_at plans a.op)) is) (ap holds_rx is) (ap (λ (n : ℕ). a.time + n) (sym (rx_of_serve plans costs h a.class a.op receive m partner is)))
