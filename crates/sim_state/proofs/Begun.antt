-- The begin of a calc or a send: that its times fit, what it makes known, and when what it uses is free then.
use Rattle.std.proofs.Common.{◌≡◌, ℕ, ◌+◌, ◌<◌, ◌^◌, true, false, List, ◌∷◌, Some, None, inl, inr, refl, sym, ap, ◌∙◌, subst, arith}
use Rattle.goal_graph.specs.declared.action.Timed.{Timed}
use Rattle.goal_graph.specs.declared.action.Class.{Class}
use Rattle.goal_graph.specs.declared.action.Class.TheVariants.{Begin}
use Rattle.goal_graph.specs.declared.plan.Kind.TheVariants.{Calc}
use Rattle.goal_graph.specs.Schedule.{Plan, kind_at, IsSend}
use Rattle.goal_graph.specs.Action.{plain, holds_cpu}
use Rattle.goal_graph.specs.Allowed.{allowed}
use Rattle.goal_graph.specs.Laws.{IsCalc}
use Rattle.goal_graph.proofs.ForCallers.{allowed_begin, not_receive_calc, not_send_receive}
use Rattle.sim_params.specs.Costs.{CostModel, over, over_one, gap, gap_one, flight, flight_one, is_eager}
use Rattle.sim_params.specs.Times.{cpu_hold, holds_rx, Possible}
use Rattle.sim_params.specs.Run.{IsRun}
use Rattle.sim_params.specs.Budget.{budget}
use Rattle.sim_eager.specs.Messages.{IsMessage}
use Rattle.sim_resources.specs.FreeTimes.{Holds, SameFreeTimes, hold_cpu, hold_tx}
use Rattle.sim_state.specs.declared.entry.Times.{Times}
use Rattle.sim_state.specs.declared.task.Task.TheVariants as task
use Rattle.sim_state.specs.declared.work.Work.{Work}
use Rattle.sim_state.specs.Tasks.{work_of, task_of}
use Rattle.sim_state.specs.Represents.{AreFreeTimes, entry_known}
use Rattle.sim_state.proofs.Changed.{before, Known}
use Rattle.sim_state.proofs.Entries.{calc_begun, eager_begun, request_begun}
use Rattle.sim_state.proofs.Fits.{cpu_fits, tx_fits, flight_of_eager, flight_of_request}
use Rattle.sim_state.proofs.FreeTimes.{free_calc, free_send}
use Rattle.sim_state.proofs.HoldTimes.{cpu_of_calc, tx_of_calc, cpu_of_eager, tx_of_eager, cpu_of_request, tx_of_request, sends_at_begin}
use Rattle.sim_state.proofs.Places.{possible_exists}
use Rattle.sim_state.proofs.Tasks.{calc_task_is_of_calc, send_task_is_of_send, receive_task_is_of_receive, eager_task_is_eager, rendezvous_task_is_not_eager, calc_takes, send_work_is_message}

module _ (plans : List Plan) (costs : CostModel) (h : List Timed) (a : Timed) (run : IsRun plans costs h) (within : budget plans costs < 2 ^ 63) (p : Possible plans costs h a) (begins : a.class ≡ Begin) (w : Work) (does : w ≡ work_of plans costs a.op) where
  task_is : w.task ≡ task_of plans costs a.op
  task_is = ap (λ (w : Work). w.task) does

  -- a calc
  module _ (is : w.task ≡ task.Calc) where
    calc : IsCalc plans a.op
    calc = calc_task_is_of_calc plans costs a.op w.task task_is is (possible_exists plans costs h a p)

    kind : kind_at plans a.op ≡ Some (Calc w.amount)
    kind = calc_takes plans costs a.op w does calc

    until : a.time + w.amount ≡ a.time + cpu_hold plans costs h a.class a.op (kind_at plans a.op)
    until = ap (λ (n : ℕ). a.time + n) (sym (cpu_of_calc plans costs h a.class a.op w.amount begins kind))

    pub calc_fits : a.time + w.amount < 2 ^ 63
    calc_fits = omega (arith, cpu_fits plans costs h a run p, until, within)

    pub calc_known : (t : Times) → t ≡ record (before plans costs h a) { start = Some a.time; end = Some (a.time + w.amount); awaited = None } → Known plans costs h a t
    calc_known t e =
        subst (Known plans costs h a) (sym e) (calc_begun plans costs h a run p (entry_known plans costs h a.op) refl (a.time + w.amount) until begins calc)

    pub calc_free : (r s : Holds) → AreFreeTimes plans costs h r → SameFreeTimes s (hold_cpu r a.op (a.time + w.amount)) → AreFreeTimes plans costs (a ∷ h) s
    calc_free r s free after =
        free_calc plans costs h a r free s (a.time + w.amount) (ap holds_cpu begins) until after (tx_of_calc plans costs h a.class a.op w.amount begins kind) (ap holds_rx begins)

  -- a send that goes out whole
  module _ (is : w.task ≡ task.Eager) where
    eager_send : IsSend plans a.op
    eager_send = send_task_is_of_send plans costs a.op w.task task_is (inl is)

    eager : is_eager plans costs a.op ≡ true
    eager = eager_task_is_eager plans costs a.op w.task task_is is

    pub eager_message : IsMessage plans a.op w.to w.amount
    eager_message = send_work_is_message plans costs a.op w does eager_send

    until_of : (n : ℕ) → n ≡ a.time + over plans costs a.op → n ≡ a.time + cpu_hold plans costs h a.class a.op (kind_at plans a.op)
    until_of n e =
        e ∙ ap (λ (n : ℕ). a.time + n) (sym (cpu_of_eager plans costs h a.class a.op eager_send begins eager))

    pub eager_over : a.time + over plans costs a.op < 2 ^ 63
    eager_over = omega (arith, cpu_fits plans costs h a run p, until_of _ refl, within)

    pub eager_gap : a.time + gap plans costs a.op < 2 ^ 63
    eager_gap =
        omega (arith, tx_fits plans costs h a run p, tx_of_eager plans costs h a.class a.op eager_send begins eager, within)

    pub eager_flight : a.time + flight plans costs a.op < 2 ^ 63
    eager_flight = omega (arith, flight_of_eager plans costs h a run p begins eager_send eager, within)

    pub eager_known : (until arrive : ℕ) → until ≡ a.time + over plans costs a.op → arrive ≡ a.time + flight plans costs a.op → (t : Times) → t ≡ record (before plans costs h a) { start = Some a.time; end = Some until; awaited = Some arrive } → Known plans costs h a t
    eager_known until arrive ends arrives t e =
        subst (Known plans costs h a) (sym e) (eager_begun plans costs h a run p (entry_known plans costs h a.op) refl until (until_of until ends) arrive begins eager_send eager arrives)

    pub eager_free : (r s : Holds) (until : ℕ) → until ≡ a.time + over plans costs a.op → AreFreeTimes plans costs h r → SameFreeTimes s (hold_tx (hold_cpu r a.op until) a.op (a.time + gap plans costs a.op)) → AreFreeTimes plans costs (a ∷ h) s
    eager_free r s until ends free after =
        free_send plans costs h a r free s until (ap holds_cpu begins) (until_of until ends) (a.time + gap plans costs a.op) after (sends_at_begin plans costs h a.class a.op eager_send begins) (ap (λ (n : ℕ). a.time + n) (sym (tx_of_eager plans costs h a.class a.op eager_send begins eager))) (ap holds_rx begins)

  -- a send with a request before it
  module _ (is : w.task ≡ task.Rendezvous) where
    large_send : IsSend plans a.op
    large_send = send_task_is_of_send plans costs a.op w.task task_is (inr is)

    large : is_eager plans costs a.op ≡ false
    large = rendezvous_task_is_not_eager plans costs a.op w.task task_is is

    pub large_message : IsMessage plans a.op w.to w.amount
    large_message = send_work_is_message plans costs a.op w does large_send

    request_until : a.time + over_one plans costs a.op ≡ a.time + cpu_hold plans costs h a.class a.op (kind_at plans a.op)
    request_until =
        ap (λ (n : ℕ). a.time + n) (sym (cpu_of_request plans costs h a.class a.op large_send begins large))

    pub request_over : a.time + over_one plans costs a.op < 2 ^ 63
    request_over = omega (arith, cpu_fits plans costs h a run p, request_until, within)

    pub request_gap : a.time + gap_one plans costs a.op < 2 ^ 63
    request_gap =
        omega (arith, tx_fits plans costs h a run p, tx_of_request plans costs h a.class a.op large_send begins large, within)

    pub request_flight : a.time + flight_one plans costs a.op < 2 ^ 63
    request_flight = omega (arith, flight_of_request plans costs h a run p begins large_send large, within)

    pub request_known : (arrive : ℕ) → arrive ≡ a.time + flight_one plans costs a.op → (t : Times) → t ≡ record (before plans costs h a) { start = Some a.time; awaited = Some arrive } → Known plans costs h a t
    request_known arrive arrives t e =
        subst (Known plans costs h a) (sym e) (request_begun plans costs h a run p (entry_known plans costs h a.op) refl arrive begins large_send large arrives)

    pub request_free : (r s : Holds) → AreFreeTimes plans costs h r → SameFreeTimes s (hold_tx (hold_cpu r a.op (a.time + over_one plans costs a.op)) a.op (a.time + gap_one plans costs a.op)) → AreFreeTimes plans costs (a ∷ h) s
    request_free r s free after =
        free_send plans costs h a r free s (a.time + over_one plans costs a.op) (ap holds_cpu begins) request_until (a.time + gap_one plans costs a.op) after (sends_at_begin plans costs h a.class a.op large_send begins) (ap (λ (n : ℕ). a.time + n) (sym (tx_of_request plans costs h a.class a.op large_send begins large))) (ap holds_rx begins)

  -- no receive begins
  pub no_receive : w.task ≡ task.Receive → ⊥
  no_receive is =
      let receive = receive_task_is_of_receive plans costs a.op w.task task_is is in
      let kinds = allowed_begin plans (is_eager plans costs) (plain h) a.op (subst (λ (k : Class). allowed plans (is_eager plans costs) (plain h) k a.op ≡ true) begins p.allowed) in
      elim kinds.0 [ inl calc ↦ not_receive_calc plans a.op receive calc | inr send ↦ not_send_receive plans a.op send receive ]
