-- What may happen next of one operation, class by class.
use Rattle.std.proofs.Common.{◌≡◌, ◌+◌, ◌≤◌, ℕ, max, Bool, true, false, not, ◌||◌, List, Option, Some, None, is_some, if◌then◌else◌, inl, inr, refl, sym, ap, ◌∙◌, arith}
use Rattle.std.specs.Option.{option_map}
use Rattle.std.proofs.lemmas.Bool.{cases_Bool, cond-true, cond-false, both_ways, false_from_ne_true, and_from, not_from_false}
use Rattle.std.proofs.lemmas.Option.{same_Some}
use Rattle.goal_graph.specs.declared.action.OpId.{OpId}
use Rattle.goal_graph.specs.declared.action.Timed.{Timed}
use Rattle.goal_graph.specs.declared.action.Class.{Class}
use Rattle.goal_graph.specs.declared.action.Class.TheVariants.{Arrive, Serve, Data, Post, Begin}
use Rattle.goal_graph.specs.declared.plan.Kind.TheVariants.{Send}
use Rattle.goal_graph.specs.Schedule.{Plan, kind_at, IsSend, IsReceive}
use Rattle.goal_graph.specs.Action.{happened, plain}
use Rattle.goal_graph.specs.Matching.{pairs, is_paired}
use Rattle.goal_graph.specs.Allowed.{first_class, has_started, has_ended, is_ready, is_served, may, allowed}
use Rattle.goal_graph.specs.Laws.{IsCalc}
use Rattle.goal_graph.proofs.ForCallers.{partner_is_send, allowed_fresh, allowed_may, allowed_from, allowed_data, allowed_serve, arrived_begun, value_of_is_some, first_of_calc, first_of_send, first_of_receive, ended_receive, last_of_eager, last_of_rendezvous}
use Rattle.sim_params.specs.Costs.{CostModel, is_eager, eager_of, latency, flight}
use Rattle.sim_params.specs.Times.{since, mate, ready, cpu, tx, rx, paired_at, there_at, time_of, time}
use Rattle.sim_params.specs.Run.{IsRun}
use Rattle.sim_params.specs.Laws.{at_its_time}
use Rattle.sim_params.specs.Budget.{budget}
use Rattle.sim_params.proofs.ForCallers.{possible_within_budget, possible_at, run_is_each_possible, run_interleaving}
use Rattle.sim_state.specs.declared.entry.OpState.{OpState}
use Rattle.sim_state.specs.declared.task.Task.{Task}
use Rattle.sim_state.specs.declared.task.Task.TheVariants as task
use Rattle.sim_state.specs.Represents.{Pairing, message_known, entry_known}
use Rattle.sim_state.specs.Enabled.{ready_known, time_known, enabled_action}
use Rattle.sim_state.specs.Tasks.{task_of}
use Rattle.sim_state.proofs.Handed.{awaited_handed, awaited_unpaired, paired_arrived, receive_waits, send_waits}
use Rattle.sim_state.proofs.Tasks.{send_task}

-- a number that is known, or not
pub some_only_if_test_passes : (b : Bool) (n m : ℕ) → (if b then Some n else None) ≡ Some m → (b ≡ true) × (n ≡ m)
some_only_if_test_passes true n m e = (refl, same_Some n m e)
some_only_if_test_passes false n m e = absurd (cc)

pub is_some_by_test : (b : Bool) (n : ℕ) → is_some (if b then Some n else None) ≡ b
is_some_by_test true n = refl
is_some_by_test false n = refl

module _ (plans : List Plan) (costs : CostModel) (h : List Timed) (x : OpId) where
  -- an action that may happen and has not
  pub comes_enabled : (c : Class) (t : ℕ) → happened c x (plain h) ≡ false → may plans (is_eager plans costs) (plain h) c x (kind_at plans x) ≡ true → t ≡ time plans costs h c x → Some (record { time = t; class = c; op = x }) ≡ enabled_action plans costs h c x
  comes_enabled c t fresh can at =
      ap (λ (n : ℕ). Some (at_time n)) at ∙ sym (cond-true _ _ None (allowed_from plans (is_eager plans costs) (plain h) c x fresh can))
    where
      at_time : ℕ → Timed
      at_time n = record { time = n; class = c; op = x }

  -- one that is not allowed
  pub not_enabled : (c : Class) → (allowed plans (is_eager plans costs) (plain h) c x ≡ true → ⊥) → None ≡ enabled_action plans costs h c x
  not_enabled c not = sym (cond-false _ _ None (false_from_ne_true _ not))

  pub past_not_enabled : (c : Class) → happened c x (plain h) ≡ true → None ≡ enabled_action plans costs h c x
  past_not_enabled c e =
      not_enabled c (λ p. both_ways _ (allowed_fresh plans (is_eager plans costs) (plain h) c x p) e)

  pub barred_not_enabled : (c : Class) → may plans (is_eager plans costs) (plain h) c x (kind_at plans x) ≡ false → None ≡ enabled_action plans costs h c x
  barred_not_enabled c e =
      not_enabled c (λ p. both_ways _ e (allowed_may plans (is_eager plans costs) (plain h) c x p))

  -- x begins by an action of that class, once it is ready
  pub record BeginsBy (c : Class) : Type 0 where
    pub first : first_class (kind_at plans x) ≡ c
    pub once_ready : may plans (is_eager plans costs) (plain h) c x (kind_at plans x) ≡ is_ready plans (is_eager plans costs) (plain h) x

  pub calc_begins : IsCalc plans x → BeginsBy Begin
  calc_begins k = record {
    first = first_of_calc plans x k;
    once_ready = ap (may plans (is_eager plans costs) (plain h) Begin x) k.kind;
  }

  pub send_begins : IsSend plans x → BeginsBy Begin
  send_begins k = record {
    first = first_of_send plans x k;
    once_ready = ap (may plans (is_eager plans costs) (plain h) Begin x) k.kind;
  }

  pub receive_begins : IsReceive plans x → BeginsBy Post
  receive_begins k = record {
    first = first_of_receive plans x k;
    once_ready = ap (may plans (is_eager plans costs) (plain h) Post x) k.kind;
  }

  first_happened : (c : Class) → BeginsBy c → happened c x (plain h) ≡ has_started plans x (plain h)
  first_happened c b = ap (λ (d : Class). happened d x (plain h)) (sym b.first)

  -- when its message or its request arrives, once it has started and while it is not paired
  pub started_unpaired_awaits_arrival : IsRun plans costs h → (e : OpState) → e ≡ entry_known plans costs h x → has_started plans x (plain h) ≡ true → mate plans costs h x ≡ None → e.times.awaited ≡ time_known plans costs h Arrive x
  started_unpaired_awaits_arrival run e told s none =
      ap (λ (e : OpState). e.times.awaited) told ∙ awaited_unpaired plans costs h x run s none

  pub arrival_enabled : (r : Option ℕ) → r ≡ time_known plans costs h Arrive x → option_map (λ (t : ℕ). record { time = t; class = Arrive; op = x }) r ≡ enabled_action plans costs h Arrive x
  arrival_enabled r told =
      ap (option_map arrival_at) told ∙ go (allowed plans (is_eager plans costs) (plain h) Arrive x)
    where
      arrival_at : ℕ → Timed
      arrival_at t = record { time = t; class = Arrive; op = x }

      go : (b : Bool) → option_map arrival_at (if b then Some (time plans costs h Arrive x) else None) ≡ (if b then Some (at_its_time plans costs h Arrive x) else None)
      go true = refl
      go false = refl

  -- it has ended exactly if its entry has an end
  has_ended_by_entry : (e : OpState) → e ≡ entry_known plans costs h x → has_ended plans (is_eager plans costs) x (plain h) ≡ is_some e.times.end
  has_ended_by_entry e told =
      sym (is_some_by_test (has_ended plans (is_eager plans costs) x (plain h)) _) ∙ sym (ap (λ (e : OpState). is_some e.times.end) told)

  -- a rendezvous send ends as it transfers its data
  rendezvous_data_by_entry_end : IsSend plans x → is_eager plans costs x ≡ false → (e : OpState) → e ≡ entry_known plans costs h x → happened Data x (plain h) ≡ is_some e.times.end
  rendezvous_data_by_entry_end k large e told =
      sym (ap (λ (c : Class). happened c x (plain h)) (last_of_rendezvous plans (is_eager plans costs) x k large)) ∙ has_ended_by_entry e told

  -- nothing more of that class once it has started, nor while something that it needs is not there
  pub begun_not_enabled : (c : Class) → BeginsBy c → has_started plans x (plain h) ≡ true → None ≡ enabled_action plans costs h c x
  begun_not_enabled c b s = past_not_enabled c (first_happened c b ∙ s)

  pub unready_not_enabled : (c : Class) → BeginsBy c → (r : Option ℕ) → r ≡ ready_known plans costs h x → r ≡ None → None ≡ enabled_action plans costs h c x
  unready_not_enabled c b r told n =
      barred_not_enabled c (b.once_ready ∙ sym (is_some_by_test (is_ready plans (is_eager plans costs) (plain h) x) _) ∙ ap is_some (sym told ∙ n))

  -- else its action is enabled
  pub ready_enabled : (c : Class) → BeginsBy c → has_started plans x (plain h) ≡ false → (r : Option ℕ) (n t : ℕ) → r ≡ ready_known plans costs h x → r ≡ Some n → (ready plans costs h x ≡ n → t ≡ time plans costs h c x) → Some (record { time = t; class = c; op = x }) ≡ enabled_action plans costs h c x
  ready_enabled c b s r n t r_known r_is at =
      let q = some_only_if_test_passes (is_ready plans (is_eager plans costs) (plain h) x) (ready plans costs h x) n (sym r_known ∙ r_is) in
      comes_enabled c t (first_happened c b ∙ s) (b.once_ready ∙ q.0) (at q.1)

  -- the times of each class
  pub calc_time : IsCalc plans x → time plans costs h Begin x ≡ max (ready plans costs h x) (cpu plans costs h x)
  unfolding time
  calc_time k = ap (time_of plans costs h Begin x) k.kind

  pub send_time : IsSend plans x → time plans costs h Begin x ≡ max (ready plans costs h x) (max (cpu plans costs h x) (tx plans costs h x))
  unfolding time
  send_time k = ap (time_of plans costs h Begin x) k.kind

  pub post_time : IsReceive plans x → time plans costs h Post x ≡ ready plans costs h x
  unfolding time
  post_time k = ap (time_of plans costs h Post x) k.kind

  pub data_time : IsSend plans x → time plans costs h Data x ≡ max (paired_at plans costs h x + latency plans costs x) (max (cpu plans costs h x) (tx plans costs h x))
  unfolding time
  data_time k = ap (time_of plans costs h Data x) k.kind

  pub serve_time : IsReceive plans x → time plans costs h Serve x ≡ max (there_at plans costs h x (mate plans costs h x)) (max (cpu plans costs h x) (rx plans costs h x))
  unfolding time
  serve_time k = ap (time_of plans costs h Serve x) k.kind

  -- its partner, and since when it is paired
  pub record IsPairing (p : Pairing) : Type 0 where
    pub mate_is : mate plans costs h x ≡ Some p.with
    pub at_is : paired_at plans costs h x ≡ p.at

  -- the partner in the entry is the one it is paired with
  mate_is_entry_partner : (e : OpState) (o : Option OpId) → e ≡ entry_known plans costs h x → e.link.partner ≡ o → mate plans costs h x ≡ o
  mate_is_entry_partner e o told is = sym (ap (λ (e : OpState). e.link.partner) told) ∙ is

  -- the entry of a paired receive awaits the time of the pairing
  paired_receive_awaits_pairing_time : IsRun plans costs h → IsReceive plans x → (e : OpState) (m : OpId) → e ≡ entry_known plans costs h x → e.link.partner ≡ Some m → e.times.awaited ≡ Some (paired_at plans costs h x)
  paired_receive_awaits_pairing_time run k e m told is =
      ap (λ (e : OpState). e.times.awaited) told ∙ receive_waits plans costs h x run k m (mate_is_entry_partner e (Some m) told is)

  pub receive_pairing : IsRun plans costs h → IsReceive plans x → (e : OpState) (m : OpId) (n : ℕ) → e ≡ entry_known plans costs h x → e.link.partner ≡ Some m → e.times.awaited ≡ Some n → IsPairing (record { with = m; at = n })
  receive_pairing run k e m n told is since_is = record {
    mate_is = mate_is_entry_partner e (Some m) told is;
    at_is = same_Some (paired_at plans costs h x) n (sym (paired_receive_awaits_pairing_time run k e m told is) ∙ since_is);
  }

  pub paired_receive_awaits_some_time : IsRun plans costs h → IsReceive plans x → (e : OpState) (m : OpId) → e ≡ entry_known plans costs h x → e.link.partner ≡ Some m → e.times.awaited ≡ None → ⊥
  paired_receive_awaits_some_time run k e m told is none =
      both_ways _ (ap is_some none) (ap is_some (paired_receive_awaits_pairing_time run k e m told is))

  -- no Data is enabled for an eager send, or for an operation that is not paired
  no_data_enabled_for_eager_send : is_eager plans costs x ≡ true → None ≡ enabled_action plans costs h Data x
  no_data_enabled_for_eager_send e =
      not_enabled Data (λ p. both_ways _ (allowed_data plans (is_eager plans costs) (plain h) x p).1 e)

  pub no_data_enabled_for_unpaired : mate plans costs h x ≡ None → None ≡ enabled_action plans costs h Data x
  no_data_enabled_for_unpaired n =
      not_enabled Data (λ p. both_ways _ (ap is_some n) (allowed_data plans (is_eager plans costs) (plain h) x p).2)

  -- no Arrive is enabled for a send that is paired
  pub no_arrive_enabled_for_paired_send : IsSend plans x → is_some (mate plans costs h x) ≡ true → None ≡ enabled_action plans costs h Arrive x
  no_arrive_enabled_for_paired_send k paired = past_not_enabled Arrive (paired_arrived plans costs h x k paired)

  -- the Data of a send that is paired
  module _ (run : IsRun plans costs h) (k : IsSend plans x) (paired : is_some (mate plans costs h x) ≡ true) (e : OpState) (told : e ≡ entry_known plans costs h x) where
    -- there is none once it has ended
    pub ended_data : is_some e.times.end ≡ true → None ≡ enabled_action plans costs h Data x
    ended_data s =
        elim (cases_Bool (is_eager plans costs x)) [ inl eager ↦ no_data_enabled_for_eager_send eager | inr large ↦ past_not_enabled Data (rendezvous_data_by_entry_end k large e told ∙ s) ]

    module _ (s : is_some e.times.end ≡ false) where
      -- one that has not ended is a rendezvous send, since an eager one that is paired has begun, and has not
      -- transferred its data
      unended_large : is_eager plans costs x ≡ false
      unended_large =
          false_from_ne_true _ (λ eager. both_ways _ (sym (ap (λ (c : Class). happened c x (plain h)) (last_of_eager plans (is_eager plans costs) x k eager)) ∙ has_ended_by_entry e told ∙ s) (arrived_begun plans (is_eager plans costs) (plain h) x (run_interleaving plans costs h run) (paired_arrived plans costs h x k paired)))

      unended_fresh : happened Data x (plain h) ≡ false
      unended_fresh = rendezvous_data_by_entry_end k unended_large e told ∙ s

      -- its entry awaits the time of the pairing
      send_since : e.times.awaited ≡ Some (paired_at plans costs h x)
      send_since =
          let with = value_of_is_some (mate plans costs h x) paired in
          ap (λ (e : OpState). e.times.awaited) told ∙ send_waits plans costs h x run k unended_fresh with.0 with.1

      pub waiting_there : e.times.awaited ≡ None → ⊥
      waiting_there none = both_ways _ (ap is_some none) (ap is_some send_since)

      pub waiting_since : (n : ℕ) → e.times.awaited ≡ Some n → paired_at plans costs h x ≡ n
      waiting_since n is = same_Some (paired_at plans costs h x) n (sym send_since ∙ is)

      -- so its Data may happen
      may_data : may plans (is_eager plans costs) (plain h) Data x (kind_at plans x) ≡ true
      may_data =
          ap (may plans (is_eager plans costs) (plain h) Data x) k.kind ∙ and_from (not (is_eager plans costs x)) (is_paired (pairs plans (plain h)) x) (not_from_false _ unended_large) paired

      pub data_enabled : (t : ℕ) → t ≡ time plans costs h Data x → Some (record { time = t; class = Data; op = x }) ≡ enabled_action plans costs h Data x
      data_enabled t at = comes_enabled Data t unended_fresh may_data at

      -- its clearance is back within the budget
      pub clears : paired_at plans costs h x + latency plans costs x ≤ budget plans costs
      clears =
          let can = allowed_from plans (is_eager plans costs) (plain h) Data x unended_fresh may_data in
          omega (arith, possible_within_budget plans costs h (at_its_time plans costs h Data x) (run_is_each_possible plans costs h run) (possible_at plans costs h Data x can), data_time k)

  -- the message of a rendezvous send is available once it has ended, when its data reach the receive
  pub ended_message : IsRun plans costs h → IsSend plans x → is_eager plans costs x ≡ false → (at : ℕ) (e : OpState) → e ≡ entry_known plans costs h x → is_some e.times.end ≡ true → e.times.awaited ≡ message_known plans costs h (record { with = x; at = at })
  ended_message run k large at e told s =
      ap (λ (e : OpState). e.times.awaited) told ∙ awaited_handed plans costs h x run (rendezvous_data_by_entry_end k large e told ∙ s) ∙ sym (cond-false _ _ _ large)

  -- no Serve of a receive that has ended, that is not paired, or whose message is not there
  served_receive_ended : IsReceive plans x → (e : OpState) → e ≡ entry_known plans costs h x → happened Serve x (plain h) ≡ is_some e.times.end
  served_receive_ended k e told = sym (ended_receive plans (is_eager plans costs) (plain h) x k) ∙ has_ended_by_entry e told

  pub no_serve_enabled_for_ended_receive : IsReceive plans x → (e : OpState) → e ≡ entry_known plans costs h x → is_some e.times.end ≡ true → None ≡ enabled_action plans costs h Serve x
  no_serve_enabled_for_ended_receive k e told s = past_not_enabled Serve (served_receive_ended k e told ∙ s)

  unserved_not_enabled : is_served plans (is_eager plans costs) (plain h) (mate plans costs h x) ≡ false → None ≡ enabled_action plans costs h Serve x
  unserved_not_enabled n =
      not_enabled Serve (λ p. both_ways _ n (allowed_serve plans (is_eager plans costs) (plain h) x p).1)

  pub no_serve_enabled_for_unpaired : (e : OpState) → e ≡ entry_known plans costs h x → e.link.partner ≡ None → None ≡ enabled_action plans costs h Serve x
  no_serve_enabled_for_unpaired e told n =
      unserved_not_enabled (ap (is_served plans (is_eager plans costs) (plain h)) (mate_is_entry_partner e None told n))

  pub pairing_send : IsReceive plans x → (p : Pairing) → IsPairing p → IsSend plans p.with
  pairing_send k p is = partner_is_send plans (plain h) x p.with k is.mate_is

  pub no_serve_enabled_without_message : (p : Pairing) → IsPairing p → (r : Option ℕ) → r ≡ message_known plans costs h p → r ≡ None → None ≡ enabled_action plans costs h Serve x
  no_serve_enabled_without_message p is r told n =
      unserved_not_enabled (ap (is_served plans (is_eager plans costs) (plain h)) is.mate_is ∙ go (is_eager plans costs p.with) (happened Data p.with (plain h)) (sym told ∙ n))
    where
      go : (b d : Bool) → (if b then Some p.at else (if d then Some (since (happened Data p.with) h + flight plans costs p.with) else None)) ≡ None → (b || d) ≡ false
      go true d f = absurd (cc)
      go false true f = absurd (cc)
      go false false f = refl

  -- the message is there
  pub record IsThere (n : ℕ) : Type 0 where
    pub served : is_served plans (is_eager plans costs) (plain h) (mate plans costs h x) ≡ true
    pub when : there_at plans costs h x (mate plans costs h x) ≡ n

  pub known_message_is_there : (p : Pairing) → IsPairing p → (r : Option ℕ) (n : ℕ) → r ≡ message_known plans costs h p → r ≡ Some n → IsThere n
  known_message_is_there p is r n told some =
      let q = go (is_eager plans costs p.with) (happened Data p.with (plain h)) (sym told ∙ some) in
      record {
        served = ap (is_served plans (is_eager plans costs) (plain h)) is.mate_is ∙ q.0;
        when = ap (there_at plans costs h x) is.mate_is ∙ ap (λ (k : ℕ). if is_eager plans costs p.with then k else later) is.at_is ∙ q.1;
      }
    where
      later : ℕ
      later = since (happened Data p.with) h + flight plans costs p.with

      go : (b d : Bool) → (if b then Some p.at else (if d then Some later else None)) ≡ Some n → ((b || d) ≡ true) × ((if b then p.at else later) ≡ n)
      go true d f = (refl, same_Some p.at n f)
      go false true f = (refl, same_Some later n f)
      go false false f = absurd (cc)

  pub serve_enabled : IsReceive plans x → (e : OpState) → e ≡ entry_known plans costs h x → is_some e.times.end ≡ false → (n t : ℕ) → IsThere n → t ≡ time plans costs h Serve x → Some (record { time = t; class = Serve; op = x }) ≡ enabled_action plans costs h Serve x
  serve_enabled k e told s n t there at =
      comes_enabled Serve t (served_receive_ended k e told ∙ s) (ap (may plans (is_eager plans costs) (plain h) Serve x) k.kind ∙ there.served) at

-- whether a send is eager, as the code reads it
pub eager_read : (plans : List Plan) (costs : CostModel) (m : OpId) (bytes to tag : ℕ) → kind_at plans m ≡ Some (Send bytes to tag) → costs.eager m.rank to bytes ≡ is_eager plans costs m
unfolding is_eager
eager_read plans costs m bytes to tag k = sym (ap (eager_of costs.eager m.rank) k)

-- a send whose task is not Eager is a rendezvous send
pub send_of_other_task_is_not_eager : (plans : List Plan) (costs : CostModel) (x : OpId) (w : Task) → w ≡ task_of plans costs x → IsSend plans x → (w ≡ task.Eager → ⊥) → is_eager plans costs x ≡ false
send_of_other_task_is_not_eager plans costs x w e k other =
    false_from_ne_true _ (λ eager. other (e ∙ sym (send_task plans costs x true k (sym eager))))
