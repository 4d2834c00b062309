-- What is known of each operation after one more action, class by class.
use Rattle.std.proofs.Common.{◌≡◌, ◌==◌, ◌+◌, ℕ, Bool, true, false, List, ◌∷◌, map, Option, Some, None, IfSome, filter, if◌then◌else◌, inl, inr, refl, sym, ap, ◌∙◌, subst}
use Rattle.std.specs.Option.{option_or}
use Rattle.std.proofs.lemmas.Bool.{cases_Bool, cond-true, cond-false, false_from_ne_true}
use Rattle.goal_graph.specs.declared.action.OpId.{OpId}
use Rattle.goal_graph.specs.declared.action.Timed.{Timed}
use Rattle.goal_graph.specs.declared.action.Class.{Class}
use Rattle.goal_graph.specs.declared.action.Class.TheVariants.{Arrive, Serve, Data, Post, Begin}
use Rattle.goal_graph.specs.Schedule.{Plan, kind_at, operations, IsSend, IsReceive}
use Rattle.goal_graph.specs.Fault.{IsOp}
use Rattle.goal_graph.specs.Action.{place, same_op, is_act, happened, plain, plain_act}
use Rattle.goal_graph.specs.Allowed.{first_class, last_class, has_started, allowed}
use Rattle.goal_graph.specs.Laws.{IsCalc}
use Rattle.goal_graph.proofs.ForCallers.{allowed_data, same_or_different_op, is_act_class, same_op_true, unarrived_send_has_no_partner, not_send_receive, first_of_calc, first_of_send, first_of_receive, last_of_calc, last_of_eager, last_of_rendezvous, last_of_receive, same_tables, with_entry_same, with_entry_other, entry_written, same_op_swapped, send_is_op, receive_is_op}
use Rattle.sim_params.specs.Costs.{CostModel, flight, flight_one, is_eager}
use Rattle.sim_params.specs.Times.{mate, cpu_hold, Possible}
use Rattle.sim_params.specs.Run.{IsRun}
use Rattle.sim_params.proofs.ForCallers.{run_interleaving}
use Rattle.sim_match.specs.PostsAndArrivals.{is_post_or_arrival, is_post_or_arrival_class, send_for, receive_for}
use Rattle.sim_state.specs.declared.entry.OpState.{OpState}
use Rattle.sim_state.specs.Engine.{start_known, end_known}
use Rattle.sim_state.specs.Enabled.{time_known}
use Rattle.sim_state.specs.Links.{Linked}
use Rattle.sim_state.specs.Tasks.{work_of}
use Rattle.sim_state.specs.Tables.{with_entry, with_pairing, with_partner}
use Rattle.sim_state.specs.Represents.{times_known, link_known, entry_known, entry_then}
use Rattle.sim_state.specs.Awaited.{unmet, awaited_known, delivered_known, paired_since}
use Rattle.sim_state.proofs.After.{not_happened_yet, newest_is_not_act_of_other_op, newest_is_not_act_of_other_class, happened_kept_by_other_action, start_kept_by_other_action, start_known_after_first_action, end_kept_by_other_action, end_known_after_last_action, arrival_kept_by_other_action, arriving_calc, arriving_receive, arriving_begun, arrived_has_no_arrive_time, awaited_paired, awaited_kept_by_other_action, awaited_started, none_unmet, unpaired_has_no_pairing_time, started_then, first_action_starts_op, started_stays_started, delivered_kept_by_other_action, delivered_known_after_data, unstarted_unpaired}
use Rattle.sim_state.proofs.GivenEntries.{awaited_then}
use Rattle.sim_state.proofs.GivenMoments.{started_was_ready}
use Rattle.sim_state.proofs.Handed.{arriving_none, or_none, paired_arrived, unarrived_unhanded, undelivered, unstarted_unhanded}
use Rattle.sim_state.proofs.Started.{arrive_started, data_started, serve_started}
use Rattle.sim_state.proofs.Pairings.{mates_kept_where_no_pair_made, other_makes_none, post_none, post_some, arrive_none, arrive_some}

same_entry : (d e : OpState) → d.work ≡ e.work → d.times.start ≡ e.times.start → d.times.end ≡ e.times.end → d.times.awaited ≡ e.times.awaited → d.link ≡ e.link → d ≡ e
same_entry d e w s n a l =
    λ i. record { work = w i; times = record { start = s i; end = n i; awaited = a i }; link = l i }

-- an entry that says that it is paired with m since that time
abbrev paired_with : OpId → ℕ → OpState → OpState
paired_with m at e =
    record e { times = record e.times { awaited = Some at }; link = record { unmet = 0; partner = Some m } }

-- an entry is written, and two entries get their partners
pair_written : (y m : OpId) (at : ℕ) (e : OpState) (f g : OpId → OpState) → same_op y m ≡ false → g y ≡ paired_with m at e → g m ≡ paired_with y at (f m) → ((x : OpId) → same_op y x ≡ false → same_op m x ≡ false → g x ≡ f x) → (x : OpId) → with_pairing m y at (with_pairing y m at (with_entry y e f)) x ≡ g x
pair_written y m at e f g differ here there others = entry_written m _ first g second rest
  where
    base : OpId → OpState
    base = with_entry y e f

    first : OpId → OpState
    first = with_pairing y m at base

    second : g m ≡ paired_with y at (first m)
    second =
        there ∙ ap (paired_with y at) (sym (with_entry_other y _ base m (same_op_swapped y m differ) ∙ with_entry_other y e f m (same_op_swapped y m differ)))

    rest : (x : OpId) → same_op m x ≡ false → g x ≡ first x
    rest x d =
        elim (same_or_different_op x y) [ inl s ↦ ap g s ∙ here ∙ ap (paired_with m at) (sym (with_entry_same y e f y refl)) ∙ sym (with_entry_same y _ base x s) | inr o ↦ others x (same_op_swapped x y o) d ∙ sym (with_entry_other y _ base x o ∙ with_entry_other y e f x o) ]

module _ (plans : List Plan) (costs : CostModel) (h : List Timed) (a : Timed) (run : IsRun plans costs h) (possible : Possible plans costs h a) where
  abbrev before : OpId → OpState
  before = entry_known plans costs h

  -- what is known of one after the action, where it still waits for as many moments
  abbrev after : OpId → OpState
  after x =
      record (entry_known plans costs (a ∷ h) x) { link = record (link_known plans costs (a ∷ h) x) { unmet = unmet plans costs h x } }

  -- what is written at the action's operation and at the others
  abbrev pub next : OpId → OpState
  next = entry_then plans costs h a

  abbrev waiting : OpId → OpState
  waiting x =
      record (after x) { times = record (times_known plans costs (a ∷ h) x) { awaited = awaited_then plans costs h a x } }

  pub own_entry_after_action : next a.op ≡ after a.op
  own_entry_after_action = with_entry_same a.op (after a.op) waiting a.op refl

  other_entry_after_action : (x : OpId) → same_op a.op x ≡ false → next x ≡ waiting x
  other_entry_after_action x d = with_entry_other a.op (after a.op) waiting x (same_op_swapped a.op x d)

  -- what one awaits that has the partner that it had, and that another action was of
  other_awaited : (x : OpId) → mate plans costs (a ∷ h) x ≡ mate plans costs h x → same_op a.op x ≡ false → awaited_then plans costs h a x ≡ awaited_known plans costs h x
  other_awaited x m d =
      elim (cases_Bool (has_started plans x (plain h))) [ inl t ↦ cond-true _ _ _ t ∙ awaited_kept_by_other_action plans costs h a x m (newest_is_not_act_of_other_op plans costs h a Arrive x d) (newest_is_not_act_of_other_op plans costs h a Begin x d) (newest_is_not_act_of_other_op plans costs h a Data x d) t | inr f ↦ cond-false _ _ _ f ]

  -- all that is known of it stays
  other_entry_kept_with_mate : (x : OpId) → mate plans costs (a ∷ h) x ≡ mate plans costs h x → same_op a.op x ≡ false → next x ≡ before x
  other_entry_kept_with_mate x m d =
      other_entry_after_action x d ∙ same_entry _ _ refl (start_kept_by_other_action plans costs h a x (newest_is_not_act_of_other_op plans costs h a (first_class (kind_at plans x)) x d)) (end_kept_by_other_action plans costs h a run x (newest_is_not_act_of_other_op plans costs h a (last_class (is_eager plans costs x) (kind_at plans x)) x d)) (other_awaited x m d) (ap (λ (o : Option OpId). record { unmet = unmet plans costs h x; partner = o }) m)

  -- what is paired after the action was ready before it
  paired_link : (x y : OpId) → mate plans costs (a ∷ h) x ≡ Some y → (after x).link ≡ record { unmet = 0; partner = Some y }
  paired_link x y taken =
      let none : unmet plans costs h x ≡ 0 = none_unmet plans costs h x (started_was_ready plans costs h a run possible x (started_then plans costs h a run possible x y taken)) in
      λ i. record { unmet = none i; partner = taken i }

  -- the newest action is of another class
  other_class_no_act : (c d : Class) (x : OpId) → a.class ≡ c → (c ≡ d → ⊥) → is_act d x (plain_act a) ≡ false
  other_class_no_act c d x e other =
      false_from_ne_true _ (λ t. other (sym e ∙ is_act_class d x (plain_act a) t))

  newest_is_not_act_of_other_place : (c d : Class) (x : OpId) → a.class ≡ c → (place c == place d) ≡ false → is_act d x (plain_act a) ≡ false
  newest_is_not_act_of_other_place c d x e f = newest_is_not_act_of_other_class plans costs h a d x (ap (λ (c : Class). place c == place d) e ∙ f)

  module _ (e : OpState) (was : e ≡ before a.op) where
    work_was : work_of plans costs a.op ≡ e.work
    work_was = ap (λ (d : OpState). d.work) (sym was)

    start_was : (c : Class) → a.class ≡ c → (c ≡ first_class (kind_at plans a.op) → ⊥) → start_known plans costs (a ∷ h) a.op ≡ e.times.start
    start_was c same other =
        start_kept_by_other_action plans costs h a a.op (other_class_no_act c (first_class (kind_at plans a.op)) a.op same other) ∙ ap (λ (d : OpState). d.times.start) (sym was)

    end_was : (c : Class) → a.class ≡ c → (c ≡ last_class (is_eager plans costs a.op) (kind_at plans a.op) → ⊥) → end_known plans costs (a ∷ h) a.op ≡ e.times.end
    end_was c same other =
        end_kept_by_other_action plans costs h a run a.op (other_class_no_act c (last_class (is_eager plans costs a.op) (kind_at plans a.op)) a.op same other) ∙ ap (λ (d : OpState). d.times.end) (sym was)

    allowed_as : (c : Class) → a.class ≡ c → allowed plans (is_eager plans costs) (plain h) c a.op ≡ true
    allowed_as c same =
        subst (λ (d : Class). allowed plans (is_eager plans costs) (plain h) d a.op ≡ true) same possible.allowed

    -- what its first action makes it await: when it arrives, or nothing
    awaited_now : (c : Class) → a.class ≡ c → (place c == 2) ≡ false → c ≡ first_class (kind_at plans a.op) → mate plans costs (a ∷ h) a.op ≡ mate plans costs h a.op → awaited_known plans costs (a ∷ h) a.op ≡ time_known plans costs (a ∷ h) Arrive a.op
    awaited_now c same f first m =
        let before : has_started plans a.op (plain h) ≡ false = ap (λ (d : Class). happened d a.op (plain h)) (sym first) ∙ not_happened_yet plans costs h a c possible same in
        let none : delivered_known plans costs (a ∷ h) a.op ≡ None = delivered_kept_by_other_action plans costs h a a.op (newest_is_not_act_of_other_place c Data a.op same f) ∙ undelivered plans costs h a.op (unstarted_unhanded plans costs h a.op run before) in
        let never : paired_since plans costs (a ∷ h) a.op ≡ None = unpaired_has_no_pairing_time plans costs (a ∷ h) a.op (m ∙ unstarted_unpaired plans costs h a.op (run_interleaving plans costs h run) before) in
        awaited_started plans costs h a (a ∷ h) a.op (first_action_starts_op plans costs h a (same ∙ first)) ∙ (λ i. option_or (time_known plans costs (a ∷ h) Arrive a.op) (option_or (none i) (never i))) ∙ or_none (time_known plans costs (a ∷ h) Arrive a.op)

    -- what an arrival that pairs no one leaves it to await: nothing
    awaited_none : a.class ≡ Arrive → IsSend plans a.op → mate plans costs (a ∷ h) a.op ≡ mate plans costs h a.op → awaited_known plans costs (a ∷ h) a.op ≡ None
    awaited_none c k m =
        let not_before : happened Arrive a.op (plain h) ≡ false = not_happened_yet plans costs h a Arrive possible c in
        let none : delivered_known plans costs (a ∷ h) a.op ≡ None = delivered_kept_by_other_action plans costs h a a.op (newest_is_not_act_of_other_place Arrive Data a.op c refl) ∙ undelivered plans costs h a.op (unarrived_unhanded plans costs h a.op run not_before) in
        let never : paired_since plans costs (a ∷ h) a.op ≡ None = unpaired_has_no_pairing_time plans costs (a ∷ h) a.op (m ∙ unarrived_send_has_no_partner plans (plain h) a.op k not_before) in
        awaited_started plans costs h a (a ∷ h) a.op (started_stays_started plans costs h a a.op (arrive_started plans costs h a.op (allowed_as Arrive c))) ∙ (λ i. option_or (arrived_has_no_arrive_time plans costs h a c i) (option_or (none i) (never i)))

    -- and what one that transfers its data awaits: that these are delivered
    awaited_there : a.class ≡ Data → awaited_known plans costs (a ∷ h) a.op ≡ Some (a.time + flight plans costs a.op)
    awaited_there c =
        let sent = allowed_data plans (is_eager plans costs) (plain h) a.op (allowed_as Data c) in
        let arrives = arrival_kept_by_other_action plans costs h a a.op (newest_is_not_act_of_other_place Data Arrive a.op c refl) (newest_is_not_act_of_other_place Data Begin a.op c refl) ∙ arriving_none plans costs h a.op (paired_arrived plans costs h a.op sent.0 sent.2) in
        awaited_started plans costs h a (a ∷ h) a.op (started_stays_started plans costs h a a.op (data_started plans costs h a.op run (allowed_as Data c))) ∙ (λ i. option_or (arrives i) (option_or (delivered_known_after_data plans costs h a possible c i) (paired_since plans costs (a ∷ h) a.op)))

    -- it waits for as many moments, and may keep its partner
    link_was : mate plans costs (a ∷ h) a.op ≡ mate plans costs h a.op → (after a.op).link ≡ e.link
    link_was m =
        ap (λ (o : Option OpId). record { unmet = unmet plans costs h a.op; partner = o }) m ∙ ap (λ (d : OpState). d.link) (sym was)

    -- what a receive that takes its message awaited, it does still
    served_awaited : a.class ≡ Serve → mate plans costs (a ∷ h) a.op ≡ mate plans costs h a.op → awaited_known plans costs (a ∷ h) a.op ≡ e.times.awaited
    served_awaited c m =
        awaited_kept_by_other_action plans costs h a a.op m (newest_is_not_act_of_other_place Serve Arrive a.op c refl) (newest_is_not_act_of_other_place Serve Begin a.op c refl) (newest_is_not_act_of_other_place Serve Data a.op c refl) (serve_started plans costs h a.op (allowed_as Serve c)) ∙ ap (λ (d : OpState). d.times.awaited) (sym was)

    -- the table after an action that pairs no one
    abbrev Becomes : OpState → Type 0
    Becomes n = map (with_entry a.op n before) (operations plans) ≡ map next (operations plans)

    one_written : (n : OpState) → ((x : OpId) → mate plans costs (a ∷ h) x ≡ mate plans costs h x) → after a.op ≡ n → Becomes n
    one_written n mates now =
        same_tables _ _ (operations plans) (λ i x s. entry_written a.op n before next (own_entry_after_action ∙ now) (λ x d. other_entry_kept_with_mate x (mates x) d) x)

    unpaired : (c : Class) → a.class ≡ c → is_post_or_arrival_class c ≡ false → (x : OpId) → mate plans costs (a ∷ h) x ≡ mate plans costs h x
    unpaired c same f = mates_kept_where_no_pair_made plans costs h a (other_makes_none plans costs h a (ap is_post_or_arrival_class same ∙ f))

    module _ (until : ℕ) (ends : until ≡ a.time + cpu_hold plans costs h a.class a.op (kind_at plans a.op)) where
      end_now : a.class ≡ last_class (is_eager plans costs a.op) (kind_at plans a.op) → end_known plans costs (a ∷ h) a.op ≡ Some until
      end_now last = end_known_after_last_action plans costs h a possible last ∙ ap Some (sym ends)

      -- a calc begins
      pub calc_begun : a.class ≡ Begin → IsCalc plans a.op → Becomes (record e { times = record e.times { start = Some a.time; end = Some until; awaited = None } })
      calc_begun c k =
          let mates = unpaired Begin c refl in
          one_written _ mates (same_entry _ _ work_was (start_known_after_first_action plans costs h a possible (c ∙ sym (first_of_calc plans a.op k))) (end_now (c ∙ sym (last_of_calc plans (is_eager plans costs) a.op k))) (awaited_now Begin c refl (sym (first_of_calc plans a.op k)) (mates a.op) ∙ arriving_calc plans costs h a (a ∷ h) a.op k) (link_was (mates a.op)))

      -- an eager send begins
      pub eager_begun : (arrive : ℕ) → a.class ≡ Begin → IsSend plans a.op → is_eager plans costs a.op ≡ true → arrive ≡ a.time + flight plans costs a.op → Becomes (record e { times = record e.times { start = Some a.time; end = Some until; awaited = Some arrive } })
      eager_begun arrive c k eager at =
          let mates = unpaired Begin c refl in
          one_written _ mates (same_entry _ _ work_was (start_known_after_first_action plans costs h a possible (c ∙ sym (first_of_send plans a.op k))) (end_now (c ∙ sym (last_of_eager plans (is_eager plans costs) a.op k eager))) (awaited_now Begin c refl (sym (first_of_send plans a.op k)) (mates a.op) ∙ arriving_begun plans costs h a run possible c k ∙ ap (λ (b : Bool). Some (a.time + (if b then flight plans costs a.op else flight_one plans costs a.op))) eager ∙ ap Some (sym at)) (link_was (mates a.op)))

      -- a rendezvous send transfers its data
      pub data_sent : (there : ℕ) → a.class ≡ Data → IsSend plans a.op → is_eager plans costs a.op ≡ false → there ≡ a.time + flight plans costs a.op → Becomes (record e { times = record e.times { end = Some until; awaited = Some there } })
      data_sent there c k large at =
          let mates = unpaired Data c refl in
          one_written _ mates (same_entry _ _ work_was (start_was Data c (λ f. let g = f ∙ first_of_send plans a.op k in differ g)) (end_now (c ∙ sym (last_of_rendezvous plans (is_eager plans costs) a.op k large))) (awaited_there c ∙ ap Some (sym at)) (link_was (mates a.op)))
        where
          differ : Data ≡ Begin → ⊥
          differ f = cc

      -- a receive takes its message
      pub message_taken : a.class ≡ Serve → IsReceive plans a.op → Becomes (record e { times = record e.times { end = Some until } })
      message_taken c k =
          let mates = unpaired Serve c refl in
          one_written _ mates (same_entry _ _ work_was (start_was Serve c (λ f. differ (f ∙ first_of_receive plans a.op k))) (end_now (c ∙ sym (last_of_receive plans (is_eager plans costs) a.op k))) (served_awaited c (mates a.op)) (link_was (mates a.op)))
        where
          differ : Serve ≡ Post → ⊥
          differ f = cc

    -- a rendezvous send begins
    pub request_begun : (arrive : ℕ) → a.class ≡ Begin → IsSend plans a.op → is_eager plans costs a.op ≡ false → arrive ≡ a.time + flight_one plans costs a.op → Becomes (record e { times = record e.times { start = Some a.time; awaited = Some arrive } })
    request_begun arrive c k large at =
        let mates = unpaired Begin c refl in
        one_written _ mates (same_entry _ _ work_was (start_known_after_first_action plans costs h a possible (c ∙ sym (first_of_send plans a.op k))) (end_was Begin c (λ f. differ (f ∙ last_of_rendezvous plans (is_eager plans costs) a.op k large))) (awaited_now Begin c refl (sym (first_of_send plans a.op k)) (mates a.op) ∙ arriving_begun plans costs h a run possible c k ∙ ap (λ (b : Bool). Some (a.time + (if b then flight plans costs a.op else flight_one plans costs a.op))) large ∙ ap Some (sym at)) (link_was (mates a.op)))
      where
        differ : Begin ≡ Data → ⊥
        differ f = cc

    -- a receive is posted: what is known of it but what it awaits and its partner
    posted_entry : (o : Option ℕ) (l : Linked) → a.class ≡ Post → IsReceive plans a.op → awaited_known plans costs (a ∷ h) a.op ≡ o → (after a.op).link ≡ l → after a.op ≡ record e { times = record e.times { start = Some a.time; awaited = o }; link = l }
    posted_entry o l c k awaits pair =
        same_entry _ _ work_was (start_known_after_first_action plans costs h a possible (c ∙ sym (first_of_receive plans a.op k))) (end_was Post c (λ f. differ (f ∙ last_of_receive plans (is_eager plans costs) a.op k))) awaits pair
      where
        differ : Post ≡ Serve → ⊥
        differ f = cc

    -- a message or a request arrives: what is known of its send but what it awaits and its partner
    arrived_entry : (o : Option ℕ) (l : Linked) → a.class ≡ Arrive → IsSend plans a.op → awaited_known plans costs (a ∷ h) a.op ≡ o → (after a.op).link ≡ l → after a.op ≡ record e { times = record e.times { awaited = o }; link = l }
    arrived_entry o l c k awaits pair =
        same_entry _ _ work_was (start_was Arrive c (λ f. differ (f ∙ first_of_send plans a.op k))) (end_was Arrive c last) awaits pair
      where
        differ : Arrive ≡ Begin → ⊥
        differ f = cc

        differ_too : Arrive ≡ Data → ⊥
        differ_too f = cc

        last : Arrive ≡ last_class (is_eager plans costs a.op) (kind_at plans a.op) → ⊥
        last f =
            elim (cases_Bool (is_eager plans costs a.op)) [ inl t ↦ differ (f ∙ last_of_eager plans (is_eager plans costs) a.op k t) | inr t ↦ differ_too (f ∙ last_of_rendezvous plans (is_eager plans costs) a.op k t) ]

    -- where no one is paired
    posted_alone : a.class ≡ Post → IsReceive plans a.op → send_for plans (filter is_post_or_arrival (plain h)) a.op ≡ None → Becomes (record e { times = record e.times { start = Some a.time; awaited = None } })
    posted_alone c k none =
        let mates = post_none plans costs h a run possible c none in
        one_written _ mates (posted_entry None e.link c k (awaited_now Post c refl (sym (first_of_receive plans a.op k)) (mates a.op) ∙ arriving_receive plans costs h a (a ∷ h) a.op k) (link_was (mates a.op)))

    arrived_alone : a.class ≡ Arrive → IsSend plans a.op → receive_for plans (filter is_post_or_arrival (plain h)) a.op ≡ None → Becomes (record e { times = record e.times { awaited = None } })
    arrived_alone c k none =
        let mates = arrive_none plans costs h a run possible c none in
        one_written _ mates (arrived_entry None e.link c k (awaited_none c k (mates a.op)) (link_was (mates a.op)))

    -- the operation that is paired with that of the action
    abbrev BecomePaired : OpId → OpState → Type 0
    BecomePaired m n = map (with_pairing m a.op a.time (with_pairing a.op m a.time (with_entry a.op n before))) (operations plans) ≡ map next (operations plans)

    -- it had started before, and is paired since the action
    partner_awaited : (m : OpId) → (place a.class == 2) ≡ false → same_op a.op m ≡ false → mate plans costs h m ≡ None → mate plans costs (a ∷ h) m ≡ Some a.op → awaited_then plans costs h a m ≡ Some a.time
    partner_awaited m f d free taken =
        let before = sym (happened_kept_by_other_action plans costs h a (first_class (kind_at plans m)) m (newest_is_not_act_of_other_op plans costs h a (first_class (kind_at plans m)) m d)) ∙ started_then plans costs h a run possible m a.op taken in
        cond-true _ _ _ before ∙ awaited_paired plans costs h a run possible m a.op taken f free

    partner_entry : (m : OpId) → (place a.class == 2) ≡ false → same_op a.op m ≡ false → mate plans costs h m ≡ None → mate plans costs (a ∷ h) m ≡ Some a.op → next m ≡ paired_with a.op a.time (before m)
    partner_entry m f d free taken =
        other_entry_after_action m d ∙ same_entry _ _ refl (start_kept_by_other_action plans costs h a m (newest_is_not_act_of_other_op plans costs h a (first_class (kind_at plans m)) m d)) (end_kept_by_other_action plans costs h a run m (newest_is_not_act_of_other_op plans costs h a (last_class (is_eager plans costs m) (kind_at plans m)) m d)) (partner_awaited m f d free taken) (paired_link m a.op taken)

    apart : (m x : OpId) → IsSend plans m → IsReceive plans x → same_op m x ≡ false
    apart m x s r =
        false_from_ne_true _ (λ t. not_send_receive plans x (subst (λ (y : OpId). IsSend plans y) (same_op_true m x t) s) r)

    posted_pair : (m : OpId) → a.class ≡ Post → send_for plans (filter is_post_or_arrival (plain h)) a.op ≡ Some m → BecomePaired m (record e { times = record e.times { start = Some a.time; awaited = None } })
    posted_pair m c some =
        let p = post_some plans costs h a run possible c m some in
        let differ = same_op_swapped m a.op (apart m a.op p.send p.receive) in
        let no_data = ap (λ (c : Class). place c == 2) c in
        let awaits = awaited_paired plans costs h a run possible a.op m p.receive_taken no_data p.free_receive in
        let here = own_entry_after_action ∙ posted_entry (Some a.time) _ c p.receive awaits (paired_link a.op m p.receive_taken) in
        same_tables _ _ (operations plans) (λ i x s. pair_written a.op m a.time _ before next differ here (partner_entry m no_data differ p.free_send p.send_taken) (λ x d f. other_entry_kept_with_mate x (p.others x f d) d) x)

    arrived_pair : (x : OpId) → a.class ≡ Arrive → receive_for plans (filter is_post_or_arrival (plain h)) a.op ≡ Some x → BecomePaired x (record e { times = record e.times { awaited = None } })
    arrived_pair x c some =
        let p = arrive_some plans costs h a run possible c x some in
        let differ = apart a.op x p.send p.receive in
        let no_data = ap (λ (c : Class). place c == 2) c in
        let awaits = awaited_paired plans costs h a run possible a.op x p.send_taken no_data p.free_send in
        let here = own_entry_after_action ∙ arrived_entry (Some a.time) _ c p.send awaits (paired_link a.op x p.send_taken) in
        same_tables _ _ (operations plans) (λ i y s. pair_written a.op x a.time _ before next differ here (partner_entry x no_data differ p.free_receive p.receive_taken) (λ y d f. other_entry_kept_with_mate y (p.others y d f) d) y)

    -- whether someone is paired or not
    pub posted : (partner : Option OpId) → a.class ≡ Post → IsReceive plans a.op → partner ≡ send_for plans (filter is_post_or_arrival (plain h)) a.op → map (with_partner a.op partner a.time (with_entry a.op (record e { times = record e.times { start = Some a.time; awaited = None } }) before)) (operations plans) ≡ map next (operations plans)
    posted None c k is = posted_alone c k (sym is)
    posted (Some m) c k is = posted_pair m c (sym is)

    pub arrived : (partner : Option OpId) → a.class ≡ Arrive → IsSend plans a.op → partner ≡ receive_for plans (filter is_post_or_arrival (plain h)) a.op → map (with_partner a.op partner a.time (with_entry a.op (record e { times = record e.times { awaited = None } }) before)) (operations plans) ≡ map next (operations plans)
    arrived None c k is = arrived_alone c k (sym is)
    arrived (Some m) c k is = arrived_pair m c (sym is)

  -- the partner is an operation
  pub sender_exists : (partner : Option OpId) → a.class ≡ Post → partner ≡ send_for plans (filter is_post_or_arrival (plain h)) a.op → IfSome partner (IsOp plans)
  sender_exists None c is = tt
  sender_exists (Some m) c is = send_is_op plans m (post_some plans costs h a run possible c m (sym is)).send

  pub receiver_exists : (partner : Option OpId) → a.class ≡ Arrive → partner ≡ receive_for plans (filter is_post_or_arrival (plain h)) a.op → IfSome partner (IsOp plans)
  receiver_exists None c is = tt
  receiver_exists (Some x) c is = receive_is_op plans x (arrive_some plans costs h a run possible c x (sym is)).receive
