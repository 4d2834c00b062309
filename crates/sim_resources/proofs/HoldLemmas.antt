-- The view of resources in contracts: when they are free, and what adding a hold changes.
use Rattle.std.proofs.Common.{ℕ, ◌≡◌, ◌<◌, List, Contains, Some, length, slice_get, max, get_or, refl, ap, sym, ◌∙◌, subst, arith}
use Rattle.goal_graph.specs.declared.action.OpId.{OpId}
use Rattle.goal_graph.specs.declared.plan.Op.{Op}
use Rattle.goal_graph.specs.Schedule.{Plan, op_at, operations, IsSend, IsReceive}
use Rattle.goal_graph.specs.Fault.{IsOp}
use Rattle.goal_graph.proofs.ForCallers.{value_of_is_some, kind_of_op, listed_places, receive_is_op, send_is_op}
use Rattle.sim_resources.specs.declared.station.StationNumbers.{StationNumbers}
use Rattle.sim_resources.specs.FreeTimes.{Holds, SameFreeTimes, cpu_free, tx_free, rx_free, hold_cpu, hold_tx, hold_rx}
use Rattle.sim_resources.specs.Numbering.{AreNumbered}
use Rattle.sim_resources.specs.Held.{cpu_number, side_number, kind_sends, kind_receives, sends, receives, senders, receivers, held}
use Rattle.sim_resources.proofs.FreeTimes.{raised, other_number_keeps_held, raised_frees_as_hold, raised_list_is_after, read_time_is_free_time}
use Rattle.sim_resources.proofs.Placed.{passing_is_in_filtered, cpus_placed, txs_placed, rxs_placed, cpu_not_tx, cpu_not_rx, tx_not_rx}

-- an operation is among all, a send among the senders, a receive among the receivers
pub among_ops : (plans : List Plan) (x : OpId) → IsOp plans x → Contains (operations plans) x
among_ops plans x is_op = (listed_places plans x).1 is_op

pub among_senders : (plans : List Plan) (x : OpId) → IsSend plans x → Contains (senders plans) x
among_senders plans x send =
    let is_op = send_is_op plans x send in
    let o = value_of_is_some (op_at plans x) is_op in
    passing_is_in_filtered (λ y. sends (op_at plans y)) (operations plans) x (among_ops plans x is_op) (ap sends o.1 ∙ ap kind_sends (kind_of_op plans x o.0 _ o.1 send.kind))

pub among_receivers : (plans : List Plan) (x : OpId) → IsReceive plans x → Contains (receivers plans) x
among_receivers plans x receive =
    let is_op = receive_is_op plans x receive in
    let o = value_of_is_some (op_at plans x) is_op in
    passing_is_in_filtered (λ y. receives (op_at plans y)) (operations plans) x (among_ops plans x is_op) (ap receives o.1 ∙ ap kind_receives (kind_of_op plans x o.0 _ o.1 receive.kind))

module _ (plans : List Plan) (s : StationNumbers) (n : AreNumbered plans s) where
  -- what a contract sees
  abbrev pub seen : List ℕ → Holds
  seen free = record { plans = plans; cpu = held (operations plans) (cpu_number plans s) free; tx = held (senders plans) (side_number plans s) free; rx = held (receivers plans) (side_number plans s) free }

  module _ (free : List ℕ) (whole : length free ≡ s.resources) (r : Holds) (is : seen free ≡ r) (x : OpId) where
    pub cpu_within : IsOp r.plans x → cpu_number plans s x < length free
    cpu_within there =
        let is_op : IsOp plans x = subst (λ (q : Holds). IsOp q.plans x) (sym is) there in
        omega (arith, (cpus_placed plans s n).within x (among_ops plans x is_op), whole)

    pub tx_within : IsSend r.plans x → side_number plans s x < length free
    tx_within there =
        let send : IsSend plans x = subst (λ (q : Holds). IsSend q.plans x) (sym is) there in
        omega (arith, (txs_placed plans s n).within x (among_senders plans x send), whole)

    pub rx_within : IsReceive r.plans x → side_number plans s x < length free
    rx_within there =
        let receive : IsReceive plans x = subst (λ (q : Holds). IsReceive q.plans x) (sym is) there in
        omega (arith, (rxs_placed plans s n).within x (among_receivers plans x receive), whole)

    module _ (t : ℕ) where
      pub read_time_is_cpu_free : IsOp r.plans x → ((u : ℕ) → slice_get free (cpu_number plans s x) ≡ Some u → t ≡ u) → t ≡ cpu_free r x
      read_time_is_cpu_free there says =
          let is_op : IsOp plans x = subst (λ (q : Holds). IsOp q.plans x) (sym is) there in
          subst (λ (q : Holds). t ≡ cpu_free q x) is
          (read_time_is_free_time (λ (o : Op). o.cpu) plans (operations plans) (cpu_number plans s) s.resources (cpus_placed plans s n) free x (among_ops plans x is_op) whole t says)

      pub read_time_is_tx_free : IsSend r.plans x → ((u : ℕ) → slice_get free (side_number plans s x) ≡ Some u → t ≡ u) → t ≡ tx_free r x
      read_time_is_tx_free there says =
          let send : IsSend plans x = subst (λ (q : Holds). IsSend q.plans x) (sym is) there in
          subst (λ (q : Holds). t ≡ tx_free q x) is
          (read_time_is_free_time (λ (o : Op). o.nic) plans (senders plans) (side_number plans s) s.resources (txs_placed plans s n) free x (among_senders plans x send) whole t says)

      pub read_time_is_rx_free : IsReceive r.plans x → ((u : ℕ) → slice_get free (side_number plans s x) ≡ Some u → t ≡ u) → t ≡ rx_free r x
      read_time_is_rx_free there says =
          let receive : IsReceive plans x = subst (λ (q : Holds). IsReceive q.plans x) (sym is) there in
          subst (λ (q : Holds). t ≡ rx_free q x) is
          (read_time_is_free_time (λ (o : Op). o.nic) plans (receivers plans) (side_number plans s) s.resources (rxs_placed plans s n) free x (among_receivers plans x receive) whole t says)

    -- the time of one number is raised
    module _ (until : ℕ) (new : List ℕ) where
      abbrev pub Says : ℕ → Type 0
      Says number = (t : ℕ) → slice_get free number ≡ Some t → new ≡ raised free number t until

      pub raised_time_holds_cpu : IsOp r.plans x → Says (cpu_number plans s x) → SameFreeTimes (seen new) (hold_cpu r x until)
      raised_time_holds_cpu there says =
          let is_op : IsOp plans x = subst (λ (q : Holds). IsOp q.plans x) (sym is) there in
          let c = among_ops plans x is_op in
          let p = cpus_placed plans s n in
          let raised_is = raised_list_is_after (λ (o : Op). o.cpu) plans (operations plans) (cpu_number plans s) s.resources p free whole x c until new says in
          subst (λ (q : Holds). SameFreeTimes (seen new) (hold_cpu q x until)) is (subst (λ (ts : List ℕ). SameFreeTimes (seen ts) (hold_cpu (seen free) x until)) (sym raised_is) (record {
            plans = refl;
            cpu = raised_frees_as_hold (λ (o : Op). o.cpu) plans (operations plans) (cpu_number plans s) s.resources p free whole x c until;
            tx = λ y. rw (other_number_keeps_held (senders plans) (side_number plans s) free (cpu_number plans s x) (max (get_or free (cpu_number plans s x) 0) until) (λ z d e. cpu_not_tx plans s n x z c d (sym e))) refl;
            rx = λ y. rw (other_number_keeps_held (receivers plans) (side_number plans s) free (cpu_number plans s x) (max (get_or free (cpu_number plans s x) 0) until) (λ z d e. cpu_not_rx plans s n x z c d (sym e))) refl;
          }))

      pub raised_time_holds_tx : IsSend r.plans x → Says (side_number plans s x) → SameFreeTimes (seen new) (hold_tx r x until)
      raised_time_holds_tx there says =
          let send : IsSend plans x = subst (λ (q : Holds). IsSend q.plans x) (sym is) there in
          let c = among_senders plans x send in
          let p = txs_placed plans s n in
          let raised_is = raised_list_is_after (λ (o : Op). o.nic) plans (senders plans) (side_number plans s) s.resources p free whole x c until new says in
          subst (λ (q : Holds). SameFreeTimes (seen new) (hold_tx q x until)) is (subst (λ (ts : List ℕ). SameFreeTimes (seen ts) (hold_tx (seen free) x until)) (sym raised_is) (record {
            plans = refl;
            cpu = λ y. rw (other_number_keeps_held (operations plans) (cpu_number plans s) free (side_number plans s x) (max (get_or free (side_number plans s x) 0) until) (λ z d e. cpu_not_tx plans s n z x d c e)) refl;
            tx = raised_frees_as_hold (λ (o : Op). o.nic) plans (senders plans) (side_number plans s) s.resources p free whole x c until;
            rx = λ y. rw (other_number_keeps_held (receivers plans) (side_number plans s) free (side_number plans s x) (max (get_or free (side_number plans s x) 0) until) (λ z d e. tx_not_rx plans s n x z c d (sym e))) refl;
          }))

      pub raised_time_holds_rx : IsReceive r.plans x → Says (side_number plans s x) → SameFreeTimes (seen new) (hold_rx r x until)
      raised_time_holds_rx there says =
          let receive : IsReceive plans x = subst (λ (q : Holds). IsReceive q.plans x) (sym is) there in
          let c = among_receivers plans x receive in
          let p = rxs_placed plans s n in
          let raised_is = raised_list_is_after (λ (o : Op). o.nic) plans (receivers plans) (side_number plans s) s.resources p free whole x c until new says in
          subst (λ (q : Holds). SameFreeTimes (seen new) (hold_rx q x until)) is (subst (λ (ts : List ℕ). SameFreeTimes (seen ts) (hold_rx (seen free) x until)) (sym raised_is) (record {
            plans = refl;
            cpu = λ y. rw (other_number_keeps_held (operations plans) (cpu_number plans s) free (side_number plans s x) (max (get_or free (side_number plans s x) 0) until) (λ z d e. cpu_not_rx plans s n z x d c e)) refl;
            tx = λ y. rw (other_number_keeps_held (senders plans) (side_number plans s) free (side_number plans s x) (max (get_or free (side_number plans s x) 0) until) (λ z d e. tx_not_rx plans s n z x d c e)) refl;
            rx = raised_frees_as_hold (λ (o : Op). o.nic) plans (receivers plans) (side_number plans s) s.resources p free whole x c until;
          }))
