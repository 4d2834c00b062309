-- When resources are free: at one time for all operations that need them, and later only by an action on them.
use Rattle.std.proofs.Common.{◌≡◌, ◌==◌, ◌&&◌, ◌+◌, ◌≤◌, ℕ, max, Bool, true, false, List, [], ◌∷◌, Option, Some, None, if◌then◌else◌, refl, sym, ap, ap₂, ◌∙◌, subst, arith}
use Rattle.std.specs.Option.{option_map}
use Rattle.std.proofs.lemmas.Bool.{and_parts, eqb-true, both_ways}
use Rattle.std.proofs.lemmas.Option.{same_Some}
use Rattle.goal_graph.specs.declared.action.OpId.{OpId}
use Rattle.goal_graph.specs.declared.action.Timed.{Timed}
use Rattle.goal_graph.specs.declared.action.Class.{Class}
use Rattle.goal_graph.specs.declared.action.Class.TheVariants.{Arrive, Serve, Data, Post, Begin}
use Rattle.goal_graph.specs.declared.plan.Kind.{Kind}
use Rattle.goal_graph.specs.declared.plan.Kind.TheVariants.{Calc, Send, Recv}
use Rattle.goal_graph.specs.declared.plan.Op.{Op}
use Rattle.goal_graph.specs.Schedule.{Plan, op_at, kind_at}
use Rattle.goal_graph.specs.Action.{plain, holds_cpu}
use Rattle.goal_graph.proofs.ForCallers.{allowed_serve}
use Rattle.sim_params.specs.Costs.{CostModel, is_eager}
use Rattle.sim_params.specs.Times.{same_place, holds_tx, holds_rx, cpu_hold, tx_hold, rx_hold, cpu, tx, rx, Possible}
use Rattle.goal_graph.specs.Allowed.{allowed}
use Rattle.sim_state.specs.Free.{free, free_of, side, side_of}
use Rattle.sim_state.proofs.ForCallers.{cpu_kept_if_not_held}
use Rattle.sim_resources.specs.declared.station.Station.{Station}
use Rattle.sim_events.specs.Cost.{station_by, station_of, cpu_alone, side_alone}

-- two operations of one rank at one place are at the same place as others
equal_places_share_alike : (place : Op → ℕ) (x y z : OpId) (o p : Op) (q : Option Op) → x.rank ≡ y.rank → place o ≡ place p → same_place place x (Some o) z q ≡ same_place place y (Some p) z q
equal_places_share_alike place x y z o p None e f = refl
equal_places_share_alike place x y z o p (Some q) e f =
    ap₂ (λ (b c : Bool). b && c) (ap (λ r. r == z.rank) e) (ap (λ n. n == place q) f)

module _ (plans : List Plan) (costs : CostModel) (x y : OpId) (o p : Op) (is_o : op_at plans x ≡ Some o) (is_p : op_at plans y ≡ Some p) (rank : x.rank ≡ y.rank) where
  ops_at_one_place_share_alike : (place : Op → ℕ) → place o ≡ place p → (z : OpId) → same_place place x (op_at plans x) z (op_at plans z) ≡ same_place place y (op_at plans y) z (op_at plans z)
  ops_at_one_place_share_alike place e z =
      ap (λ a. same_place place x a z (op_at plans z)) is_o ∙ equal_places_share_alike place x y z o p (op_at plans z) rank e ∙ sym (ap (λ a. same_place place y a z (op_at plans z)) is_p)

  same_cpu_free_alike : o.cpu ≡ p.cpu → (h : List Timed) → cpu plans costs h x ≡ cpu plans costs h y
  unfolding cpu
  same_cpu_free_alike e [] = refl
  same_cpu_free_alike e (a ∷ h) =
      ap₂ (λ (n : ℕ) (b : Bool). max n (if holds_cpu a.class && b then a.time + cpu_hold plans costs h a.class a.op (kind_at plans a.op) else 0)) (same_cpu_free_alike e h) (ops_at_one_place_share_alike (λ (q : Op). q.cpu) e a.op)

  same_nic_tx_free_alike : o.nic ≡ p.nic → (h : List Timed) → tx plans costs h x ≡ tx plans costs h y
  unfolding tx
  same_nic_tx_free_alike e [] = refl
  same_nic_tx_free_alike e (a ∷ h) =
      ap₂ (λ (n : ℕ) (b : Bool). max n (if holds_tx a.class (kind_at plans a.op) && b then a.time + tx_hold plans costs a.class a.op (kind_at plans a.op) else 0)) (same_nic_tx_free_alike e h) (ops_at_one_place_share_alike (λ (q : Op). q.nic) e a.op)

  same_nic_rx_free_alike : o.nic ≡ p.nic → (h : List Timed) → rx plans costs h x ≡ rx plans costs h y
  unfolding rx
  same_nic_rx_free_alike e [] = refl
  same_nic_rx_free_alike e (a ∷ h) =
      ap₂ (λ (n : ℕ) (b : Bool). max n (if holds_rx a.class && b then a.time + rx_hold plans costs h a.class a.op (kind_at plans a.op) else 0)) (same_nic_rx_free_alike e h) (ops_at_one_place_share_alike (λ (q : Op). q.nic) e a.op)

-- one of the two resources of a station, and when that of an operation of this kind is free
abbrev pub needs : Bool → Station → Station
needs false s = cpu_alone s
needs true s = side_alone s

abbrev pub free_at : List Plan → CostModel → List Timed → Bool → OpId → Kind → ℕ
free_at plans costs h false x k = cpu plans costs h x
free_at plans costs h true x k = side_of plans costs h x (Some k)

abbrev cpu_of : OpId → Op → Station
cpu_of x o = record { rank = x.rank; cpu = Some o.cpu; sends = None; receives = None }

abbrev sender_of : OpId → Op → Station
sender_of x o = record { rank = x.rank; cpu = None; sends = Some o.nic; receives = None }

abbrev receiver_of : OpId → Op → Station
receiver_of x o = record { rank = x.rank; cpu = None; sends = None; receives = Some o.nic }

module _ (plans : List Plan) (costs : CostModel) (h : List Timed) (x y : OpId) (o p : Op) (is_o : op_at plans x ≡ Some o) (is_p : op_at plans y ≡ Some p) where
  needed_cpu_is_free_time : (b : Bool) (k : Kind) → needs b (station_by x o k) ≡ cpu_of y p → free_at plans costs h b x k ≡ cpu plans costs h y
  needed_cpu_is_free_time false (Calc n) e = same_cpu_free_alike plans costs x y o p is_o is_p (ap (λ (s : Station). s.rank) e) (same_Some o.cpu p.cpu (ap (λ (s : Station). s.cpu) e)) h
  needed_cpu_is_free_time false (Send n t u) e = same_cpu_free_alike plans costs x y o p is_o is_p (ap (λ (s : Station). s.rank) e) (same_Some o.cpu p.cpu (ap (λ (s : Station). s.cpu) e)) h
  needed_cpu_is_free_time false (Recv n t u) e = same_cpu_free_alike plans costs x y o p is_o is_p (ap (λ (s : Station). s.rank) e) (same_Some o.cpu p.cpu (ap (λ (s : Station). s.cpu) e)) h
  needed_cpu_is_free_time true (Calc n) e = same_cpu_free_alike plans costs x y o p is_o is_p (ap (λ (s : Station). s.rank) e) (same_Some o.cpu p.cpu (ap (λ (s : Station). s.cpu) e)) h
  needed_cpu_is_free_time true (Send n t u) e = let f = ap (λ (s : Station). s.cpu) e in absurd (cc)
  needed_cpu_is_free_time true (Recv n t u) e = let f = ap (λ (s : Station). s.cpu) e in absurd (cc)

  needed_tx_is_free_time : (b : Bool) (k : Kind) → needs b (station_by x o k) ≡ sender_of y p → free_at plans costs h b x k ≡ tx plans costs h y
  needed_tx_is_free_time false (Calc n) e = let f = ap (λ (s : Station). s.cpu) e in absurd (cc)
  needed_tx_is_free_time false (Send n t u) e = let f = ap (λ (s : Station). s.cpu) e in absurd (cc)
  needed_tx_is_free_time false (Recv n t u) e = let f = ap (λ (s : Station). s.cpu) e in absurd (cc)
  needed_tx_is_free_time true (Calc n) e = let f = ap (λ (s : Station). s.cpu) e in absurd (cc)
  needed_tx_is_free_time true (Send n t u) e = same_nic_tx_free_alike plans costs x y o p is_o is_p (ap (λ (s : Station). s.rank) e) (same_Some o.nic p.nic (ap (λ (s : Station). s.sends) e)) h
  needed_tx_is_free_time true (Recv n t u) e = let f = ap (λ (s : Station). s.sends) e in absurd (cc)

  needed_rx_is_free_time : (b : Bool) (k : Kind) → needs b (station_by x o k) ≡ receiver_of y p → free_at plans costs h b x k ≡ rx plans costs h y
  needed_rx_is_free_time false (Calc n) e = let f = ap (λ (s : Station). s.cpu) e in absurd (cc)
  needed_rx_is_free_time false (Send n t u) e = let f = ap (λ (s : Station). s.cpu) e in absurd (cc)
  needed_rx_is_free_time false (Recv n t u) e = let f = ap (λ (s : Station). s.cpu) e in absurd (cc)
  needed_rx_is_free_time true (Calc n) e = let f = ap (λ (s : Station). s.cpu) e in absurd (cc)
  needed_rx_is_free_time true (Send n t u) e = let f = ap (λ (s : Station). s.sends) e in absurd (cc)
  needed_rx_is_free_time true (Recv n t u) e = same_nic_rx_free_alike plans costs x y o p is_o is_p (ap (λ (s : Station). s.rank) e) (same_Some o.nic p.nic (ap (λ (s : Station). s.receives) e)) h

  same_need_by_kind_free_alike : (b c : Bool) (k l : Kind) → needs b (station_by x o k) ≡ needs c (station_by y p l) → free_at plans costs h b x k ≡ free_at plans costs h c y l
  same_need_by_kind_free_alike b false k (Calc n) e = needed_cpu_is_free_time b k e
  same_need_by_kind_free_alike b false k (Send n t u) e = needed_cpu_is_free_time b k e
  same_need_by_kind_free_alike b false k (Recv n t u) e = needed_cpu_is_free_time b k e
  same_need_by_kind_free_alike b true k (Calc n) e = needed_cpu_is_free_time b k e
  same_need_by_kind_free_alike b true k (Send n t u) e = needed_tx_is_free_time b k e
  same_need_by_kind_free_alike b true k (Recv n t u) e = needed_rx_is_free_time b k e

  -- what needs one resource finds it free at one time
  pub same_need_free_alike : (b c : Bool) → needs b (station_of x o) ≡ needs c (station_of y p) → free_at plans costs h b x o.kind ≡ free_at plans costs h c y p.kind
  same_need_free_alike b c e = same_need_by_kind_free_alike b c o.kind p.kind e

-- the times of an operation, by its kind
pub side_by_kind : (plans : List Plan) (costs : CostModel) (h : List Timed) (x : OpId) (o : Op) → op_at plans x ≡ Some o → side plans costs h x ≡ side_of plans costs h x (Some o.kind)
unfolding kind_at
side_by_kind plans costs h x o is = ap (λ (q : Option Op). side_of plans costs h x (option_map (λ (p : Op). p.kind) q)) is

module _ (plans : List Plan) (costs : CostModel) (a : Timed) (h : List Timed) where
  -- no time falls
  pub cpu_grows : (x : OpId) → cpu plans costs h x ≤ cpu plans costs (a ∷ h) x
  unfolding cpu
  cpu_grows x = omega arith

  side_of_grows : (x : OpId) (k : Option Kind) → side_of plans costs h x k ≤ side_of plans costs (a ∷ h) x k
  unfolding cpu tx rx
  side_of_grows x None = omega arith
  side_of_grows x (Some (Calc nanos)) = omega arith
  side_of_grows x (Some (Send bytes to tag)) = omega arith
  side_of_grows x (Some (Recv room from tag)) = omega arith

  pub side_grows : (x : OpId) → side plans costs h x ≤ side plans costs (a ∷ h) x
  side_grows x = side_of_grows x (kind_at plans x)

  module _ (possible : Possible plans costs h a) (x : OpId) (o q : Op) (is_o : op_at plans x ≡ Some o) (is_q : op_at plans a.op ≡ Some q) where
    max_without_hold : (n m : ℕ) (b : Bool) → (b ≡ true → ⊥) → max n (if b then m else 0) ≡ n
    max_without_hold n m true apart = absurd (apart refl)
    max_without_hold n m false apart = omega arith

    same_place_means_equal : (place : Op → ℕ) → same_place place x (op_at plans x) a.op (op_at plans a.op) ≡ true → (x.rank ≡ a.op.rank) × (place o ≡ place q)
    same_place_means_equal place e =
        let t : same_place place x (Some o) a.op (Some q) ≡ true = ap₂ (λ (u v : Option Op). same_place place x u a.op v) (sym is_o) (sym is_q) ∙ e in
        let parts = and_parts (x.rank == a.op.rank) (place o == place q) t in
        (eqb-true x.rank a.op.rank parts.0, eqb-true (place o) (place q) parts.1)

    -- the kind of the action's operation
    kind_of_action_op : kind_at plans a.op ≡ Some q.kind
    unfolding kind_at
    kind_of_action_op = ap (option_map (λ (p : Op). p.kind)) is_q

    cpu_stays : (cpu_of x o ≡ cpu_of a.op q → ⊥) → cpu plans costs (a ∷ h) x ≡ cpu plans costs h x
    unfolding cpu
    cpu_stays apart = max_without_hold _ _ (holds_cpu a.class && same_place (λ (p : Op). p.cpu) x (op_at plans x) a.op (op_at plans a.op)) (λ e. apart (at (same_place_means_equal (λ (p : Op). p.cpu) (and_parts (holds_cpu a.class) _ e).1)))
      where
        at : (x.rank ≡ a.op.rank) × (o.cpu ≡ q.cpu) → cpu_of x o ≡ cpu_of a.op q
        at e = λ i. record { rank = e.0 i; cpu = Some (e.1 i); sends = None; receives = None }

    tx_stays : (sender_of x o ≡ side_alone (station_of a.op q) → ⊥) → tx plans costs (a ∷ h) x ≡ tx plans costs h x
    unfolding tx
    tx_stays apart = max_without_hold _ _ (holds_tx a.class (kind_at plans a.op) && same_place (λ (p : Op). p.nic) x (op_at plans x) a.op (op_at plans a.op)) (λ e.
        let both = and_parts (holds_tx a.class (kind_at plans a.op)) _ e in
        apart (at a.class q.kind (ap (holds_tx a.class) (sym kind_of_action_op) ∙ both.0) (same_place_means_equal (λ (p : Op). p.nic) both.1)))
      where
        at : (c : Class) (k : Kind) → holds_tx c (Some k) ≡ true → (x.rank ≡ a.op.rank) × (o.nic ≡ q.nic) → sender_of x o ≡ side_alone (station_by a.op q k)
        at Begin (Send n t u) w e = λ i. record { rank = e.0 i; cpu = None; sends = Some (e.1 i); receives = None }
        at Data (Send n t u) w e = λ i. record { rank = e.0 i; cpu = None; sends = Some (e.1 i); receives = None }
        at _ k w e = absurd (both_ways false refl w)

    rx_stays : (receiver_of x o ≡ side_alone (station_of a.op q) → ⊥) → rx plans costs (a ∷ h) x ≡ rx plans costs h x
    unfolding rx
    rx_stays apart = max_without_hold _ _ (holds_rx a.class && same_place (λ (p : Op). p.nic) x (op_at plans x) a.op (op_at plans a.op)) (λ e.
        let both = and_parts (holds_rx a.class) _ e in
        let serves : allowed plans (is_eager plans costs) (plain h) Serve a.op ≡ true = subst (λ (d : Class). allowed plans (is_eager plans costs) (plain h) d a.op ≡ true) (is_serve a.class both.0) possible.allowed in
        let receive = (allowed_serve plans (is_eager plans costs) (plain h) a.op serves).0 in
        apart (at q.kind (same_Some q.kind _ (sym kind_of_action_op ∙ receive.kind)) (same_place_means_equal (λ (p : Op). p.nic) both.1)))
      where
        is_serve : (c : Class) → holds_rx c ≡ true → c ≡ Serve
        is_serve Serve w = refl
        is_serve Arrive w = absurd (both_ways false refl w)
        is_serve Data w = absurd (both_ways false refl w)
        is_serve Post w = absurd (both_ways false refl w)
        is_serve Begin w = absurd (both_ways false refl w)

        at : (k : Kind) {room : ℕ} {from tag : Option ℕ} → k ≡ Recv room from tag → (x.rank ≡ a.op.rank) × (o.nic ≡ q.nic) → receiver_of x o ≡ side_alone (station_by a.op q k)
        at (Recv n t u) w e = λ i. record { rank = e.0 i; cpu = None; sends = None; receives = Some (e.1 i) }
        at (Calc n) w e = absurd (cc)
        at (Send n t u) w e = absurd (cc)

    cpu_alone_is : (y : OpId) (p : Op) (k : Kind) → cpu_alone (station_by y p k) ≡ cpu_of y p
    cpu_alone_is y p (Calc n) = refl
    cpu_alone_is y p (Send n t u) = refl
    cpu_alone_is y p (Recv n t u) = refl

    -- a resource that the action does not need is free when it was
    pub free_stays : (b : Bool) → (needs b (station_of x o) ≡ cpu_alone (station_of a.op q) → ⊥) → (needs b (station_of x o) ≡ side_alone (station_of a.op q) → ⊥) → free_at plans costs (a ∷ h) b x o.kind ≡ free_at plans costs h b x o.kind
    free_stays b no_cpu no_side = go b o.kind no_cpu no_side
      where
        theirs : cpu_alone (station_of a.op q) ≡ cpu_of a.op q
        theirs = cpu_alone_is a.op q q.kind

        go : (b : Bool) (k : Kind) → (needs b (station_by x o k) ≡ cpu_alone (station_of a.op q) → ⊥) → (needs b (station_by x o k) ≡ side_alone (station_of a.op q) → ⊥) → free_at plans costs (a ∷ h) b x k ≡ free_at plans costs h b x k
        go false k nc ns = cpu_stays (λ e. nc (cpu_alone_is x o k ∙ e ∙ sym theirs))
        go true (Calc n) nc ns = cpu_stays (λ e. nc (e ∙ sym theirs))
        go true (Send n t u) nc ns = tx_stays ns
        go true (Recv n t u) nc ns = rx_stays ns

  -- what waits for nothing holds nothing
  tx_kept_by_action_without_cpu : (x : OpId) → holds_cpu a.class ≡ false → tx plans costs (a ∷ h) x ≡ tx plans costs h x
  unfolding tx
  tx_kept_by_action_without_cpu x w = go a.class w
    where
      go : (c : Class) → holds_cpu c ≡ false → max (tx plans costs h x) (if holds_tx c (kind_at plans a.op) && same_place (λ (p : Op). p.nic) x (op_at plans x) a.op (op_at plans a.op) then a.time + tx_hold plans costs c a.op (kind_at plans a.op) else 0) ≡ tx plans costs h x
      go Arrive v = omega arith
      go Post v = omega arith
      go _ v = absurd (both_ways true v refl)

  rx_kept_by_action_without_cpu : (x : OpId) → holds_cpu a.class ≡ false → rx plans costs (a ∷ h) x ≡ rx plans costs h x
  unfolding rx
  rx_kept_by_action_without_cpu x w = go a.class w
    where
      go : (c : Class) → holds_cpu c ≡ false → max (rx plans costs h x) (if holds_rx c && same_place (λ (p : Op). p.nic) x (op_at plans x) a.op (op_at plans a.op) then a.time + rx_hold plans costs h c a.op (kind_at plans a.op) else 0) ≡ rx plans costs h x
      go Arrive v = omega arith
      go Post v = omega arith
      go _ v = absurd (both_ways true v refl)

  pub side_kept_by_action_without_cpu : (x : OpId) → holds_cpu a.class ≡ false → side plans costs (a ∷ h) x ≡ side plans costs h x
  side_kept_by_action_without_cpu x w = go (kind_at plans x)
    where
      go : (k : Option Kind) → side_of plans costs (a ∷ h) x k ≡ side_of plans costs h x k
      go None = refl
      go (Some (Calc n)) = sym (cpu_kept_if_not_held plans costs h a w x)
      go (Some (Send n t u)) = tx_kept_by_action_without_cpu x w
      go (Some (Recv n t u)) = rx_kept_by_action_without_cpu x w

-- what an operation waits for is free when both of its resources are
pub free_is_later_of_both : (plans : List Plan) (costs : CostModel) (h : List Timed) (x : OpId) → (is_op : (k : Kind) × (kind_at plans x ≡ Some k)) → free plans costs h x ≡ max (cpu plans costs h x) (side plans costs h x)
free_is_later_of_both plans costs h x op =
    ap (free_of plans costs h x) op.1 ∙ go op.0 ∙ sym (ap (λ (k : Option Kind). max (cpu plans costs h x) (side_of plans costs h x k)) op.1)
  where
    go : (k : Kind) → free_of plans costs h x (Some k) ≡ max (cpu plans costs h x) (side_of plans costs h x (Some k))
    go (Calc n) = omega arith
    go (Send n t u) = refl
    go (Recv n t u) = refl
