-- How long each action holds what it uses.
use Rattle.std.proofs.Common.{◌≡◌, ℕ, Bool, true, false, List, Some, if◌then◌else◌, ap, ◌∙◌}
use Rattle.goal_graph.specs.declared.action.OpId.{OpId}
use Rattle.goal_graph.specs.declared.action.Timed.{Timed}
use Rattle.goal_graph.specs.declared.action.Class.{Class}
use Rattle.goal_graph.specs.declared.action.Class.TheVariants.{Serve, Data, Begin}
use Rattle.goal_graph.specs.declared.plan.Kind.TheVariants.{Calc}
use Rattle.goal_graph.specs.Schedule.{Plan, kind_at, IsSend, IsReceive}
use Rattle.sim_params.specs.Costs.{CostModel, over, over_one, gap, gap_one, is_eager}
use Rattle.sim_params.specs.Times.{at_partner, mate, holds_tx, cpu_hold, tx_hold, rx_hold}

module _ (plans : List Plan) (costs : CostModel) (h : List Timed) (c : Class) (x : OpId) where
  pub cpu_of_calc : (nanos : ℕ) → c ≡ Begin → kind_at plans x ≡ Some (Calc nanos) → cpu_hold plans costs h c x (kind_at plans x) ≡ nanos
  cpu_of_calc nanos e k = λ i. cpu_hold plans costs h (e i) x (k i)

  pub tx_of_calc : (nanos : ℕ) → c ≡ Begin → kind_at plans x ≡ Some (Calc nanos) → holds_tx c (kind_at plans x) ≡ false
  tx_of_calc nanos e k = λ i. holds_tx (e i) (k i)

  module _ (send : IsSend plans x) where
    pub cpu_of_eager : c ≡ Begin → is_eager plans costs x ≡ true → cpu_hold plans costs h c x (kind_at plans x) ≡ over plans costs x
    cpu_of_eager e t =
        (λ i. cpu_hold plans costs h (e i) x (send.kind i)) ∙ ap (λ (b : Bool). if b then over plans costs x else over_one plans costs x) t

    pub tx_of_eager : c ≡ Begin → is_eager plans costs x ≡ true → tx_hold plans costs c x (kind_at plans x) ≡ gap plans costs x
    tx_of_eager e t =
        (λ i. tx_hold plans costs (e i) x (send.kind i)) ∙ ap (λ (b : Bool). if b then gap plans costs x else gap_one plans costs x) t

    pub cpu_of_request : c ≡ Begin → is_eager plans costs x ≡ false → cpu_hold plans costs h c x (kind_at plans x) ≡ over_one plans costs x
    cpu_of_request e t =
        (λ i. cpu_hold plans costs h (e i) x (send.kind i)) ∙ ap (λ (b : Bool). if b then over plans costs x else over_one plans costs x) t

    pub tx_of_request : c ≡ Begin → is_eager plans costs x ≡ false → tx_hold plans costs c x (kind_at plans x) ≡ gap_one plans costs x
    tx_of_request e t =
        (λ i. tx_hold plans costs (e i) x (send.kind i)) ∙ ap (λ (b : Bool). if b then gap plans costs x else gap_one plans costs x) t

    pub sends_at_begin : c ≡ Begin → holds_tx c (kind_at plans x) ≡ true
    sends_at_begin e = λ i. holds_tx (e i) (send.kind i)

    pub cpu_of_data : c ≡ Data → cpu_hold plans costs h c x (kind_at plans x) ≡ over plans costs x
    cpu_of_data e = λ i. cpu_hold plans costs h (e i) x (send.kind i)

    pub tx_of_data : c ≡ Data → tx_hold plans costs c x (kind_at plans x) ≡ gap plans costs x
    tx_of_data e = λ i. tx_hold plans costs (e i) x (send.kind i)

    pub sends_at_data : c ≡ Data → holds_tx c (kind_at plans x) ≡ true
    sends_at_data e = λ i. holds_tx (e i) (send.kind i)

  module _ (receive : IsReceive plans x) (m : OpId) (partner : mate plans costs h x ≡ Some m) where
    pub cpu_of_serve : c ≡ Serve → cpu_hold plans costs h c x (kind_at plans x) ≡ over plans costs m
    cpu_of_serve e =
        (λ i. cpu_hold plans costs h (e i) x (receive.kind i)) ∙ ap (at_partner (over plans costs)) partner

    pub rx_of_serve : c ≡ Serve → rx_hold plans costs h c x (kind_at plans x) ≡ gap plans costs m
    rx_of_serve e =
        (λ i. rx_hold plans costs h (e i) x (receive.kind i)) ∙ ap (at_partner (gap plans costs)) partner
