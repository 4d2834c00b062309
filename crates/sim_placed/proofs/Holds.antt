-- Until when cpus and NICs of a rank are held depends on the actions of this rank alone, if partners are fixed.
use Rattle.std.proofs.Common.{ℕ, ◌+◌, ◌≡◌, ◌==◌, ◌&&◌, ◌⊎◌, inl, inr, max, Bool, true, false, List, [], ◌∷◌, Option, Some, None, if◌then◌else◌, refl, sym, ap, ◌∙◌, subst, arith}
use Rattle.std.proofs.lemmas.Bool.{cases_eq, ne_eqb, true≢false}
use Rattle.goal_graph.specs.declared.action.OpId.{OpId}
use Rattle.goal_graph.specs.declared.action.Timed.{Timed}
use Rattle.goal_graph.specs.declared.action.Class.{Class}
use Rattle.goal_graph.specs.declared.action.Class.TheVariants.{Arrive, Serve, Data, Post, Begin}
use Rattle.goal_graph.specs.declared.plan.Op.{Op}
use Rattle.goal_graph.specs.declared.plan.Kind.{Kind}
use Rattle.goal_graph.specs.declared.plan.Kind.TheVariants.{Calc, Send, Recv}
use Rattle.goal_graph.specs.Schedule.{Plan, op_at, kind_at, same_place, IsReceive}
use Rattle.goal_graph.specs.Action.{plain, holds_cpu}
use Rattle.goal_graph.specs.Allowed.{is_served, allowed}
use Rattle.goal_graph.specs.Laws.{IsApart}
use Rattle.goal_graph.proofs.ForCallers.{allowed_serve, served_message}
use Rattle.sim_params.specs.Costs.{CostModel, over, gap, is_eager}
use Rattle.sim_params.specs.Times.{at_partner, holds_tx, holds_rx, mate, cpu_hold, tx_hold, rx_hold, cpu, tx, rx, Possible}
use Rattle.sim_placed.proofs.Tails.{whole, newer, on_rank, on_rank_of_own_action, on_rank_of_other_action, Below, tail_below, below_transitive}
use Rattle.sim_placed.proofs.Local.{has_happened}
use Rattle.sim_placed.proofs.Mates.{Each, each_interleaving, met_below, mates, met_of_receive}

other_rank_is_not_same_place : (f : Op → ℕ) (x : OpId) (o : Option Op) (y : OpId) (p : Option Op) → (x.rank ≡ y.rank → ⊥) → same_place f x o y p ≡ false
other_rank_is_not_same_place f x None y p ne = refl
other_rank_is_not_same_place f x (Some o) y None ne = refl
other_rank_is_not_same_place f x (Some o) y (Some p) ne = ap (λ (b : Bool). b && (f o == f p)) (ne_eqb x.rank y.rank ne)

max_without_addition : (n more : ℕ) (a b : Bool) → b ≡ false → max n (if a && b then more else 0) ≡ n
max_without_addition n more true b e = ap (λ (c : Bool). max n (if c then more else 0)) e ∙ omega arith
max_without_addition n more false b e = omega arith

module _ (plans : List Plan) (costs : CostModel) (apart : IsApart plans) (w : List Timed) (each_w : Each plans costs w) where
  mate_in_whole_history : (p : List Timed) → Below p w → (x m : OpId) → IsReceive plans x → mate plans costs p x ≡ Some m → mate plans costs w x ≡ Some m
  mate_in_whole_history p below x m r e =
      (mates plans costs apart w each_w m x (met_below plans costs p w below m x (met_of_receive plans costs apart p m x r e))).1

  served : (p : List Timed) (o : Option OpId) → is_served plans (is_eager plans costs) (plain p) o ≡ true → (m : OpId) × (o ≡ Some m)
  served p None e = absurd (true≢false (sym e))
  served p (Some m) e = (m, refl)

  -- a served receive has the same partner as in the whole history
  same_mate : (p : List Timed) → Below p w → (x : OpId) → IsReceive plans x → is_served plans (is_eager plans costs) (plain p) (mate plans costs p x) ≡ true → mate plans costs p x ≡ mate plans costs w x
  same_mate p below x r e =
      let o = served p (mate plans costs p x) e in o.1 ∙ sym (mate_in_whole_history p below x o.0 r o.1)

  -- so what an action holds is the same as in the whole history
  pub hold_with_same_mate : (p : List Timed) (c : Class) (x : OpId) (k : Option Kind) → kind_at plans x ≡ k → (c ≡ Serve → IsReceive plans x → mate plans costs p x ≡ mate plans costs w x) → (cpu_hold plans costs p c x k ≡ cpu_hold plans costs w c x k) × (rx_hold plans costs p c x k ≡ rx_hold plans costs w c x k)
  hold_with_same_mate p Serve x (Some (Recv room from tag)) e mated =
      let same = mated refl (record { room = room; from = from; tag = tag; kind = e }) in
      (ap (at_partner (over plans costs)) same, ap (at_partner (gap plans costs)) same)
  hold_with_same_mate p Serve x (Some (Calc nanos)) e mated = (refl, refl)
  hold_with_same_mate p Serve x (Some (Send bytes to tag)) e mated = (refl, refl)
  hold_with_same_mate p Serve x None e mated = (refl, refl)
  hold_with_same_mate p Begin x (Some (Calc nanos)) e mated = (refl, refl)
  hold_with_same_mate p Begin x (Some (Send bytes to tag)) e mated = (refl, refl)
  hold_with_same_mate p Begin x (Some (Recv room from tag)) e mated = (refl, refl)
  hold_with_same_mate p Begin x None e mated = (refl, refl)
  hold_with_same_mate p Data x (Some (Calc nanos)) e mated = (refl, refl)
  hold_with_same_mate p Data x (Some (Send bytes to tag)) e mated = (refl, refl)
  hold_with_same_mate p Data x (Some (Recv room from tag)) e mated = (refl, refl)
  hold_with_same_mate p Data x None e mated = (refl, refl)
  hold_with_same_mate p Arrive x k e mated = (refl, refl)
  hold_with_same_mate p Post x k e mated = (refl, refl)

  possible_hold : (p : List Timed) → Below p w → (a : Timed) → Possible plans costs p a → (cpu_hold plans costs p a.class a.op (kind_at plans a.op) ≡ cpu_hold plans costs w a.class a.op (kind_at plans a.op)) × (rx_hold plans costs p a.class a.op (kind_at plans a.op) ≡ rx_hold plans costs w a.class a.op (kind_at plans a.op))
  possible_hold p below a possible =
      hold_with_same_mate p a.class a.op (kind_at plans a.op) refl (λ e r. same_mate p below a.op r (allowed_serve plans (is_eager plans costs) (plain p) a.op (subst (λ (c : Class). allowed plans (is_eager plans costs) (plain p) c a.op ≡ true) e possible.allowed)).1)

  -- what an action holds that has happened
  pub happened_hold : (p : List Timed) → Each plans costs p → Below p w → (c : Class) (x : OpId) → has_happened c x p ≡ true → cpu_hold plans costs p c x (kind_at plans x) ≡ cpu_hold plans costs w c x (kind_at plans x)
  happened_hold p each below c x e =
      (hold_with_same_mate p c x (kind_at plans x) refl (λ is r. same_mate p below x r (served_message plans (is_eager plans costs) (plain p) x (each_interleaving plans costs p each) (subst (λ (d : Class). has_happened d x p ≡ true) is e)))).0

  -- until when these actions hold what x uses
  cpu_of : List Timed → OpId → ℕ
  cpu_of [] x = 0
  cpu_of (a ∷ u) x = max (cpu_of u x) (if holds_cpu a.class && same_place (λ (o : Op). o.cpu) x (op_at plans x) a.op (op_at plans a.op) then a.time + cpu_hold plans costs w a.class a.op (kind_at plans a.op) else 0)

  rx_of : List Timed → OpId → ℕ
  rx_of [] x = 0
  rx_of (a ∷ u) x = max (rx_of u x) (if holds_rx a.class && same_place (λ (o : Op). o.nic) x (op_at plans x) a.op (op_at plans a.op) then a.time + rx_hold plans costs w a.class a.op (kind_at plans a.op) else 0)

  below_without_newest : (a : Timed) (p : List Timed) → Below (a ∷ p) w → Below p w
  below_without_newest a p below = below_transitive p (a ∷ p) w (tail_below p (a ∷ p) (newer whole)) below

  cpu_from_own_rank : (p : List Timed) → Each plans costs p → Below p w → (x : OpId) → cpu plans costs p x ≡ cpu_of (on_rank x.rank p) x
  unfolding cpu cpu_of
  cpu_from_own_rank [] each below x = refl
  cpu_from_own_rank (a ∷ p) each below x =
      go (cpu_from_own_rank p each.0 (below_without_newest a p below) x) (possible_hold p (below_without_newest a p below) a each.1).0 (cases_eq a.op.rank x.rank)
    where
      go : cpu plans costs p x ≡ cpu_of (on_rank x.rank p) x → cpu_hold plans costs p a.class a.op (kind_at plans a.op) ≡ cpu_hold plans costs w a.class a.op (kind_at plans a.op) → (a.op.rank ≡ x.rank) ⊎ (a.op.rank ≡ x.rank → ⊥) → max (cpu plans costs p x) (if holds_cpu a.class && same_place (λ (o : Op). o.cpu) x (op_at plans x) a.op (op_at plans a.op) then a.time + cpu_hold plans costs p a.class a.op (kind_at plans a.op) else 0) ≡ cpu_of (on_rank x.rank (a ∷ p)) x
      go rest hold (inl e) =
          (λ i. max (rest i) (if holds_cpu a.class && same_place (λ (o : Op). o.cpu) x (op_at plans x) a.op (op_at plans a.op) then a.time + hold i else 0)) ∙ ap (λ (u : List Timed). cpu_of u x) (sym (on_rank_of_own_action x.rank a p e))
      go rest hold (inr ne) =
          max_without_addition (cpu plans costs p x) (a.time + cpu_hold plans costs p a.class a.op (kind_at plans a.op)) (holds_cpu a.class) (same_place (λ (o : Op). o.cpu) x (op_at plans x) a.op (op_at plans a.op)) (other_rank_is_not_same_place (λ (o : Op). o.cpu) x (op_at plans x) a.op (op_at plans a.op) (λ e. ne (sym e))) ∙ (rest ∙ ap (λ (u : List Timed). cpu_of u x) (sym (on_rank_of_other_action x.rank a p ne)))

  rx_from_own_rank : (p : List Timed) → Each plans costs p → Below p w → (x : OpId) → rx plans costs p x ≡ rx_of (on_rank x.rank p) x
  unfolding rx rx_of
  rx_from_own_rank [] each below x = refl
  rx_from_own_rank (a ∷ p) each below x =
      go (rx_from_own_rank p each.0 (below_without_newest a p below) x) (possible_hold p (below_without_newest a p below) a each.1).1 (cases_eq a.op.rank x.rank)
    where
      go : rx plans costs p x ≡ rx_of (on_rank x.rank p) x → rx_hold plans costs p a.class a.op (kind_at plans a.op) ≡ rx_hold plans costs w a.class a.op (kind_at plans a.op) → (a.op.rank ≡ x.rank) ⊎ (a.op.rank ≡ x.rank → ⊥) → max (rx plans costs p x) (if holds_rx a.class && same_place (λ (o : Op). o.nic) x (op_at plans x) a.op (op_at plans a.op) then a.time + rx_hold plans costs p a.class a.op (kind_at plans a.op) else 0) ≡ rx_of (on_rank x.rank (a ∷ p)) x
      go rest hold (inl e) =
          (λ i. max (rest i) (if holds_rx a.class && same_place (λ (o : Op). o.nic) x (op_at plans x) a.op (op_at plans a.op) then a.time + hold i else 0)) ∙ ap (λ (u : List Timed). rx_of u x) (sym (on_rank_of_own_action x.rank a p e))
      go rest hold (inr ne) =
          max_without_addition (rx plans costs p x) (a.time + rx_hold plans costs p a.class a.op (kind_at plans a.op)) (holds_rx a.class) (same_place (λ (o : Op). o.nic) x (op_at plans x) a.op (op_at plans a.op)) (other_rank_is_not_same_place (λ (o : Op). o.nic) x (op_at plans x) a.op (op_at plans a.op) (λ e. ne (sym e))) ∙ (rest ∙ ap (λ (u : List Timed). rx_of u x) (sym (on_rank_of_other_action x.rank a p ne)))

  tx_from_own_rank : (p : List Timed) (x : OpId) → tx plans costs p x ≡ tx plans costs (on_rank x.rank p) x
  unfolding tx
  tx_from_own_rank [] x = refl
  tx_from_own_rank (a ∷ p) x = go (tx_from_own_rank p x) (cases_eq a.op.rank x.rank)
    where
      go : tx plans costs p x ≡ tx plans costs (on_rank x.rank p) x → (a.op.rank ≡ x.rank) ⊎ (a.op.rank ≡ x.rank → ⊥) → max (tx plans costs p x) (if holds_tx a.class (kind_at plans a.op) && same_place (λ (o : Op). o.nic) x (op_at plans x) a.op (op_at plans a.op) then a.time + tx_hold plans costs a.class a.op (kind_at plans a.op) else 0) ≡ tx plans costs (on_rank x.rank (a ∷ p)) x
      go rest (inl e) =
          (λ i. max (rest i) (if holds_tx a.class (kind_at plans a.op) && same_place (λ (o : Op). o.nic) x (op_at plans x) a.op (op_at plans a.op) then a.time + tx_hold plans costs a.class a.op (kind_at plans a.op) else 0)) ∙ ap (λ (u : List Timed). tx plans costs u x) (sym (on_rank_of_own_action x.rank a p e))
      go rest (inr ne) =
          max_without_addition (tx plans costs p x) (a.time + tx_hold plans costs a.class a.op (kind_at plans a.op)) (holds_tx a.class (kind_at plans a.op)) (same_place (λ (o : Op). o.nic) x (op_at plans x) a.op (op_at plans a.op)) (other_rank_is_not_same_place (λ (o : Op). o.nic) x (op_at plans x) a.op (op_at plans a.op) (λ e. ne (sym e))) ∙ (rest ∙ ap (λ (u : List Timed). tx plans costs u x) (sym (on_rank_of_other_action x.rank a p ne)))

  module _ (p q : List Timed) (each_p : Each plans costs p) (each_q : Each plans costs q) (below_p : Below p w) (below_q : Below q w) (x : OpId) (same : on_rank x.rank p ≡ on_rank x.rank q) where
    pub same_cpu : cpu plans costs p x ≡ cpu plans costs q x
    same_cpu =
        cpu_from_own_rank p each_p below_p x ∙ (ap (λ (u : List Timed). cpu_of u x) same ∙ sym (cpu_from_own_rank q each_q below_q x))

    pub same_rx : rx plans costs p x ≡ rx plans costs q x
    same_rx =
        rx_from_own_rank p each_p below_p x ∙ (ap (λ (u : List Timed). rx_of u x) same ∙ sym (rx_from_own_rank q each_q below_q x))

    pub same_tx : tx plans costs p x ≡ tx plans costs q x
    same_tx = tx_from_own_rank p x ∙ (ap (λ (u : List Timed). tx plans costs u x) same ∙ sym (tx_from_own_rank q x))
