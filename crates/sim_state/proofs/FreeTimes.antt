-- When cpus and NICs are free after one more action.
use Rattle.std.proofs.Common.{◌≡◌, ◌&&◌, ◌+◌, ℕ, max, Bool, true, false, List, ◌∷◌, Option, Some, None, if◌then◌else◌, refl, ap, ap₂, ◌∙◌, arith}
use Rattle.goal_graph.specs.declared.action.OpId.{OpId}
use Rattle.goal_graph.specs.declared.action.Timed.{Timed}
use Rattle.goal_graph.specs.declared.plan.Kind.{Kind}
use Rattle.goal_graph.specs.declared.plan.Kind.TheVariants.{Calc, Send, Recv}
use Rattle.goal_graph.specs.declared.plan.Op.{Op}
use Rattle.goal_graph.specs.Schedule.{Plan, op_at, kind_at}
use Rattle.goal_graph.specs.Action.{holds_cpu}
use Rattle.sim_params.specs.Costs.{CostModel}
use Rattle.sim_params.specs.Times.{same_place, holds_tx, holds_rx, cpu_hold, tx_hold, rx_hold, cpu, tx, rx}
use Rattle.sim_resources.specs.FreeTimes.{Hold, Holds, shares_place, shares, free_at, hold, hold_cpu, hold_tx, hold_rx, SameFreeTimes}
use Rattle.sim_resources.specs.ByNumber.{side_free_of, side_free}
use Rattle.sim_state.specs.Free.{side_of, side}
use Rattle.sim_state.specs.Represents.{AreFreeTimes}

-- the two tests whether operations use one cpu, or one NIC, are equal
shares_same : (place : Op → ℕ) (x y : OpId) (o p : Option Op) → shares_place place x o y p ≡ same_place place x o y p
shares_same place x y (Some o) (Some p) = refl
shares_same place x y (Some o) None = refl
shares_same place x y None p = refl

-- another hold
free_after_hold : (place : Op → ℕ) (plans old : List Plan) (hs : List Hold) (y x : OpId) (was until : ℕ) → old ≡ plans → free_at place old hs x ≡ was → free_at place old (hold y until ∷ hs) x ≡ max was (if same_place place x (op_at plans x) y (op_at plans y) then until else 0)
unfolding free_at
free_after_hold place plans old hs y x was until e f =
    ap₂ (λ (n : ℕ) (b : Bool). max n (if b then until else 0)) f (ap (λ (ps : List Plan). shares place ps x y) e ∙ shares_same place x y (op_at plans x) (op_at plans y))

max_with_held_time : (b c : Bool) (m until n : ℕ) → b ≡ true → until ≡ n → max m (if c then until else 0) ≡ max m (if b && c then n else 0)
max_with_held_time true c m until n e f = ap (λ (n : ℕ). max m (if c then n else 0)) f
max_with_held_time false c m until n e f = absurd (cc)

max_without_held_time : (b c : Bool) (m n : ℕ) → b ≡ false → m ≡ max m (if b && c then n else 0)
max_without_held_time true c m n e = absurd (cc)
max_without_held_time false c m n e = omega arith

module _ (plans : List Plan) (costs : CostModel) (h : List Timed) (a : Timed) where
  -- an action that holds nothing of a kind leaves it free when it was
  pub cpu_kept_if_not_held : holds_cpu a.class ≡ false → (x : OpId) → cpu plans costs h x ≡ cpu plans costs (a ∷ h) x
  unfolding cpu
  cpu_kept_if_not_held e x = max_without_held_time (holds_cpu a.class) _ _ _ e

  tx_kept_if_not_held : holds_tx a.class (kind_at plans a.op) ≡ false → (x : OpId) → tx plans costs h x ≡ tx plans costs (a ∷ h) x
  unfolding tx
  tx_kept_if_not_held e x = max_without_held_time (holds_tx a.class (kind_at plans a.op)) _ _ _ e

  rx_kept_if_not_held : holds_rx a.class ≡ false → (x : OpId) → rx plans costs h x ≡ rx plans costs (a ∷ h) x
  unfolding rx
  rx_kept_if_not_held e x = max_without_held_time (holds_rx a.class) _ _ _ e

  module _ (r : Holds) (before : AreFreeTimes plans costs h r) (until : ℕ) where
    cpu_more : holds_cpu a.class ≡ true → until ≡ a.time + cpu_hold plans costs h a.class a.op (kind_at plans a.op) → (x : OpId) → free_at (λ (o : Op). o.cpu) r.plans (hold a.op until ∷ r.cpu) x ≡ cpu plans costs (a ∷ h) x
    unfolding cpu
    cpu_more e f x =
        free_after_hold (λ (o : Op). o.cpu) plans r.plans r.cpu a.op x (cpu plans costs h x) until before.same_plans (before.cpus x) ∙ max_with_held_time (holds_cpu a.class) _ _ until _ e f

    tx_more : holds_tx a.class (kind_at plans a.op) ≡ true → until ≡ a.time + tx_hold plans costs a.class a.op (kind_at plans a.op) → (x : OpId) → free_at (λ (o : Op). o.nic) r.plans (hold a.op until ∷ r.tx) x ≡ tx plans costs (a ∷ h) x
    unfolding tx
    tx_more e f x =
        free_after_hold (λ (o : Op). o.nic) plans r.plans r.tx a.op x (tx plans costs h x) until before.same_plans (before.senders x) ∙ max_with_held_time (holds_tx a.class (kind_at plans a.op)) _ _ until _ e f

    rx_more : holds_rx a.class ≡ true → until ≡ a.time + rx_hold plans costs h a.class a.op (kind_at plans a.op) → (x : OpId) → free_at (λ (o : Op). o.nic) r.plans (hold a.op until ∷ r.rx) x ≡ rx plans costs (a ∷ h) x
    unfolding rx
    rx_more e f x =
        free_after_hold (λ (o : Op). o.nic) plans r.plans r.rx a.op x (rx plans costs h x) until before.same_plans (before.receivers x) ∙ max_with_held_time (holds_rx a.class) _ _ until _ e f

  module _ (r : Holds) (before : AreFreeTimes plans costs h r) where
    -- a Post and an Arrive hold nothing
    pub free_same : holds_cpu a.class ≡ false → holds_tx a.class (kind_at plans a.op) ≡ false → holds_rx a.class ≡ false → AreFreeTimes plans costs (a ∷ h) r
    free_same e f g = record {
      same_plans = before.same_plans;
      cpus = λ x. before.cpus x ∙ cpu_kept_if_not_held e x;
      senders = λ x. before.senders x ∙ tx_kept_if_not_held f x;
      receivers = λ x. before.receivers x ∙ rx_kept_if_not_held g x;
    }

    module _ (s : Holds) (busy : ℕ) (holds : holds_cpu a.class ≡ true) (until : busy ≡ a.time + cpu_hold plans costs h a.class a.op (kind_at plans a.op)) where
      -- the Begin of a calc holds its cpu
      pub free_calc : SameFreeTimes s (hold_cpu r a.op busy) → holds_tx a.class (kind_at plans a.op) ≡ false → holds_rx a.class ≡ false → AreFreeTimes plans costs (a ∷ h) s
      free_calc after f g = record {
        same_plans = after.plans ∙ before.same_plans;
        cpus = λ x. after.cpu x ∙ cpu_more r before busy holds until x;
        senders = λ x. after.tx x ∙ before.senders x ∙ tx_kept_if_not_held f x;
        receivers = λ x. after.rx x ∙ before.receivers x ∙ rx_kept_if_not_held g x;
      }

      -- that of a send, and its Data, holds the sending side of its NIC too
      pub free_send : (sent : ℕ) → SameFreeTimes s (hold_tx (hold_cpu r a.op busy) a.op sent) → holds_tx a.class (kind_at plans a.op) ≡ true → sent ≡ a.time + tx_hold plans costs a.class a.op (kind_at plans a.op) → holds_rx a.class ≡ false → AreFreeTimes plans costs (a ∷ h) s
      free_send sent after f t g = record {
        same_plans = after.plans ∙ before.same_plans;
        cpus = λ x. after.cpu x ∙ cpu_more r before busy holds until x;
        senders = λ x. after.tx x ∙ tx_more r before sent f t x;
        receivers = λ x. after.rx x ∙ before.receivers x ∙ rx_kept_if_not_held g x;
      }

      -- a Serve holds the receiving side
      pub free_serve : (received : ℕ) → SameFreeTimes s (hold_rx (hold_cpu r a.op busy) a.op received) → holds_tx a.class (kind_at plans a.op) ≡ false → holds_rx a.class ≡ true → received ≡ a.time + rx_hold plans costs h a.class a.op (kind_at plans a.op) → AreFreeTimes plans costs (a ∷ h) s
      free_serve received after f g t = record {
        same_plans = after.plans ∙ before.same_plans;
        cpus = λ x. after.cpu x ∙ cpu_more r before busy holds until x;
        senders = λ x. after.tx x ∙ before.senders x ∙ tx_kept_if_not_held f x;
        receivers = λ x. after.rx x ∙ rx_more r before received g t x;
      }

-- the side of an operation is free when the history says so
pub side_at_history : (plans : List Plan) (costs : CostModel) (h : List Timed) (r : Holds) → AreFreeTimes plans costs h r → (x : OpId) → side_free r x ≡ side plans costs h x
side_at_history plans costs h r free x = ap (λ (ps : List Plan). side_free_of r x (kind_at ps x)) free.same_plans ∙ go (kind_at plans x)
  where
    go : (k : Option Kind) → side_free_of r x k ≡ side_of plans costs h x k
    go None = refl
    go (Some (Calc nanos)) = free.cpus x
    go (Some (Send bytes to tag)) = free.senders x
    go (Some (Recv room from tag)) = free.receivers x
