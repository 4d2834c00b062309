-- The times of a history, in nanoseconds: when operations start and end, when cpus and NICs are free, and when an
-- action may happen. A history is newest first. A missing time counts as 0 here; the rules without times say whether it
-- is missing.
use Rattle.std.specs.Prelude.{ℕ, ◌+◌, ◌≡◌, ◌&&◌, max, Bool, true, false, List, [], ◌∷◌, Option, Some, None, if◌then◌else◌}
use Rattle.goal_graph.specs.declared.action.OpId.{OpId}
use Rattle.goal_graph.specs.declared.action.Timed.{Timed}
use Rattle.goal_graph.specs.declared.action.Class.{Class}
use Rattle.goal_graph.specs.declared.action.Class.TheVariants.{Arrive, Serve, Data, Post, Begin}
use Rattle.goal_graph.specs.declared.plan.Kind.{Kind}
use Rattle.goal_graph.specs.declared.plan.Kind.TheVariants.{Calc, Send, Recv}
use Rattle.goal_graph.specs.declared.plan.Op.{Op}
use Rattle.goal_graph.specs.declared.plan.Need.{Need}
use Rattle.goal_graph.specs.declared.plan.When.{When}
use Rattle.goal_graph.specs.declared.plan.When.TheVariants.{AfterEnd, AfterStart}
use Rattle.goal_graph.specs.Schedule.{Plan, op_at, kind_at, needs, needed}
pub use Rattle.goal_graph.specs.Schedule.{same_place}
use Rattle.goal_graph.specs.Action.{Act, happened, plain, holds_cpu}
use Rattle.goal_graph.specs.Matching.{pairs, partner, is_paired}
use Rattle.goal_graph.specs.Allowed.{last_class, has_started, has_ended, allowed}
use Rattle.sim_params.specs.Costs.{CostModel, over, over_one, gap, gap_one, flight, flight_one, latency, is_eager}

-- the time of the action from which on a test holds
unfoldable pub since : (List Act → Bool) → List Timed → ℕ
since test [] = 0
since test (a ∷ h) = if test (plain h) then since test h else (if test (plain (a ∷ h)) then a.time else 0)

-- the greatest of the numbers of f, or 0 for an empty list
unfoldable pub greatest : {A : Type 0} → (A → ℕ) → List A → ℕ
greatest f [] = 0
greatest f (x ∷ xs) = max (f x) (greatest f xs)

-- a number of the partner, or 0 if there is none
abbrev pub at_partner : (OpId → ℕ) → Option OpId → ℕ
at_partner f None = 0
at_partner f (Some m) = f m

-- the actions that hold the sending side of a NIC; its receiving side
abbrev pub holds_tx : Class → Option Kind → Bool
holds_tx Begin (Some (Send bytes to tag)) = true
holds_tx Data (Some (Send bytes to tag)) = true
holds_tx _ _ = false

abbrev pub holds_rx : Class → Bool
holds_rx Serve = true
holds_rx Arrive = false
holds_rx Data = false
holds_rx Post = false
holds_rx Begin = false

module _ (plans : List Plan) (costs : CostModel) where
  -- the partner of x in the history
  abbrev pub mate : List Timed → OpId → Option OpId
  mate h x = partner (pairs plans (plain h)) x

  -- how long an action holds its cpu; the size that counts is that of the message, never that of the receive
  abbrev pub cpu_hold : List Timed → Class → OpId → Option Kind → ℕ
  cpu_hold h Begin x (Some (Calc nanos)) = nanos
  cpu_hold h Begin x (Some (Send bytes to tag)) =
      if is_eager plans costs x then over plans costs x else over_one plans costs x
  cpu_hold h Data x (Some (Send bytes to tag)) = over plans costs x
  cpu_hold h Serve x (Some (Recv room from tag)) = at_partner (over plans costs) (mate h x)
  cpu_hold h _ x _ = 0

  -- how long an action holds the sending side of its NIC
  abbrev pub tx_hold : Class → OpId → Option Kind → ℕ
  tx_hold Begin x (Some (Send bytes to tag)) =
      if is_eager plans costs x then gap plans costs x else gap_one plans costs x
  tx_hold Data x (Some (Send bytes to tag)) = gap plans costs x
  tx_hold _ x _ = 0

  -- how long an action holds the receiving side of its NIC
  abbrev pub rx_hold : List Timed → Class → OpId → Option Kind → ℕ
  rx_hold h Serve x (Some (Recv room from tag)) = at_partner (gap plans costs) (mate h x)
  rx_hold h _ x _ = 0

  -- When the cpu of x is free: the greatest time plus hold of the actions on it. The partner of a served receive is its
  -- partner before the Serve.
  unfoldable pub cpu : List Timed → OpId → ℕ
  cpu [] x = 0
  cpu (a ∷ h) x =
      max (cpu h x)
      (if holds_cpu a.class && same_place (λ (o : Op). o.cpu) x (op_at plans x) a.op (op_at plans a.op)
      then a.time + cpu_hold h a.class a.op (kind_at plans a.op)
      else 0)

  -- when the sending side of the NIC of x is free
  unfoldable pub tx : List Timed → OpId → ℕ
  tx [] x = 0
  tx (a ∷ h) x =
      max (tx h x)
      (if holds_tx a.class (kind_at plans a.op) && same_place (λ (o : Op). o.nic) x (op_at plans x) a.op (op_at plans a.op)
      then a.time + tx_hold a.class a.op (kind_at plans a.op)
      else 0)

  -- when the receiving side of the NIC of x is free
  unfoldable pub rx : List Timed → OpId → ℕ
  rx [] x = 0
  rx (a ∷ h) x =
      max (rx h x)
      (if holds_rx a.class && same_place (λ (o : Op). o.nic) x (op_at plans x) a.op (op_at plans a.op)
      then a.time + rx_hold h a.class a.op (kind_at plans a.op)
      else 0)

  -- when x started: the time of its Begin or Post
  abbrev pub start : List Timed → OpId → ℕ
  start h x = since (has_started plans x) h

  -- when x ends: its last action releases the cpu
  abbrev pub end : List Timed → OpId → ℕ
  end h x =
      since (has_ended plans (is_eager plans costs) x) h + cpu_hold h (last_class (is_eager plans costs x) (kind_at plans x)) x (kind_at plans x)

  -- the start or end of y that a dependency waits for
  abbrev pub met_at : List Timed → When → OpId → ℕ
  met_at h AfterEnd y = end h y
  met_at h AfterStart y = start h y

  -- the ready time: the greatest time that x waits for, or 0 if it needs nothing
  unfoldable pub ready : List Timed → OpId → ℕ
  ready h x = greatest (λ (d : Need). met_at h d.when (needed x d)) (needs plans x)

  -- when x was paired
  abbrev pub paired_at : List Timed → OpId → ℕ
  paired_at h x = since (λ l. is_paired (pairs plans l) x) h

  -- when the message of the partner is there for the receive x
  abbrev pub there_at : List Timed → OpId → Option OpId → ℕ
  there_at h x None = 0
  there_at h x (Some m) =
      if is_eager plans costs m then paired_at h x else since (happened Data m) h + flight plans costs m

  abbrev pub time_of : List Timed → Class → OpId → Option Kind → ℕ
  time_of h Begin x (Some (Calc nanos)) = max (ready h x) (cpu h x)
  time_of h Begin x (Some (Send bytes to tag)) = max (ready h x) (max (cpu h x) (tx h x))
  time_of h Post x (Some (Recv room from tag)) = ready h x
  time_of h Arrive x (Some (Send bytes to tag)) =
      start h x + (if is_eager plans costs x then flight plans costs x else flight_one plans costs x)
  time_of h Data x (Some (Send bytes to tag)) =
      max (paired_at h x + latency plans costs x) (max (cpu h x) (tx h x))
  time_of h Serve x (Some (Recv room from tag)) =
      max (there_at h x (mate h x)) (max (cpu h x) (rx h x))
  time_of h _ x _ = 0

  -- when the action of that class and operation may happen after h
  unfoldable pub time : List Timed → Class → OpId → ℕ
  time h class x = time_of h class x (kind_at plans x)

  -- a possible action: it is allowed, and it happens at its time
  pub record Possible (h : List Timed) (a : Timed) : Type 0 where
    pub allowed : allowed plans (is_eager plans costs) (plain h) a.class a.op ≡ true
    pub time : a.time ≡ time h a.class a.op
