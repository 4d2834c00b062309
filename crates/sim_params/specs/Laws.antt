-- The laws of the timed run in words, and the notions that they use.
use Rattle.std.specs.Prelude.{ℕ, ◌+◌, ◌*◌, ◌<◌, ◌≤◌, ◌≡◌, ◌≢◌, ◌⊎◌, ◌↔◌, max, Bool, true, false, List, [], ◌∷◌, ◌++◌, length, reverse, take, slice_get, All, Contains, Option, Some, if◌then◌else◌}
use Rattle.goal_graph.specs.declared.action.OpId.{OpId}
use Rattle.goal_graph.specs.declared.action.Timed.{Timed}
use Rattle.goal_graph.specs.declared.action.Why.TheVariants as why
use Rattle.goal_graph.specs.declared.action.Class.{Class}
use Rattle.goal_graph.specs.declared.action.Class.TheVariants.{Arrive, Serve, Data, Post, Begin}
use Rattle.goal_graph.specs.declared.plan.Kind.{Kind}
use Rattle.goal_graph.specs.declared.plan.Kind.TheVariants.{Calc, Send}
use Rattle.goal_graph.specs.declared.plan.Need.{Need}
use Rattle.goal_graph.specs.Schedule.{Plan, kind_at, needs, needed, operations}
use Rattle.goal_graph.specs.Action.{Act, plain}
use Rattle.goal_graph.specs.Order.{IsLess, key}
use Rattle.goal_graph.specs.Matching.{pairs, is_paired}
use Rattle.goal_graph.specs.Allowed.{first_class, last_class, has_started, has_ended, is_met, is_ready}
use Rattle.goal_graph.specs.Interleaving.{IsInterleaving, IsCompleteInterleaving}
use Rattle.goal_graph.specs.Laws.{IsCalc, IsTaken, left}
use Rattle.sim_params.specs.Costs.{CostModel, over, over_one, gap, gap_one, flight, flight_one, latency, is_eager}
use Rattle.sim_params.specs.Times.{at_partner, mate, cpu_hold, tx_hold, rx_hold, cpu, tx, rx, start, end, ready, paired_at, time, Possible}
use Rattle.sim_params.specs.Run.{IsNext, IsRun, IsFinished, IsCompleteRun}
use Rattle.sim_params.specs.Stuck.{are_fit, reason}
use Rattle.sim_params.specs.Budget.{share, budget}

-- x is stuck: it has no end
abbrev pub IsStuck : List Plan → (OpId → Bool) → List Act → OpId → Type 0
IsStuck plans eager h x = has_ended plans eager x h ≡ false

-- a queue has an entry for b, whose time is at most that of b
pub record HasBound (InQueue : Timed → Type 0) (b : Timed) : Type 0 where
  pub entry : Timed
  pub queued : InQueue entry
  pub class : entry.class ≡ b.class
  pub op : entry.op ≡ b.op
  pub time : entry.time ≤ b.time

-- no entry of the queue is less than a
abbrev pub IsLeastIn : (Timed → Type 0) → Timed → Type 0
IsLeastIn InQueue a = (e : Timed) → InQueue e → ¬ (IsLess (key e) (key a))

module _ (plans : List Plan) (costs : CostModel) where
  -- the action of that class and operation, at its time after h
  abbrev pub at_its_time : List Timed → Class → OpId → Timed
  at_its_time h class x = record { time = time plans costs h class x; class = class; op = x }

  -- how long an action holds its cpu or a side of its NIC, whichever is longest
  abbrev pub hold : List Timed → Timed → ℕ
  hold h a =
      max (cpu_hold plans costs h a.class a.op (kind_at plans a.op))
      (max (tx_hold plans costs a.class a.op (kind_at plans a.op)) (rx_hold plans costs h a.class a.op (kind_at plans a.op)))

  -- the latest time at which an action happened, or released what it held
  unfoldable pub reach : List Timed → ℕ
  reach [] = 0
  reach (a ∷ h) = max (reach h) (a.time + hold h a)

  -- the part of a share for each action; of a send's share, the part of Serve is for the receive that takes its message
  abbrev pub part_of : Class → OpId → Option Kind → ℕ
  part_of Begin x (Some (Calc nanos)) = nanos
  part_of Begin x (Some (Send bytes to tag)) =
      if is_eager plans costs x
      then over plans costs x + gap plans costs x
      else over_one plans costs x + gap_one plans costs x
  part_of Arrive x (Some (Send bytes to tag)) =
      if is_eager plans costs x then flight plans costs x else flight_one plans costs x
  part_of Data x (Some (Send bytes to tag)) =
      if is_eager plans costs x then 0 else latency plans costs x + over plans costs x + gap plans costs x
  part_of Serve x (Some (Send bytes to tag)) =
      (if is_eager plans costs x then 0 else flight plans costs x) + over plans costs x + gap plans costs x
  part_of _ x _ = 0

  unfoldable pub part : Class → OpId → ℕ
  part class x = part_of class x (kind_at plans x)

  -- the operation from whose share an action is paid: for a Serve its partner, for any other its own
  abbrev pub payer : List Timed → Class → OpId → Option OpId
  payer h Serve x = mate plans costs h x
  payer h Arrive x = Some x
  payer h Data x = Some x
  payer h Post x = Some x
  payer h Begin x = Some x

  -- no action is later than n, and no start, end, ready time or free time is
  pub record IsWithin (h : List Timed) (n : ℕ) : Type 0 where
    pub times : All (λ (a : Timed). a.time ≤ n) h
    pub starts : (x : OpId) → start plans costs h x ≤ n
    pub ends : (x : OpId) → has_ended plans (is_eager plans costs) x (plain h) ≡ true → end plans costs h x ≤ n
    pub ready_times : (x : OpId) → is_ready plans (is_eager plans costs) (plain h) x ≡ true → ready plans costs h x ≤ n
    pub free_cpus : (x : OpId) → cpu plans costs h x ≤ n
    pub free_senders : (x : OpId) → tx plans costs h x ≤ n
    pub free_receivers : (x : OpId) → rx plans costs h x ≤ n

  -- no time after h and then a is less than after h
  pub record NoneFalls (h : List Timed) (a : Timed) : Type 0 where
    pub times : (class : Class) (x : OpId) → time plans costs h class x ≤ time plans costs (a ∷ h) class x
    pub starts : (x : OpId) → start plans costs h x ≤ start plans costs (a ∷ h) x
    pub ends : (x : OpId) → end plans costs h x ≤ end plans costs (a ∷ h) x
    pub ready_times : (x : OpId) → ready plans costs h x ≤ ready plans costs (a ∷ h) x
    pub pair_times : (x : OpId) → paired_at plans costs h x ≤ paired_at plans costs (a ∷ h) x
    pub free_cpus : (x : OpId) → cpu plans costs h x ≤ cpu plans costs (a ∷ h) x
    pub free_senders : (x : OpId) → tx plans costs h x ≤ tx plans costs (a ∷ h) x
    pub free_receivers : (x : OpId) → rx plans costs h x ≤ rx plans costs (a ∷ h) x

  -- in this list, oldest first, each action is next after those before it
  abbrev pub EachIsNext : List Timed → Type 0
  EachIsNext trace =
      (k : ℕ) (a : Timed) → slice_get trace k ≡ Some a → IsNext plans costs (reverse (take k trace)) a

module _ (plans : List Plan) (eager : OpId → Bool) where
  -- x needs y or its start, and this has not happened
  pub record IsUnmet (h : List Act) (x y : OpId) : Type 0 where
    pub need : Need
    pub listed : Contains (needs plans x) need
    pub names : y ≡ needed x need
    pub unmet : is_met plans eager h need.when y ≡ false

  -- y is an operation that fits x and has not started
  pub record IsAbsent (h : List Act) (x y : OpId) : Type 0 where
    pub listed : Contains (operations plans) y
    pub fit : are_fit plans eager x y ≡ true
    pub unstarted : has_started plans y h ≡ false

-- The laws of times hold for every schedule, all costs and every history, a run or not. `laws_of_times` ensures each.

-- no time falls
abbrev pub TimesNeverFall : Type 0
TimesNeverFall = (plans : List Plan) (costs : CostModel) (h : List Timed) (a : Timed) → NoneFalls plans costs h a

-- a possible action stays possible until it happens, and its time does not fall
abbrev pub PossibleStays : Type 0
PossibleStays = (plans : List Plan) (costs : CostModel) (h : List Timed) (a b : Timed)
    → Possible plans costs h b
    → ¬ ((a.class ≡ b.class) × (a.op ≡ b.op))
    → Possible plans costs (a ∷ h) (at_its_time plans costs (a ∷ h) b.class b.op) × (b.time ≤ time plans costs (a ∷ h) b.class b.op)

-- the start of an operation stays, once it has started
abbrev pub StartStays : Type 0
StartStays = (plans : List Plan) (costs : CostModel) (h : List Timed) (a : Timed) (x : OpId)
    → has_started plans x (plain h) ≡ true
    → start plans costs (a ∷ h) x ≡ start plans costs h x

-- so does the time at which it was paired
abbrev pub PairTimeStays : Type 0
PairTimeStays = (plans : List Plan) (costs : CostModel) (h : List Timed) (a : Timed) (x : OpId)
    → is_paired (pairs plans (plain h)) x ≡ true
    → paired_at plans costs (a ∷ h) x ≡ paired_at plans costs h x

-- an operation is paired at the time of the action that pairs it
abbrev pub PairedByAction : Type 0
PairedByAction = (plans : List Plan) (costs : CostModel) (h : List Timed) (a : Timed) (x : OpId)
    → is_paired (pairs plans (plain h)) x ≡ false
    → is_paired (pairs plans (plain (a ∷ h))) x ≡ true
    → paired_at plans costs (a ∷ h) x ≡ a.time

-- an operation starts at its first action
abbrev pub StartsWithFirst : Type 0
StartsWithFirst = (plans : List Plan) (costs : CostModel) (h : List Timed) (a : Timed)
    → Possible plans costs h a
    → a.class ≡ first_class (kind_at plans a.op)
    → start plans costs (a ∷ h) a.op ≡ a.time

-- it ends when its last action releases the cpu
abbrev pub EndsWithLast : Type 0
EndsWithLast = (plans : List Plan) (costs : CostModel) (h : List Timed) (a : Timed)
    → Possible plans costs h a
    → a.class ≡ last_class (is_eager plans costs a.op) (kind_at plans a.op)
    → end plans costs (a ∷ h) a.op ≡ a.time + cpu_hold plans costs h a.class a.op (kind_at plans a.op)

-- The laws of runs hold for every schedule and all costs. `laws_of_runs` ensures each of them.

-- a run without its times is an interleaving
abbrev pub IsAnInterleaving : Type 0
IsAnInterleaving = (plans : List Plan) (costs : CostModel) (h : List Timed) → IsRun plans costs h → IsInterleaving plans (is_eager plans costs) (plain h)

-- a complete run without its times is a complete interleaving
abbrev pub IsACompleteInterleaving : Type 0
IsACompleteInterleaving = (plans : List Plan) (costs : CostModel) (h : List Timed)
    → IsCompleteRun plans costs h
    → IsCompleteInterleaving plans (is_eager plans costs) (plain h)

-- actions that happened in a run and actions that are left number together at most three per operation
abbrev pub AtMostThreeEach : Type 0
AtMostThreeEach = (plans : List Plan) (costs : CostModel) (h : List Timed)
    → IsRun plans costs h
    → length h + left plans (plain h) ≤ 3 * length (operations plans)

-- if an action is possible, the run is shorter than that
abbrev pub RoomForPossible : Type 0
RoomForPossible = (plans : List Plan) (costs : CostModel) (h : List Timed) (a : Timed)
    → IsRun plans costs h
    → Possible plans costs h a
    → length h < 3 * length (operations plans)

-- the end of an operation stays, once it has ended
abbrev pub EndStays : Type 0
EndStays = (plans : List Plan) (costs : CostModel) (h : List Timed) (a : Timed) (x : OpId)
    → IsRun plans costs h
    → has_ended plans (is_eager plans costs) x (plain h) ≡ true
    → end plans costs (a ∷ h) x ≡ end plans costs h x

-- an action is not earlier than the one before it
abbrev pub TimesRise : Type 0
TimesRise = (plans : List Plan) (costs : CostModel) (h : List Timed) (a b : Timed) → IsRun plans costs (b ∷ a ∷ h) → a.time ≤ b.time

-- it is not earlier than any before it
abbrev pub NewestIsLast : Type 0
NewestIsLast = (plans : List Plan) (costs : CostModel) (h : List Timed) (b : Timed) → IsRun plans costs (b ∷ h) → All (λ (a : Timed). a.time ≤ b.time) h

-- what is possible after a run is not earlier than any of its actions
abbrev pub PossibleIsNotPast : Type 0
PossibleIsNotPast = (plans : List Plan) (costs : CostModel) (h : List Timed) (b : Timed)
    → IsRun plans costs h
    → Possible plans costs h b
    → All (λ (a : Timed). a.time ≤ b.time) h

-- at most one action is next
abbrev pub OneIsNext : Type 0
OneIsNext = (plans : List Plan) (costs : CostModel) (h : List Timed) (a b : Timed) → IsNext plans costs h a → IsNext plans costs h b → a ≡ b

-- after a run an action is next, or nothing is possible
abbrev pub NextOrFinished : Type 0
NextOrFinished = (plans : List Plan) (costs : CostModel) (h : List Timed)
    → IsRun plans costs h
    → ((a : Timed) × IsNext plans costs h a) ⊎ IsFinished plans costs h

-- two runs of the same length are the same
abbrev pub OneRunOfEachLength : Type 0
OneRunOfEachLength = (plans : List Plan) (costs : CostModel) (h k : List Timed) → length h ≡ length k → IsRun plans costs h → IsRun plans costs k → h ≡ k

-- of two runs one begins with the other
abbrev pub OneBeginsAsTheOther : Type 0
OneBeginsAsTheOther = (plans : List Plan) (costs : CostModel) (h k : List Timed)
    → IsRun plans costs h
    → IsRun plans costs k
    → ((l : List Timed) × (k ≡ l ++ h)) ⊎ ((l : List Timed) × (h ≡ l ++ k))

-- a complete run begins with every run
abbrev pub CompleteRunBeginsAsEach : Type 0
CompleteRunBeginsAsEach = (plans : List Plan) (costs : CostModel) (h k : List Timed)
    → IsRun plans costs h
    → IsCompleteRun plans costs k
    → (l : List Timed) × (k ≡ l ++ h)

-- two complete runs are the same
abbrev pub OneCompleteRun : Type 0
OneCompleteRun = (plans : List Plan) (costs : CostModel) (h k : List Timed) → IsCompleteRun plans costs h → IsCompleteRun plans costs k → h ≡ k

-- there is a complete run
abbrev pub SomeCompleteRun : Type 0
SomeCompleteRun = (plans : List Plan) (costs : CostModel) → (h : List Timed) × IsCompleteRun plans costs h

-- read oldest first, each action of a run is next after those before it
abbrev pub ReadOldestFirst : Type 0
ReadOldestFirst = (plans : List Plan) (costs : CostModel) (h : List Timed) → IsRun plans costs h ↔ EachIsNext plans costs (reverse h)

-- if each possible action has an entry that is not later, then a least entry that is possible at its own time is the
-- next action
abbrev pub LeastEntryIsNext : Type 0
LeastEntryIsNext = (plans : List Plan) (costs : CostModel) (h entries : List Timed) (a : Timed)
    → ((b : Timed) → Possible plans costs h b → HasBound (Contains entries) b)
    → IsLeastIn (Contains entries) a
    → Possible plans costs h a
    → IsNext plans costs h a

-- The laws of the budget hold for every schedule and all costs. `laws_of_the_budget` ensures each of them.

-- no time of a run is later than its reach
abbrev pub WithinReach : Type 0
WithinReach = (plans : List Plan) (costs : CostModel) (h : List Timed) → IsRun plans costs h → IsWithin plans costs h (reach plans costs h)

-- no time of a run is later than the budget
abbrev pub WithinBudget : Type 0
WithinBudget = (plans : List Plan) (costs : CostModel) (h : List Timed) → IsRun plans costs h → IsWithin plans costs h (budget plans costs)

-- a possible action releases what it holds within the budget
abbrev pub PossibleWithinBudget : Type 0
PossibleWithinBudget = (plans : List Plan) (costs : CostModel) (h : List Timed) (a : Timed)
    → IsRun plans costs h
    → Possible plans costs h a
    → a.time + hold plans costs h a ≤ budget plans costs

-- an action raises the reach by at most its part of the share that pays for it
abbrev pub ReachRisesByPart : Type 0
ReachRisesByPart = (plans : List Plan) (costs : CostModel) (h : List Timed) (a : Timed)
    → IsRun plans costs h
    → Possible plans costs h a
    → reach plans costs (a ∷ h) ≤ reach plans costs h + at_partner (part plans costs a.class) (payer plans costs h a.class a.op)

-- the parts of an operation add up to its share
abbrev pub PartsAreTheShare : Type 0
PartsAreTheShare = (plans : List Plan) (costs : CostModel) (x : OpId)
    → part plans costs Begin x + part plans costs Arrive x + part plans costs Data x + part plans costs Serve x ≡ share plans costs x

-- The laws of reasons hold for every schedule, whichever sends are eager. `laws_of_reasons` ensures each of them.

-- an operation that a reason names is itself stuck
abbrev pub ReasonsAreStuck : Type 0
ReasonsAreStuck = (plans : List Plan) (eager : OpId → Bool) (h : List Act) (x y : OpId)
    → IsInterleaving plans eager h
    → ((reason plans eager h x ≡ why.Op y) ⊎ (reason plans eager h x ≡ why.Partner y))
    → IsStuck plans eager h y

-- an operation with the reason Op y needs y, and what it needs of y has not happened
abbrev pub OpIsNeeded : Type 0
OpIsNeeded = (plans : List Plan) (eager : OpId → Bool) (h : List Act) (x y : OpId) → reason plans eager h x ≡ why.Op y → IsUnmet plans eager h x y

-- an operation with the reason Partner y fits y, which has not started
abbrev pub PartnerIsAbsent : Type 0
PartnerIsAbsent = (plans : List Plan) (eager : OpId → Bool) (h : List Act) (x y : OpId) → reason plans eager h x ≡ why.Partner y → IsAbsent plans eager h x y

-- after a complete interleaving, each operation that fits a stuck one with the reason Alone has started, and is paired
-- with another
abbrev pub AloneIsAlone : Type 0
AloneIsAlone = (plans : List Plan) (eager : OpId → Bool) (h : List Act) (x y : OpId)
    → IsCompleteInterleaving plans eager h
    → IsStuck plans eager h x
    → reason plans eager h x ≡ why.Alone
    → are_fit plans eager x y ≡ true
    → (has_started plans y h ≡ true) × IsTaken plans h y x

-- then a stuck calc never has the reason Alone
abbrev pub CalcIsNotAlone : Type 0
CalcIsNotAlone = (plans : List Plan) (eager : OpId → Bool) (h : List Act) (x : OpId)
    → IsCompleteInterleaving plans eager h
    → IsCalc plans x
    → IsStuck plans eager h x
    → reason plans eager h x ≢ why.Alone
