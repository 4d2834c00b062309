-- Runs of a schedule on other ranks, with costs that are renamed in the same way.
use Rattle.std.specs.Prelude.{ℕ, ◌≡◌, ◌≢◌, ◌≤◌, ◌↔◌, List, [], ◌∷◌, length, map}
use Rattle.goal_graph.specs.declared.action.OpId.{OpId}
use Rattle.goal_graph.specs.declared.action.Timed.{Timed}
use Rattle.goal_graph.specs.declared.action.Class.{Class}
use Rattle.goal_graph.specs.Schedule.{Plan, IsSend}
use Rattle.goal_graph.specs.Action.{place}
use Rattle.goal_graph.specs.Order.{IsLess}
use Rattle.goal_graph.specs.Laws.{IsApart}
use Rattle.goal_blocks.specs.Placed.{IsPermutation, IsPlaced, placed_op}
use Rattle.sim_params.specs.Costs.{CostModel, Numbers, log_gops, flight, flight_one, latency}
use Rattle.sim_params.specs.Times.{start, end, time, Possible}
use Rattle.sim_params.specs.Run.{IsFinished, IsCompleteRun}

-- the same action on the renamed rank, at the same time
abbrev pub placed_timed : (ℕ → ℕ) → Timed → Timed
placed_timed to a = record { time = a.time; class = a.class; op = placed_op to a.op }

-- the costs `there` between renamed ranks are `costs` between the ranks
pub record AreAlike (to : ℕ → ℕ) (costs there : CostModel) : Type 0 where
  pub over : (from target bytes : ℕ) → there.over (to from) (to target) bytes ≡ costs.over from target bytes
  pub gap : (from target bytes : ℕ) → there.gap (to from) (to target) bytes ≡ costs.gap from target bytes
  pub flight : (from target bytes : ℕ) → there.flight (to from) (to target) bytes ≡ costs.flight from target bytes
  pub latency : (from target : ℕ) → there.latency (to from) (to target) ≡ costs.latency from target
  pub eager : (from target bytes : ℕ) → there.eager (to from) (to target) bytes ≡ costs.eager from target bytes

-- the renamed operations have the same times after the renamed actions of h
pub record HasSameTimes (to : ℕ → ℕ) (plans other : List Plan) (costs there : CostModel) (h : List Timed) : Type 0 where
  pub times : (class : Class) (x : OpId) → time other there (map (placed_timed to) h) class (placed_op to x) ≡ time plans costs h class x
  pub starts : (x : OpId) → start other there (map (placed_timed to) h) (placed_op to x) ≡ start plans costs h x
  pub ends : (x : OpId) → end other there (map (placed_timed to) h) (placed_op to x) ≡ end plans costs h x

-- Runs in which ties are broken by the renamed ranks.
abbrev pub key_by : (ℕ → ℕ) → Timed → List ℕ
key_by to a = a.time ∷ place a.class ∷ to a.op.rank ∷ a.op.op ∷ []

module _ (to : ℕ → ℕ) (plans : List Plan) (costs : CostModel) where
  -- a is possible after h, and no possible action has a lesser key
  pub record IsNextBy (h : List Timed) (a : Timed) : Type 0 where
    pub possible : Possible plans costs h a
    pub least : (b : Timed) → Possible plans costs h b → ¬ (IsLess (key_by to b) (key_by to a))

  abbrev pub IsRunBy : List Timed → Type 0
  IsRunBy [] = Unit {0}
  IsRunBy (a ∷ h) = IsRunBy h × IsNextBy h a

  pub record IsCompleteRunBy (h : List Timed) : Type 0 where
    pub run : IsRunBy h
    pub finished : IsFinished plans costs h

-- The laws, for all schedules and costs. The function `laws_of_placed_runs` ensures each.

abbrev pub TimesAreAlike : Type 0
TimesAreAlike = (to back : ℕ → ℕ) (plans other : List Plan) (costs there : CostModel) (h : List Timed)
    → IsPermutation (length plans) to back
    → IsPlaced to plans other
    → AreAlike to costs there
    → HasSameTimes to plans other costs there h

-- the runs on the renamed ranks are those in which ties are broken by the renamed ranks
abbrev pub RunsAreAlike : Type 0
RunsAreAlike = (to back : ℕ → ℕ) (plans other : List Plan) (costs there : CostModel) (h : List Timed)
    → IsPermutation (length plans) to back
    → IsPlaced to plans other
    → AreAlike to costs there
    → IsCompleteRun other there (map (placed_timed to) h) ↔ IsCompleteRunBy to plans costs h

-- a message to another rank takes some time, and so does its clear to send
abbrev pub TakesTime : List Plan → CostModel → Type 0
TakesTime plans costs =
    (m : OpId) (s : IsSend plans m) → m.rank ≢ s.to → (1 ≤ flight plans costs m) × (1 ≤ flight_one plans costs m) × (1 ≤ latency plans costs m)

-- if a send fits at most one receive and a receive at most one send, and messages to other ranks take time, the
-- complete runs on the ranks and on the renamed ranks have the same times, however ties are broken
abbrev pub ApartRunsAreAlike : Type 0
ApartRunsAreAlike = (to back : ℕ → ℕ) (plans other : List Plan) (costs there : CostModel) (h g : List Timed)
    → IsPermutation (length plans) to back
    → IsPlaced to plans other
    → AreAlike to costs there
    → IsApart plans
    → TakesTime plans costs
    → IsCompleteRun plans costs h
    → IsCompleteRun other there g
    → (x : OpId)
    → (start other there g (placed_op to x) ≡ start plans costs h x) × (end other there g (placed_op to x) ≡ end plans costs h x)

abbrev pub LogGopsIsAlike : Type 0
LogGopsIsAlike = (to : ℕ → ℕ) (p : Numbers) → AreAlike to (log_gops p) (log_gops p)
