-- The laws of free times. The function `laws_of_free_times` ensures each.
use Rattle.std.specs.Prelude.{ℕ, ◌≡◌, ◌≤◌, ◌⊎◌, true, false, List, ◌∷◌, Contains}
use Rattle.goal_graph.specs.declared.action.OpId.{OpId}
use Rattle.goal_graph.specs.declared.plan.Op.{Op}
use Rattle.goal_graph.specs.Schedule.{Plan}
use Rattle.sim_resources.specs.FreeTimes.{Hold, Holds, shares, free_at, hold_cpu, hold_tx, hold_rx, SameFreeTimes}

module _ (place : Op → ℕ) (plans : List Plan) (holds : List Hold) (x : OpId) where
  -- h is one of the holds, and on what x uses
  pub record IsOn (h : Hold) : Type 0 where
    pub made : Contains holds h
    pub shared : shares place plans x h.op ≡ true

  -- a hold on what x uses that ends when this is free
  pub record HasLast : Type 0 where
    pub last : Hold
    pub on : IsOn last
    pub ends : last.until ≡ free_at place plans holds x

  -- no hold on what x uses ends later than this is free, and one ends then, or it is free at 0
  pub record IsGreatest : Type 0 where
    pub bounds : (h : Hold) → IsOn h → h.until ≤ free_at place plans holds x
    pub reached : (free_at place plans holds x ≡ 0) ⊎ HasLast

-- a free time is the greatest `until` of the holds on it; 0 without any
abbrev pub FreeTimesAreGreatest : Type 0
FreeTimesAreGreatest = (place : Op → ℕ) (plans : List Plan) (holds : List Hold) (x : OpId) → IsGreatest place plans holds x

-- a hold of something else does not change the free time
abbrev pub OthersStay : Type 0
OthersStay = (place : Op → ℕ) (plans : List Plan) (holds : List Hold) (h : Hold) (x : OpId)
    → shares place plans x h.op ≡ false
    → free_at place plans (h ∷ holds) x ≡ free_at place plans holds x

-- Holds that leave everything free at the same times as all holds made so far still do so after one
-- more.
pub record AddsUp (add : Holds → OpId → ℕ → Holds) : Type 0 where
  pub adds : (now next all : Holds) (x : OpId) (until : ℕ) → SameFreeTimes now all → SameFreeTimes next (add now x until) → SameFreeTimes next (add all x until)

pub record HoldsAddUp : Type 0 where
  pub cpu : AddsUp hold_cpu
  pub tx : AddsUp hold_tx
  pub rx : AddsUp hold_rx
