-- Which calls of a device in memory fail.
use Rattle.std.specs.Prelude.{ℕ, ◌+◌, ◌-◌, ◌^◌, ◌<◌, min, List, Contains}

-- The numbers of the calls that fail, and the number of calls made so far, at most 2^64-1. The first call is number 1.
pub record CallPlan : Type 0 where
  pub fails : List ℕ
  pub made : ℕ

-- The next call fails: it has a number, and that number is in the list. A call after number 2^64-1 has no number.
pub record IsFailing (plan : CallPlan) : Type 0 where
  pub numbered : plan.made < 2 ^ 64 - 1
  pub among : Contains plan.fails (plan.made + 1)

-- the plan after another call
abbrev pub next_call : CallPlan → CallPlan
next_call plan = record plan { made = min (plan.made + 1) (2 ^ 64 - 1) }
