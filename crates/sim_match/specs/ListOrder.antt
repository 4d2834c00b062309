-- Numbers of patterns, in the order in which operations that have them are seen.
use Rattle.std.specs.Prelude.{ℕ, ◌≡◌, ◌≤◌, ◌+◌, All, List, length, None, Some, is_some, slice_get}
use Rattle.sim_match.specs.declared.list_order.ListOrder.{ListOrder}
use Rattle.sim_match.specs.declared.pattern.Pattern.{Pattern}
use Rattle.goal_graph.specs.declared.action.OpId.{OpId}
use Rattle.goal_graph.specs.Schedule.{Plan}
use Rattle.sim_match.specs.Patterns.{number, own_list}
use Rattle.sim_match.specs.ListNumbers.{coded}

-- Some of these patterns have a number, by their order among the keys. The entry at the place of a pattern is its
-- number, or says that it has none.
pub record AreGiven (patterns : List Pattern) (order : ListOrder) : Type 0 where
  pub numbers : (p : Pattern) (place : ℕ) → number patterns p ≡ Some place → slice_get order.numbers.items place ≡ Some (coded (number order.keys.items p))
  pub among : (p : Pattern) → number patterns p ≡ None → number order.keys.items p ≡ None
  pub one_each : length order.numbers.items ≡ length patterns
  pub count : order.count ≡ length order.keys.items

-- at most one more pattern has a number, and each keeps its own
pub record Grows (old new : ListOrder) : Type 0 where
  pub stays : (p : Pattern) (list : ℕ) → number old.keys.items p ≡ Some list → number new.keys.items p ≡ Some list
  pub one : new.count ≤ old.count + 1

-- of these operations, those have a number whose own pattern is one of these
abbrev pub HaveNumbers : List Plan → List Pattern → List Pattern → List OpId → Type 0
HaveNumbers plans patterns keys ops =
    All (λ (x : OpId). is_some (own_list plans keys x) ≡ is_some (own_list plans patterns x)) ops
