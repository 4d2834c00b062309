-- The knots of stuck operations: where following their reasons ends.
use Rattle.std.specs.Prelude.{ℕ, zero, suc, Bool, List, [], ◌∷◌, length, map, filter, find, count_by, ◌==◌, ◌&&◌, ◌||◌, not, nat_lt, Option, Some, None, is_none, unwrap_or}
use Rattle.std.specs.List.{list_any, list_all, before_first}
use Rattle.std.specs.Option.{option_and_then}
use Rattle.goal_graph.specs.declared.action.OpId.{OpId}
use Rattle.goal_graph.specs.declared.action.Stuck.{Stuck}
use Rattle.goal_graph.specs.declared.action.Why.{Why}
use Rattle.goal_graph.specs.declared.action.Why.TheVariants.{Op, Partner, Alone}
use Rattle.goal_graph.specs.Action.{same_op}
use Rattle.sim_cycles.specs.declared.knot.Knot.{Knot}

-- the operation that a reason names
abbrev pub named : Why → Option OpId
named (Op y) = Some y
named (Partner y) = Some y
named Alone = None

-- whether x is before y
abbrev pub is_before : OpId → OpId → Bool
is_before x y = nat_lt x.rank y.rank || ((x.rank == y.rank) && nat_lt x.op y.op)

module _ (list : List Stuck) where
  -- the stuck operations
  abbrev pub stuck_ops : List OpId
  stuck_ops = map (λ (s : Stuck). s.op) list

  -- the operation that the reason of x names; None if x is alone
  unfoldable pub next : OpId → Option OpId
  next x = option_and_then (λ (s : Stuck). named s.why) (find (λ (s : Stuck). same_op s.op x) list)

  -- the operation to which x leads; one that is alone leads to itself
  abbrev pub step : OpId → OpId
  step x = unwrap_or (next x) x

  -- the first n operations on the way from x, which begins with x
  unfoldable pub way : ℕ → OpId → List OpId
  way zero x = []
  way (suc n) x = x ∷ way n (step x)

  -- Whether the way from x comes to y. If it ever does, it does so within as many steps as there are operations.
  unfoldable pub comes_to : OpId → OpId → Bool
  comes_to x y = list_any (λ (z : OpId). same_op z y) (way (length list) x)

  -- whether x is the least member of a knot: the way from x comes back to it, and has no lesser operation
  unfoldable pub is_head : OpId → Bool
  is_head x = comes_to (step x) x && list_all (λ (y : OpId). not (is_before y x)) (way (length list) x)

  -- the members of the knot of x from x on, in the order of following
  unfoldable pub members : OpId → List OpId
  members x = x ∷ before_first (λ (y : OpId). same_op y x) (way (length list) (step x))

  -- the number of stuck operations that lead to x, the members of its knot included
  unfoldable pub behind : OpId → ℕ
  behind x = count_by (λ (y : OpId). comes_to y x) stuck_ops

  -- the knot of which x is the least member
  abbrev pub knot_at : OpId → Knot
  knot_at x = record { lone = is_none (next x); members = members x; behind = behind x }

  -- the knots, in the order of their least members
  unfoldable pub knots : List Knot
  knots = map knot_at (filter is_head stuck_ops)
