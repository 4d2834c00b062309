-- The lexical order of keys, and the order of operations, as tests.
use Rattle.std.specs.Prelude.{ℕ, ◌==◌, ◌&&◌, ◌||◌, Bool, false, nat_lt, List, ◌∷◌}
use Rattle.std.specs.declared.cmp.Ordering.{Ordering}
use Rattle.std.specs.Ordering.{nat_cmp, ordering_then}
use Rattle.goal_graph.specs.declared.action.OpId.{OpId}

-- the first key is less than the second
unfoldable pub less : List ℕ → List ℕ → Bool
less (m ∷ ms) (n ∷ ns) = nat_lt m n || ((m == n) && less ms ns)
less _ _ = false

-- the order of operations: by rank, then by number
abbrev pub op_cmp : OpId → OpId → Ordering
op_cmp x y = ordering_then (nat_cmp x.rank y.rank) (nat_cmp x.op y.op)
