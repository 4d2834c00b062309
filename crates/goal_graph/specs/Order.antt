-- The orders of operations and of actions.
use Rattle.std.specs.Prelude.{ℕ, ◌≡◌, ◌<◌, ◌⊎◌, List, [], ◌∷◌}
use Rattle.goal_graph.specs.declared.action.OpId.{OpId}
use Rattle.goal_graph.specs.declared.action.Timed.{Timed}
use Rattle.goal_graph.specs.Action.{place}

-- x comes before y: its rank is less, or the ranks are the same and its number is less
abbrev pub IsBefore : OpId → OpId → Type 0
IsBefore x y = (x.rank < y.rank) ⊎ ((x.rank ≡ y.rank) × (x.op < y.op))

-- the lexical order of keys
abbrev pub IsLess : List ℕ → List ℕ → Type 0
IsLess (m ∷ ms) (n ∷ ns) = (m < n) ⊎ ((m ≡ n) × IsLess ms ns)
IsLess _ _ = ⊥

-- the key of a timed action: its time, the place of its class, its rank, its number in the rank
abbrev pub key : Timed → List ℕ
key a = a.time ∷ place a.class ∷ a.op.rank ∷ a.op.op ∷ []
