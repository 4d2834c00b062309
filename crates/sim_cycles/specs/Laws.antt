-- What a list of stuck operations must be, and the laws of its knots.
use Rattle.std.specs.Prelude.{◌≡◌, ℕ, zero, suc, true, false, List, [], ◌∷◌, ◌++◌, length, take, drop, map, sum_by, Contains, AllPairs, Some, None}
use Rattle.goal_graph.specs.declared.action.OpId.{OpId}
use Rattle.goal_graph.specs.declared.action.Stuck.{Stuck}
use Rattle.goal_graph.specs.Order.{IsBefore}
use Rattle.sim_cycles.specs.declared.knot.Knot.{Knot}
use Rattle.sim_cycles.specs.Knots.{named, stuck_ops, next, step, knots}

-- the operations of a list are ordered by rank and number, each once
abbrev pub IsInOrder : List Stuck → Type 0
IsInOrder list = AllPairs IsBefore (stuck_ops list)

-- an operation that a reason names is in the list
abbrev pub NamesListed : List Stuck → Type 0
NamesListed list = (s : Stuck) (y : OpId) → Contains list s → named s.why ≡ Some y → Contains (stuck_ops list) y

-- the operation n steps after x
unfoldable pub follow : List Stuck → ℕ → OpId → OpId
follow list zero x = x
follow list (suc n) x = follow list n (step list x)

-- following from x comes to a member of the knot k
pub record LeadsInto (list : List Stuck) (x : OpId) (k : Knot) : Type 0 where
  pub steps : ℕ
  pub member : Contains k.members (follow list steps x)

-- x leads into the knot k, and into no other
pub record HasKnot (list : List Stuck) (x : OpId) (k : Knot) : Type 0 where
  pub listed : Contains (knots list) k
  pub leads : LeadsInto list x k
  pub alone : (j : Knot) → Contains (knots list) j → LeadsInto list x j → j ≡ k

-- each stuck operation has exactly one knot
abbrev pub OneKnotEach : Type 0
OneKnotEach = (list : List Stuck) (x : OpId) → IsInOrder list → NamesListed list → Contains (stuck_ops list) x
    → (k : Knot) × HasKnot list x k

-- the numbers `behind` add up to the number of stuck operations
abbrev pub BehindAddUp : Type 0
BehindAddUp = (list : List Stuck) → IsInOrder list → NamesListed list → sum_by (λ (k : Knot). k.behind) (knots list) ≡ length list

-- each member of a ring waits for the next one, and the last one for the first
abbrev pub RingsAreClosed : Type 0
RingsAreClosed = (list : List Stuck) (k : Knot) → IsInOrder list → NamesListed list → Contains (knots list) k → k.lone ≡ false
    → map (next list) k.members ≡ map Some (drop 1 k.members ++ take 1 k.members)

-- a knot that is not a ring is one operation, which is alone
abbrev pub LoneAreAlone : Type 0
LoneAreAlone = (list : List Stuck) (k : Knot) → Contains (knots list) k → k.lone ≡ true
    → (x : OpId) × (k.members ≡ x ∷ []) × (next list x ≡ None)

-- no member of a ring is left out: an operation to which following from it comes back is a member of a knot
abbrev pub NoneLeftOut : Type 0
NoneLeftOut = (list : List Stuck) (x : OpId) (n : ℕ) → IsInOrder list → NamesListed list → Contains (stuck_ops list) x
    → follow list (suc n) x ≡ x → (k : Knot) × Contains (knots list) k × Contains k.members x
