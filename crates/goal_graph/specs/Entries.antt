-- A table with an entry for each operation, in the order of all: reading an entry, and the table with one replaced.
use Rattle.std.specs.Prelude.{ℕ, ◌≡◌, List, [], ◌∷◌, Some, slice_get, if◌then◌else◌}
use Rattle.std.specs.Borrow.{Lends, Fml, RattleType, MutBor, Array}
use Rattle.goal_graph.specs.declared.action.OpId.{OpId}
use Rattle.goal_graph.specs.Schedule.{Plan, operations}
use Rattle.goal_graph.specs.Action.{same_op}

-- y has this entry, and every other operation its entry in f
abbrev pub with_entry : {E : Type 0} → OpId → E → (OpId → E) → OpId → E
with_entry y entry f x = if same_op x y then entry else f x

-- the entry is at the index that x has in the order of all operations
pub record IsEntryOf {E : Type 0} (plans : List Plan) (entries : List E) (x : OpId) (entry : E) : Type 0 where
  pub slot : ℕ
  pub is_slot : slice_get (operations plans) slot ≡ Some x
  pub is_entry : slice_get entries slot ≡ Some entry

-- the entries of these operations, with the entry of y replaced
abbrev pub put_entry : {E : Type 0} → List OpId → OpId → E → List E → List E
put_entry [] y entry entries = entries
put_entry (x ∷ xs) y entry [] = []
put_entry (x ∷ xs) y entry (e ∷ es) = (if same_op x y then entry else e) ∷ put_entry xs y entry es

-- once the borrow r ends, the entry of x is the last value that it had
abbrev pub LendsEntry : (T : RattleType) → List Plan → MutBor (List T.Denot) → OpId → MutBor T.Denot → Fml
LendsEntry T plans entries x r =
    Lends (Array T 0) T entries r (λ entry. put_entry (operations plans) x entry entries.now)
