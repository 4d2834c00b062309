-- The search in one rank for an operation without a depth. An operation is listed once all that it needs is finished;
-- an operation that is never listed has no depth.
use Rattle.std.specs.Prelude.{◌≡◌, ℕ, ◌+◌, ◌<◌, ◌==◌, ◌||◌, Bool, false, List, [], ◌∷◌, length, take, slice_index, slice_index_or, Option, Some, None, if◌then◌else◌}
use Rattle.goal_graph.specs.declared.action.OpId.{OpId}
use Rattle.goal_graph.specs.declared.plan.Need.{Need}
use Rattle.goal_graph.specs.Schedule.{Plan, needs}
use Rattle.goal_graph.specs.Fault.{HasDepth, IsOp, IsFirstCycle}

-- the operation of this number, at this rank
abbrev pub op_id : ℕ → ℕ → OpId
op_id rank op = record { rank = rank; op = op }

-- the number is in the list
unfoldable pub is_among : List ℕ → ℕ → Bool
is_among [] op = false
is_among (x ∷ xs) op = (x == op) || is_among xs op

-- the number of needs that name an unfinished operation
unfoldable pub unfinished : List ℕ → List Need → ℕ
unfinished finished [] = 0
unfinished finished (d ∷ ds) = (if is_among finished d.op then 0 else 1) + unfinished finished ds

-- the number of needs that name this operation
unfoldable pub count_of : List Need → ℕ → ℕ
count_of [] op = 0
count_of (d ∷ ds) op = (if d.op == op then 1 else 0) + count_of ds op

-- The state of the search. `missing` counts, for each operation of the rank, its needs that are not finished. While one
-- more operation is being finished, the needs in `seen` are already subtracted. `order` lists the operations that miss
-- nothing, and the first `done` of them are finished.
pub record IsSearch (plans : List Plan) (rank : ℕ) (missing order : List ℕ) (done : ℕ) (seen : List Need) : Type 0 where
  pub counted : (op : ℕ) → op < length missing → slice_index missing op + count_of seen op ≡ unfinished (take done order) (needs plans (op_id rank op))
  pub listed : (op : ℕ) → op < length missing → is_among order op ≡ (slice_index missing op == 0)
  pub in_rank : (k : ℕ) → k < length order → slice_index order k < length missing
  pub once : (k : ℕ) → k < length order → is_among (take k order) (slice_index order k) ≡ false
  pub deep : (k : ℕ) → k < length order → HasDepth plans (op_id rank (slice_index order k))

-- the search covers all operations of the rank
abbrev pub CoversRank : List Plan → ℕ → List ℕ → Type 0
CoversRank plans rank missing = (p : Plan) → length missing ≡ length (slice_index_or plans rank p).ops

-- the first operation that misses something, if any
abbrev pub IsFirstMissing : List ℕ → Option ℕ → Type 0
IsFirstMissing missing None = (op : ℕ) → op < length missing → slice_index missing op ≡ 0
IsFirstMissing missing (Some op) =
    (op < length missing) × (0 < slice_index missing op) × ((k : ℕ) → k < op → slice_index missing k ≡ 0)

-- the first operation of a rank without a depth, if any
abbrev pub IsFirstInRank : List Plan → ℕ → Option ℕ → Type 0
IsFirstInRank plans rank None = (op : ℕ) → IsOp plans (op_id rank op) → HasDepth plans (op_id rank op)
IsFirstInRank plans rank (Some op) =
    IsOp plans (op_id rank op) × (HasDepth plans (op_id rank op) → ⊥) × ((k : ℕ) → k < op → HasDepth plans (op_id rank k))

-- the first operation of all ranks without a depth, if any
abbrev pub IsFirstOfAll : List Plan → Option OpId → Type 0
IsFirstOfAll plans None = (x : OpId) → IsOp plans x → HasDepth plans x
IsFirstOfAll plans (Some x) = IsFirstCycle plans x
