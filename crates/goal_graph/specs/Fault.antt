-- When a list of plans is a schedule, and otherwise the first rule that it breaks.
use Rattle.std.specs.Prelude.{◌≡◌, ℕ, zero, suc, ◌+◌, ◌==◌, ◌&&◌, ◌⊎◌, Bool, true, false, not, nat_lt, nat_le, List, [], ◌∷◌, length, Option, Some, None, is_some, slice_get, if◌then◌else◌}
use Rattle.std.specs.List.{list_all, sum_by}
use Rattle.std.specs.Option.{option_or}
use Rattle.goal_graph.specs.declared.action.OpId.{OpId}
use Rattle.goal_graph.specs.declared.fault.PlanFault.{PlanFault}
use Rattle.goal_graph.specs.declared.fault.PlanFault.TheVariants.{Count, Value, Peer, DepRange, NoteMisfit, Cycle}
use Rattle.goal_limits.specs.Limits.{rank_limit, op_limit, dep_limit, note_limit, size_limit, calc_limit}
use Rattle.goal_graph.specs.declared.plan.Op.{Op}
use Rattle.goal_graph.specs.declared.plan.Kind.{Kind}
use Rattle.goal_graph.specs.declared.plan.Kind.TheVariants.{Calc, Send, Recv}
use Rattle.goal_graph.specs.declared.plan.Dep.{Dep}
use Rattle.goal_graph.specs.declared.plan.Need.{Need}
use Rattle.goal_graph.specs.declared.plan.Note.{Note}
use Rattle.goal_graph.specs.declared.plan.Note.TheVariants.{Moves, Adds}
use Rattle.goal_graph.specs.Schedule.{Plan, op_at, needs, needed}
use Rattle.goal_graph.specs.Order.{IsBefore}

-- the number of operations, dependencies or notes of all ranks together
unfoldable pub op_count : List Plan → ℕ
op_count plans = sum_by (λ (p : Plan). length p.ops) plans

unfoldable pub dep_count : List Plan → ℕ
dep_count plans = sum_by (λ (p : Plan). length p.deps) plans

unfoldable pub note_count : List Plan → ℕ
note_count plans = sum_by (λ (p : Plan). length p.notes) plans

-- the fault of a number, if it is over its limit
abbrev pub count_over : ℕ → ℕ → Option PlanFault
count_over limit found = if nat_lt limit found then Some (Count found limit) else None

-- the fault of the counts: no rank, or else too many ranks, operations, dependencies or notes, in this order
unfoldable pub count_fault : List Plan → Option PlanFault
count_fault plans =
    option_or (if length plans == 0 then Some (Count 0 rank_limit) else count_over rank_limit (length plans))
    (option_or (count_over op_limit (op_count plans)) (option_or (count_over dep_limit (dep_count plans)) (count_over note_limit (note_count plans))))

-- the size or duration is within its limit, and a calc has nic 0
abbrev pub value_fits : Kind → ℕ → Bool
value_fits (Calc nanos) nic = nat_le nanos calc_limit && (nic == 0)
value_fits (Send bytes to tag) nic = nat_le bytes size_limit
value_fits (Recv bytes from tag) nic = nat_le bytes size_limit

-- the target of a send, and the source of a receive, is one of the ranks
abbrev pub is_rank : ℕ → Option ℕ → Bool
is_rank ranks None = true
is_rank ranks (Some rank) = nat_lt rank ranks

abbrev pub has_peer : ℕ → Kind → Bool
has_peer ranks (Calc nanos) = true
has_peer ranks (Send bytes to tag) = nat_lt to ranks
has_peer ranks (Recv bytes from tag) = is_rank ranks from

-- both operations of a dependency exist in its rank, which has `ops` operations
abbrev pub dep_in_range : ℕ → Dep → Bool
dep_in_range ops d = nat_lt d.later ops && nat_lt d.earlier ops

-- a send or a receive moves bytes; a calc adds values
abbrev pub is_calc : Kind → Bool
is_calc (Calc nanos) = true
is_calc (Send bytes to tag) = false
is_calc (Recv bytes from tag) = false

abbrev pub can_move : Option Op → Bool
can_move None = false
can_move (Some o) = not (is_calc o.kind)

abbrev pub can_add : Option Op → Bool
can_add None = false
can_add (Some o) = is_calc o.kind

-- a note names an operation of its rank that can do this; slots to move are in order
abbrev pub note_fits : List Op → Note → Bool
note_fits ops (Moves op lo hi) = can_move (slice_get ops op) && nat_le lo hi
note_fits ops (Adds op from to) = can_add (slice_get ops op)

-- the fault of one operation, dependency or note of a rank; a wrong value comes before a wrong peer
abbrev pub op_fault : ℕ → ℕ → ℕ → Op → Option PlanFault
op_fault ranks rank op o =
    if value_fits o.kind o.nic then (if has_peer ranks o.kind then None else Some (Peer rank op)) else Some (Value rank op)

abbrev pub dep_fault : ℕ → ℕ → ℕ → Dep → Option PlanFault
dep_fault ops rank dep d = if dep_in_range ops d then None else Some (DepRange rank dep)

abbrev pub note_fault : List Op → ℕ → ℕ → Note → Option PlanFault
note_fault ops rank note n = if note_fits ops n then None else Some (NoteMisfit rank note)

-- the first fault among items; n is the number of the first item, and `fault` takes an item's number
unfoldable pub first_fault : {A : Type 0} → (ℕ → A → Option PlanFault) → ℕ → List A → Option PlanFault
first_fault fault n [] = None
first_fault fault n (x ∷ xs) = option_or (fault n x) (first_fault fault (n + 1) xs)

-- the first fault of a rank: its operations, then its dependencies, then its notes
unfoldable pub rank_fault : ℕ → ℕ → Plan → Option PlanFault
rank_fault ranks rank p =
    option_or (first_fault (op_fault ranks rank) 0 p.ops)
    (option_or (first_fault (dep_fault (length p.ops) rank) 0 p.deps) (first_fault (note_fault p.ops rank) 0 p.notes))

-- the first fault other than a cycle: the counts, then rank by rank
unfoldable pub plain_fault : List Plan → Option PlanFault
plain_fault plans = option_or (count_fault plans) (first_fault (rank_fault (length plans)) 0 plans)

-- the operation exists
abbrev pub IsOp : List Plan → OpId → Type 0
IsOp plans x = is_some (op_at plans x) ≡ true

-- the depth of x is below n: all that it needs has a depth below n - 1
unfoldable pub is_below : List Plan → ℕ → OpId → Bool
is_below plans zero x = false
is_below plans (suc n) x = list_all (λ (d : Need). is_below plans n (needed x d)) (needs plans x)

-- x has a depth: it is below some number
pub record HasDepth (plans : List Plan) (x : OpId) : Type 0 where
  pub bound : ℕ
  pub below : is_below plans bound x ≡ true

-- x is the first operation without a depth
pub record IsFirstCycle (plans : List Plan) (x : OpId) : Type 0 where
  pub exists : IsOp plans x
  pub cyclic : HasDepth plans x → ⊥
  pub first : (y : OpId) → IsOp plans y → IsBefore y x → HasDepth plans y

-- the fault is a cycle, and names the first operation without a depth
pub record IsCycle (plans : List Plan) (fault : PlanFault) : Type 0 where
  pub op : OpId
  pub named : fault ≡ Cycle op.rank op.op
  pub first : IsFirstCycle plans op

-- the first fault: the first other than a cycle, or where there is none a cycle
abbrev pub IsFault : List Plan → PlanFault → Type 0
IsFault plans fault = (plain_fault plans ≡ Some fault) ⊎ ((plain_fault plans ≡ None) × IsCycle plans fault)

-- the plans break no rule
pub record IsAccepted (plans : List Plan) : Type 0 where
  pub plain : plain_fault plans ≡ None
  pub depths : (x : OpId) → IsOp plans x → HasDepth plans x
