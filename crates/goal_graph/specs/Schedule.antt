-- A schedule: for each rank a list of operations, of dependencies and of notes.
use Rattle.std.specs.Prelude.{ℕ, ◌≡◌, ◌+◌, ◌==◌, ◌&&◌, Bool, false, Some, List, [], ◌∷◌, ◌++◌, Option, map, filter, slice_get, unwrap_or, option_and_then}
use Rattle.std.specs.Option.{option_map}
use Rattle.goal_graph.specs.declared.action.OpId.{OpId}
use Rattle.goal_graph.specs.declared.plan.Op.{Op}
use Rattle.goal_graph.specs.declared.plan.Kind.{Kind}
use Rattle.goal_graph.specs.declared.plan.Kind.TheVariants.{Send, Recv}
use Rattle.goal_graph.specs.declared.plan.Dep.{Dep}
use Rattle.goal_graph.specs.declared.plan.Need.{Need}
use Rattle.goal_graph.specs.declared.plan.Note.{Note}

-- the work of one rank
pub record Plan : Type 0 where
  pub ops : List Op
  pub deps : List Dep
  pub notes : List Note

-- the operation at a place, if it exists
unfoldable pub op_at : List Plan → OpId → Option Op
op_at plans x = option_and_then (λ (p : Plan). slice_get p.ops x.op) (slice_get plans x.rank)

-- the kind of the operation at a place
unfoldable pub kind_at : List Plan → OpId → Option Kind
kind_at plans x = option_map (λ (o : Op). o.kind) (op_at plans x)

-- x is a send; x is a receive
pub record IsSend (plans : List Plan) (x : OpId) : Type 0 where
  pub bytes : ℕ
  pub to : ℕ
  pub tag : ℕ
  pub kind : kind_at plans x ≡ Some (Send bytes to tag)

pub record IsReceive (plans : List Plan) (x : OpId) : Type 0 where
  pub room : ℕ
  pub from : Option ℕ
  pub tag : Option ℕ
  pub kind : kind_at plans x ≡ Some (Recv room from tag)

-- two operations of one rank that use the same cpu, or the same NIC
abbrev pub same_place : (Op → ℕ) → OpId → Option Op → OpId → Option Op → Bool
same_place place x (Some o) y (Some p) = (x.rank == y.rank) && (place o == place p)
same_place place x _ y _ = false

-- the operations of a rank, or none if the rank does not exist
unfoldable pub ops_at : List Plan → ℕ → List Op
ops_at plans rank = unwrap_or (option_map (λ (p : Plan). p.ops) (slice_get plans rank)) []

-- the dependencies of a rank, or none if the rank does not exist
unfoldable pub deps_at : List Plan → ℕ → List Dep
deps_at plans rank = unwrap_or (option_map (λ (p : Plan). p.deps) (slice_get plans rank)) []

-- the earlier side of a dependency
abbrev pub earlier_of : Dep → Need
earlier_of d = record { op = d.earlier; when = d.when }

-- what an operation needs, each with its earlier side, in the order of the rank's dependencies
unfoldable pub needs : List Plan → OpId → List Need
needs plans x = map earlier_of (filter (λ (d : Dep). d.later == x.op) (deps_at plans x.rank))

-- the operation that a need of x names; it has x's rank
abbrev pub needed : OpId → Need → OpId
needed x d = record { rank = x.rank; op = d.op }

-- the places of one rank's operations; the first has the number `op`
unfoldable pub places_of_rank : ℕ → ℕ → List Op → List OpId
places_of_rank rank op [] = []
places_of_rank rank op (o ∷ os) = record { rank = rank; op = op } ∷ places_of_rank rank (op + 1) os

unfoldable pub places_from : ℕ → List Plan → List OpId
places_from rank [] = []
places_from rank (p ∷ ps) = places_of_rank rank 0 p.ops ++ places_from (rank + 1) ps

-- every operation, by rank and number
abbrev pub operations : List Plan → List OpId
operations plans = places_from 0 plans
