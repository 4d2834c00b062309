-- A schedule given by an entry for each rank and number: the operation's kind, its needs, and what it does to slots.
-- The operations of a rank, their dependencies and their notes are in the order of these numbers.
use Rattle.std.specs.Prelude.{ℕ, List, [], ◌∷◌, ◌++◌, map, Some}
use Rattle.std.specs.List.{flat_map, range_with_len}
use Rattle.goal_graph.specs.declared.plan.Kind.{Kind}
use Rattle.goal_graph.specs.declared.plan.Kind.TheVariants.{Calc, Send, Recv}
use Rattle.goal_graph.specs.declared.plan.Op.{Op}
use Rattle.goal_graph.specs.declared.plan.Dep.{Dep}
use Rattle.goal_graph.specs.declared.plan.When.TheVariants.{AfterEnd}
use Rattle.goal_graph.specs.declared.plan.Note.{Note}
use Rattle.goal_graph.specs.declared.plan.Note.TheVariants.{Moves, Adds}
use Rattle.goal_graph.specs.Schedule.{Plan}
use Rattle.goal_blocks.specs.Slots.{Adding}

-- the slots from lo to hi, both included
pub record Span : Type 0 where
  pub lo : ℕ
  pub hi : ℕ

pub record Entry : Type 0 where
  pub kind : Kind
  -- the numbers of the operations whose ends it needs
  pub needs : List ℕ
  pub moves : List Span
  pub adds : List Adding

abbrev pub slot : ℕ → List Span
slot k = record { lo = k; hi = k } ∷ []

-- a send of `bytes` bytes of these slots to a rank, with a tag, after the ends of `needs`
abbrev pub sending : ℕ → ℕ → ℕ → List ℕ → List Span → Entry
sending bytes to tag needs moves = record { kind = Send bytes to tag; needs = needs; moves = moves; adds = [] }

-- a receive of `bytes` bytes from a rank, with a tag, into these slots
abbrev pub receiving : ℕ → ℕ → ℕ → List Span → Entry
receiving bytes from tag moves = record { kind = Recv bytes (Some from) (Some tag); needs = []; moves = moves; adds = [] }

-- a calc without duration, after the ends of `needs`, which adds the slot `from` to the slot `to`
abbrev pub summing : List ℕ → ℕ → ℕ → Entry
summing needs from to = record { kind = Calc 0; needs = needs; moves = []; adds = record { from = from; to = to } ∷ [] }

abbrev pub op_of : Entry → Op
op_of e = record { kind = e.kind; cpu = 0; nic = 0 }

abbrev pub deps_of : ℕ → Entry → List Dep
deps_of i e = map (λ (k : ℕ). record { later = i; earlier = k; when = AfterEnd }) e.needs

abbrev pub notes_of : ℕ → Entry → List Note
notes_of i e =
    map (λ (s : Span). Moves i s.lo s.hi) e.moves ++ map (λ (a : Adding). Adds i a.from a.to) e.adds

-- the operations 0 to n - 1 of a rank
unfoldable pub plan_by : ℕ → (ℕ → Entry) → Plan
plan_by n e = record {
  ops = map (λ (i : ℕ). op_of (e i)) (range_with_len 0 n);
  deps = flat_map (λ (i : ℕ). deps_of i (e i)) (range_with_len 0 n);
  notes = flat_map (λ (i : ℕ). notes_of i (e i)) (range_with_len 0 n);
}

-- the schedule of these ranks, of which rank r has `count r` operations
unfoldable pub made_by : ℕ → (ℕ → ℕ) → (ℕ → ℕ → Entry) → List Plan
made_by ranks count e = map (λ (r : ℕ). plan_by (count r) (e r)) (range_with_len 0 ranks)
