-- The two ends of a channel: one of its sends, and one of its receives.
use Rattle.std.specs.Prelude.{ℕ, ◌+◌, ◌*◌, ◌<◌, ◌≡◌, true, false, not, List, length, slice_index_or, Contains, Option, Some, None, All}
use Rattle.std.specs.declared.cmp.Ordering.{Ordering}
use Rattle.std.specs.Ordering.{nat_cmp, bool_cmp, ordering_then, is_lt}
use Rattle.goal_graph.specs.declared.action.OpId.{OpId}
use Rattle.goal_graph.specs.declared.plan.Kind.{Kind}
use Rattle.goal_graph.specs.declared.plan.Kind.TheVariants.{Send, Recv}
use Rattle.goal_graph.specs.Schedule.{Plan, kind_at}
use Rattle.goal_graph.specs.Order.{IsBefore}
use Rattle.goal_graph.specs.Keys.{op_cmp}
use Rattle.goal_certify.specs.declared.ends.End.{End}
use Rattle.goal_certify.specs.declared.ends.OpAtEnd.{OpAtEnd}

-- the end of an operation x of this kind; a calc has none, and neither has a receive with a wildcard
abbrev pub end_in : OpId → Option Kind → Option End
end_in x (Some (Send bytes to tag)) = Some (record { source = x.rank; target = to; tag = tag; is_send = true })
end_in x (Some (Recv room (Some from) (Some tag))) =
    Some (record { source = from; target = x.rank; tag = tag; is_send = false })
end_in x _ = None

unfoldable pub end_of : List Plan → OpId → Option End
end_of plans x = end_in x (kind_at plans x)

-- the other end of its channel
abbrev pub other_end : End → End
other_end e = record e { is_send = not e.is_send }

-- the order of ends, and that of entries: by the end, then by the operation
abbrev pub end_cmp : End → End → Ordering
end_cmp d e =
    ordering_then (nat_cmp d.source e.source) (ordering_then (nat_cmp d.target e.target) (ordering_then (nat_cmp d.tag e.tag) (bool_cmp d.is_send e.is_send)))

abbrev pub entry_cmp : OpAtEnd → OpAtEnd → Ordering
entry_cmp a b = ordering_then (end_cmp a.end b.end) (op_cmp a.op b.op)

-- the entries are those of the operations at ends
pub record AreEndsOf (plans : List Plan) (entries : List OpAtEnd) : Type 0 where
  pub listed : (x : OpId) (e : End) → end_of plans x ≡ Some e → Contains entries (record { end = e; op = x })
  pub right : All (λ (a : OpAtEnd). end_of plans a.op ≡ Some a.end) entries

-- x is the least operation at this end
pub record IsFirstAt (entries : List OpAtEnd) (e : End) (x : OpId) : Type 0 where
  pub listed : Contains entries (record { end = e; op = x })
  pub none_before : (y : OpId) → IsBefore y x → Contains entries (record { end = e; op = y }) → ⊥

-- the ends rise from each entry to the next
abbrev pub DoRise : List OpAtEnd → Type 0
DoRise entries = (k : ℕ) (d : OpAtEnd) → k + 1 < length entries → is_lt (end_cmp (slice_index_or entries k d).end (slice_index_or entries (k + 1) d).end) ≡ true

-- in each of the first `pairs` pairs of entries, there are a receive and a send of its channel
pub record DoAlternate (entries : List OpAtEnd) (pairs : ℕ) : Type 0 where
  pub same : (k : ℕ) (d : OpAtEnd) → k < pairs → (slice_index_or entries (2 * k + 1) d).end ≡ other_end (slice_index_or entries (2 * k) d).end
  pub receives : (k : ℕ) (d : OpAtEnd) → k < pairs → (slice_index_or entries (2 * k) d).end.is_send ≡ false

-- so all entries are in pairs, and each end has one operation
pub record ArePaired (entries : List OpAtEnd) (pairs : ℕ) : Type 0 where
  pub all : length entries ≡ 2 * pairs
  pub alternate : DoAlternate entries pairs
  pub single : (e : End) (x y : OpId) → Contains entries (record { end = e; op = x }) → Contains entries (record { end = e; op = y }) → x ≡ y
