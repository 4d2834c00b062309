-- What a store keeps: the slots that were set since the start, with their values. Every other slot has its first value.
use Rattle.std.specs.Prelude.{ℕ, ◌≡◌, ◌≤◌, false, List, [], ◌∷◌, map, Option, Some, None, unwrap_or, Vec}
use Rattle.std.specs.Global.{Global}
use Rattle.std.specs.List.{AllByRecursion}
use Rattle.std.specs.Map.{lookup}
use Rattle.std.specs.Ordering.{nat_cmp, ordering_then}
use Rattle.std.specs.BTreeMap.{is_at}
use Rattle.std.specs.declared.cmp.Ordering.{Ordering}
use Rattle.goal_limits.specs.Limits.{rank_limit}
use Rattle.goal_limits.specs.declared.collective.Collective.{Collective}
use Rattle.goal_blocks.specs.Values.{Contribution, Value, Store, is_lower}
use Rattle.goal_blocks.specs.Weight.{stored}
use Rattle.goal_blocks.specs.Collectives.{initial}

-- a rank and a slot
abbrev pub Place : Type 0
Place = ℕ × ℕ

abbrev pub place_cmp : Place → Place → Ordering
place_cmp a b = ordering_then (nat_cmp a.0 b.0) (nat_cmp a.1 b.1)

pub record Kept : Type 0 where
  pub what : Collective
  pub ranks : ℕ
  pub written : List (Place × Value)

-- what was set at a place
unfoldable pub written_at : Kept → Place → Option Value
written_at s a = lookup (is_at (place_cmp a)) s.written

-- the value of each slot
unfoldable pub values : Kept → Store
values s r k = unwrap_or (written_at s (r, k)) (initial s.what s.ranks r k)

-- no contribution of the value is lower than c
abbrev pub ComesFirst : Contribution → Value → Type 0
ComesFirst c v = AllByRecursion (λ d. is_lower d c ≡ false) v

-- a value is sorted: no contribution is lower than an earlier one
abbrev pub IsSorted : Value → Type 0
IsSorted [] = Unit {0}
IsSorted (c ∷ v) = ComesFirst c v × IsSorted v

-- the invariant of a store that counts `held` contributions
pub record IsSound (s : Kept) (held : ℕ) : Type 0 where
  pub ranks : s.ranks ≤ rank_limit
  pub sorted : (r k : ℕ) → IsSorted (values s r k)
  pub held_is : held ≡ stored s.ranks (values s)

-- the entries of a map of vectors
abbrev pub entries_of : List (Place × Vec Contribution Global) → List (Place × Value)
entries_of es = map (λ e. (e.0, e.1.items)) es

-- the values of a list of vectors
abbrev pub lists_of : List (Vec Contribution Global) → List Value
lists_of vs = map (λ v. v.items) vs

-- none or one contribution, as a value
abbrev pub one_or_none : Option Contribution → Value
one_or_none None = []
one_or_none (Some c) = c ∷ []

-- what a slot held: the value to which it was set, or if it was not set its contribution at the start
abbrev pub before : Option (Vec Contribution Global) → Option Contribution → Value
before None first = one_or_none first
before (Some v) first = v.items
