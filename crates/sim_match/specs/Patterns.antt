-- The patterns of receives, and the lists of an operation.
use Rattle.std.specs.Prelude.{ℕ, ◌≡◌, ◌<◌, ◌≤◌, ◌+◌, ◌%◌, ◌==◌, ◌&&◌, not, Bool, true, false, List, [], ◌∷◌, length, map, Option, Some, None, is_some, position, slice_get}
use Rattle.std.specs.List.{list_any, list_all}
use Rattle.std.specs.List.Sorted.{IsStrictlySortedBy}
use Rattle.std.specs.Option.{option_cmp, unwrap_or}
use Rattle.std.specs.declared.cmp.Ordering.{Ordering}
use Rattle.std.specs.declared.cmp.Ordering.TheVariants.{Less}
use Rattle.std.specs.Ordering.{nat_cmp, ordering_then}
use Rattle.goal_graph.specs.declared.action.OpId.{OpId}
use Rattle.goal_graph.specs.declared.plan.Kind.{Kind}
use Rattle.goal_graph.specs.declared.plan.Kind.TheVariants.{Calc, Send, Recv}
use Rattle.goal_graph.specs.Schedule.{Plan, kind_at, IsReceive}
use Rattle.sim_match.specs.declared.pattern.Pattern.{Pattern}
use Rattle.sim_match.specs.declared.pattern.Wild.{Wild}
use Rattle.sim_match.specs.declared.pattern.Wild.TheVariants.{AnyTag, AnySource, Any}
pub use Rattle.goal_graph.specs.Choices.{same_choice}

abbrev pub same_pattern : Pattern → Pattern → Bool
same_pattern p q = (p.rank == q.rank) && (same_choice p.from q.from && same_choice p.tag q.tag)

-- the order of patterns: by rank, then source, then tag; any comes first
abbrev pub pattern_cmp : Pattern → Pattern → Ordering
pattern_cmp p q =
    ordering_then (nat_cmp p.rank q.rank) (ordering_then (option_cmp nat_cmp p.from q.from) (option_cmp nat_cmp p.tag q.tag))

abbrev pub names_a_source : Pattern → Bool
names_a_source p = is_some p.from

abbrev pub names_a_tag : Pattern → Bool
names_a_tag p = is_some p.tag

-- the pattern of that kind that a message fits
abbrev pub wild_pattern : Wild → ℕ → ℕ → ℕ → Pattern
wild_pattern AnyTag source to tag = record { rank = to; from = Some source; tag = None }
wild_pattern AnySource source to tag = record { rank = to; from = None; tag = Some tag }
wild_pattern Any source to tag = record { rank = to; from = None; tag = None }

-- a pattern is of that kind
abbrev pub is_wild : Wild → Pattern → Bool
is_wild AnyTag p = is_some p.from && not (is_some p.tag)
is_wild AnySource p = not (is_some p.from) && is_some p.tag
is_wild Any p = not (is_some p.from) && not (is_some p.tag)

-- the slot of a pattern in a table of `slots` slots
abbrev pub slot_of : Pattern → ℕ → ℕ
slot_of p slots = (unwrap_or p.from 0 + unwrap_or p.tag 0) % slots

-- each pattern of that kind has marked its slot
pub record AreTaken (wild : Wild) (patterns : List Pattern) (taken : List Bool) : Type 0 where
  pub some : 0 < length taken
  pub each : (k : ℕ) (p : Pattern) → slice_get patterns k ≡ Some p → is_wild wild p ≡ true → slice_get taken (slot_of p (length taken)) ≡ Some true

-- the patterns before that place are of lesser ranks
abbrev pub AreLower : List Pattern → ℕ → ℕ → Type 0
AreLower patterns rank place = (k : ℕ) (p : Pattern) → slice_get patterns k ≡ Some p → k < place → p.rank < rank

-- the patterns of this rank, and of greater ones, begin at that place
pub record IsStart (patterns : List Pattern) (rank start : ℕ) : Type 0 where
  pub within : start ≤ length patterns
  pub lower : AreLower patterns rank start
  pub rest : (k : ℕ) (p : Pattern) → slice_get patterns k ≡ Some p → start ≤ k → rank ≤ p.rank

-- where the patterns of each rank begin
abbrev pub AreStarts : List Pattern → List ℕ → Type 0
AreStarts patterns starts = (rank start : ℕ) → slice_get starts rank ≡ Some start → IsStart patterns rank start

-- all patterns of a rank are between these places, without the second
pub record IsRow (patterns : List Pattern) (rank start end : ℕ) : Type 0 where
  pub order : start ≤ end
  pub within : end ≤ length patterns
  pub between : (k : ℕ) (p : Pattern) → slice_get patterns k ≡ Some p → p.rank ≡ rank → (start ≤ k) × (k < end)

-- the pattern at that place is greater than the one before it
abbrev pub IsBehind : List Pattern → ℕ → Type 0
IsBehind patterns at =
    (k : ℕ) (p q : Pattern) → k + 1 ≡ at → slice_get patterns k ≡ Some p → slice_get patterns at ≡ Some q → pattern_cmp p q ≡ Less

-- patterns in order, without duplicates; where those of each rank begin; and whether all name a source, and all a tag
pub record AreInOrder (patterns : List Pattern) (starts : List ℕ) (sources_named tags_named : Bool) : Type 0 where
  pub sorted : IsStrictlySortedBy pattern_cmp patterns
  pub rows : AreStarts patterns starts
  pub sources : sources_named ≡ list_all names_a_source patterns
  pub tags : tags_named ≡ list_all names_a_tag patterns

-- the pattern of a receive
abbrev pub pattern_of : OpId → Option Kind → Option Pattern
pattern_of x (Some (Calc nanos)) = None
pattern_of x (Some (Send bytes to tag)) = None
pattern_of x (Some (Recv room from tag)) = Some (record { rank = x.rank; from = from; tag = tag })
pattern_of x None = None

-- an operation's own pattern: that of a receive, or the one with the source and the tag of a send
abbrev pub own_pattern : OpId → Option Kind → Option Pattern
own_pattern x (Some (Calc nanos)) = None
own_pattern x (Some (Send bytes to tag)) = Some (record { rank = to; from = Some x.rank; tag = Some tag })
own_pattern x (Some (Recv room from tag)) = Some (record { rank = x.rank; from = from; tag = tag })
own_pattern x None = None

-- the patterns of the receives that a message may fit
abbrev pub patterns_for : ℕ → ℕ → ℕ → List Pattern
patterns_for source to tag =
    record { rank = to; from = Some source; tag = Some tag }
    ∷ record { rank = to; from = Some source; tag = None }
    ∷ record { rank = to; from = None; tag = Some tag }
    ∷ record { rank = to; from = None; tag = None }
    ∷ []

-- both are numbers, and the same
abbrev pub same_number : Option ℕ → Option ℕ → Bool
same_number None j = false
same_number (Some i) None = false
same_number (Some i) (Some j) = i == j

-- the place of a pattern among those of the schedule
abbrev pub number : List Pattern → Pattern → Option ℕ
number keys p = position (same_pattern p) keys

abbrev pub list_number : List Pattern → Option Pattern → Option ℕ
list_number keys None = None
list_number keys (Some p) = number keys p

abbrev pub wild_number : List Pattern → Wild → OpId → Option Kind → Option ℕ
wild_number keys wild m (Some (Calc nanos)) = None
wild_number keys wild m (Some (Send bytes to tag)) = number keys (wild_pattern wild m.rank to tag)
wild_number keys wild m (Some (Recv room from tag)) = None
wild_number keys wild m None = None

abbrev pub numbers_for : List Pattern → OpId → Option Kind → List (Option ℕ)
numbers_for keys m (Some (Calc nanos)) = []
numbers_for keys m (Some (Send bytes to tag)) = map (number keys) (patterns_for m.rank to tag)
numbers_for keys m (Some (Recv room from tag)) = []
numbers_for keys m None = []

module _ (plans : List Plan) (keys : List Pattern) where
  -- the list of a receive, by its pattern
  abbrev pub list_of : OpId → Option ℕ
  list_of x = list_number keys (pattern_of x (kind_at plans x))

  -- the list of an operation's own pattern
  abbrev pub own_list : OpId → Option ℕ
  own_list x = list_number keys (own_pattern x (kind_at plans x))

  -- the list of a send whose pattern is of that kind
  abbrev pub wild_list : Wild → OpId → Option ℕ
  wild_list wild x = wild_number keys wild x (kind_at plans x)

  -- the lists of a send, as far as the schedule has their patterns
  abbrev pub lists_for : OpId → List (Option ℕ)
  lists_for m = numbers_for keys m (kind_at plans m)

  -- x is a receive of that list
  unfoldable pub in_list : ℕ → OpId → Bool
  in_list i x = same_number (list_of x) (Some i)

  -- m is a send for that list
  unfoldable pub for_list : ℕ → OpId → Bool
  for_list i m = list_any (same_number (Some i)) (lists_for m)

  -- the receive x has a list
  pub record IsListed (x : OpId) : Type 0 where
    pub list : ℕ
    pub is : list_of x ≡ Some list
    pub within : list < length keys

  -- each receive of the schedule has a list
  abbrev pub AreListed : Type 0
  AreListed = (x : OpId) → IsReceive plans x → IsListed x
