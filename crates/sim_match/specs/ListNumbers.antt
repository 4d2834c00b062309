-- The number of each operation's list.
use Rattle.std.specs.Prelude.{ℕ, ◌≡◌, ◌<◌, ◌-◌, ◌^◌, true, false, List, length, map, Option, Some, None, Vec, slice_get}
use Rattle.std.specs.Global.{Global}
use Rattle.std.specs.List.{list_all, list_any}
use Rattle.std.specs.Option.{MatchOption}
use Rattle.goal_graph.specs.declared.action.OpId.{OpId}
use Rattle.goal_graph.specs.Schedule.{Plan, operations}
use Rattle.sim_match.specs.declared.list_numbers.ListNumbers.{ListNumbers}
use Rattle.sim_match.specs.declared.list_numbers.Others.{Others}
use Rattle.sim_match.specs.declared.pattern.Pattern.{Pattern}
use Rattle.sim_match.specs.declared.pattern.Wild.{Wild}
use Rattle.sim_match.specs.declared.pattern.Wild.TheVariants.{AnyTag, AnySource, Any}
use Rattle.sim_match.specs.Patterns.{own_list, wild_list, is_wild, names_a_source, names_a_tag, AreListed}

-- the code of a list's number, or of none
abbrev pub coded : Option ℕ → ℕ
coded None = 2 ^ 32 - 1
coded (Some list) = list

-- a number that has a code, or none
abbrev pub IsCodable : Option ℕ → Type 0
IsCodable number = (list : ℕ) → number ≡ Some list → list < 2 ^ 32 - 1

-- each pattern names a source and a tag
pub record AreNamed (keys : List Pattern) : Type 0 where
  pub sources : list_all names_a_source keys ≡ true
  pub tags : list_all names_a_tag keys ≡ true

-- The numbers of the lists of a kind are kept for all operations, unless no pattern is of that kind: then no send has
-- such a list.
abbrev pub AreWild : List Plan → List Pattern → Wild → Option (Vec ℕ Global) → Type 0
AreWild plans keys wild kept = MatchOption kept (list_any (is_wild wild) keys ≡ false) (λ (numbers : Vec ℕ Global). numbers.items ≡ map (λ (x : OpId). coded (wild_list plans keys wild x)) (operations plans))

-- the number that is kept for the operation at that place
abbrev pub IsWildAt : Option (Vec ℕ Global) → ℕ → Option ℕ → Type 0
IsWildAt kept place found = MatchOption kept (found ≡ None) (λ (numbers : Vec ℕ Global). (number : Option ℕ) → slice_get numbers.items place ≡ Some (coded number) → IsCodable number → found ≡ number)

-- the numbers of each kind
pub record AreOthers (plans : List Plan) (keys : List Pattern) (others : Others) : Type 0 where
  pub any_tag : AreWild plans keys AnyTag others.any_tag
  pub any_source : AreWild plans keys AnySource others.any_source
  pub any : AreWild plans keys Any others.any

-- they are kept, unless each pattern names a source and a tag: then no send has such lists
abbrev pub AreSought : List Plan → List Pattern → Option Others → Type 0
AreSought plans keys kept = MatchOption kept (AreNamed keys) (AreOthers plans keys)

-- the patterns of a schedule, fewer than 2^32-1; the lists of operations' own patterns are kept if there is a pattern
pub record AreNumbered (plans : List Plan) (numbers : ListNumbers) : Type 0 where
  pub keys : List Pattern
  pub listed : AreListed plans keys
  pub few : length keys < 2 ^ 32 - 1
  pub own : 0 < length keys → numbers.own.items ≡ map (λ (x : OpId). coded (own_list plans keys x)) (operations plans)
  pub count : numbers.count ≡ length keys
  pub sought : AreSought plans keys numbers.others
