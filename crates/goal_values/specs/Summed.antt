-- What is kept of the values of slots, if these are given as sums.
use Rattle.std.specs.Prelude.{ℕ, ◌≡◌, ◌+◌, ◌*◌, ◌^◌, ◌≤◌, nat_lt, List, map, length, All, Option, Some, None, if◌then◌else◌}
use Rattle.goal_limits.specs.Limits.{rank_limit}
use Rattle.goal_limits.specs.declared.collective.Collective.{Collective}
use Rattle.goal_blocks.specs.declared.segment.Segment.{Segment}
use Rattle.goal_blocks.specs.Values.{Value}
use Rattle.goal_blocks.specs.Weight.{stored}
use Rattle.goal_values.specs.Kept.{Kept, values}
use Rattle.goal_values.specs.declared.sums.Term.{Term}
use Rattle.goal_values.specs.declared.values.TermPayload.{TermPayload}
use Rattle.goal_values.specs.Rows.{found_in}
use Rattle.goal_values.specs.Sums.{meaning, IsBelow}

-- the slots that were set, with their values, and the sums that these refer to
pub record Summed : Type 0 where
  pub kept : Kept
  pub sums : List Value

-- the values of a payload
abbrev pub payload_values : List Value → TermPayload → List Value
payload_values sums payload = map (meaning sums) payload.terms.items

-- each of them refers only to these sums
abbrev pub IsPayload : List Value → TermPayload → Type 0
IsPayload sums payload = All (IsBelow (length sums)) payload.terms.items

-- what is kept, for slots with these terms
abbrev pub kept_in : Collective → ℕ → Segment → List Value → List (List (ℕ × Term)) → Kept
kept_in what ranks segment sums terms = record {
  what = what;
  ranks = ranks;
  segment = segment;
  written = map (λ (row : List (ℕ × Term)). map (λ (e : ℕ × Term). (e.0, meaning sums e.1)) row) terms;
}

-- the invariant, with `held` contributions counted
pub record IsSound (s : Summed) (terms : List (List (ℕ × Term))) (held : ℕ) : Type 0 where
  pub ranks : s.kept.ranks ≤ rank_limit
  pub fits : s.kept.segment.block * s.kept.segment.width + s.kept.segment.width ≤ 2 ^ 32
  pub below : (r k : ℕ) (t : Term) → found_in terms r k ≡ Some t → IsBelow (length s.sums) t
  pub held_is : held ≡ stored s.kept.ranks (values s.kept)

-- the lesser of two slots; the first may be missing
abbrev pub lesser : Option ℕ → ℕ → ℕ
lesser None slot = slot
lesser (Some other) slot = if nat_lt other slot then other else slot
