-- Match lists that follow one another in one list of entries.
use Rattle.std.specs.Prelude.{ℕ, ◌≡◌, ◌<◌, ◌≤◌, ◌+◌, ◌-◌, ◌^◌, List, [], ◌∷◌, length, Some, take, drop, slice_get}
use Rattle.sim_match.specs.declared.match_list.MatchEntry.{MatchEntry}
use Rattle.sim_match.specs.declared.match_lists.Span.{Span}
use Rattle.sim_match.specs.MatchLists.{MatchList}

-- a span, and where its room ends
pub record Stretch : Type 0 where
  pub start : ℕ
  pub len : ℕ
  pub head : ℕ
  pub end : ℕ

abbrev pub stretch : Span → ℕ → Stretch
stretch s end = record { start = s.start; len = s.len; head = s.head; end = end }

-- where the first of these spans begins, or where all end
abbrev pub first_start : List Span → ℕ → ℕ
first_start [] end = end
first_start (s ∷ ss) end = s.start

-- the room of a span ends where the next begins, and that of the last where all end
abbrev pub stretches : List Span → ℕ → List Stretch
stretches [] end = []
stretches (s ∷ ss) end = stretch s (first_start ss end) ∷ stretches ss end

-- the list of a stretch
abbrev pub list_at : List MatchEntry → Stretch → MatchList
list_at entries s = record { entries = take s.len (drop s.start entries); head = s.head; room = s.end - s.start }

-- each stretch ends before the next begins, and its list fits
pub record ArePacked (spans : List Stretch) (entries : List MatchEntry) : Type 0 where
  pub apart : (i j : ℕ) (s t : Stretch) → i < j → slice_get spans i ≡ Some s → slice_get spans j ≡ Some t → s.end ≤ t.start
  pub fits : (i : ℕ) (s : Stretch) → slice_get spans i ≡ Some s → s.start + s.len ≤ s.end
  pub within : (i : ℕ) (s : Stretch) → slice_get spans i ≡ Some s → s.end ≤ length entries
  pub few : length entries < 2 ^ 32
