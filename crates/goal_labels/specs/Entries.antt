-- Labels with their infos, in the order of their first appearance.
use Rattle.std.specs.Prelude.{◌≡◌, ℕ, ◌+◌, ◌<◌, ◌≤◌, Bool, false, List, [], ◌∷◌, Some, length, take, drop, map, slice_get, bytes_eq, if◌then◌else◌}
use Rattle.std.specs.Option.{option_map_or}
use Rattle.goal_limits.specs.Limits.{run_limit}
use Rattle.goal_labels.specs.declared.label_map.LabelInfo.{LabelInfo}
use Rattle.goal_labels.specs.declared.label_map.LabelEntry.{LabelEntry}

abbrev pub Entries : Type 0
Entries = List (List ℕ × LabelInfo)

-- the entries after a label gets an info: a known label keeps its place, and a new one is appended
abbrev pub put : Entries → List ℕ → LabelInfo → Entries
put [] label info = (label, info) ∷ []
put (e ∷ es) label info = if bytes_eq label e.0 then (e.0, info) ∷ es else e ∷ put es label info

-- entry i has this label
abbrev pub IsAt : Entries → List ℕ → ℕ → Type 0
IsAt entries label i = (info : LabelInfo) × (slice_get entries i ≡ Some (label, info))

-- no entry has this label
abbrev pub IsAbsent : Entries → List ℕ → Type 0
IsAbsent entries label = (i : ℕ) → IsAt entries label i → ⊥

-- each label has at most one entry
abbrev pub AreUnique : Entries → Type 0
AreUnique entries = (i j : ℕ) (label : List ℕ) → IsAt entries label i → IsAt entries label j → i ≡ j

-- entry i has this label, as a test
unfoldable pub is_at : Entries → List ℕ → ℕ → Bool
is_at entries label i = option_map_or (λ e. bytes_eq e.0 label) (slice_get entries i) false

-- The bytes of all labels are kept one after another, and an entry says which of them are its label.

-- the label of an entry
abbrev pub label_of : List ℕ → LabelEntry → List ℕ
label_of bytes e = take e.len (drop e.from bytes)

-- the entries, each with its label and its info
unfoldable pub entries_of : List ℕ → List LabelEntry → Entries
entries_of bytes entries = map (λ e. (label_of bytes e, e.info)) entries

-- the label of an entry is inside the bytes, and has 1 to 64 of them
pub record IsHeld (bytes : List ℕ) (entry : LabelEntry) : Type 0 where
  pub within : entry.from + entry.len ≤ length bytes
  pub some : 0 < entry.len
  pub short : entry.len ≤ run_limit

abbrev pub AreHeld : List ℕ → List LabelEntry → Type 0
AreHeld bytes entries = (i : ℕ) (entry : LabelEntry) → slice_get entries i ≡ Some entry → IsHeld bytes entry
