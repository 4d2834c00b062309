-- The labels of a block, each with a slot, in the order of their first appearance in it.
use Rattle.std.specs.Prelude.{◌≡◌, ℕ, ◌<◌, ◌≤◌, Bool, true, List, [], ◌∷◌, Option, Some, None, length, nat_lt, unwrap_or, slice_index_or, bytes_eq, if◌then◌else◌}
use Rattle.std.specs.Map.{lookup, keys_of}
use Rattle.std.specs.List.{AllZip}
use Rattle.goal_graph.specs.declared.plan.Dep.{Dep}
use Rattle.goal_graph.specs.declared.plan.Note.{Note}
use Rattle.goal_graph.specs.declared.plan.Note.TheVariants.{Moves, Adds}
use Rattle.goal_parser.specs.declared.names.Names.{Names}
pub use Rattle.goal_labels.specs.Entries.{Entries}
use Rattle.goal_labels.specs.declared.label_map.LabelInfo.{LabelInfo}
use Rattle.goal_parser.specs.declared.head.Mention.{Mention}
use Rattle.goal_parser.specs.Items.{Definition, defined_as, is_defined, first_outside, NamedDep, NamedNote, note_as}

abbrev pub op_in : Option LabelInfo → Option ℕ
op_in None = None
op_in (Some slot) = slot.op

-- the number of a label's operation, if the label is defined
unfoldable pub op_by : Entries → List ℕ → Option ℕ
op_by entries label = op_in (lookup (bytes_eq label) entries)

-- the place of the first label that does not pass the test
unfoldable pub first_by : (List ℕ → Bool) → Entries → Option ℕ
first_by test [] = None
first_by test (e ∷ es) = if test e.0 then first_by test es else Some e.1.at

-- the label of a slot
unfoldable pub label_at : Entries → ℕ → List ℕ
label_at entries slot = slice_index_or (keys_of entries) slot []

-- The slots know which labels are defined, and where each undefined label is used first.
pub record Keeps (entries : Entries) (ds : List Definition) (us : List Mention) : Type 0 where
  pub numbers : (label : List ℕ) → op_by entries label ≡ defined_as ds label
  pub firsts : (test : List ℕ → Bool) → ((label : List ℕ) → is_defined ds label ≡ true → test label ≡ true) → first_by test entries ≡ first_outside test us

-- the slots stay, and others may be appended
pub record Grows (old new : Entries) : Type 0 where
  pub more : length old ≤ length new
  pub labels : (slot : ℕ) → slot < length old → label_at new slot ≡ label_at old slot

-- the number of a slot's operation, or 0 if its label is not defined or there is no such slot
unfoldable pub op_at : Entries → ℕ → ℕ
op_at entries slot = if nat_lt slot (length entries) then unwrap_or (op_by entries (label_at entries slot)) 0 else 0

-- a dependency or a note between slots, with operations instead
abbrev pub dep_at : Entries → Dep → Dep
dep_at entries d = record { later = op_at entries d.later; earlier = op_at entries d.earlier; when = d.when }

abbrev pub note_at : Entries → Note → Note
note_at entries (Moves slot lo hi) = Moves (op_at entries slot) lo hi
note_at entries (Adds slot from to) = Adds (op_at entries slot) from to

-- the slot is that of the label
pub record IsSlot (entries : Entries) (slot : ℕ) (label : List ℕ) : Type 0 where
  pub within : slot < length entries
  pub named : label_at entries slot ≡ label

-- a dependency of slots is the same as one of labels; so is a note
pub record IsDep (entries : Entries) (d : Dep) (named : NamedDep) : Type 0 where
  pub later : IsSlot entries d.later named.later
  pub earlier : IsSlot entries d.earlier named.earlier
  pub when : d.when ≡ named.when

pub record IsNote (entries : Entries) (n : Note) (named : NamedNote) : Type 0 where
  pub slot : ℕ
  pub subject : IsSlot entries slot named.subject
  pub is : n ≡ note_as named.verb slot named.first named.second

-- the state of a block's labels, dependencies and notes
pub record NamesHold (names : Names) (ds : List Definition) (us : List Mention) (named_deps : List NamedDep) (named_notes : List NamedNote) : Type 0 where
  pub labels : Keeps names.labels.slots ds us
  pub deps : AllZip (IsDep names.labels.slots) names.deps.items named_deps
  pub notes : AllZip (IsNote names.labels.slots) names.notes.items named_notes
