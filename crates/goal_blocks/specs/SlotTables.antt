-- The slots and sums of the operations, rank by rank.
use Rattle.std.specs.Prelude.{ℕ, ◌≡◌, ◌≢◌, ◌+◌, ◌<◌, ◌≤◌, List, ◌++◌, length, take, flat_map, slice_index, slice_index_or, slice_range, Vec}
use Rattle.std.specs.Global.{Global}
use Rattle.goal_graph.specs.declared.plan.Note.{Note}
use Rattle.goal_graph.specs.declared.plan.Note.TheVariants.{Moves, Adds}
use Rattle.goal_graph.specs.Schedule.{Plan}

-- the operation of a note
abbrev pub op_of : Note → ℕ
op_of (Moves op lo hi) = op
op_of (Adds op from to) = op

module _ {A : Type 0} where
  -- the list has, for each operation of a rank, what the rank's notes say of it (`of`)
  pub record AreTold (of : ℕ → Note → List A) (plan : Plan) (told : List (Vec A Global)) : Type 0 where
    pub count : length told ≡ length plan.ops
    pub each : (k : ℕ) (v : Vec A Global) → k < length plan.ops → (slice_index_or told k v).items ≡ flat_map (of k) plan.notes

  -- the same after another note
  pub record TellsMore (of : ℕ → Note → List A) (note : Note) (old new : List (Vec A Global)) : Type 0 where
    pub count : length new ≡ length old
    pub each : (k : ℕ) (v : Vec A Global) → k < length old → (slice_index_or new k v).items ≡ (slice_index_or old k v).items ++ of k note

  -- The rows of the operations follow one another in one list; `starts` has where each begins, and last where they end.
  pub record IsRowed (row : ℕ → List A) (count : ℕ) (starts : List ℕ) (entries : List A) : Type 0 where
    pub one_each : length starts ≡ count + 1
    pub end : slice_index starts count ≡ length entries
    pub ordered : (k : ℕ) → k < count → slice_index starts k ≤ slice_index starts (k + 1)
    pub within : (k : ℕ) → k < count → slice_index starts (k + 1) ≤ length entries
    pub each : (k : ℕ) → k < count → slice_range entries (slice_index starts k) (slice_index starts (k + 1)) ≡ row k

  -- The notes before `next` say what was appended about this operation, and no more than before about any other.
  pub record IsRowPushed (of : ℕ → Note → List A) (notes : List Note) (at next op : ℕ) (old new : List A) : Type 0 where
    pub pushed : new ≡ old ++ flat_map (of op) (take next notes)
    pub others : (k : ℕ) → k ≢ op → flat_map (of k) (take next notes) ≡ flat_map (of k) (take at notes)
