-- What the search for knots keeps: stuck operations by their places, which are indices of the list.
use Rattle.std.specs.Prelude.{ℕ, ◌<◌, ◌≡◌, ◌==◌, Bool, true, false, List, length, slice_index, count_by}
use Rattle.std.specs.List.{slice_index_or}
use Rattle.goal_graph.specs.declared.action.OpId.{OpId}
use Rattle.goal_graph.specs.declared.action.Stuck.{Stuck}
use Rattle.sim_cycles.specs.Knots.{stuck_ops, step}
use Rattle.sim_cycles.specs.Walks.{after, IsHeadOf}
use Rattle.sim_cycles.specs.declared.heads.Mark.{Mark}
use Rattle.sim_cycles.specs.declared.heads.Mark.TheVariants.{Unseen, OnWay, Known}

-- the operation at a place
abbrev pub op_at : List Stuck → ℕ → OpId
op_at list i = slice_index_or (stuck_ops list) i (record { rank = 0; op = 0 })

-- j is the place of the operation that the one at i names, or i itself if that one is alone
pub record IsTarget (list : List Stuck) (i j : ℕ) : Type 0 where
  pub inside : j < length list
  pub names : step list (op_at list i) ≡ op_at list j

-- the target of a place
abbrev pub target_at : List ℕ → ℕ → ℕ
target_at targets i = slice_index targets i

-- the target of each operation
pub record AreTargets (list : List Stuck) (targets : List ℕ) : Type 0 where
  pub long : length targets ≡ length list
  pub each : (i : ℕ) → i < length list → IsTarget list i (target_at targets i)

-- each target is a place
abbrev pub IsClosed : List ℕ → Type 0
IsClosed targets = (i : ℕ) → i < length targets → target_at targets i < length targets

-- the head of each place
pub record AreHeads (targets heads : List ℕ) : Type 0 where
  pub long : length heads ≡ length targets
  pub each : (i : ℕ) → i < length targets → IsHeadOf (target_at targets) i (slice_index heads i)

-- how many places have each as their head
pub record AreCounts (heads counts : List ℕ) : Type 0 where
  pub long : length counts ≡ length heads
  pub each : (i : ℕ) → i < length heads → slice_index counts i ≡ count_by (λ (h : ℕ). h == i) heads

-- the mark of a place
abbrev pub mark_at : List Mark → ℕ → Mark
mark_at marks i = slice_index_or marks i Unseen

abbrev pub is_unseen : Mark → Bool
is_unseen Unseen = true
is_unseen (OnWay j) = false
is_unseen (Known h) = false

-- The marks while the way from `start` is walked: which places are on it, and which heads are known.
pub record AreMarks (targets : List ℕ) (marks : List Mark) (start : ℕ) (way : List ℕ) : Type 0 where
  pub long : length marks ≡ length targets
  pub walked : (j : ℕ) → j < length way → slice_index way j ≡ after (target_at targets) j start
  pub marked : (j : ℕ) → j < length way → mark_at marks (slice_index way j) ≡ OnWay j
  pub on_way : (i j : ℕ) → mark_at marks i ≡ OnWay j → (j < length way) × (slice_index way j ≡ i)
  pub known : (i h : ℕ) → mark_at marks i ≡ Known h → IsHeadOf (target_at targets) i h

-- The marks between two ways: a place has the mark of its head or none, and each place before `upto` has one.
pub record AreSettled (targets : List ℕ) (marks : List Mark) (upto : ℕ) : Type 0 where
  pub long : length marks ≡ length targets
  pub known : (i h : ℕ) → mark_at marks i ≡ Known h → IsHeadOf (target_at targets) i h
  pub off_way : (i j : ℕ) → mark_at marks i ≡ OnWay j → ⊥
  pub seen : (i : ℕ) → i < upto → is_unseen (mark_at marks i) ≡ false

-- what was marked stays marked
abbrev pub StaySeen : List Mark → List Mark → Type 0
StaySeen old new = (i : ℕ) → is_unseen (mark_at old i) ≡ false → is_unseen (mark_at new i) ≡ false
