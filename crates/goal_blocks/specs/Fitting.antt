-- When a schedule that is given by entries is accepted: what each entry must be, and how many there may be.
use Rattle.std.specs.Prelude.{ℕ, ◌≡◌, ◌+◌, ◌<◌, ◌≤◌, true, false, length, All}
use Rattle.std.specs.List.{sum_by, range_with_len}
use Rattle.goal_limits.specs.Limits.{rank_limit, op_limit, dep_limit, note_limit}
use Rattle.goal_graph.specs.Fault.{value_fits, has_peer, is_calc, IsAccepted}
use Rattle.goal_blocks.specs.Slots.{Adding}
use Rattle.goal_blocks.specs.Entries.{Entry, Span, made_by}

-- the entry may be number i of a rank, if there are `ranks` ranks
pub record IsFitting (ranks i : ℕ) (e : Entry) : Type 0 where
  -- its size or duration is within the limit
  pub value : value_fits e.kind 0 ≡ true
  -- its peer is a rank
  pub peer : has_peer ranks e.kind ≡ true
  -- it needs only operations of lower numbers
  pub lower : All (λ (k : ℕ). k < i) e.needs
  -- a calc moves no slots, and other operations move ranges in order
  pub moves : All (λ (s : Span). (is_calc e.kind ≡ false) × (s.lo ≤ s.hi)) e.moves
  -- only a calc adds slots
  pub adds : All (λ (a : Adding). is_calc e.kind ≡ true) e.adds

-- the number of needs in the entries of all ranks, and the number of their notes
unfoldable pub need_total : ℕ → (ℕ → ℕ) → (ℕ → ℕ → Entry) → ℕ
need_total ranks count e =
    sum_by (λ (r : ℕ). sum_by (λ (i : ℕ). length (e r i).needs) (range_with_len 0 (count r))) (range_with_len 0 ranks)

unfoldable pub note_total : ℕ → (ℕ → ℕ) → (ℕ → ℕ → Entry) → ℕ
note_total ranks count e =
    sum_by (λ (r : ℕ). sum_by (λ (i : ℕ). length (e r i).moves + length (e r i).adds) (range_with_len 0 (count r))) (range_with_len 0 ranks)

-- there are ranks, not too many, each entry fits, and there are not too many entries, needs and notes
pub record AreFitting (ranks : ℕ) (count : ℕ → ℕ) (e : ℕ → ℕ → Entry) : Type 0 where
  pub some_rank : 0 < ranks
  pub few_ranks : ranks ≤ rank_limit
  pub few_ops : sum_by count (range_with_len 0 ranks) ≤ op_limit
  pub few_needs : need_total ranks count e ≤ dep_limit
  pub few_notes : note_total ranks count e ≤ note_limit
  pub each : (r i : ℕ) → r < ranks → i < count r → IsFitting ranks i (e r i)

-- The law: a schedule whose entries fit is accepted.
abbrev pub FittingIsAccepted : Type 0
FittingIsAccepted = (ranks : ℕ) (count : ℕ → ℕ) (e : ℕ → ℕ → Entry) → AreFitting ranks count e → IsAccepted (made_by ranks count e)
