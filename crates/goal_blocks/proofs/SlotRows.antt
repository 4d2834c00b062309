-- The rows of a table of slots.
use Rattle.std.proofs.Common.{ℕ, ◌≡◌, ◌≢◌, ◌+◌, ◌-◌, ◌<◌, ◌≤◌, List, [], ◌∷◌, ◌++◌, length, get_or, take, drop, flat_map, refl, ap, sym, ◌∙◌, subst, arith, ⊎_elim, length-append, length-drop, append_assoc, append-nil, ne_eqb, inl, inr}
use Rattle.std.specs.Prelude.{slice_range}
use Rattle.std.proofs.lemmas.Bool.{cases_lt}
use Rattle.std.proofs.lemmas.List.{get_or_append_left, get_or_push, drop_at, drop-append-le, take_all, take-append-le}
use Rattle.goal_graph.specs.declared.action.OpId.{OpId}
use Rattle.goal_graph.specs.declared.plan.Note.{Note}
use Rattle.goal_graph.specs.declared.plan.Note.TheVariants.{Moves, Adds}
use Rattle.goal_graph.specs.Schedule.{Plan}
use Rattle.goal_graph.specs.Fault.{IsOp}
use Rattle.goal_blocks.specs.declared.slot_table.RankSlots.{RankSlots}
use Rattle.goal_blocks.specs.Slots.{added_by, slots, adds}
use Rattle.goal_blocks.specs.SlotRanges.{slots_in, ranges_by}
use Rattle.goal_blocks.specs.SlotTables.{op_of, IsRowed, IsRowPushed}
use Rattle.goal_blocks.specs.RankSlots.{AreListed, AreTabled}
use Rattle.goal_blocks.proofs.SlotLists.{flat_map_of_next_note, rank_below, op_below, slots_of_existing_op, adds_of_existing_op}
use Rattle.goal_blocks.proofs.SlotRanges.{slots_by_ranges}

module _ {A : Type 0} where
  -- appending does not change a slice of the old entries
  slice_unchanged_by_append : (entries more : List A) (i j : ℕ) → i ≤ j → j ≤ length entries → slice_range (entries ++ more) i j ≡ slice_range entries i j
  slice_unchanged_by_append entries more i j low high =
      ap (take (j - i)) (drop-append-le i entries more (omega (arith, low, high)))
      ∙ take-append-le (j - i) (drop i entries) more (omega (arith, low, high, length-drop i entries))

  part_last : (entries more : List A) (i j : ℕ) → i ≡ length entries → j ≡ length (entries ++ more) → slice_range (entries ++ more) i j ≡ more
  part_last entries more i j from to =
      ap (take (j - i)) (drop_at entries more i (sym from))
      ∙ take_all (j - i) more (omega (arith, from, to, length-append entries more))

  -- appending the row of the next operation
  pub row_more : (row : ℕ → List A) (count : ℕ) (starts : List ℕ) (old new : List A) (n : ℕ) → IsRowed row count starts old → new ≡ old ++ row count → n ≡ length new → IsRowed row (count + 1) (starts ++ n ∷ []) new
  row_more row count starts old new n r pushed at = record {
    one_each = omega (arith, length-append starts (n ∷ []), r.one_each);
    end = last ∙ at;
    ordered = λ k l.
        elim (cases_lt k count) [
          | inl before ↦ omega (arith, below k l, below (k + 1) (omega (arith, before)), r.ordered k before)
          | inr after ↦
              let here : k ≡ count = omega (arith, after, l) in
              rw here (omega (arith, below count (omega arith), last, r.end, longer))
        ];
    within = λ k l.
        elim (cases_lt k count) [
          | inl before ↦ omega (arith, below (k + 1) (omega (arith, before)), r.within k before, longer, at)
          | inr after ↦
              let here : k ≡ count = omega (arith, after, l) in
              rw here (omega (arith, last, at))
        ];
    each = λ k l.
        elim (cases_lt k count) [
          | inl before ↦
              rw (below k l, below (k + 1) (omega (arith, before)), pushed)
              (slice_unchanged_by_append old (row count) (get_or starts k 0) (get_or starts (k + 1) 0) (r.ordered k before) (r.within k before) ∙ r.each k before)
          | inr after ↦
              let here : k ≡ count = omega (arith, after, l) in
              rw (here, below count (omega arith), last)
              (ap (λ (xs : List A). slice_range xs (get_or starts count 0) n) pushed ∙ part_last old (row count) (get_or starts count 0) n r.end (at ∙ ap length pushed))
        ];
  }
    where
      below : (k : ℕ) → k < count + 1 → get_or (starts ++ n ∷ []) k 0 ≡ get_or starts k 0
      below k l = get_or_append_left starts (n ∷ []) 0 k (omega (arith, l, r.one_each))

      last : get_or (starts ++ n ∷ []) (count + 1) 0 ≡ n
      last = get_or_push starts n 0 (count + 1) r.one_each

      longer : length old ≤ n
      longer = omega (arith, at, ap length pushed, length-append old (row count))

  pub row_pushed : (row : ℕ → List A) (count : ℕ) (starts more : List ℕ) (old new : List A) (n : ℕ) → IsRowed row count starts old → new ≡ old ++ row count → n ≡ length new → more ≡ starts ++ n ∷ [] → IsRowed row (count + 1) more new
  row_pushed row count starts more old new n r pushed at m = rw m (row_more row count starts old new n r pushed at)

  pub row_same : (f g : ℕ → List A) (count : ℕ) (starts : List ℕ) (entries : List A) → ((k : ℕ) → k < count → f k ≡ g k) → IsRowed f count starts entries → IsRowed g count starts entries
  row_same f g count starts entries same r = record {
    one_each = r.one_each;
    end = r.end;
    ordered = r.ordered;
    within = r.within;
    each = λ k l. r.each k l ∙ same k l;
  }

  -- The notes before the place `at` are listed. They are those of the operations below `op`.
  pub record IsListedSoFar (of : ℕ → Note → List A) (notes : List Note) (at op : ℕ) (starts : List ℕ) (entries : List A) : Type 0 where
    pub rows : IsRowed (λ k. flat_map (of k) (take at notes)) op starts entries
    pub none : (k : ℕ) → op ≤ k → flat_map (of k) (take at notes) ≡ []

  pub listed_so_far_with_next_op : (of : ℕ → Note → List A) (notes : List Note) (at next op : ℕ) (starts more : List ℕ) (old new : List A) (n : ℕ) → IsListedSoFar of notes at op starts old → IsRowPushed of notes at next op old new → n ≡ length new → more ≡ starts ++ n ∷ [] → IsListedSoFar of notes next (op + 1) more new
  listed_so_far_with_next_op of notes at next op starts more old new n s p e m = record {
    rows =
        row_pushed (λ k. flat_map (of k) (take next notes)) op starts more old new n (row_same (λ k. flat_map (of k) (take at notes)) (λ k. flat_map (of k) (take next notes)) op starts old (λ k l. sym (p.others k (λ is. omega (arith, l, is)))) s.rows) p.pushed e m;
    none = λ k l. p.others k (λ is. omega (arith, l, is)) ∙ s.none k (omega (arith, l));
  }

  -- all notes are listed
  pub listed_so_far_is_all : (of : ℕ → Note → List A) (notes all : List Note) (at op count : ℕ) (starts : List ℕ) (entries : List A) → length notes ≤ at → notes ≡ all → op ≡ count → IsListedSoFar of notes at op starts entries → IsRowed (λ k. flat_map (of k) all) count starts entries
  listed_so_far_is_all of notes all at op count starts entries past same last s =
      subst (λ (n : ℕ). IsRowed (λ k. flat_map (of k) all) n starts entries) last (subst (λ (ns : List Note). IsRowed (λ k. flat_map (of k) ns) op starts entries) (take_all at notes past ∙ same) s.rows)

  -- another note
  pub row_pushed_with_next_note : (of : ℕ → Note → List A) (notes : List Note) (at next op : ℕ) (d : Note) (old now new : List A) → ((n : Note) (k : ℕ) → k ≢ op_of n → of k n ≡ []) → next < length notes → op_of (get_or notes next d) ≡ op → IsRowPushed of notes at next op old now → new ≡ now ++ of (op_of (get_or notes next d)) (get_or notes next d) → IsRowPushed of notes at (next + 1) op old new
  row_pushed_with_next_note of notes at next op d old now new apart inside own p pushed = record {
    pushed =
        pushed ∙ ap (λ (xs : List A). xs ++ of (op_of note) note) p.pushed ∙ append_assoc old (flat_map (of op) (take next notes)) (of (op_of note) note)
        ∙ ap (λ (k : ℕ). old ++ (flat_map (of op) (take next notes) ++ of k note)) own
        ∙ ap (λ (xs : List A). old ++ xs) (sym (flat_map_of_next_note (of op) notes next d inside));
    others = λ k other.
        flat_map_of_next_note (of k) notes next d inside
        ∙ ap (λ (xs : List A). flat_map (of k) (take next notes) ++ xs) (apart note k (λ same. other (same ∙ own)))
        ∙ append-nil (flat_map (of k) (take next notes)) ∙ p.others k other;
  }
    where
      note : Note
      note = get_or notes next d

-- a note adds nothing to the rows of other operations
pub ranges_apart : (note : Note) (k : ℕ) → k ≢ op_of note → ranges_by k note ≡ []
ranges_apart (Moves op lo hi) k other = rw (ne_eqb op k (λ same. other (sym same))) refl
ranges_apart (Adds op from to) k other = refl

pub added_apart : (note : Note) (k : ℕ) → k ≢ op_of note → added_by k note ≡ []
added_apart (Moves op lo hi) k other = refl
added_apart (Adds op from to) k other = rw (ne_eqb op k (λ same. other (sym same))) refl

abbrev no_plan : Plan
no_plan = record { ops = []; deps = []; notes = [] }

module _ (plans now : List Plan) (ranks : List RankSlots) (same : plans ≡ now) (t : AreTabled plans ranks) (x : OpId) (is : IsOp now x) where
  tabled : AreTabled now ranks
  tabled = subst (λ (ps : List Plan). AreTabled ps ranks) same t

  pub rank_within_table : x.rank < length ranks
  rank_within_table = let low = rank_below now x is in omega (arith, low, tabled.one_each)

  module _ (v : RankSlots) (row : v ≡ get_or ranks x.rank v) where
    of_rank : AreListed (get_or now x.rank no_plan) v
    of_rank =
        subst (λ (w : RankSlots). AreListed (get_or now x.rank no_plan) w) (sym row) (tabled.each x.rank no_plan v (rank_below now x is))

    pub moved_inside : x.op + 1 < length v.moved_starts.items
    moved_inside = let low = op_below now x is no_plan in omega (arith, low, of_rank.moves.one_each)

    pub moved_ordered : get_or v.moved_starts.items x.op 0 ≤ get_or v.moved_starts.items (x.op + 1) 0
    moved_ordered = of_rank.moves.ordered x.op (op_below now x is no_plan)

    pub moved_within : get_or v.moved_starts.items (x.op + 1) 0 ≤ length v.moved.items
    moved_within = of_rank.moves.within x.op (op_below now x is no_plan)

    pub row_slots : slots_in (slice_range v.moved.items (get_or v.moved_starts.items x.op 0) (get_or v.moved_starts.items (x.op + 1) 0)) ≡ slots now x
    row_slots = ap slots_in (of_rank.moves.each x.op (op_below now x is no_plan)) ∙ slots_by_ranges x.op (get_or now x.rank no_plan).notes ∙ sym (slots_of_existing_op now x is no_plan)

    pub added_inside : x.op + 1 < length v.added_starts.items
    added_inside = let low = op_below now x is no_plan in omega (arith, low, of_rank.sums.one_each)

    pub added_ordered : get_or v.added_starts.items x.op 0 ≤ get_or v.added_starts.items (x.op + 1) 0
    added_ordered = of_rank.sums.ordered x.op (op_below now x is no_plan)

    pub added_within : get_or v.added_starts.items (x.op + 1) 0 ≤ length v.added.items
    added_within = of_rank.sums.within x.op (op_below now x is no_plan)

    pub row_adds : slice_range v.added.items (get_or v.added_starts.items x.op 0) (get_or v.added_starts.items (x.op + 1) 0) ≡ adds now x
    row_adds = of_rank.sums.each x.op (op_below now x is no_plan) ∙ sym (adds_of_existing_op now x is no_plan)

pub no_ranks : (plans : List Plan) (ranks : List RankSlots) → plans ≡ [] → ranks ≡ [] → AreTabled plans ranks
no_ranks plans ranks p m = record {
  one_each = ap length m ∙ sym (ap length p);
  each = λ r q v l. absurd (let none = ap length p in omega (arith, l, none));
}

-- appending a rank
pub tabled_with_next_rank : (plans : List Plan) (p : Plan) (ranks : List RankSlots) (m : RankSlots) → AreTabled plans ranks → AreListed p m → AreTabled (plans ++ p ∷ []) (ranks ++ m ∷ [])
tabled_with_next_rank plans p ranks m t listed = record {
  one_each = omega (arith, length-append ranks (m ∷ []), length-append plans (p ∷ []), t.one_each);
  each = λ r q v l. ⊎_elim (λ before.
      rw (get_or_append_left plans (p ∷ []) q r before, get_or_append_left ranks (m ∷ []) v r (omega (arith, before, t.one_each))) (t.each r q v before)) (λ after.
      let here : r ≡ length plans = omega (arith, l, after, length-append plans (p ∷ [])) in
      rw (here, get_or_push plans p q (length plans) refl, get_or_push ranks m v (length plans) t.one_each) listed) (cases_lt r (length plans));
}
