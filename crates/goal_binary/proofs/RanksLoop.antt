-- Reading ranks one after another, as a loop does.
use Rattle.std.proofs.Common.{◌≡◌, ℕ, suc, ◌-◌, ◌+◌, ◌≤◌, ◌<◌, List, [], ◌∷◌, ◌++◌, length, Ok, Err, refl, sym, ◌∙◌, arith}
use Rattle.std.proofs.lemmas.List.Sums.{sum_by_push}
use Rattle.goal_graph.specs.Schedule.{Plan}
use Rattle.goal_graph.specs.Fault.{op_count, dep_count, note_count}
use Rattle.goal_binary.specs.declared.fault.FileFault.{FileFault}
use Rattle.goal_binary.specs.declared.layout.Layout.{Layout}
use Rattle.goal_binary.specs.Fields.{Read}
use Rattle.goal_binary.specs.Reading.{rank_at, ranks_at}

-- another rank
pub op_count-push : (ps : List Plan) (p : Plan) → op_count (ps ++ p ∷ []) ≡ op_count ps + length p.ops
unfolding op_count
op_count-push ps p = sum_by_push (λ (p : Plan). length p.ops) ps p

pub dep_count-push : (ps : List Plan) (p : Plan) → dep_count (ps ++ p ∷ []) ≡ dep_count ps + length p.deps
unfolding dep_count
dep_count-push ps p = sum_by_push (λ (p : Plan). length p.deps) ps p

pub note_count-push : (ps : List Plan) (p : Plan) → note_count (ps ++ p ∷ []) ≡ note_count ps + length p.notes
unfolding note_count
note_count-push ps p = sum_by_push (λ (p : Plan). length p.notes) ps p

-- without ranks, all counts are 0
pub counts_of_no_ranks : (op_count [] ≡ 0) × (dep_count [] ≡ 0) × (note_count [] ≡ 0)
unfolding op_count dep_count note_count
counts_of_no_ranks = (refl, refl, refl)

module _ (bytes : List ℕ) (layout : Layout) where
  -- the next rank, after those before
  abbrev pub next_rank : List Plan → ℕ → Read Plan
  next_rank before at = rank_at bytes layout (op_count before) (dep_count before) (note_count before) at

  pub ranks_continue_after_rank : (before : List Plan) (count i at : ℕ) (p : Plan) (after : ℕ) (total : Read (List Plan)) → i < count → next_rank before at ≡ Ok (p, after)
      → ranks_at bytes layout (count - i) before at ≡ total → ranks_at bytes layout (count - (i + 1)) (before ++ p ∷ []) after ≡ total
  unfolding ranks_at
  ranks_continue_after_rank before count i at p after total lt h so_far =
      let k : count - i ≡ suc (count - (i + 1)) = omega arith in
      let one : ranks_at bytes layout (count - i) before at ≡ ranks_at bytes layout (count - (i + 1)) (before ++ p ∷ []) after = rw (k, h) refl in
      sym one ∙ so_far

  pub ranks_end_with_fault : (f : FileFault) (before : List Plan) (count i at : ℕ) (total : Read (List Plan)) → i < count → next_rank before at ≡ Err f
      → ranks_at bytes layout (count - i) before at ≡ total → total ≡ Err f
  unfolding ranks_at
  ranks_end_with_fault f before count i at total lt h so_far =
      let k : count - i ≡ suc (count - (i + 1)) = omega arith in
      let one : ranks_at bytes layout (count - i) before at ≡ Err f = rw (k, h) refl in
      sym so_far ∙ one

  pub ranks_done : (before : List Plan) (count i at : ℕ) (total : Read (List Plan)) → count ≤ i → ranks_at bytes layout (count - i) before at ≡ total → total ≡ Ok (before, at)
  unfolding ranks_at
  ranks_done before count i at total le so_far =
      let k : count - i ≡ 0 = omega arith in
      let one : ranks_at bytes layout (count - i) before at ≡ Ok (before, at) = rw k refl in
      sym so_far ∙ one
