-- The canonical text of plans, read block by block.
use Rattle.std.proofs.Common.{◌≡◌, ℕ, suc, ◌+◌, ◌^◌, ◌<◌, ◌≤◌, false, List, [], ◌∷◌, ◌++◌, length, map, replicate, nat_eq, slice_set, refl, sym, ap, subst, ◌∙◌, arith, append_assoc, length-append}
use Rattle.std.specs.List.{AllByRecursion, list_any}
use Rattle.std.proofs.lemmas.List.Sums.{sum_by-cons}
use Rattle.std.proofs.Math.Seq.{set-append_seam}
use Rattle.std.proofs.lemmas.List.Folds.{list_any-append}
use Rattle.std.proofs.lemmas.Bool.Decides.{nat_tests}
use Rattle.goal_lexer.specs.declared.tokens.TokenKind.{TokenKind}
use Rattle.goal_lexer.specs.declared.tokens.TokenKind.TheVariants as token
use Rattle.goal_limits.specs.declared.limits.TheConstants.{MAX_RANKS, MAX_OPS, MAX_DEPS, MAX_NOTES}
use Rattle.goal_graph.specs.declared.plan.Op.{Op}
use Rattle.goal_graph.specs.declared.plan.Dep.{Dep}
use Rattle.goal_graph.specs.declared.plan.Note.{Note}
use Rattle.goal_graph.specs.Schedule.{Plan}
use Rattle.goal_graph.specs.Fault.{op_count, dep_count, note_count}
use Rattle.goal_parser.specs.declared.faults.TextFault.TheVariants as fault
use Rattle.goal_parser.specs.declared.sentence.State.{State}
use Rattle.goal_parser.specs.declared.sentence.State.TheVariants as state
use Rattle.goal_parser.specs.declared.counts.Counts.{Counts}
use Rattle.goal_parser.specs.Sentence.{state_of}
use Rattle.goal_parser.specs.Ranks.{ranks_of, blocks_of, rank_of}
use Rattle.goal_parser.specs.Actions.{draft_of}
use Rattle.goal_parser.specs.Counts.{counts_of}
use Rattle.goal_parser.specs.Items.{head_of, ops_of, ends_action, defined_of, deps_of, notes_of, used_of, dep_by, note_by}
use Rattle.goal_parser.specs.Plans.{empty_plan, plans_of}
use Rattle.goal_print.proofs.Fits.{PlanFits}
use Rattle.goal_print.proofs.TextKinds.{ops_kinds, deps_kinds, notes_kinds, block_kinds, unless_no_ops, blocks_kinds, canonical_kinds}
use Rattle.goal_print.proofs.Seen.{Seen, seen_of, step, fault_in, ends, next, ops_now, plan_now, Good, at_close, close_read, passes_number, passes_rank}
use Rattle.goal_print.proofs.LabelLaws.{Knows, knows_no_labels}
use Rattle.goal_print.proofs.BlocksRead.{Frame, IsRoom, ops_read, items_begin, deps_read, notes_read}

-- No block is open. The ranks from this number on have had no block, and these plans are read.
pub record InTop (s : Seen) (ranks rank : ℕ) (plans : List Plan) : Type 0 where
  pub top : s.state ≡ state.Top
  pub no_ops : s.ops ≡ []
  pub no_names : s.defined ≡ []
  pub no_deps : s.deps ≡ []
  pub no_notes : s.notes ≡ []
  pub no_uses : s.used ≡ []
  pub ranks_are : s.ranks ≡ ranks
  pub fresh : (i : ℕ) → rank ≤ i → list_any (nat_eq i) s.blocks ≡ false
  pub plans_are : s.plans ≡ plans

-- the state after the beginning of a block
abbrev pub at_open : Seen → ℕ → Seen
at_open s rank = record s { state = state.Item; blocks = s.blocks ++ rank ∷ []; rank = rank }

open_read : (s : Seen) (rank : ℕ) (kinds : List TokenKind) (plans : List Plan) → s.state ≡ state.Top → rank < s.ranks → rank < 2 ^ 32
    → list_any (nat_eq rank) s.blocks ≡ false → Good (at_open s rank) kinds plans
    → Good s (token.Rank ∷ token.Number rank ∷ token.Open ∷ kinds) plans
unfolding step fault_in
open_read s rank kinds plans top below fits fresh good =
    subst (λ (st : State). Good (record s { state = st }) (token.Rank ∷ token.Number rank ∷ token.Open ∷ kinds) plans) (sym top) (
    next (λ a b. refl) (λ a b.
    next (λ a b. passes_rank rank s.ranks s.blocks a below fits fresh) (λ a b.
    next (λ a b. refl) (λ a b. good))))

rank_stays_without_block : (blocks : List ℕ) (rank i : ℕ) → list_any (nat_eq i) blocks ≡ false → rank < i → list_any (nat_eq i) (blocks ++ rank ∷ []) ≡ false
rank_stays_without_block blocks rank i fresh above =
    let other : nat_eq i rank ≡ false = grind (arith, nat_tests) in
    list_any-append (nat_eq i) blocks (rank ∷ []) ∙ rw (fresh, other)

-- a block
block_read : (s : Seen) (ranks rank : ℕ) (p : Plan) (ps : List Plan) (ops deps notes : ℕ) (kinds : List TokenKind) (plans : List Plan)
    → rank < ranks → ranks < 2 ^ 32 → PlanFits p → InTop s ranks rank ps
    → IsRoom s.counts (ops + length p.ops) (deps + length p.deps) (notes + length p.notes)
    → ((t : Seen) → InTop t ranks (rank + 1) (slice_set ps rank p) → IsRoom t.counts ops deps notes → Good t kinds plans)
    → Good s (block_kinds rank p kinds) plans
unfolding ends_action
block_read s ranks rank p ps ops deps notes kinds plans below small fits h room good =
    let frame : Frame = record { ranks = s.ranks; blocks = s.blocks ++ rank ∷ []; rank = rank; plans = s.plans } in
    open_read s rank (ops_kinds 0 p.ops (deps_kinds p.deps (notes_kinds p.notes (token.Close ∷ kinds)))) plans h.top
    (omega (arith, h.ranks_are)) (omega arith) (h.fresh rank (omega arith))
    (ops_read p.ops (at_open s rank) frame [] 0 ops (deps + length p.deps) (notes + length p.notes) (deps_kinds p.deps (notes_kinds p.notes (token.Close ∷ kinds))) plans
    refl (omega (arith, fits.few)) fits.ops (record {
      begins = tt;
      ops_are = h.no_ops;
      knows = subst (λ l. Knows l 0) (sym h.no_names) knows_no_labels;
      no_deps = h.no_deps;
      no_notes = h.no_notes;
      no_uses = h.no_uses;
      frame_is = refl;
      room = room;
    })
    (λ t h1. deps_read p.deps t frame p.ops [] ops deps (notes + length p.notes) (notes_kinds p.notes (token.Close ∷ kinds)) plans
    fits.deps (items_begin t frame p.ops ops (deps + length p.deps) (notes + length p.notes) h1)
    (λ u h2. notes_read p.notes u frame p.ops p.deps [] ops deps notes (token.Close ∷ kinds) plans fits.notes h2
    (λ v h3. close_read v kinds plans h3.begins h3.known (good (at_close v) (record {
      top = refl;
      no_ops = refl;
      no_names = refl;
      no_deps = refl;
      no_notes = refl;
      no_uses = refl;
      ranks_are = ap (λ (f : Frame). f.ranks) h3.frame_is ∙ h.ranks_are;
      fresh = λ i above. ap (λ (f : Frame). list_any (nat_eq i) f.blocks) h3.frame_is ∙ rank_stays_without_block s.blocks rank i (h.fresh i (omega arith)) (omega arith);
      plans_are =
          ap (λ (f : Frame). slice_set f.plans f.rank (plan_now v)) h3.frame_is
          ∙ ap (λ (l : List Plan). slice_set l rank (plan_now v)) h.plans_are
          ∙ ap (slice_set ps rank) (plan_is v p h3.ops_are h3.deps_are h3.notes_are);
    }) h3.room)))))
  where
    plan_is : (v : Seen) (p : Plan) → ops_now v ≡ p.ops → map (dep_by v.defined) v.deps ≡ p.deps → map (note_by v.defined) v.notes ≡ p.notes → plan_now v ≡ p
    plan_is v p ops_are deps_are notes_are =
        ap (λ (l : List Op). record { ops = l; deps = (plan_now v).deps; notes = (plan_now v).notes }) ops_are
        ∙ ap (λ (l : List Dep). record { ops = p.ops; deps = l; notes = (plan_now v).notes }) deps_are
        ∙ ap (λ (l : List Note). record { ops = p.ops; deps = p.deps; notes = l }) notes_are

-- the plans so far, and empty ones for the ranks that follow

abbrev pub with_empty : List Plan → ℕ → List Plan
with_empty done n = done ++ replicate n empty_plan

set_plan_of_next_rank : (done : List Plan) (rank : ℕ) (p : Plan) (n : ℕ) → length done ≡ rank → slice_set (with_empty done (suc n)) rank p ≡ with_empty (done ++ p ∷ []) n
set_plan_of_next_rank done rank p n long =
    ap (λ (i : ℕ). slice_set (with_empty done (suc n)) i p) (sym long)
    ∙ set-append_seam done empty_plan (replicate n empty_plan) p
    ∙ sym (append_assoc done (p ∷ []) (replicate n empty_plan))

keep_empty_plan_of_next_rank : (done : List Plan) (p : Plan) (n : ℕ) → p ≡ empty_plan → with_empty done (suc n) ≡ with_empty (done ++ p ∷ []) n
keep_empty_plan_of_next_rank done p n is =
    ap (λ (q : Plan). done ++ q ∷ replicate n empty_plan) (sym is) ∙ sym (append_assoc done (p ∷ []) (replicate n empty_plan))

InTop-later : (s : Seen) (ranks rank : ℕ) (ps qs : List Plan) → ps ≡ qs → InTop s ranks rank ps → InTop s ranks (rank + 1) qs
InTop-later s ranks rank ps qs same h = record {
  top = h.top;
  no_ops = h.no_ops;
  no_names = h.no_names;
  no_deps = h.no_deps;
  no_notes = h.no_notes;
  no_uses = h.no_uses;
  ranks_are = h.ranks_are;
  fresh = λ i above. h.fresh i (omega arith);
  plans_are = h.plans_are ∙ same;
}

op_count-cons : (p : Plan) (ps : List Plan) → op_count (p ∷ ps) ≡ op_count ps + length p.ops
unfolding op_count
op_count-cons p ps = sum_by-cons (λ (q : Plan). length q.ops) p ps ∙ omega arith

dep_count-cons : (p : Plan) (ps : List Plan) → dep_count (p ∷ ps) ≡ dep_count ps + length p.deps
unfolding dep_count
dep_count-cons p ps = sum_by-cons (λ (q : Plan). length q.deps) p ps ∙ omega arith

note_count-cons : (p : Plan) (ps : List Plan) → note_count (p ∷ ps) ≡ note_count ps + length p.notes
unfolding note_count
note_count-cons p ps = sum_by-cons (λ (q : Plan). length q.notes) p ps ∙ omega arith

IsRoom-rest : (counts : Counts) (p : Plan) (ps : List Plan) → IsRoom counts (op_count (p ∷ ps)) (dep_count (p ∷ ps)) (note_count (p ∷ ps))
    → IsRoom counts (op_count ps + length p.ops) (dep_count ps + length p.deps) (note_count ps + length p.notes)
IsRoom-rest counts p ps room = record {
  ops_fit = let fit = room.ops_fit in omega (arith, op_count-cons p ps);
  deps_fit = let fit = room.deps_fit in omega (arith, dep_count-cons p ps);
  notes_fit = let fit = room.notes_fit in omega (arith, note_count-cons p ps);
}

IsRoom-fewer : (counts : Counts) (a b c d e f : ℕ) → IsRoom counts (a + d) (b + e) (c + f) → IsRoom counts a b c
IsRoom-fewer counts a b c d e f room = record {
  ops_fit = let fit = room.ops_fit in omega arith;
  deps_fit = let fit = room.deps_fit in omega arith;
  notes_fit = let fit = room.notes_fit in omega arith;
}

-- the block of a rank, or nothing if it has no operations
module _ (p : Plan) (more : List Plan) (s : Seen) (ranks rank : ℕ) (done plans : List Plan) (long : length done ≡ rank) (below : rank < ranks) (small : ranks < 2 ^ 32)
    (fits : PlanFits p) (h : InTop s ranks rank (with_empty done (suc (length more))))
    (rest : (t : Seen) → InTop t ranks (rank + 1) (with_empty (done ++ p ∷ []) (length more)) → IsRoom t.counts (op_count more) (dep_count more) (note_count more)
    → Good t (blocks_kinds (rank + 1) more) plans) where
  rank_read : (os : List Op) → p.ops ≡ os → IsRoom s.counts (op_count more + length p.ops) (dep_count more + length p.deps) (note_count more + length p.notes)
      → Good s (unless_no_ops os (block_kinds rank p (blocks_kinds (rank + 1) more)) (blocks_kinds (rank + 1) more)) plans
  rank_read [] none room =
      rest s (InTop-later s ranks rank (with_empty done (suc (length more))) (with_empty (done ++ p ∷ []) (length more)) (keep_empty_plan_of_next_rank done p (length more) (fits.nothing none)) h)
      (IsRoom-fewer s.counts (op_count more) (dep_count more) (note_count more) (length p.ops) (length p.deps) (length p.notes) room)
  rank_read (o ∷ os) some room =
      block_read s ranks rank p (with_empty done (suc (length more))) (op_count more) (dep_count more) (note_count more) (blocks_kinds (rank + 1) more) plans
      below small fits h room
      (λ t h2 room2. rest t (subst (InTop t ranks (rank + 1)) (set_plan_of_next_rank done rank p (length more) long) h2) room2)

-- all blocks
blocks_read : (more : List Plan) (s : Seen) (ranks rank : ℕ) (done : List Plan) → length done ≡ rank → rank + length more ≡ ranks → ranks < 2 ^ 32
    → AllByRecursion PlanFits more → InTop s ranks rank (with_empty done (length more))
    → IsRoom s.counts (op_count more) (dep_count more) (note_count more)
    → Good s (blocks_kinds rank more) (done ++ more)
blocks_read [] s ranks rank done long all small fits h room = ends (h.top, h.plans_are)
blocks_read (p ∷ more) s ranks rank done long all small fits h room =
    rank_read p more s ranks rank done (done ++ p ∷ more) long (omega arith) small fits.0 h
    (λ t h2 room2. subst (Good t (blocks_kinds (rank + 1) more)) (append_assoc done (p ∷ []) more)
    (blocks_read more t ranks (rank + 1) (done ++ p ∷ []) (omega (arith, length-append done (p ∷ []), long)) (omega arith) small fits.1 h2 room2))
    p.ops refl (IsRoom-rest s.counts p more room)

-- the whole text
pub canonical_read : (plans : List Plan) → 0 < length plans → length plans ≤ MAX_RANKS → op_count plans ≤ MAX_OPS → dep_count plans ≤ MAX_DEPS → note_count plans ≤ MAX_NOTES
    → AllByRecursion PlanFits plans → Good (seen_of []) (canonical_kinds plans) plans
unfolding step fault_in state_of draft_of ranks_of blocks_of rank_of head_of ops_of defined_of deps_of notes_of used_of counts_of plans_of
canonical_read plans some few ops deps notes fits =
    next (λ a b. refl) (λ a b.
    next (λ a b. passes_number 1 (length plans) MAX_RANKS (fault.Number a) some few) (λ c d.
    let first : Seen = step (record { kind = token.NumRanks; start = a; end = b }) (seen_of []) in
    let second : Seen = step (record { kind = token.Number (length plans); start = c; end = d }) first in
    blocks_read plans second (length plans) 0 [] refl (omega arith) (omega arith) fits
    (record {
      top = refl;
      no_ops = refl;
      no_names = refl;
      no_deps = refl;
      no_notes = refl;
      no_uses = refl;
      ranks_are = refl;
      fresh = λ i above. refl;
      plans_are = refl;
    })
    (record { ops_fit = omega arith; deps_fit = omega arith; notes_fit = omega arith })))
