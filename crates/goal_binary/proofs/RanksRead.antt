-- Whole ranks are read by readers.
use Rattle.std.proofs.Common.{◌≡◌, ℕ, zero, suc, ◌+◌, ◌≤◌, List, [], ◌∷◌, ◌++◌, length, refl, ap, subst, arith}
use Rattle.std.proofs.lemmas.List.{length-append}
use Rattle.std.proofs.lemmas.List.Sums.{sum_by-append, sum_by-cons}
use Rattle.goal_limits.specs.declared.limits.TheConstants.{MAX_OPS, MAX_DEPS, MAX_NOTES}
use Rattle.goal_graph.specs.declared.plan.Op.{Op}
use Rattle.goal_graph.specs.declared.plan.Dep.{Dep}
use Rattle.goal_graph.specs.declared.plan.Note.{Note}
use Rattle.goal_graph.specs.Schedule.{Plan}
use Rattle.goal_graph.specs.Fault.{op_count, dep_count, note_count}
use Rattle.goal_graph.specs.Limits.{AreCountsWithin}
use Rattle.goal_binary.specs.declared.layout.Layout.{Layout}
use Rattle.goal_binary.specs.Fields.{rank_count_at}
use Rattle.goal_binary.specs.Reading.{list_at, op_at, dep_at, note_at, rank_at, ranks_at, records_at}
use Rattle.goal_binary.proofs.Readers.{Reader, Reads, then, give, then_reads, give_reads, reads_as, reads_weaker}
use Rattle.goal_binary.proofs.NumbersRead.{count_reads, rank_count_reads}
use Rattle.goal_binary.proofs.ItemsRead.{anything, op_reads, dep_reads, note_reads}

-- n items
abbrev pub list_of : {A : Type 0} → Reader A → ℕ → Reader (List A)
list_of item n bytes at = list_at (item bytes) n at

list_reads : {l : Layout} {A : Type 0} (item : Reader A) → Reads l anything item → (n : ℕ) → Reads l (λ (xs : List A). length xs ≡ n) (list_of item n)
unfolding list_at then give
list_reads {l = l} {A = A} item reads zero = reads_as _ (list_of item zero) (λ bytes at. refl) (give_reads {V = λ (xs : List A). length xs ≡ zero} [] refl)
list_reads {l = l} {A = A} item reads (suc n) =
    reads_as _ (list_of item (suc n)) (λ bytes at. refl)
    (then_reads reads (λ x _.
    then_reads (list_reads item reads n) (λ xs len.
    give_reads {V = λ (xs : List A). length xs ≡ suc n} (x ∷ xs) (ap suc len))))

-- the counts of a rank after the ranks before it
pub record AreFew (ops deps notes : ℕ) (p : Plan) : Type 0 where
  pub ops_within : ops + length p.ops ≤ MAX_OPS
  pub deps_within : deps + length p.deps ≤ MAX_DEPS
  pub notes_within : notes + length p.notes ≤ MAX_NOTES

abbrev pub made_plan : List Op → List Dep → List Note → Plan
made_plan ops deps notes = record { ops = ops; deps = deps; notes = notes }

rank_reads : (l : Layout) (ops deps notes : ℕ) → ops ≤ MAX_OPS → deps ≤ MAX_DEPS → notes ≤ MAX_NOTES → Reads l (AreFew ops deps notes) (λ bytes at. rank_at bytes l ops deps notes at)
unfolding rank_at then give
rank_reads l ops deps notes few_ops few_deps few_notes =
    reads_as _ (λ bytes at. rank_at bytes l ops deps notes at) (λ bytes at. refl)
    (then_reads (count_reads l MAX_OPS ops few_ops) (λ op_number op_room.
    then_reads (count_reads l MAX_DEPS deps few_deps) (λ dep_number dep_room.
    then_reads (count_reads l MAX_NOTES notes few_notes) (λ note_number note_room.
    then_reads (list_reads (λ bytes at. op_at bytes l at) (op_reads l) op_number) (λ op_list op_len.
    then_reads (list_reads (λ bytes at. dep_at bytes l at) (dep_reads l) dep_number) (λ dep_list dep_len.
    then_reads (list_reads (λ bytes at. note_at bytes l at) (note_reads l) note_number) (λ note_list note_len.
    give_reads {V = AreFew ops deps notes} (made_plan op_list dep_list note_list) (record {
      ops_within = omega (arith, op_room, op_len);
      deps_within = omega (arith, dep_room, dep_len);
      notes_within = omega (arith, note_room, note_len);
    }))))))))

-- the counts of some ranks
pub record AreWithin (plans : List Plan) : Type 0 where
  pub ops : op_count plans ≤ MAX_OPS
  pub deps : dep_count plans ≤ MAX_DEPS
  pub notes : note_count plans ≤ MAX_NOTES

AreWithin-next : (before : List Plan) (p : Plan) → AreFew (op_count before) (dep_count before) (note_count before) p → AreWithin (before ++ p ∷ [])
unfolding op_count dep_count note_count
AreWithin-next before p few = record {
  ops = omega (arith, few.ops_within, sum_by-append (λ (p : Plan). length p.ops) before (p ∷ []), sum_by-cons (λ (p : Plan). length p.ops) p []);
  deps = omega (arith, few.deps_within, sum_by-append (λ (p : Plan). length p.deps) before (p ∷ []), sum_by-cons (λ (p : Plan). length p.deps) p []);
  notes = omega (arith, few.notes_within, sum_by-append (λ (p : Plan). length p.notes) before (p ∷ []), sum_by-cons (λ (p : Plan). length p.notes) p []);
}

AreWithin-none : AreWithin []
unfolding op_count dep_count note_count
AreWithin-none = record { ops = omega arith; deps = omega arith; notes = omega arith }

-- n ranks whose counts are within the limits
record AreRanks (n : ℕ) (plans : List Plan) : Type 0 where
  count : length plans ≡ n
  within : AreWithin plans

ranks_reads : (l : Layout) (n : ℕ) (before : List Plan) → AreWithin before → Reads l (AreRanks (length before + n)) (λ bytes at. ranks_at bytes l n before at)
unfolding ranks_at then give
ranks_reads l zero before within =
    reads_as _ (λ bytes at. ranks_at bytes l zero before at) (λ bytes at. refl) (give_reads {V = AreRanks (length before + 0)} before (record { count = omega arith; within = within }))
ranks_reads l (suc n) before within =
    reads_as _ (λ bytes at. ranks_at bytes l (suc n) before at) (λ bytes at. refl)
    (then_reads (rank_reads l (op_count before) (dep_count before) (note_count before) within.ops within.deps within.notes)
    (λ p few. let count : length (before ++ p ∷ []) + n ≡ length before + suc n = omega (arith, length-append before (p ∷ [])) in
    subst (λ (k : ℕ). Reads l (AreRanks k) (λ bytes at. ranks_at bytes l n (before ++ p ∷ []) at)) count (ranks_reads l n (before ++ p ∷ []) (AreWithin-next before p few))))

-- what follows the version: the number of ranks, and the ranks
abbrev pub body : Layout → Reader (List Plan)
body l bytes at = records_at bytes l at

pub records_are_count_then_ranks : (l : Layout) (bytes : List ℕ) (at : ℕ) → records_at bytes l at ≡ then (λ bytes at. rank_count_at bytes l at) (λ n bytes at. ranks_at bytes l n [] at) bytes at
unfolding records_at then
records_are_count_then_ranks l bytes at = refl

pub body_reads : (l : Layout) → Reads l AreCountsWithin (body l)
body_reads l =
    reads_as (then (λ bytes at. rank_count_at bytes l at) (λ n bytes at. ranks_at bytes l n [] at)) (body l) (records_are_count_then_ranks l)
    (then_reads (rank_count_reads l) (λ n count. reads_weaker (AreRanks (0 + n)) AreCountsWithin (λ bytes at. ranks_at bytes l n [] at) (λ plans ranks. record {
      some_rank = omega (arith, count.some, ranks.count);
      ranks = omega (arith, count.within, ranks.count);
      ops = ranks.within.ops;
      deps = ranks.within.deps;
      notes = ranks.within.notes;
    }) (ranks_reads l n [] AreWithin-none)))
