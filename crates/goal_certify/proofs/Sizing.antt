-- Which ranks are too large.
use Rattle.std.proofs.Common.{⊎_elim, ℕ, ◌+◌, ◌*◌, ◌^◌, ◌<◌, ◌≤◌, ◌≡◌, ◌⊎◌, inl, inr, List, [], length, take, get_or, slice_get, Contains, All, Some, refl, sym, ap, subst, arith}
use Rattle.std.specs.List.{sum_by, Any}
use Rattle.std.proofs.lemmas.Bool.{cases_lt}
use Rattle.std.proofs.lemmas.List.Elements.{All-contains}
use Rattle.std.proofs.lemmas.Option.{slice_get_past, slice_get_read, slice_get_within, get_or_from_slice_get}
use Rattle.goal_graph.specs.declared.plan.Op.{Op}
use Rattle.goal_graph.specs.declared.plan.Note.{Note}
use Rattle.goal_graph.specs.declared.plan.Note.TheVariants.{Moves, Adds}
use Rattle.std.proofs.lemmas.List.Sums.{sum_by_more}
use Rattle.goal_limits.specs.Limits.{certified_op_limit, slot_limit, moved_limit}
use Rattle.goal_graph.specs.Schedule.{Plan, ops_at}
use Rattle.goal_limits.specs.declared.limits.TheConstants.{MAX_NOTES}
use Rattle.goal_graph.specs.Limits.{AreCountsWithin}
use Rattle.goal_graph.proofs.ForCallers.{lengths-le, ops_at_some}
use Rattle.goal_blocks.specs.declared.cert_fault.CertFault.TheVariants.{TooLarge}
use Rattle.goal_blocks.specs.Slots.{notes_at}
use Rattle.goal_blocks.specs.Certification.{NamesLowSlots, moved_count}
use Rattle.goal_blocks.specs.Faults.{IsLarge, too_many, too_high, too_much}
use Rattle.goal_certify.specs.Stages.{IsStopped}
use Rattle.goal_certify.proofs.StageLemmas.{stopped_by}

abbrev pub moved_of : Plan → ℕ
moved_of p = sum_by moved_count p.notes

pub notes_at_some : (plans : List Plan) (rank : ℕ) (p : Plan) → slice_get plans rank ≡ Some p → notes_at plans rank ≡ p.notes
unfolding notes_at
notes_at_some plans rank p e = rw e refl

no_ops_at : (plans : List Plan) (rank : ℕ) → length plans ≤ rank → ops_at plans rank ≡ []
unfolding ops_at
no_ops_at plans rank past = rw (slice_get_past plans rank past) refl

no_notes_at : (plans : List Plan) (rank : ℕ) → length plans ≤ rank → notes_at plans rank ≡ []
unfolding notes_at
no_notes_at plans rank past = rw (slice_get_past plans rank past) refl

-- the ranks below are not too large
abbrev pub NoneBelow : List Plan → ℕ → Type 0
NoneBelow plans n = (rank : ℕ) → rank < n → IsLarge plans rank → ⊥

module _ (plans : List Plan) where
  pub not_large : (rank : ℕ) (p : Plan) → slice_get plans rank ≡ Some p → length p.ops ≤ certified_op_limit → All NamesLowSlots p.notes → sum_by moved_of (take (rank + 1) plans) ≤ moved_limit → IsLarge plans rank → ⊥
  not_large rank p e few low light (too_many more) = omega (arith, few, more, ap length (ops_at_some plans rank p e))
  not_large rank p e few low light (too_high note c high) =
      high (All-contains NamesLowSlots p.notes note low (subst (λ (ns : List Note). Contains ns note) (notes_at_some plans rank p e) c))
  not_large rank p e few low light (too_much inside more) = omega (arith, light, more)

  pub none_large_below_next_rank : (rank : ℕ) (p : Plan) → NoneBelow plans rank → slice_get plans rank ≡ Some p → length p.ops ≤ certified_op_limit → All NamesLowSlots p.notes → sum_by moved_of (take (rank + 1) plans) ≤ moved_limit → NoneBelow plans (rank + 1)
  none_large_below_next_rank rank p before e few low light other below large =
      ⊎_elim (λ l. before other l large) (λ g. let same : other ≡ rank = omega (arith, below, g) in not_large rank p e few low light (subst (λ (n : ℕ). IsLarge plans n) same large)) (cases_lt other rank)

  pub none_large : (n : ℕ) → NoneBelow plans n → length plans ≤ n → (rank : ℕ) → IsLarge plans rank → ⊥
  none_large n before all rank large =
      ⊎_elim (λ l. before rank (omega (arith, l, all)) large) (λ g. past rank g large) (cases_lt rank (length plans))
    where
      past : (rank : ℕ) → length plans ≤ rank → IsLarge plans rank → ⊥
      past rank g (too_many more) = omega (arith, more, ap length (no_ops_at plans rank g))
      past rank g (too_high note c high) = omega (arith, c.1, ap length (no_notes_at plans rank g))
      past rank g (too_much inside more) = omega (arith, g, inside)

  least_large : (rank : ℕ) → NoneBelow plans rank → IsLarge plans rank → IsStopped plans 0 1 (TooLarge rank)
  least_large rank before large =
      stopped_by plans 0 (TooLarge rank) refl (λ first wanted. record { holds = large; none_less = λ other less q. before other (lesser other less) q })
    where
      lesser : (other : ℕ) → (other < rank) ⊎ ((other ≡ rank) × ⊥) → other < rank
      lesser other (inl l) = l
      lesser other (inr f) = absurd f.1

  -- the three reasons
  pub stopped_by_ops : (rank : ℕ) (p : Plan) → NoneBelow plans rank → slice_get plans rank ≡ Some p → certified_op_limit < length p.ops → IsStopped plans 0 1 (TooLarge rank)
  stopped_by_ops rank p before e more =
      least_large rank before (too_many (subst (λ (os : List Op). certified_op_limit < length os) (sym (ops_at_some plans rank p e)) more))

  pub stopped_by_note : (rank : ℕ) (p : Plan) → NoneBelow plans rank → slice_get plans rank ≡ Some p → Any (λ (n : Note). NamesLowSlots n → ⊥) p.notes → IsStopped plans 0 1 (TooLarge rank)
  stopped_by_note rank p before e any =
      least_large rank before (too_high any.1 (subst (λ (ns : List Note). Contains ns any.1) (sym (notes_at_some plans rank p e)) (any.0, any.2, any.3)) any.4)

  pub stopped_by_moves : (rank : ℕ) (p : Plan) → NoneBelow plans rank → slice_get plans rank ≡ Some p → moved_limit < sum_by moved_of (take (rank + 1) plans) → IsStopped plans 0 1 (TooLarge rank)
  stopped_by_moves rank p before e more =
      least_large rank before (too_much (slice_get_within plans rank p e) more)

-- counting another note
pub low_moves : (n : Note) → NamesLowSlots n → moved_count n ≤ slot_limit + 1
low_moves (Moves op lo hi) low = let l = low.1 in omega (arith, l)
low_moves (Adds op from to) low = omega arith

pub moved_sum_with_next_note : (notes : List Note) (i : ℕ) (d : Note) (count more : ℕ) → i < length notes → count ≡ sum_by moved_count (take i notes) → more ≡ moved_count (get_or notes i d) → count + more ≡ sum_by moved_count (take (i + 1) notes)
moved_sum_with_next_note notes i d count more inside so_far next = omega (arith, so_far, next, sum_by_more moved_count notes i d inside)

pub moved_bound_with_next_note : (note : Note) (i count more : ℕ) → count ≤ i * (slot_limit + 1) → more ≡ moved_count note → NamesLowSlots note → count + more ≤ (i + 1) * (slot_limit + 1)
moved_bound_with_next_note note i count more few next low = omega (arith, few, next, low_moves note low)

-- counting another rank
pub rank_read : (plans read : List Plan) (rank : ℕ) (p : Plan) → read ≡ plans → rank < length read → p ≡ get_or read rank p → slice_get plans rank ≡ Some p
rank_read plans read rank p same inside is =
    subst (λ (ps : List Plan). slice_get ps rank ≡ Some p) same (slice_get_read read (length read) rank p refl inside is)

pub moves_more : (plans : List Plan) (rank : ℕ) (p : Plan) (notes : List Note) (moved count : ℕ) → slice_get plans rank ≡ Some p → moved ≡ sum_by moved_of (take rank plans) → notes ≡ p.notes → count ≡ sum_by moved_count notes → moved + count ≡ sum_by moved_of (take (rank + 1) plans)
moves_more plans rank p notes moved count at so_far same next =
    omega (arith, so_far, next, ap (sum_by moved_count) same, sum_by_more moved_of plans rank p (slice_get_within plans rank p at), ap moved_of (get_or_from_slice_get plans rank p p at))

-- the notes of a rank are no more than all ranks may have
pub few_notes : (plans : List Plan) (rank : ℕ) (p : Plan) → AreCountsWithin plans → slice_get plans rank ≡ Some p → length p.notes ≤ MAX_NOTES
few_notes plans rank p counts at =
    let le = lengths-le plans rank p (slice_get_within plans rank p at) in
    omega (arith, le.notes, counts.notes, ap (λ (q : Plan). length q.notes) (get_or_from_slice_get plans rank p p at))
