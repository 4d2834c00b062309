-- How many slots operations move.
use Rattle.std.proofs.Common.{⊎_elim, ℕ, suc, ◌+◌, ◌-◌, ◌*◌, ◌^◌, ◌<◌, ◌≤◌, ◌≡◌, ◌≢◌, List, [], ◌∷◌, ◌++◌, length, map, take, get_or, set, slice_get, Some, eq-eqb, refl, sym, ap, ◌∙◌, subst, arith, add-zero, zero-add, append-nil, append_assoc, get_or-set_same, get_or-set_other}
use Rattle.std.specs.List.{sum_by, flat_map}
use Rattle.std.proofs.lemmas.Bool.{cases_eq, ne_eqb}
use Rattle.std.proofs.lemmas.List.{get_or_default, length-set, length-take-le, map-append, take_more}
use Rattle.std.proofs.lemmas.List.Concat.{length-flat_map}
use Rattle.std.proofs.lemmas.List.Sums.{sum_by_more}
use Rattle.std.proofs.lemmas.Option.{slice_get_within, get_or_from_slice_get}
use Rattle.goal_graph.specs.declared.action.OpId.{OpId}
use Rattle.goal_graph.specs.declared.plan.Op.{Op}
use Rattle.goal_graph.specs.declared.plan.Note.{Note}
use Rattle.goal_graph.specs.declared.plan.Note.TheVariants.{Moves, Adds}
use Rattle.goal_graph.specs.Schedule.{Plan, places_of_rank, places_from, operations}
use Rattle.goal_blocks.specs.Slots.{moved_by, slots}
use Rattle.goal_blocks.specs.Certification.{moved_count}
use Rattle.goal_blocks.proofs.ForCallers.{length_of_slots_from}
use Rattle.goal_certify.proofs.Sizing.{notes_at_some}

moved_length_of_named_op : (op of lo hi : ℕ) → of ≡ op → length (moved_by op (Moves of lo hi)) ≡ hi + 1 - lo
moved_length_of_named_op op of lo hi e = rw (eq-eqb of op e) (length_of_slots_from lo (hi + 1 - lo))

moved_length_of_other_op : (op of lo hi : ℕ) → of ≢ op → length (moved_by op (Moves of lo hi)) ≡ 0
moved_length_of_other_op op of lo hi differ = rw (ne_eqb of op differ) refl

-- how many slots of an operation a note names
abbrev pub moved_slots : ℕ → Note → ℕ
moved_slots op note = length (moved_by op note)

-- the first i notes are counted
pub record AreCounted (ops : ℕ) (counts : List ℕ) (notes : List Note) (i : ℕ) : Type 0 where
  pub long : length counts ≡ ops
  pub counted : (op : ℕ) → op < ops → get_or counts op 0 ≡ sum_by (moved_slots op) (take i notes)
  pub few : (op : ℕ) → get_or counts op 0 ≤ i * 2 ^ 32

module _ (ops : ℕ) (counts : List ℕ) (notes : List Note) (i : ℕ) (d : Note) (are : AreCounted ops counts notes i) (inside : i < length notes) where
  -- a note that names no slot of these operations
  counted_same : ((op : ℕ) → op < ops → moved_slots op (get_or notes i d) ≡ 0) → AreCounted ops counts notes (i + 1)
  counted_same none = record {
    long = are.long;
    counted = λ op l. omega (arith, are.counted op l, none op l, sum_by_more (moved_slots op) notes i d inside);
    few = λ op. omega (arith, are.few op);
  }

  pub counted_adds : (of from to : ℕ) → get_or notes i d ≡ Adds of from to → AreCounted ops counts notes (i + 1)
  counted_adds of from to is = counted_same (λ op l. ap (moved_slots op) is)

  pub counted_with_move_past_ops : (of lo hi : ℕ) → get_or notes i d ≡ Moves of lo hi → ops ≤ of → AreCounted ops counts notes (i + 1)
  counted_with_move_past_ops of lo hi is past =
      counted_same (λ op l. ap (moved_slots op) is ∙ moved_length_of_other_op op of lo hi (λ e. omega (arith, l, past, e)))

  pub counted_moves : (of lo hi more : ℕ) → get_or notes i d ≡ Moves of lo hi → of < ops → more ≡ moved_count (get_or notes i d) → more ≤ 2 ^ 32 → AreCounted ops (set counts of (get_or counts of 0 + more)) notes (i + 1)
  counted_moves of lo hi more is below next few = record {
    long = length-set counts of (get_or counts of 0 + more) ∙ are.long;
    counted = λ op l. ⊎_elim (λ e. here op l e) (λ differ. elsewhere op l differ) (cases_eq of op);
    few = λ op. ⊎_elim (λ e. few_here op e) (λ differ. few_elsewhere op differ) (cases_eq of op);
  }
    where
      within : of < length counts
      within = omega (arith, are.long, below)

      read : (op : ℕ) → of ≡ op → get_or (set counts of (get_or counts of 0 + more)) op 0 ≡ get_or counts of 0 + more
      read op e =
          subst (λ (k : ℕ). get_or (set counts of (get_or counts of 0 + more)) k 0 ≡ get_or counts of 0 + more) e (get_or-set_same counts of (get_or counts of 0 + more) 0 within)

      other : (op : ℕ) → of ≢ op → get_or (set counts of (get_or counts of 0 + more)) op 0 ≡ get_or counts op 0
      other op differ = get_or-set_other counts of op (get_or counts of 0 + more) 0 (λ e. differ (sym e))

      here : (op : ℕ) → op < ops → of ≡ op → get_or (set counts of (get_or counts of 0 + more)) op 0 ≡ sum_by (moved_slots op) (take (i + 1) notes)
      here op l e =
          omega (arith, read op e, are.counted op l, ap (λ (k : ℕ). get_or counts k 0) e, next, ap moved_count is, ap (moved_slots op) is, moved_length_of_named_op op of lo hi e, sum_by_more (moved_slots op) notes i d inside)

      elsewhere : (op : ℕ) → op < ops → of ≢ op → get_or (set counts of (get_or counts of 0 + more)) op 0 ≡ sum_by (moved_slots op) (take (i + 1) notes)
      elsewhere op l differ =
          omega (arith, other op differ, are.counted op l, ap (moved_slots op) is, moved_length_of_other_op op of lo hi differ, sum_by_more (moved_slots op) notes i d inside)

      few_here : (op : ℕ) → of ≡ op → get_or (set counts of (get_or counts of 0 + more)) op 0 ≤ (i + 1) * 2 ^ 32
      few_here op e = omega (arith, read op e, are.few of, few)

      few_elsewhere : (op : ℕ) → of ≢ op → get_or (set counts of (get_or counts of 0 + more)) op 0 ≤ (i + 1) * 2 ^ 32
      few_elsewhere op differ = omega (arith, other op differ, are.few op)

-- the same, with the number that was read
pub counted_read : (ops : ℕ) (counts : List ℕ) (notes : List Note) (i : ℕ) (d : Note) (of lo hi had more : ℕ) → AreCounted ops counts notes i → i < length notes → get_or notes i d ≡ Moves of lo hi → of < ops → had ≡ get_or counts of had → more ≡ moved_count (get_or notes i d) → more ≤ 2 ^ 32 → AreCounted ops (set counts of (had + more)) notes (i + 1)
counted_read ops counts notes i d of lo hi had more are inside is below read next few =
    let within : of < length counts = omega (arith, are.long, below) in
    let same : had ≡ get_or counts of 0 = read ∙ get_or_default counts of had 0 within in
    subst (λ (n : ℕ). AreCounted ops (set counts of (n + more)) notes (i + 1)) (sym same) (counted_moves ops counts notes i d are inside of lo hi more is below next few)

-- the operations after appending a rank
operations_push : (base : ℕ) (ps : List Plan) (p : Plan) → places_from base (ps ++ p ∷ []) ≡ places_from base ps ++ places_of_rank (base + length ps) 0 p.ops
unfolding places_from
operations_push base [] p = append-nil (places_of_rank base 0 p.ops) ∙ ap (λ (n : ℕ). places_of_rank n 0 p.ops) (sym (add-zero base))
operations_push base (q ∷ qs) p =
    let shifted : base + 1 + length qs ≡ base + length (q ∷ qs) = omega arith in
    ap (λ (xs : List OpId). places_of_rank base 0 q.ops ++ xs) (operations_push (base + 1) qs p ∙ ap (λ (n : ℕ). places_from (base + 1) qs ++ places_of_rank n 0 p.ops) shifted) ∙ sym (append_assoc (places_of_rank base 0 q.ops) (places_from (base + 1) qs) (places_of_rank (base + length (q ∷ qs)) 0 p.ops))

module _ (plans : List Plan) where
  abbrev pub slot_count : OpId → ℕ
  slot_count x = length (slots plans x)

  operations_more : (i : ℕ) (p : Plan) → slice_get plans i ≡ Some p → operations (take (i + 1) plans) ≡ operations (take i plans) ++ places_of_rank i 0 p.ops
  operations_more i p at =
      let inside = slice_get_within plans i p at in
      let size : length (take i plans) ≡ i = length-take-le i plans (omega arith) in
      ap operations (take_more plans i p inside ∙ ap (λ (q : Plan). take i plans ++ q ∷ []) (get_or_from_slice_get plans i p p at)) ∙ operations_push 0 (take i plans) p ∙ ap (λ (n : ℕ). operations (take i plans) ++ places_of_rank n 0 p.ops) (omega (arith, size))

  counted_places : (rank first : ℕ) (ops : List Op) (counts : List ℕ) → length counts ≡ length ops → ((k : ℕ) → k < length ops → get_or counts k 0 ≡ slot_count (record { rank = rank; op = first + k })) → counts ≡ map slot_count (places_of_rank rank first ops)
  unfolding places_of_rank
  counted_places rank first [] [] long each = refl
  counted_places rank first [] (n ∷ ns) long each = absurd (omega (arith, long))
  counted_places rank first (o ∷ os) [] long each = absurd (omega (arith, long))
  counted_places rank first (o ∷ os) (n ∷ ns) long each =
      let head : n ≡ slot_count (record { rank = rank; op = first }) = each 0 (omega arith) ∙ ap (λ (k : ℕ). slot_count (record { rank = rank; op = k })) (add-zero first) in
      let tail = counted_places rank (first + 1) os ns (omega (arith, long)) (λ k l. let shifted : first + suc k ≡ first + 1 + k = omega arith in each (suc k) (omega (arith, l)) ∙ ap (λ (j : ℕ). slot_count (record { rank = rank; op = j })) shifted) in
      λ i. head i ∷ tail i

  slots_of_rank : (rank op : ℕ) (p : Plan) → slice_get plans rank ≡ Some p → slot_count (record { rank = rank; op = op }) ≡ sum_by (moved_slots op) p.notes
  unfolding slots
  slots_of_rank rank op p at =
      ap (λ (ns : List Note). length (flat_map (moved_by op) ns)) (notes_at_some plans rank p at) ∙ length-flat_map (moved_by op) p.notes

  pub slot_counts_with_next_plan : (i : ℕ) (p : Plan) (notes : List Note) (ops : ℕ) (counts of_rank after : List ℕ) → slice_get plans i ≡ Some p → notes ≡ p.notes → ops ≡ length p.ops → counts ≡ map slot_count (operations (take i plans)) → length of_rank ≡ ops → ((op : ℕ) → op < ops → get_or of_rank op 0 ≡ sum_by (moved_slots op) notes) → after ≡ counts ++ of_rank → after ≡ map slot_count (operations (take (i + 1) plans))
  slot_counts_with_next_plan i p notes ops counts of_rank after at same size so_far long each joined =
      joined ∙ ap (λ (ns : List ℕ). ns ++ of_rank) so_far ∙ ap (λ (ns : List ℕ). map slot_count (operations (take i plans)) ++ ns) (counted_places i 0 p.ops of_rank (long ∙ size) (λ k l. each k (omega (arith, l, size)) ∙ ap (sum_by (moved_slots k)) same ∙ sym (slots_of_rank i k p at) ∙ ap (λ (j : ℕ). slot_count (record { rank = i; op = j })) (sym (zero-add k)))) ∙ sym (map-append slot_count (operations (take i plans)) (places_of_rank i 0 p.ops)) ∙ ap (map slot_count) (sym (operations_more i p at))

  pub counts_none : [] ≡ map slot_count (operations (take 0 plans))
  unfolding places_from
  counts_none = refl
