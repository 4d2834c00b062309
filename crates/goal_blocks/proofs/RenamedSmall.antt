-- A schedule whose notes are renamed is no larger.
use Rattle.std.proofs.Common.{ℕ, zero, suc, ◌+◌, ◌-◌, ◌^◌, ◌≤◌, ◌≡◌, List, [], ◌∷◌, length, map, flat_map, All, refl, sym, ap, ◌∙◌, subst, arith}
use Rattle.std.specs.List.{sum_by}
use Rattle.std.proofs.lemmas.List.Concat.{flat_map-cons}
use Rattle.std.proofs.lemmas.List.Elements.{All-nil, All-cons, All-head, All-tail, All-append}
use Rattle.std.proofs.lemmas.List.Sums.{sum_by-cons, sum_by-append}
use Rattle.goal_limits.specs.Limits.{certified_op_limit, slot_limit, moved_limit, rank_limit}
use Rattle.goal_graph.specs.declared.plan.Note.{Note}
use Rattle.goal_graph.specs.declared.plan.Note.TheVariants.{Moves, Adds}
use Rattle.goal_graph.specs.Schedule.{Plan}
use Rattle.goal_blocks.specs.Slots.{slots_from}
use Rattle.goal_blocks.specs.Certification.{NamesLowSlots, moved_count, IsSmall}
use Rattle.goal_blocks.specs.Renamed.{renamed_note, renamed_plan, renamed_from, renamed}
use Rattle.goal_blocks.specs.Laws.{KeepsSlots}

module _ (name : ℕ → ℕ) (low : (slot : ℕ) → slot ≤ slot_limit → name slot ≤ slot_limit) where
  abbrev note_moving_slot : ℕ → ℕ → Note
  note_moving_slot op slot = Moves op (name slot) (name slot)

  low_moves : (op lo n : ℕ) → lo + n ≤ slot_limit + 1 → All NamesLowSlots (map (note_moving_slot op) (slots_from lo n))
  unfolding slots_from
  low_moves op lo zero h = All-nil NamesLowSlots
  low_moves op lo (suc n) h =
      let here = low lo (omega (arith, h)) in
      All-cons NamesLowSlots (note_moving_slot op lo) (map (note_moving_slot op) (slots_from (lo + 1) n)) (here, here) (low_moves op (lo + 1) n (omega (arith, h)))

  renamed_note_is_low : (n : Note) → NamesLowSlots n → All NamesLowSlots (renamed_note name n)
  renamed_note_is_low (Moves op lo hi) h =
      low_moves op lo (hi + 1 - lo) (let a = h.0 in let b = h.1 in omega (arith, a, b))
  renamed_note_is_low (Adds op from to) h =
      All-cons NamesLowSlots (Adds op (name from) (name to)) [] (low from h.0, low to h.1) (All-nil NamesLowSlots)

  renamed_notes_are_low : (ns : List Note) → All NamesLowSlots ns → All NamesLowSlots (flat_map (renamed_note name) ns)
  renamed_notes_are_low [] h = All-nil NamesLowSlots
  renamed_notes_are_low (n ∷ ns) h =
      subst (λ (ms : List Note). All NamesLowSlots ms) (sym (flat_map-cons (renamed_note name) n ns)) (All-append NamesLowSlots (renamed_note name n) (flat_map (renamed_note name) ns) (renamed_note_is_low n (All-head NamesLowSlots n ns h)) (renamed_notes_are_low ns (All-tail NamesLowSlots n ns h)))

  count_moves : (op lo n : ℕ) → sum_by moved_count (map (note_moving_slot op) (slots_from lo n)) ≡ n
  unfolding slots_from
  count_moves op lo zero = refl
  count_moves op lo (suc n) =
      let here : name lo + 1 - name lo ≡ 1 = omega arith in
      let rest = count_moves op (lo + 1) n in
      sum_by-cons moved_count (note_moving_slot op lo) (map (note_moving_slot op) (slots_from (lo + 1) n)) ∙ omega (arith, here, rest)

  count_note : (n : Note) → sum_by moved_count (renamed_note name n) ≡ moved_count n
  count_note (Moves op lo hi) = count_moves op lo (hi + 1 - lo)
  count_note (Adds op from to) = refl

  count_notes : (ns : List Note) → sum_by moved_count (flat_map (renamed_note name) ns) ≡ sum_by moved_count ns
  count_notes [] = refl
  count_notes (n ∷ ns) =
      ap (sum_by moved_count) (flat_map-cons (renamed_note name) n ns) ∙ sum_by-append moved_count (renamed_note name n) (flat_map (renamed_note name) ns)
      ∙ (λ i. count_note n i + count_notes ns i) ∙ sym (sum_by-cons moved_count n ns)

abbrev FewOps : Plan → Type 0
FewOps p = length p.ops ≤ certified_op_limit

abbrev LowNotes : Plan → Type 0
LowNotes p = All NamesLowSlots p.notes

abbrev moved_slot_count : Plan → ℕ
moved_slot_count p = sum_by moved_count p.notes

module _ (name : ℕ → ℕ → ℕ) where
  few_ops : (rank : ℕ) (plans : List Plan) → All FewOps plans → All FewOps (renamed_from name rank plans)
  unfolding renamed_from
  few_ops rank [] h = All-nil FewOps
  few_ops rank (p ∷ ps) h =
      All-cons FewOps (renamed_plan (name rank) p) (renamed_from name (rank + 1) ps) (All-head FewOps p ps h) (few_ops (rank + 1) ps (All-tail FewOps p ps h))

  renamed_plans_have_low_slots : KeepsSlots name → (rank : ℕ) (plans : List Plan) → All LowNotes plans → All LowNotes (renamed_from name rank plans)
  unfolding renamed_from
  renamed_plans_have_low_slots low rank [] h = All-nil LowNotes
  renamed_plans_have_low_slots low rank (p ∷ ps) h =
      All-cons LowNotes (renamed_plan (name rank) p) (renamed_from name (rank + 1) ps) (renamed_notes_are_low (name rank) (low.low rank) p.notes (All-head LowNotes p ps h)) (renamed_plans_have_low_slots low (rank + 1) ps (All-tail LowNotes p ps h))

  renamed_plans_move_as_many : KeepsSlots name → (rank : ℕ) (plans : List Plan) → sum_by moved_slot_count (renamed_from name rank plans) ≡ sum_by moved_slot_count plans
  unfolding renamed_from
  renamed_plans_move_as_many low rank [] = refl
  renamed_plans_move_as_many low rank (p ∷ ps) =
      sum_by-cons moved_slot_count (renamed_plan (name rank) p) (renamed_from name (rank + 1) ps)
      ∙ (λ i. count_notes (name rank) (low.low rank) p.notes i + renamed_plans_move_as_many low (rank + 1) ps i)
      ∙ sym (sum_by-cons moved_slot_count p ps)

  pub renamed_small : (plans : List Plan) → KeepsSlots name → IsSmall plans → IsSmall (renamed name plans)
  renamed_small plans low small = record {
    operations = few_ops 0 plans small.operations;
    slots = renamed_plans_have_low_slots low 0 plans small.slots;
    moves = subst (λ (n : ℕ). n ≤ moved_limit) (sym (renamed_plans_move_as_many low 0 plans)) small.moves;
  }
