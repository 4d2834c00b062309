-- The slots of ranges.
use Rattle.std.proofs.Common.{ℕ, zero, suc, ◌+◌, ◌-◌, ◌<◌, ◌≤◌, ◌≡◌, ◌==◌, Bool, true, false, List, [], ◌∷◌, ◌++◌, length, take, drop, get_or, flat_map, if◌then◌else◌, refl, sym, ap, ◌∙◌, arith, add-one, drop-cons, append-nil}
use Rattle.std.proofs.lemmas.List.{take_more, get_or-append_right}
use Rattle.std.proofs.lemmas.List.Concat.{flat_map-cons}
use Rattle.std.proofs.lemmas.Grind.{flat_map-append}
use Rattle.goal_graph.specs.declared.plan.Note.{Note}
use Rattle.goal_graph.specs.declared.plan.Note.TheVariants.{Moves, Adds}
use Rattle.goal_blocks.specs.Slots.{slots_from, moved_by}
use Rattle.goal_blocks.specs.SlotRanges.{SlotRange, slots_of, slots_in, ranges_by}

pub length_of_slots_from : (lo n : ℕ) → length (slots_from lo n) ≡ n
unfolding slots_from
length_of_slots_from lo zero = refl
length_of_slots_from lo (suc n) = ap suc (length_of_slots_from (lo + 1) n)

pub get_of_slots_from : (lo n i : ℕ) → i < n → get_or (slots_from lo n) i 0 ≡ lo + i
unfolding slots_from
get_of_slots_from lo zero i inside = absurd (omega (arith, inside))
get_of_slots_from lo (suc n) zero inside = omega arith
get_of_slots_from lo (suc n) (suc i) inside =
    let rest : get_or (slots_from (lo + 1) n) i 0 ≡ lo + 1 + i = get_of_slots_from (lo + 1) n i (omega (arith, inside)) in
    let same : lo + 1 + i ≡ lo + suc i = omega arith in
    rest ∙ same

-- the first slot, and the others
pub first_slot : (lo end : ℕ) → lo < end → slots_from lo (end - lo) ≡ lo ∷ slots_from (lo + 1) (end - (lo + 1))
unfolding slots_from
first_slot lo end some =
    let count : end - lo ≡ suc (end - (lo + 1)) = omega (arith, some) in
    ap (slots_from lo) count

pub no_slots : (lo end : ℕ) → end ≤ lo → slots_from lo (end - lo) ≡ []
unfolding slots_from
no_slots lo end none =
    let count : end - lo ≡ 0 = omega (arith, none) in
    ap (slots_from lo) count

pub slots_more : (ranges : List SlotRange) (i : ℕ) (d : SlotRange) → i < length ranges → slots_in (take (i + 1) ranges) ≡ slots_in (take i ranges) ++ slots_of (get_or ranges i d)
slots_more ranges i d inside =
    ap slots_in (take_more ranges i d inside) ∙ flat_map-append slots_of (take i ranges) (get_or ranges i d ∷ [])
    ∙ ap (λ (ks : List ℕ). slots_in (take i ranges) ++ ks) (flat_map-cons slots_of (get_or ranges i d) [] ∙ append-nil (slots_of (get_or ranges i d)))

-- the slots from the range at a place on
pub slots_in_remaining_ranges : (ranges : List SlotRange) (i : ℕ) (d : SlotRange) → i < length ranges → slots_in (drop i ranges) ≡ slots_of (get_or ranges i d) ++ slots_in (drop (i + 1) ranges)
slots_in_remaining_ranges ranges i d inside =
    let opened : drop i ranges ≡ get_or ranges i d ∷ drop (i + 1) ranges = rw (add-one, drop-cons ranges i d) refl in
    ap slots_in opened ∙ flat_map-cons slots_of (get_or ranges i d) (drop (i + 1) ranges)

-- The slots from `next` to before `end`, then those of `ranges`. When the first run out, the next one opens.
module _ (ranges : List SlotRange) (next end : ℕ) (all : List ℕ) (left : slots_from next (end - next) ++ slots_in ranges ≡ all) where
  pub next_range : (range : SlotRange) (rest : List SlotRange) (lo to : ℕ) → ranges ≡ range ∷ rest → end ≤ next → lo ≡ range.lo → to ≡ range.hi + 1 → slots_from lo (to - lo) ++ slots_in rest ≡ all
  next_range range rest lo to opened none from till =
      rw (from, till) (sym (flat_map-cons slots_of range rest) ∙ sym (ap slots_in opened) ∙ sym (ap (λ (ks : List ℕ). ks ++ slots_in ranges) (no_slots next end none)) ∙ left)

  pub next_slot : next < end → all ≡ next ∷ (slots_from (next + 1) (end - (next + 1)) ++ slots_in ranges)
  next_slot some = sym left ∙ ap (λ (ks : List ℕ). ks ++ slots_in ranges) (first_slot next end some)

  pub no_slot_left_at_end : length ranges ≡ 0 → end ≤ next → (all ≡ []) × (slots_from next (end - next) ++ slots_in ranges ≡ [])
  no_slot_left_at_end empty none =
      let nothing : slots_from next (end - next) ++ slots_in ranges ≡ [] = ap (λ (ks : List ℕ). ks ++ slots_in ranges) (no_slots next end none) ∙ ap slots_in (is_empty ranges empty) in
      (sym left ∙ nothing, nothing)
    where
      is_empty : (rs : List SlotRange) → length rs ≡ 0 → rs ≡ []
      is_empty [] e = refl
      is_empty (r ∷ rs) e = absurd (omega (arith, e))

-- a slot of the first range, and one of the others
module _ (range : SlotRange) (others : List ℕ) (i : ℕ) where
  pub get_after_first_range : length (slots_of range) ≤ i → get_or (slots_of range ++ others) i 0 ≡ get_or others (i - length (slots_of range)) 0
  get_after_first_range past = get_or-append_right (slots_of range) others (length (slots_of range)) i 0 refl past

one_range : (range : SlotRange) → slots_in (range ∷ []) ≡ slots_of range
one_range range = flat_map-cons slots_of range [] ∙ append-nil (slots_of range)

-- appending a range
pub pushed_range : (ranges more : List SlotRange) (range : SlotRange) → more ≡ ranges ++ range ∷ [] → slots_in more ≡ slots_in ranges ++ slots_of range
pushed_range ranges more range pushed =
    ap slots_in pushed ∙ flat_map-append slots_of ranges (range ∷ []) ∙ ap (λ (ks : List ℕ). slots_in ranges ++ ks) (one_range range)

if_range : (b : Bool) (range : SlotRange) → slots_in (if b then range ∷ [] else []) ≡ (if b then slots_of range else [])
if_range true range = one_range range
if_range false range = refl

slots_by_range : (op : ℕ) (note : Note) → slots_in (ranges_by op note) ≡ moved_by op note
slots_by_range op (Moves of lo hi) = if_range (of == op) (record { lo = lo; hi = hi })
slots_by_range op (Adds of from to) = refl

-- the ranges of an operation have the slots that its notes move
pub slots_by_ranges : (op : ℕ) (notes : List Note) → slots_in (flat_map (ranges_by op) notes) ≡ flat_map (moved_by op) notes
slots_by_ranges op [] = refl
slots_by_ranges op (note ∷ notes) =
    ap slots_in (flat_map-cons (ranges_by op) note notes) ∙ flat_map-append slots_of (ranges_by op note) (flat_map (ranges_by op) notes)
    ∙ rw (slots_by_range op note, slots_by_ranges op notes) (sym (flat_map-cons (moved_by op) note notes))
