-- Sums over all slots of which some may be more by one, and how many slots all operations move.
use Rattle.std.proofs.Common.{⊎_elim, ℕ, zero, suc, ◌+◌, ◌-◌, ◌<◌, ◌≤◌, ◌≡◌, ◌==◌, ◌&&◌, ◌⊎◌, inl, inr, Bool, true, false, List, [], ◌∷◌, flat_map, length, if◌then◌else◌, refl, sym, ap, ◌∙◌, subst, arith, eq-eqb, ◌^◌}
use Rattle.std.specs.List.{sum_by, range_with_len}
use Rattle.std.proofs.lemmas.Bool.{cases_eq, ne_eqb, eqb-true}
use Rattle.std.proofs.lemmas.List.{length-append}
use Rattle.std.proofs.lemmas.List.Concat.{flat_map-cons}
use Rattle.std.proofs.lemmas.List.Sums.{sum_by-cons, sum_by-append}
use Rattle.goal_graph.specs.declared.plan.Note.{Note}
use Rattle.goal_graph.specs.declared.plan.Note.TheVariants.{Moves, Adds}
use Rattle.goal_graph.specs.Schedule.{Plan, places_of_rank, places_from}
use Rattle.goal_blocks.specs.Slots.{slots_from, notes_at, moved_by, slots}
use Rattle.goal_blocks.specs.Weight.{sum_below}
use Rattle.goal_blocks.specs.Certification.{moved_count}
use Rattle.goal_blocks.proofs.Orders.{Mem}
use Rattle.goal_blocks.proofs.Blueprint.{sum_places}
use Rattle.goal_blocks.proofs.SlotRanges.{length_of_slots_from}
use Rattle.goal_blocks.proofs.Trees.{sum_below_le}

-- if one number may be larger by one, then so may the sum
sum_one_more : (n a : ℕ) (f g : ℕ → ℕ) → ((k : ℕ) → (k ≡ a → ⊥) → g k ≤ f k) → g a ≤ f a + 1 → sum_below n g ≤ sum_below n f + 1
unfolding sum_below
sum_one_more zero a f g others here = omega arith
sum_one_more (suc n) a f g others here =
    ⊎_elim (λ e. let rest = sum_below_le g f n (λ k l. others k (λ same. omega (arith, l, same, e))) in let last = subst (λ (k : ℕ). g k ≤ f k + 1) (sym e) here in omega (arith, rest, last)) (λ differ. let rest = sum_one_more n a f g others here in let last = others n differ in omega (arith, rest, last)) (cases_eq n a)

-- a slot of a rank
pub record Place : Type 0 where
  pub rank : ℕ
  pub slot : ℕ

abbrev pub total_of : ℕ → (ℕ → ℕ → ℕ) → ℕ
total_of ranks f = sum_below ranks (λ r. sum_below (2 ^ 32) (f r))

total_le : (ranks : ℕ) (f g : ℕ → ℕ → ℕ) → ((r k : ℕ) → f r k ≤ g r k) → total_of ranks f ≤ total_of ranks g
total_le ranks f g each =
    sum_below_le (λ r. sum_below (2 ^ 32) (f r)) (λ r. sum_below (2 ^ 32) (g r)) ranks (λ r l. sum_below_le (f r) (g r) (2 ^ 32) (λ k m. each r k))

-- counts, incremented at a place
incremented_at : Place → (ℕ → ℕ → ℕ) → ℕ → ℕ → ℕ
incremented_at p f r k = f r k + (if (r == p.rank) && (k == p.slot) then 1 else 0)

incremented_at_its_place : (p : Place) (f : ℕ → ℕ → ℕ) → incremented_at p f p.rank p.slot ≡ f p.rank p.slot + 1
unfolding incremented_at
incremented_at_its_place p f = rw (eq-eqb p.rank p.rank refl, eq-eqb p.slot p.slot refl) refl

incremented_not_less : (p : Place) (f : ℕ → ℕ → ℕ) (r k : ℕ) → f r k ≤ incremented_at p f r k
unfolding incremented_at
incremented_not_less p f r k = omega arith

incremented_at_other_place : (p : Place) (f : ℕ → ℕ → ℕ) (r k : ℕ) → (r ≡ p.rank → k ≡ p.slot → ⊥) → incremented_at p f r k ≤ f r k
unfolding incremented_at
incremented_at_other_place p f r k apart = go (r == p.rank) (k == p.slot) refl refl
  where
    go : (a b : Bool) → (r == p.rank) ≡ a → (k == p.slot) ≡ b → f r k + (if a && b then 1 else 0) ≤ f r k
    go true true e g = absurd (apart (eqb-true r p.rank e) (eqb-true k p.slot g))
    go true false e g = omega arith
    go false b e g = omega arith

incremented_at_most_by_one : (p : Place) (f : ℕ → ℕ → ℕ) (r k : ℕ) → incremented_at p f r k ≤ f r k + 1
unfolding incremented_at
incremented_at_most_by_one p f r k = go ((r == p.rank) && (k == p.slot))
  where
    go : (b : Bool) → f r k + (if b then 1 else 0) ≤ f r k + 1
    go true = omega arith
    go false = omega arith

total_of_incremented : (ranks : ℕ) (p : Place) (f : ℕ → ℕ → ℕ) → total_of ranks (incremented_at p f) ≤ total_of ranks f + 1
total_of_incremented ranks p f =
    sum_one_more ranks p.rank (λ r. sum_below (2 ^ 32) (f r)) (λ r. sum_below (2 ^ 32) (incremented_at p f r)) (λ r differ. sum_below_le (incremented_at p f r) (f r) (2 ^ 32) (λ k l. incremented_at_other_place p f r k (λ e g. differ e))) (sum_one_more (2 ^ 32) p.slot (f p.rank) (incremented_at p f p.rank) (λ k differ. incremented_at_other_place p f p.rank k (λ e g. differ g)) (incremented_at_most_by_one p f p.rank p.slot))

-- where each number is at most another, or more by one at one of these places
pub total_places : (ranks : ℕ) (places : List Place) (f g : ℕ → ℕ → ℕ) → ((r k : ℕ) → (f r k ≤ g r k) ⊎ ((f r k ≤ g r k + 1) × Mem (record { rank = r; slot = k }) places)) → total_of ranks f ≤ total_of ranks g + length places
total_places ranks [] f g each =
    let le = total_le ranks f g (λ r k. ⊎_elim (λ l. l) (λ p. absurd p.1) (each r k)) in omega (arith, le)
total_places ranks (p ∷ ps) f g each =
    let rest = total_places ranks ps f (incremented_at p g) (λ r k. next r k (each r k)) in
    let more = total_of_incremented ranks p g in
    omega (arith, rest, more)
  where
    next : (r k : ℕ) → (f r k ≤ g r k) ⊎ ((f r k ≤ g r k + 1) × Mem (record { rank = r; slot = k }) (p ∷ ps)) → (f r k ≤ incremented_at p g r k) ⊎ ((f r k ≤ incremented_at p g r k + 1) × Mem (record { rank = r; slot = k }) ps)
    next r k (inl l) = let more = incremented_not_less p g r k in inl (omega (arith, l, more))
    next r k (inr (l, inr m)) = let more = incremented_not_less p g r k in inr (omega (arith, l, more), m)
    next r k (inr (l, inl e)) =
        let there = incremented_at_its_place p g in
        inl (subst (λ (q : Place). f q.rank q.slot ≤ incremented_at p g q.rank q.slot) e (let here = subst (λ (q : Place). f q.rank q.slot ≤ g q.rank q.slot + 1) (sym e) l in omega (arith, here, there)))

-- the slots that the operations of a rank move

-- the sum of numbers of which only one is not 0
pub sum_with_one_nonzero : (f : ℕ → ℕ) (o : ℕ) → ((k : ℕ) → (o ≡ k → ⊥) → f k ≡ 0) → (a n : ℕ) → (sum_by f (range_with_len a n) ≤ f o) × (o < a → sum_by f (range_with_len a n) ≡ 0)
sum_with_one_nonzero f o none a zero = (omega arith, λ l. refl)
sum_with_one_nonzero f o none a (suc n) =
    let rest = sum_with_one_nonzero f o none (a + 1) n in
    let first = sum_by-cons f a (range_with_len (a + 1) n) in (
      ⊎_elim (λ e. let here = ap f e in let none_later = rest.1 (omega (arith, e)) in omega (arith, first, here, none_later)) (λ differ. let here = none a differ in let later = rest.0 in omega (arith, first, here, later)) (cases_eq o a),
      λ l. let here = none a (λ e. omega (arith, l, e)) in let none_later = rest.1 (omega (arith, l)) in omega (arith, first, here, none_later),
    )

moves_of_note : (n : ℕ) (note : Note) → sum_by (λ (i : ℕ). length (moved_by i note)) (range_with_len 0 n) ≤ moved_count note
moves_of_note n (Moves o lo hi) =
    let only = sum_with_one_nonzero (λ (i : ℕ). length (moved_by i (Moves o lo hi))) o none 0 n in
    let most = own (o == o) in
    omega (arith, only.0, most)
  where
    none : (i : ℕ) → (o ≡ i → ⊥) → length (moved_by i (Moves o lo hi)) ≡ 0
    none i differ = rw (ne_eqb o i differ) refl

    own : (b : Bool) → length (if b then slots_from lo (hi + 1 - lo) else []) ≤ hi + 1 - lo
    own true = let size = length_of_slots_from lo (hi + 1 - lo) in omega (arith, size)
    own false = omega arith
moves_of_note n (Adds o from to) =
    let only = sum_with_one_nonzero (λ (i : ℕ). 0) 0 (λ k differ. refl) 0 n in only.0

pub sum_of_pointwise_sums : {X : Type 0} (f g : X → ℕ) (xs : List X) → sum_by (λ x. f x + g x) xs ≡ sum_by f xs + sum_by g xs
sum_of_pointwise_sums f g [] = refl
sum_of_pointwise_sums f g (x ∷ xs) =
    let rest = sum_of_pointwise_sums f g xs in
    rw (sum_by-cons (λ x. f x + g x) x xs, sum_by-cons f x xs, sum_by-cons g x xs) (omega (arith, rest))

moves_of_notes : (n : ℕ) (notes : List Note) → sum_by (λ (i : ℕ). length (flat_map (moved_by i) notes)) (range_with_len 0 n) ≤ sum_by moved_count notes
moves_of_notes n [] =
    let only = sum_with_one_nonzero (λ (i : ℕ). 0) 0 (λ k differ. refl) 0 n in only.0
moves_of_notes n (note ∷ notes) =
    let rest = moves_of_notes n notes in
    let here = moves_of_note n note in
    let both = sum_of_pointwise_sums (λ (i : ℕ). length (moved_by i note)) (λ (i : ℕ). length (flat_map (moved_by i) notes)) (range_with_len 0 n) in
    let split = ap (λ (f : ℕ → ℕ). sum_by f (range_with_len 0 n)) (λ j i. parts i j) in
    let cons = sum_by-cons moved_count note notes in
    omega (arith, rest, here, both, split, cons)
  where
    parts : (i : ℕ) → length (flat_map (moved_by i) (note ∷ notes)) ≡ length (moved_by i note) + length (flat_map (moved_by i) notes)
    parts i = ap length (flat_map-cons (moved_by i) note notes) ∙ length-append (moved_by i note) (flat_map (moved_by i) notes)

notes_next : (p : Plan) (ps : List Plan) (r : ℕ) → notes_at (p ∷ ps) (suc r) ≡ notes_at ps r
unfolding notes_at
notes_next p ps r = refl

notes_first : (p : Plan) (ps : List Plan) → notes_at (p ∷ ps) 0 ≡ p.notes
unfolding notes_at
notes_first p ps = refl

slots_by_notes : (plans : List Plan) (r i : ℕ) (notes : List Note) → notes_at plans r ≡ notes → length (slots plans (record { rank = r; op = i })) ≡ length (flat_map (moved_by i) notes)
unfolding slots
slots_by_notes plans r i notes e = ap (λ (ns : List Note). length (flat_map (moved_by i) ns)) e

-- the slots of all operations are among those that the notes move
pub moves_of_all : (plans : List Plan) (a : ℕ) (ps : List Plan) → ((r : ℕ) → notes_at plans (a + r) ≡ notes_at ps r) → sum_by (λ x. length (slots plans x)) (places_from a ps) ≤ sum_by (λ (p : Plan). sum_by moved_count p.notes) ps
unfolding places_from
moves_of_all plans a [] same = omega arith
moves_of_all plans a (p ∷ ps) same =
    let rest = moves_of_all plans (a + 1) ps (λ r. ap (λ (n : ℕ). notes_at plans n) (shift r) ∙ same (suc r) ∙ notes_next p ps r) in
    let split = sum_by-append (λ x. length (slots plans x)) (places_of_rank a 0 p.ops) (places_from (a + 1) ps) in
    let cons = sum_by-cons (λ (p : Plan). sum_by moved_count p.notes) p ps in
    omega (arith, rest, here, split, cons)
  where
    shift : (r : ℕ) → a + 1 + r ≡ a + suc r
    shift r = omega arith

    notes_here : notes_at plans a ≡ p.notes
    notes_here = ap (λ (n : ℕ). notes_at plans n) (let e : a ≡ a + 0 = omega arith in e) ∙ same 0 ∙ notes_first p ps

    here : sum_by (λ x. length (slots plans x)) (places_of_rank a 0 p.ops) ≤ sum_by moved_count p.notes
    here =
        let places = sum_places (λ x. length (slots plans x)) a 0 p.ops in
        let each = ap (λ (f : ℕ → ℕ). sum_by f (range_with_len 0 (length p.ops))) (λ j i. slots_by_notes plans a i p.notes notes_here j) in
        let few = moves_of_notes (length p.ops) p.notes in
        omega (arith, places, each, few)
