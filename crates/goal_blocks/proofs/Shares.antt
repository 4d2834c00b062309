-- The slots of a share: those whose virtual ranks are in a block, once each.
use Rattle.std.proofs.Common.{◌≡◌, ◌⊎◌, ℕ, zero, suc, ◌+◌, ◌-◌, ◌<◌, ◌≤◌, leb, inl, inr, ⊎_elim, Bool, true, false, List, [], ◌∷◌, ◌++◌, map, flat_map, length, All, refl, sym, ap, ◌∙◌, subst, arith, min, append-nil}
use Rattle.std.specs.Prelude.{if◌then◌else◌}
use Rattle.std.specs.List.{sum_by}
use Rattle.std.proofs.lemmas.Bool.{cases_lt}
use Rattle.std.proofs.lemmas.Bool.Decides.{nat_tests}
use Rattle.std.proofs.lemmas.List.{length-append}
use Rattle.std.proofs.lemmas.List.Concat.{length-flat_map}
use Rattle.std.proofs.lemmas.List.Elements.{All-map}
use Rattle.std.proofs.lemmas.List.Sums.{sum_by-cons, sum_by-append}
use Rattle.goal_limits.specs.Limits.{slot_limit, rank_limit}
use Rattle.goal_graph.specs.declared.plan.Note.{Note}
use Rattle.goal_graph.specs.declared.plan.Note.TheVariants.{Moves, Adds}
use Rattle.goal_blocks.specs.Slots.{Adding, slots_from}
use Rattle.goal_blocks.specs.Certification.{NamesLowSlots, moved_count}
use Rattle.goal_blocks.specs.Entries.{Entry, Span, notes_of}
use Rattle.goal_blocks.specs.Positions.{ahead, back, share}
use Rattle.goal_blocks.proofs.Orders.{Mem}
use Rattle.goal_blocks.proofs.SlotLists.{slots_none}
use Rattle.goal_blocks.proofs.SlotRanges.{length_of_slots_from}
use Rattle.goal_blocks.proofs.EntryFacts.{slots_of_span}
use Rattle.goal_blocks.proofs.Fitting.{sum_by-map}
use Rattle.goal_blocks.proofs.Ring.{ahead_cases, back_cases}
use Rattle.goal_blocks.proofs.RingAndTree.{ahead_below}
use Rattle.goal_blocks.proofs.Slim.{All_one, All_two}

-- slots in a row

slots_from_bounds : (lo n k : ℕ) → Mem k (slots_from lo n) → (lo ≤ k) × (k < lo + n)
unfolding slots_from
slots_from_bounds lo zero k m = absurd m
slots_from_bounds lo (suc n) k (inl e) = (omega (arith, e), omega (arith, e))
slots_from_bounds lo (suc n) k (inr m) =
    let rest = slots_from_bounds (lo + 1) n k m in
    let above = rest.0 in
    let below = rest.1 in
    (omega (arith, above), omega (arith, below))

mem_slots_from : (lo n k : ℕ) → lo ≤ k → k < lo + n → Mem k (slots_from lo n)
unfolding slots_from
mem_slots_from lo zero k above below = absurd (omega (arith, above, below))
mem_slots_from lo (suc n) k above below =
    ⊎_elim (λ lt. inr (mem_slots_from (lo + 1) n k (omega (arith, lt)) (omega (arith, below)))) (λ ge. inl (omega (arith, above, ge))) (cases_lt lo k)

mem_append : {A : Type 0} (x : A) (xs ys : List A) → Mem x (xs ++ ys) → Mem x xs ⊎ Mem x ys
mem_append x [] ys m = inr m
mem_append x (y ∷ xs) ys (inl e) = inl (inl e)
mem_append x (y ∷ xs) ys (inr m) = ⊎_elim (λ n. inl (inr n)) (λ n. inr n) (mem_append x xs ys m)

append_mem : {A : Type 0} (x : A) (xs ys : List A) → Mem x xs ⊎ Mem x ys → Mem x (xs ++ ys)
append_mem x [] ys (inl m) = absurd m
append_mem x [] ys (inr m) = m
append_mem x (y ∷ xs) ys (inl (inl e)) = inl e
append_mem x (y ∷ xs) ys (inl (inr m)) = inr (append_mem x xs ys (inl m))
append_mem x (y ∷ xs) ys (inr m) = inr (append_mem x xs ys (inr m))

-- an entry's notes move as many slots as it does

no_adds : (xs : List Adding) → sum_by (λ (a : Adding). 0) xs ≡ 0
no_adds [] = refl
no_adds (x ∷ xs) = sum_by-cons (λ (a : Adding). 0) x xs ∙ (let rest = no_adds xs in omega (arith, rest))

span_lengths : (spans : List Span) → sum_by (λ (s : Span). s.hi + 1 - s.lo) spans ≡ sum_by (λ (s : Span). length (slots_of_span s)) spans
span_lengths [] = refl
span_lengths (s ∷ spans) =
    let here = length_of_slots_from s.lo (s.hi + 1 - s.lo) in
    let rest = span_lengths spans in
    rw (sum_by-cons (λ (s : Span). s.hi + 1 - s.lo) s spans, sum_by-cons (λ (s : Span). length (slots_of_span s)) s spans) (omega (arith, here, rest))

pub moved_notes : (i : ℕ) (e : Entry) → sum_by moved_count (notes_of i e) ≡ length (flat_map slots_of_span e.moves)
moved_notes i e =
    sum_by-append moved_count (map (λ (s : Span). Moves i s.lo s.hi) e.moves) (map (λ (a : Adding). Adds i a.from a.to) e.adds)
    ∙ rw (sum_by-map moved_count (λ (s : Span). Moves i s.lo s.hi) e.moves, sum_by-map moved_count (λ (a : Adding). Adds i a.from a.to) e.adds, length-flat_map slots_of_span e.moves) (let spans = span_lengths e.moves in let none = no_adds e.adds in omega (arith, spans, none))

-- a span whose slots notes can name
abbrev pub IsLowSpan : Span → Type 0
IsLowSpan s = (s.lo ≤ slot_limit) × (s.hi ≤ slot_limit)

pub moving_low : (i : ℕ) (spans : List Span) → All IsLowSpan spans → All NamesLowSlots (map (λ (s : Span). Moves i s.lo s.hi) spans ++ [])
moving_low i spans low =
    subst (λ (notes : List Note). All NamesLowSlots notes) (sym (append-nil (map (λ (s : Span). Moves i s.lo s.hi) spans))) (All-map NamesLowSlots (λ (s : Span). Moves i s.lo s.hi) spans low)

-- slot k belongs to a virtual rank from v to v + s - 1
pub record IsInShare (ranks root v s k : ℕ) : Type 0 where
  pub slot : k < ranks
  pub from : v ≤ back ranks k root
  pub before : back ranks k root < v + s

module _ (ranks root v s : ℕ) (rooted : root < ranks) (inside : v < ranks) (some : 0 < s) where
  -- the first and last slot, the size, and the first run; after the last rank the share goes on at slot 0
  abbrev lo : ℕ
  lo = ahead ranks v root

  abbrev hi : ℕ
  hi = ahead ranks (min (v + s) ranks - 1) root

  abbrev many : ℕ
  many = min s (ranks - v)

  abbrev first_run : ℕ
  first_run = min many (ranks - lo)

  unwrapped_share_bounds : lo ≤ hi → (hi + 1 - lo ≡ first_run) × (0 ≡ many - first_run)
  unwrapped_share_bounds le = go (ahead_cases ranks v root) (ahead_cases ranks (min (v + s) ranks - 1) root)
    where
      go : ((v + root < ranks) × (lo ≡ v + root)) ⊎ ((ranks ≤ v + root) × (lo ≡ v + root - ranks)) → ((min (v + s) ranks - 1 + root < ranks) × (hi ≡ min (v + s) ranks - 1 + root)) ⊎ ((ranks ≤ min (v + s) ranks - 1 + root) × (hi ≡ min (v + s) ranks - 1 + root - ranks)) → (hi + 1 - lo ≡ first_run) × (0 ≡ many - first_run)
      go (inl (a, e)) (inl (b, f)) =
          (omega (arith, rooted, inside, some, le, a, e, b, f), omega (arith, rooted, inside, some, le, a, e, b, f))
      go (inl (a, e)) (inr (b, f)) = absurd (omega (arith, rooted, inside, some, le, a, e, b, f))
      go (inr (a, e)) (inl (b, f)) = absurd (omega (arith, rooted, inside, some, le, a, e, b, f))
      go (inr (a, e)) (inr (b, f)) =
          (omega (arith, rooted, inside, some, le, a, e, b, f), omega (arith, rooted, inside, some, le, a, e, b, f))

  wrapped_share_bounds : hi < lo → (ranks - 1 + 1 - lo ≡ first_run) × (hi + 1 - 0 ≡ many - first_run)
  wrapped_share_bounds lt = go (ahead_cases ranks v root) (ahead_cases ranks (min (v + s) ranks - 1) root)
    where
      go : ((v + root < ranks) × (lo ≡ v + root)) ⊎ ((ranks ≤ v + root) × (lo ≡ v + root - ranks)) → ((min (v + s) ranks - 1 + root < ranks) × (hi ≡ min (v + s) ranks - 1 + root)) ⊎ ((ranks ≤ min (v + s) ranks - 1 + root) × (hi ≡ min (v + s) ranks - 1 + root - ranks)) → (ranks - 1 + 1 - lo ≡ first_run) × (hi + 1 - 0 ≡ many - first_run)
      go (inl (a, e)) (inl (b, f)) = absurd (omega (arith, rooted, inside, some, lt, a, e, b, f))
      go (inl (a, e)) (inr (b, f)) =
          (omega (arith, rooted, inside, some, lt, a, e, b, f), omega (arith, rooted, inside, some, lt, a, e, b, f))
      go (inr (a, e)) (inl (b, f)) = absurd (omega (arith, rooted, inside, some, lt, a, e, b, f))
      go (inr (a, e)) (inr (b, f)) = absurd (omega (arith, rooted, inside, some, lt, a, e, b, f))

  share_slots : flat_map slots_of_span (share ranks root v s) ≡ slots_from lo first_run ++ slots_from 0 (many - first_run)
  unfolding share
  share_slots = go (leb lo hi) refl
    where
      go : (b : Bool) → leb lo hi ≡ b → flat_map slots_of_span (if b then record { lo = lo; hi = hi } ∷ [] else record { lo = lo; hi = ranks - 1 } ∷ record { lo = 0; hi = hi } ∷ []) ≡ slots_from lo first_run ++ slots_from 0 (many - first_run)
      go true t =
          let is = unwrapped_share_bounds (grind (arith, nat_tests, t)) in
          (λ i. slots_from lo (is.0 i) ++ (sym (slots_none 0)) i) ∙ ap (λ (n : ℕ). slots_from lo first_run ++ slots_from 0 n) is.1
      go false t =
          let is = wrapped_share_bounds (grind (arith, nat_tests, t)) in
          λ i. slots_from lo (is.0 i) ++ (append-nil (slots_from 0 (hi + 1 - 0)) ∙ ap (λ (n : ℕ). slots_from 0 n) is.1) i

  pub mem_share_is_in_share : (k : ℕ) → Mem k (flat_map slots_of_span (share ranks root v s)) → IsInShare ranks root v s k
  mem_share_is_in_share k m = either (mem_append k (slots_from lo first_run) (slots_from 0 (many - first_run)) (subst (λ (ks : List ℕ). Mem k ks) share_slots m))
    where
      go : (lo ≤ k) × (k < lo + first_run) ⊎ (k < many - first_run) → ((v + root < ranks) × (lo ≡ v + root)) ⊎ ((ranks ≤ v + root) × (lo ≡ v + root - ranks)) → ((k < root) × (back ranks k root ≡ k + ranks - root)) ⊎ ((root ≤ k) × (back ranks k root ≡ k - root)) → IsInShare ranks root v s k
      go (inl (l, u)) (inl (a, e)) (inl (b, f)) = record { slot = omega (arith, rooted, inside, l, u, a, e, b, f); from = omega (arith, rooted, inside, l, u, a, e, b, f); before = omega (arith, rooted, inside, l, u, a, e, b, f) }
      go (inl (l, u)) (inl (a, e)) (inr (b, f)) = record { slot = omega (arith, rooted, inside, l, u, a, e, b, f); from = omega (arith, rooted, inside, l, u, a, e, b, f); before = omega (arith, rooted, inside, l, u, a, e, b, f) }
      go (inl (l, u)) (inr (a, e)) (inl (b, f)) = record { slot = omega (arith, rooted, inside, l, u, a, e, b, f); from = omega (arith, rooted, inside, l, u, a, e, b, f); before = omega (arith, rooted, inside, l, u, a, e, b, f) }
      go (inl (l, u)) (inr (a, e)) (inr (b, f)) = record { slot = omega (arith, rooted, inside, l, u, a, e, b, f); from = omega (arith, rooted, inside, l, u, a, e, b, f); before = omega (arith, rooted, inside, l, u, a, e, b, f) }
      go (inr u) (inl (a, e)) (inl (b, f)) = record { slot = omega (arith, rooted, inside, u, a, e, b, f); from = omega (arith, rooted, inside, u, a, e, b, f); before = omega (arith, rooted, inside, u, a, e, b, f) }
      go (inr u) (inl (a, e)) (inr (b, f)) = record { slot = omega (arith, rooted, inside, u, a, e, b, f); from = omega (arith, rooted, inside, u, a, e, b, f); before = omega (arith, rooted, inside, u, a, e, b, f) }
      go (inr u) (inr (a, e)) (inl (b, f)) = record { slot = omega (arith, rooted, inside, u, a, e, b, f); from = omega (arith, rooted, inside, u, a, e, b, f); before = omega (arith, rooted, inside, u, a, e, b, f) }
      go (inr u) (inr (a, e)) (inr (b, f)) = record { slot = omega (arith, rooted, inside, u, a, e, b, f); from = omega (arith, rooted, inside, u, a, e, b, f); before = omega (arith, rooted, inside, u, a, e, b, f) }

      either : Mem k (slots_from lo first_run) ⊎ Mem k (slots_from 0 (many - first_run)) → IsInShare ranks root v s k
      either (inl m) = go (inl (slots_from_bounds lo first_run k m)) (ahead_cases ranks v root) (back_cases ranks k root)
      either (inr m) =
          let below = (slots_from_bounds 0 (many - first_run) k m).1 in
          go (inr (omega (arith, below))) (ahead_cases ranks v root) (back_cases ranks k root)

  pub in_share_is_mem_share : (k : ℕ) → k < ranks → v ≤ back ranks k root → back ranks k root < v + s → Mem k (flat_map slots_of_span (share ranks root v s))
  in_share_is_mem_share k slot from before = subst (λ (ks : List ℕ). Mem k ks) (sym share_slots) (append_mem k (slots_from lo first_run) (slots_from 0 (many - first_run)) (go (ahead_cases ranks v root) (back_cases ranks k root)))
    where
      go : ((v + root < ranks) × (lo ≡ v + root)) ⊎ ((ranks ≤ v + root) × (lo ≡ v + root - ranks)) → ((k < root) × (back ranks k root ≡ k + ranks - root)) ⊎ ((root ≤ k) × (back ranks k root ≡ k - root)) → Mem k (slots_from lo first_run) ⊎ Mem k (slots_from 0 (many - first_run))
      go (inl (a, e)) (inl (b, f)) =
          inr (mem_slots_from 0 (many - first_run) k (omega arith) (omega (arith, rooted, inside, slot, from, before, a, e, b, f)))
      go (inl (a, e)) (inr (b, f)) =
          inl (mem_slots_from lo first_run k (omega (arith, rooted, inside, slot, from, before, a, e, b, f)) (omega (arith, rooted, inside, slot, from, before, a, e, b, f)))
      go (inr (a, e)) (inl (b, f)) =
          inl (mem_slots_from lo first_run k (omega (arith, rooted, inside, slot, from, before, a, e, b, f)) (omega (arith, rooted, inside, slot, from, before, a, e, b, f)))
      go (inr (a, e)) (inr (b, f)) =
          inl (mem_slots_from lo first_run k (omega (arith, rooted, inside, slot, from, before, a, e, b, f)) (omega (arith, rooted, inside, slot, from, before, a, e, b, f)))

  pub share_length : length (flat_map slots_of_span (share ranks root v s)) ≡ min s (ranks - v)
  share_length =
      let a = length_of_slots_from lo first_run in
      let b = length_of_slots_from 0 (many - first_run) in
      ap length share_slots ∙ length-append (slots_from lo first_run) (slots_from 0 (many - first_run)) ∙ omega (arith, a, b)

  -- the spans of a share are low
  pub share_low : ranks ≤ rank_limit → All IsLowSpan (share ranks root v s)
  unfolding share
  share_low few = go (leb lo hi)
    where
      low : lo < ranks
      low = ahead_below ranks v root inside (omega (arith, rooted))

      high : hi < ranks
      high = ahead_below ranks (min (v + s) ranks - 1) root (omega (arith, inside)) (omega (arith, rooted))

      go : (b : Bool) → All IsLowSpan (if b then record { lo = lo; hi = hi } ∷ [] else record { lo = lo; hi = ranks - 1 } ∷ record { lo = 0; hi = hi } ∷ [])
      go true = All_one IsLowSpan (record { lo = lo; hi = hi }) (omega (arith, low, few), omega (arith, high, few))
      go false = All_two IsLowSpan (record { lo = lo; hi = ranks - 1 }) (record { lo = 0; hi = hi }) (omega (arith, low, few), omega (arith, few)) (omega arith, omega (arith, high, few))
