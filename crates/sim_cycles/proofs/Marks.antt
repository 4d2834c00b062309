-- Marks, and what setting another mark changes.
use Rattle.std.proofs.Common.{ℕ, suc, ◌+◌, ◌-◌, ◌<◌, ◌≤◌, ◌≡◌, ◌⊎◌, inl, inr, ⊎_elim, false, List, [], ◌∷◌, ◌++◌, length, get_or, replicate, set, drop, All, Contains, sym, ap, ◌∙◌, subst, arith}
use Rattle.std.proofs.lemmas.Bool.{cases_eq, cases_lt}
use Rattle.std.proofs.lemmas.List.{length-set, get_or-set_same, get_or-set_other, get_or_append_left, get_or_push, length_push, set_past, get_or-drop, length-drop, length-replicate, get_or-replicate, get_or_past, get_or_default}
use Rattle.sim_cycles.specs.Walks.{after, IsHeadOf}
use Rattle.sim_cycles.specs.Places.{target_at, IsClosed, mark_at, is_unseen, AreMarks, AreSettled, StaySeen}
use Rattle.sim_cycles.specs.declared.heads.Mark.{Mark}
use Rattle.sim_cycles.specs.declared.heads.Mark.TheVariants.{Unseen, OnWay, Known}
use Rattle.sim_cycles.proofs.Walks.{after_add, after_below, after_last, after_zero, head_at, head_from, head_on}

pub mark_set_same : (marks : List Mark) (i : ℕ) (m : Mark) → i < length marks → mark_at (set marks i m) i ≡ m
mark_set_same marks i m h = get_or-set_same marks i m Unseen h

pub mark_set_other : (marks : List Mark) (i j : ℕ) (m : Mark) → (j ≡ i → ⊥) → mark_at (set marks i m) j ≡ mark_at marks j
mark_set_other marks i j m apart = get_or-set_other marks i j m Unseen apart

-- setting a mark leaves marked what was marked
pub seen_marks_stay_after_set : (marks : List Mark) (i : ℕ) (m : Mark) → is_unseen m ≡ false → StaySeen marks (set marks i m)
seen_marks_stay_after_set marks i m seen j was = go (cases_eq j i) (cases_lt i (length marks))
  where
    go : ((j ≡ i) ⊎ (j ≡ i → ⊥)) → ((i < length marks) ⊎ (length marks ≤ i)) → is_unseen (mark_at (set marks i m) j) ≡ false
    go (inr apart) _ = ap is_unseen (mark_set_other marks i j m apart) ∙ was
    go (inl e) (inl inside) = ap (λ k. is_unseen (mark_at (set marks i m) k)) e ∙ ap is_unseen (mark_set_same marks i m inside) ∙ seen
    go (inl e) (inr past) = ap (λ (ms : List Mark). is_unseen (mark_at ms j)) (set_past marks i m past) ∙ was

on_way_injective : (j k : ℕ) → OnWay j ≡ OnWay k → j ≡ k
on_way_injective j k e = cc

known_injective : (j k : ℕ) → Known j ≡ Known k → j ≡ k
known_injective j k e = cc

module _ (ts : List ℕ) where
  -- at first nothing is marked
  pub settled_none : (marks : List Mark) (n : ℕ) → marks ≡ replicate n Unseen → length ts ≡ n → AreSettled ts marks 0
  settled_none marks n e long = record {
    long = ap length e ∙ length-replicate n Unseen ∙ sym long;
    known = λ i h k. let clash : Unseen ≡ Known h = sym (blank i) ∙ k in absurd (cc);
    off_way = λ i j k. let clash : Unseen ≡ OnWay j = sym (blank i) ∙ k in absurd (cc);
    seen = λ i below. absurd (omega arith);
  }
    where
      blank : (i : ℕ) → mark_at marks i ≡ Unseen
      blank i = ap (λ (ms : List Mark). mark_at ms i) e ∙ ⊎_elim (λ inside. get_or-replicate n i Unseen Unseen inside) (λ past. get_or_past (replicate n Unseen) i Unseen (omega (arith, length-replicate n Unseen))) (cases_lt i n)

  -- before the first step nothing is on the way
  pub marks_begin : (marks : List Mark) (start : ℕ) → AreSettled ts marks start → AreMarks ts marks start []
  marks_begin marks start s = record {
    long = s.long;
    walked = λ j h. absurd (omega arith);
    marked = λ j h. absurd (omega arith);
    on_way = λ i j e. absurd (s.off_way i j e);
    known = s.known;
  }

  -- another step
  pub marks_more : (marks : List Mark) (start at : ℕ) (way : List ℕ) → AreMarks ts marks start way → at ≡ after (target_at ts) (length way) start → at < length ts → mark_at marks at ≡ Unseen → AreMarks ts (set marks at (OnWay (length way))) start (way ++ at ∷ [])
  marks_more marks start at way a there inside new = record {
    long = length-set marks at (OnWay (length way)) ∙ a.long;
    walked = λ j h. ⊎_elim (λ below. get_or_append_left way (at ∷ []) 0 j below ∙ a.walked j below) (λ above. let e : j ≡ length way = omega (arith, above, h, length_push way at) in get_or_push way at 0 j (sym e) ∙ there ∙ ap (λ k. after (target_at ts) k start) (sym e)) (cases_lt j (length way));
    marked = λ j h. ⊎_elim (λ below. ap (mark_at new_marks) (get_or_append_left way (at ∷ []) 0 j below) ∙ mark_set_other marks at (get_or way j 0) (OnWay (length way)) (apart j below) ∙ a.marked j below) (λ above. let e : j ≡ length way = omega (arith, above, h, length_push way at) in ap (mark_at new_marks) (get_or_push way at 0 j (sym e)) ∙ here ∙ ap OnWay (sym e)) (cases_lt j (length way));
    on_way = λ i j e. ⊎_elim (λ (same : i ≡ at). let k : j ≡ length way = on_way_injective j (length way) (sym e ∙ ap (mark_at new_marks) same ∙ here) in (omega (arith, length_push way at, k), get_or_push way at 0 j (sym k) ∙ sym same)) (λ other. let r = a.on_way i j (sym (mark_set_other marks at i (OnWay (length way)) other) ∙ e) in (omega (arith, length_push way at, r.0), get_or_append_left way (at ∷ []) 0 j r.0 ∙ r.1)) (cases_eq i at);
    known = λ i h e. ⊎_elim (λ (same : i ≡ at). let clash : OnWay (length way) ≡ Known h = sym here ∙ ap (mark_at new_marks) (sym same) ∙ e in absurd (cc)) (λ other. a.known i h (sym (mark_set_other marks at i (OnWay (length way)) other) ∙ e)) (cases_eq i at);
  }
    where
      new_marks : List Mark
      new_marks = set marks at (OnWay (length way))

      here : mark_at new_marks at ≡ OnWay (length way)
      here = mark_set_same marks at (OnWay (length way)) (omega (arith, inside, a.long))

      apart : (j : ℕ) → j < length way → get_or way j 0 ≡ at → ⊥
      apart j below e = let clash : OnWay j ≡ Unseen = sym (a.marked j below) ∙ ap (mark_at marks) e ∙ new in absurd (cc)

  -- a way that comes to a known head
  pub known_head : (marks : List Mark) (start at h : ℕ) (way : List ℕ) → AreMarks ts marks start way → at ≡ after (target_at ts) (length way) start → mark_at marks at ≡ Known h → IsHeadOf (target_at ts) start h
  known_head marks start at h way a there e = head_from (target_at ts) start at h (record { steps = length way; there = sym there }) (a.known at h e)

  -- a way that comes to itself after `first` steps: the least from there on is the head
  pub ring_head : (marks : List Mark) (start at first h : ℕ) (way : List ℕ) → AreMarks ts marks start way → at ≡ after (target_at ts) (length way) start → mark_at marks at ≡ OnWay first → Contains (drop first way) h → All (λ y. h ≤ y) (drop first way) → IsHeadOf (target_at ts) start h
  ring_head marks start at first h way a there e (k, inside, is) least = go k inside is
    where
      on : (first < length way) × (get_or way first 0 ≡ at)
      on = a.on_way at first e

      at_first : after (target_at ts) first start ≡ at
      at_first = sym (a.walked first on.0) ∙ on.1

      whole : after (target_at ts) (suc (length way - first - 1)) at ≡ at
      whole =
          let n : first + suc (length way - first - 1) ≡ length way = omega (arith, on.0) in
          ap (after (target_at ts) (suc (length way - first - 1))) (sym at_first) ∙ sym (after_add (target_at ts) first (suc (length way - first - 1)) start) ∙ ap (λ m. after (target_at ts) m start) n ∙ sym there

      walked : (i : ℕ) → i ≤ length way - first - 1 → get_or (drop first way) i 0 ≡ after (target_at ts) i at
      walked i within =
          get_or-drop first way i 0 ∙ a.walked (first + i) (omega (arith, on.0, within)) ∙ after_add (target_at ts) first i start ∙ ap (after (target_at ts) i) at_first

      below : (i : ℕ) → i ≤ length way - first - 1 → h ≤ after (target_at ts) i at
      below i within = omega (arith, least i 0 (omega (arith, length-drop first way, on.0, within)), walked i within)

      head : (j : ℕ) → j ≤ length way - first - 1 → h ≡ after (target_at ts) j at → IsHeadOf (target_at ts) start h
      head j within place = head_from (target_at ts) start at h (record { steps = first; there = at_first }) (head_at (target_at ts) at (length way - first - 1) j h whole place below)

      go : (k : ℕ) → k < length (drop first way) → get_or (drop first way) k h ≡ h → IsHeadOf (target_at ts) start h
      go k inside is =
          let within : k ≤ length way - first - 1 = omega (arith, length-drop first way, on.0, inside) in
          head k within (sym is ∙ get_or_default (drop first way) k h 0 inside ∙ walked k within)

  -- once a way comes to a mark, its start is marked
  pub start_seen : (marks : List Mark) (start at : ℕ) (way : List ℕ) → AreMarks ts marks start way → at ≡ after (target_at ts) (length way) start → is_unseen (mark_at marks at) ≡ false → is_unseen (mark_at marks start) ≡ false
  start_seen marks start at way a there e = go (cases_lt 0 (length way))
    where
      go : (0 < length way) ⊎ (length way ≤ 0) → is_unseen (mark_at marks start) ≡ false
      go (inl some) = ap (λ k. is_unseen (mark_at marks k)) (sym (a.walked 0 some ∙ after_zero (target_at ts) start)) ∙ ap is_unseen (a.marked 0 some)
      go (inr none) =
          let zero_long : length way ≡ 0 = omega arith in
          let same : at ≡ start = there ∙ ap (λ k. after (target_at ts) k start) zero_long ∙ after_zero (target_at ts) start in
          ap (λ k. is_unseen (mark_at marks k)) (sym same) ∙ e

  -- where a step leads
  pub next_place_of_way : (start at : ℕ) (way new : List ℕ) → at ≡ after (target_at ts) (length way) start → new ≡ way ++ at ∷ [] → target_at ts at ≡ after (target_at ts) (length new) start
  next_place_of_way start at way new there e =
      let n : length new ≡ suc (length way) = omega (arith, ap length e, length_push way at) in
      ap (target_at ts) there ∙ sym (after_last (target_at ts) (length way) start) ∙ ap (λ k. after (target_at ts) k start) (sym n)

  -- the same marks, by what the code makes
  pub marks_pushed : (marks : List Mark) (start at k : ℕ) (way new : List ℕ) → AreMarks ts marks start way → at ≡ after (target_at ts) (length way) start → at < length ts → mark_at marks at ≡ Unseen → k ≡ length way → new ≡ way ++ at ∷ [] → AreMarks ts (set marks at (OnWay k)) start new
  marks_pushed marks start at k way new a there inside unseen n e =
      rw (n, e) (marks_more marks start at way a there inside unseen)

  -- the places of a way
  pub way_inside : (marks : List Mark) (start : ℕ) (way : List ℕ) → IsClosed ts → start < length ts → AreMarks ts marks start way → All (λ at. at < length marks) way
  way_inside marks start way closed inside a k d below =
      omega (arith, a.long, get_or_default way k d 0 below, a.walked k below, after_below (target_at ts) (length ts) closed k start inside)

  -- after a way is marked with its head
  pub settled_more : (old marks new : List Mark) (start head : ℕ) (way : List ℕ) → IsClosed ts → start < length ts → AreSettled ts old start → AreMarks ts marks start way → StaySeen old marks → is_unseen (mark_at marks start) ≡ false → IsHeadOf (target_at ts) start head → length new ≡ length marks → ((i : ℕ) → Contains way i → mark_at new i ≡ Known head) → ((i : ℕ) → (mark_at new i ≡ mark_at marks i) ⊎ (Contains way i × (mark_at new i ≡ Known head))) → AreSettled ts new (start + 1)
  settled_more old marks new start head way closed inside s a stay here h long set kept = record {
    long = long ∙ a.long;
    known = λ i g e. ⊎_elim (λ same. a.known i g (sym same ∙ e)) (λ (c, k). let same : g ≡ head = known_injective g head (sym e ∙ k) in subst (IsHeadOf (target_at ts) i) (sym same) (of_way i c)) (kept i);
    off_way = λ i j e. ⊎_elim (λ same. let r = a.on_way i j (sym same ∙ e) in let clash : OnWay j ≡ Known head = sym e ∙ set i (j, r.0, in_way i j r.0 r.1) in absurd (cc)) (λ (c, k). let clash : OnWay j ≡ Known head = sym e ∙ k in absurd (cc)) (kept i);
    seen = λ i below. ⊎_elim (λ same. ap is_unseen same ∙ was i below) (λ (c, k). ap is_unseen k) (kept i);
  }
    where
      in_way : (i j : ℕ) → j < length way → get_or way j 0 ≡ i → get_or way j i ≡ i
      in_way i j below e = get_or_default way j i 0 below ∙ e

      of_way : (i : ℕ) → Contains way i → IsHeadOf (target_at ts) i head
      of_way i (j, below, e) = head_on (target_at ts) (length ts) closed start i head inside (record { steps = j; there = sym (a.walked j below) ∙ get_or_default way j 0 i below ∙ e }) h

      was : (i : ℕ) → i < start + 1 → is_unseen (mark_at marks i) ≡ false
      was i below = ⊎_elim (λ before. stay i (s.seen i before)) (λ past. let e : i ≡ start = omega (arith, below, past) in ap (λ k. is_unseen (mark_at marks k)) e ∙ here) (cases_lt i start)
