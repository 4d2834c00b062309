-- The list of touches has exactly what the operations of a rank touch and write.
use Rattle.std.proofs.Common.{⊎_elim, ℕ, zero, suc, ◌+◌, ◌-◌, ◌≡◌, ◌<◌, ◌≤◌, ◌==◌, Bool, true, false, List, [], ◌∷◌, ◌++◌, length, map, flat_map, All, Contains, Option, Some, None, slice_get, unwrap_or, if◌then◌else◌, refl, sym, ap, ◌∙◌, subst, arith, eq-eqb, append-nil, append_assoc}
use Rattle.std.specs.Option.{option_map, option_and_then}
use Rattle.std.proofs.lemmas.Bool.{eqb-true}
use Rattle.std.proofs.lemmas.List.{map_push}
use Rattle.std.proofs.lemmas.Option.{slice_get_within}
use Rattle.std.proofs.lemmas.List.Concat.{flat_map-cons}
use Rattle.std.proofs.lemmas.List.Elements.{All-contains, Contains-append_cases, Contains-append_left, Contains-append_right}
use Rattle.goal_limits.specs.Limits.{slot_limit}
use Rattle.goal_graph.specs.declared.plan.Op.{Op}
use Rattle.goal_graph.specs.declared.plan.Kind.{Kind}
use Rattle.goal_graph.specs.declared.plan.Kind.TheVariants.{Calc, Send, Recv}
use Rattle.goal_graph.specs.declared.plan.Note.{Note}
use Rattle.goal_graph.specs.declared.plan.Note.TheVariants.{Moves, Adds}
use Rattle.goal_graph.specs.Schedule.{Plan, kind_at, op_at, ops_at}
use Rattle.goal_graph.proofs.ForCallers.{contains_first, contains_more, contains_source, contains_mapped}
use Rattle.goal_blocks.specs.Certification.{NamesLowSlots}
use Rattle.goal_blocks.specs.declared.slots.Adding.{Adding}
use Rattle.goal_blocks.specs.Slots.{slots_from, notes_at, moved_by, added_by, slots, adds, written_in, touched_in, written, touched}
use Rattle.goal_certify.specs.declared.races.touches.Touch.{Touch}
use Rattle.goal_graph.specs.Search.{op_id}
use Rattle.goal_certify.specs.Touches.{moved, touches_in, noted, touches_of, AreTouches}

in_flat_map : {A B : Type 0} (f : A → List B) (xs : List A) (y : B) → Contains (flat_map f xs) y → (x : A) × Contains xs x × Contains (f x) y
in_flat_map f [] y c = absurd (omega (arith, c.1))
in_flat_map {A} {B} f (x ∷ xs) y c =
    ⊎_elim (λ h. (x, contains_first x xs x refl, h)) (λ t. let r = in_flat_map f xs y t in (r.0, contains_more x xs r.0 r.1, r.2)) (Contains-append_cases (f x) (flat_map f xs) y (subst (λ (zs : List B). Contains zs y) (flat_map-cons f x xs) c))

flat_map_in : {A B : Type 0} (f : A → List B) (xs : List A) (x : A) (y : B) → Contains xs x → Contains (f x) y → Contains (flat_map f xs) y
flat_map_in f [] x y c d = absurd (omega (arith, c.1))
flat_map_in {A} {B} f (z ∷ xs) x y (zero, b, e) d =
    subst (λ (zs : List B). Contains zs y) (sym (flat_map-cons f z xs)) (Contains-append_left (f z) (flat_map f xs) y (subst (λ (w : A). Contains (f w) y) (sym e) d))
flat_map_in {A} {B} f (z ∷ xs) x y (suc k, b, e) d =
    subst (λ (zs : List B). Contains zs y) (sym (flat_map-cons f z xs)) (Contains-append_right (f z) (flat_map f xs) y (flat_map_in f xs x y (k, omega (arith, b), e) d))

-- another slot
pub slots_more : (lo n : ℕ) → slots_from lo (n + 1) ≡ slots_from lo n ++ (lo + n) ∷ []
unfolding slots_from
slots_more lo zero = let e : lo + 0 ≡ lo = omega arith in ap (λ (k : ℕ). k ∷ []) (sym e)
slots_more lo (suc n) =
    let e : (lo + 1) + n ≡ lo + suc n = omega arith in
    let one : suc n + 1 ≡ suc (n + 1) = omega arith in
    ap (slots_from lo) one ∙ ap (λ (ks : List ℕ). lo ∷ ks) (slots_more (lo + 1) n ∙ ap (λ (k : ℕ). slots_from (lo + 1) n ++ k ∷ []) e)

slots_from_below_end : (lo n k : ℕ) → Contains (slots_from lo n) k → k < lo + n
unfolding slots_from
slots_from_below_end lo zero k c = absurd (omega (arith, c.1))
slots_from_below_end lo (suc n) k (zero, b, e) = let f : lo ≡ k = e in omega arith
slots_from_below_end lo (suc n) k (suc i, b, e) =
    let r : k < (lo + 1) + n = slots_from_below_end (lo + 1) n k (i, omega (arith, b), e) in omega arith

-- another touch of an operation that moves slots
pub moved_none : (op : ℕ) (writes : Bool) (lo : ℕ) (ts : List Touch) → ts ≡ ts ++ moved op writes (slots_from lo (lo - lo))
unfolding moved slots_from
moved_none op writes lo ts =
    let none : lo - lo ≡ 0 = omega arith in
    subst (λ (n : ℕ). ts ≡ ts ++ map (λ (s : ℕ). record { op = op; slot = s; writes = writes }) (slots_from lo n)) (sym none) (sym (append-nil ts))

pub moved_more : (old now : List Touch) (op : ℕ) (writes : Bool) (lo slot : ℕ) → lo ≤ slot → now ≡ old ++ moved op writes (slots_from lo (slot - lo)) → now ++ record { op = op; slot = slot; writes = writes } ∷ [] ≡ old ++ moved op writes (slots_from lo (slot + 1 - lo))
unfolding moved
moved_more old now op writes lo slot touch_is_low e =
    let t : ℕ → Touch = λ (s : ℕ). record { op = op; slot = s; writes = writes } in
    let n : ℕ = slot - lo in
    let long : slot + 1 - lo ≡ n + 1 = omega arith in
    let last : lo + n ≡ slot = omega arith in
    let more : map t (slots_from lo (slot + 1 - lo)) ≡ map t (slots_from lo n) ++ t slot ∷ [] =
    ap (λ (m : ℕ). map t (slots_from lo m)) long
    ∙ ap (map t) (slots_more lo n)
    ∙ map_push t (slots_from lo n) (lo + n)
    ∙ ap (λ (k : ℕ). map t (slots_from lo n) ++ t k ∷ []) last in
    ap (λ (ts : List Touch). ts ++ t slot ∷ []) e ∙ append_assoc old (map t (slots_from lo n)) (t slot ∷ []) ∙ ap (λ (ts : List Touch). old ++ ts) (sym more)

some_before_map : {A B : Type 0} (f : A → B) (o : Option A) (y : B) → option_map f o ≡ Some y → (x : A) × (o ≡ Some x)
some_before_map f None y e = absurd (cc e)
some_before_map f (Some x) y e = (x, refl)

module _ (plans : List Plan) (rank : ℕ) (p : Plan) (at : slice_get plans rank ≡ Some p) where
  notes_are : notes_at plans rank ≡ p.notes
  unfolding notes_at
  notes_are = ap (λ (q : Option Plan). unwrap_or (option_map (λ (p : Plan). p.notes) q) []) at

  ops_are : ops_at plans rank ≡ p.ops
  unfolding ops_at
  ops_are = ap (λ (q : Option Plan). unwrap_or (option_map (λ (p : Plan). p.ops) q) []) at

  abbrev kind : ℕ → Option Kind
  kind k = option_map (λ (o : Op). o.kind) (slice_get p.ops k)

  kind_is : (k : ℕ) → kind_at plans (op_id rank k) ≡ kind k
  unfolding kind_at op_at
  kind_is k =
      ap (λ (q : Option Plan). option_map (λ (o : Op). o.kind) (option_and_then (λ (p : Plan). slice_get p.ops k) q)) at

  slots_are : (k : ℕ) → slots plans (op_id rank k) ≡ flat_map (moved_by k) p.notes
  unfolding slots
  slots_are k = ap (flat_map (moved_by k)) notes_are

  adds_are : (k : ℕ) → adds plans (op_id rank k) ≡ flat_map (added_by k) p.notes
  unfolding adds
  adds_are k = ap (flat_map (added_by k)) notes_are

  abbrev touched_here : Option Kind → ℕ → List ℕ
  touched_here q k = touched_in q (flat_map (moved_by k) p.notes) (flat_map (added_by k) p.notes)

  abbrev written_here : Option Kind → ℕ → List ℕ
  written_here q k = written_in q (flat_map (moved_by k) p.notes) (flat_map (added_by k) p.notes)

  touched_is : (k : ℕ) → touched plans (op_id rank k) ≡ touched_here (kind k) k
  unfolding touched
  touched_is k =
      ap (λ (q : Option Kind). touched_in q (slots plans (op_id rank k)) (adds plans (op_id rank k))) (kind_is k)
      ∙ ap (λ (m : List ℕ). touched_in (kind k) m (adds plans (op_id rank k))) (slots_are k)
      ∙ ap (touched_in (kind k) (flat_map (moved_by k) p.notes)) (adds_are k)

  written_is : (k : ℕ) → written plans (op_id rank k) ≡ written_here (kind k) k
  unfolding written
  written_is k =
      ap (λ (q : Option Kind). written_in q (slots plans (op_id rank k)) (adds plans (op_id rank k))) (kind_is k)
      ∙ ap (λ (m : List ℕ). written_in (kind k) m (adds plans (op_id rank k))) (slots_are k)
      ∙ ap (written_in (kind k) (flat_map (moved_by k) p.notes)) (adds_are k)

  -- a slot that a note moves is one that its operation moves
  slot_of_note_is_moved : (op lo hi s : ℕ) → Contains p.notes (Moves op lo hi) → Contains (slots_from lo (hi + 1 - lo)) s → Contains (flat_map (moved_by op) p.notes) s
  slot_of_note_is_moved op lo hi s cn cs =
      flat_map_in (moved_by op) p.notes (Moves op lo hi) s cn (subst (λ (b : Bool). Contains (if b then slots_from lo (hi + 1 - lo) else []) s) (sym (eq-eqb op op refl)) cs)

  abbrev adding : ℕ → ℕ → Adding
  adding from to = record { from = from; to = to }

  adding_of_note_is_added : (op from to : ℕ) → Contains p.notes (Adds op from to) → Contains (flat_map (added_by op) p.notes) (adding from to)
  adding_of_note_is_added op from to cn =
      flat_map_in (added_by op) p.notes (Adds op from to) (adding from to) cn (subst (λ (b : Bool). Contains (if b then adding from to ∷ [] else []) (adding from to)) (sym (eq-eqb op op refl)) (contains_first (adding from to) [] (adding from to) refl))

  -- what a touch is, by the kind of its operation
  abbrev Fits : Option Kind → Touch → Type 0
  Fits q t = Contains (touched_here q t.op) t.slot × (t.writes ≡ true → Contains (written_here q t.op) t.slot)

  noted_touch : (n : Note) (q : Option Kind) (t : Touch) → Contains p.notes n → Contains (touches_in q n) t → (noted n ≡ t.op) × Fits q t
  unfolding moved
  noted_touch (Moves op lo hi) (Some (Send bytes to tag)) t cn ct =
      let m = contains_source (λ (s : ℕ). record { op = op; slot = s; writes = false }) (slots_from lo (hi + 1 - lo)) t ct in
      subst (λ (u : Touch). (op ≡ u.op) × Fits (Some (Send bytes to tag)) u) m.2 (refl, (slot_of_note_is_moved op lo hi m.0 cn m.1, λ e. absurd (cc e)))
  noted_touch (Moves op lo hi) (Some (Recv room from tag)) t cn ct =
      let m = contains_source (λ (s : ℕ). record { op = op; slot = s; writes = true }) (slots_from lo (hi + 1 - lo)) t ct in
      subst (λ (u : Touch). (op ≡ u.op) × Fits (Some (Recv room from tag)) u) m.2 (refl, (slot_of_note_is_moved op lo hi m.0 cn m.1, λ e. slot_of_note_is_moved op lo hi m.0 cn m.1))
  noted_touch (Moves op lo hi) (Some (Calc nanos)) t cn ct = absurd (omega (arith, ct.1))
  noted_touch (Moves op lo hi) None t cn ct = absurd (omega (arith, ct.1))
  noted_touch (Adds op from to) (Some (Calc nanos)) t cn (zero, b, e) =
      let a : Adding = record { from = from; to = to } in
      subst (λ (u : Touch). (op ≡ u.op) × Fits (Some (Calc nanos)) u) e (refl, (flat_map_in (λ (a : Adding). a.from ∷ a.to ∷ []) (flat_map (added_by op) p.notes) a from (adding_of_note_is_added op from to cn) (contains_first from (to ∷ []) from refl), λ e. absurd (cc e)))
  noted_touch (Adds op from to) (Some (Calc nanos)) t cn (suc zero, b, e) =
      let a : Adding = record { from = from; to = to } in
      subst (λ (u : Touch). (op ≡ u.op) × Fits (Some (Calc nanos)) u) e (refl, (flat_map_in (λ (a : Adding). a.from ∷ a.to ∷ []) (flat_map (added_by op) p.notes) a to (adding_of_note_is_added op from to cn) (contains_more from (to ∷ []) to (contains_first to [] to refl)), λ e. contains_mapped (λ (a : Adding). a.to) (flat_map (added_by op) p.notes) a (adding_of_note_is_added op from to cn)))
  noted_touch (Adds op from to) (Some (Calc nanos)) t cn (suc (suc k), b, e) = absurd (omega (arith, b))
  noted_touch (Adds op from to) (Some (Send bytes target tag)) t cn ct = absurd (omega (arith, ct.1))
  noted_touch (Adds op from to) (Some (Recv room source tag)) t cn ct = absurd (omega (arith, ct.1))
  noted_touch (Adds op from to) None t cn ct = absurd (omega (arith, ct.1))

  abbrev touches_of_all_notes : List Touch
  touches_of_all_notes = flat_map (touches_of p.ops) p.notes

  touch_fits : (t : Touch) → Contains touches_of_all_notes t → Fits (kind t.op) t
  touch_fits t c =
      let m = in_flat_map (touches_of p.ops) p.notes t c in
      let s = noted_touch m.0 (kind (noted m.0)) t m.1 m.2 in
      subst (λ (k : ℕ). Fits (kind k) t) s.0 s.1

  in_all : (n : Note) (t : Touch) → Contains p.notes n → Contains (touches_in (kind (noted n)) n) t → Contains touches_of_all_notes t
  in_all n t cn ct = flat_map_in (touches_of p.ops) p.notes n t cn ct

  -- a moved slot is touched
  module _ (k s : ℕ) (q : Option Kind) (is_kind : kind k ≡ q) where
    abbrev Found : Bool → Type 0
    Found w = (t : Touch) × Contains touches_of_all_notes t × (t.op ≡ k) × (t.slot ≡ s) × (t.writes ≡ w)

    move_found : (w : Bool) → ((lo hi : ℕ) → touches_in q (Moves k lo hi) ≡ moved k w (slots_from lo (hi + 1 - lo))) → Contains (flat_map (moved_by k) p.notes) s → Found w
    unfolding moved
    move_found w shape c = let m = in_flat_map (moved_by k) p.notes s c in by_note m.0 m.1 m.2
      where
        there : (lo hi : ℕ) → Contains p.notes (Moves k lo hi) → Contains (slots_from lo (hi + 1 - lo)) s → Found w
        there lo hi cn cs =
            let t : Touch = record { op = k; slot = s; writes = w } in
            (t, in_all (Moves k lo hi) t cn (subst (λ (ts : List Touch). Contains ts t) (sym (ap (λ (r : Option Kind). touches_in r (Moves k lo hi)) is_kind ∙ shape lo hi)) (contains_mapped (λ (s : ℕ). record { op = k; slot = s; writes = w }) (slots_from lo (hi + 1 - lo)) s cs)), refl, refl, refl)

        by_note : (n : Note) → Contains p.notes n → Contains (moved_by k n) s → Found w
        by_note (Moves of lo hi) cn cs = test (of == k) refl cs
          where
            test : (b : Bool) → (of == k) ≡ b → Contains (if b then slots_from lo (hi + 1 - lo) else []) s → Found w
            test true e cs =
                there lo hi (subst (λ (j : ℕ). Contains p.notes (Moves j lo hi)) (eqb-true of k e) cn) cs
            test false e cs = absurd (omega (arith, cs.1))
        by_note (Adds of from to) cn cs = absurd (omega (arith, cs.1))

  -- the slots of an addition are those of a note
  adding_has_note : (k : ℕ) (a : Adding) → Contains (flat_map (added_by k) p.notes) a → Contains p.notes (Adds k a.from a.to)
  adding_has_note k a c = let m = in_flat_map (added_by k) p.notes a c in by_note m.0 m.1 m.2
    where
      by_note : (n : Note) → Contains p.notes n → Contains (added_by k n) a → Contains p.notes (Adds k a.from a.to)
      by_note (Moves of lo hi) cn ca = absurd (omega (arith, ca.1))
      by_note (Adds of from to) cn ca = test (of == k) refl ca
        where
          test : (b : Bool) → (of == k) ≡ b → Contains (if b then adding from to ∷ [] else []) a → Contains p.notes (Adds k a.from a.to)
          test true e (zero, b, f) =
              subst (λ (x : Adding). Contains p.notes (Adds k x.from x.to)) f (subst (λ (j : ℕ). Contains p.notes (Adds j from to)) (eqb-true of k e) cn)
          test true e (suc i, b, f) = absurd (omega (arith, b))
          test false e ca = absurd (omega (arith, ca.1))

  module _ (k : ℕ) (nanos : ℕ) (is_kind : kind k ≡ Some (Calc nanos)) (a : Adding) (c : Contains (flat_map (added_by k) p.notes) a) where
    abbrev reading : Touch
    reading = record { op = k; slot = a.from; writes = false }

    abbrev writing : Touch
    writing = record { op = k; slot = a.to; writes = true }

    both : Contains touches_of_all_notes reading × Contains touches_of_all_notes writing
    both =
        let n : Note = Adds k a.from a.to in
        let shape : touches_in (kind k) n ≡ reading ∷ writing ∷ [] = ap (λ (r : Option Kind). touches_in r n) is_kind in
        (in_all n reading (adding_has_note k a c) (subst (λ (ts : List Touch). Contains ts reading) (sym shape) (contains_first reading (writing ∷ []) reading refl)), in_all n writing (adding_has_note k a c) (subst (λ (ts : List Touch). Contains ts writing) (sym shape) (contains_more reading (writing ∷ []) writing (contains_first writing [] writing refl))))

  touched_found : (k s : ℕ) → Contains (touched plans (op_id rank k)) s → (t : Touch) × Contains touches_of_all_notes t × (t.op ≡ k) × (t.slot ≡ s)
  touched_found k s c = go (kind k) refl (subst (λ (zs : List ℕ). Contains zs s) (touched_is k) c)
    where
      go : (q : Option Kind) → kind k ≡ q → Contains (touched_here q k) s → (t : Touch) × Contains touches_of_all_notes t × (t.op ≡ k) × (t.slot ≡ s)
      go None e c = absurd (omega (arith, c.1))
      go (Some (Send bytes to tag)) e c =
          let f = move_found k s (Some (Send bytes to tag)) e false (λ lo hi. refl) c in (f.0, f.1, f.2, f.3)
      go (Some (Recv room from tag)) e c =
          let f = move_found k s (Some (Recv room from tag)) e true (λ lo hi. refl) c in (f.0, f.1, f.2, f.3)
      go (Some (Calc nanos)) e c =
          let m = in_flat_map (λ (a : Adding). a.from ∷ a.to ∷ []) (flat_map (added_by k) p.notes) s c in
          either m.0 (both k nanos e m.0 m.1) m.2
        where
          either : (a : Adding) → Contains touches_of_all_notes (record { op = k; slot = a.from; writes = false }) × Contains touches_of_all_notes (record { op = k; slot = a.to; writes = true }) → Contains (a.from ∷ a.to ∷ []) s → (t : Touch) × Contains touches_of_all_notes t × (t.op ≡ k) × (t.slot ≡ s)
          either a b (zero, l, f) = (record { op = k; slot = a.from; writes = false }, b.0, refl, f)
          either a b (suc zero, l, f) = (record { op = k; slot = a.to; writes = true }, b.1, refl, f)
          either a b (suc (suc i), l, f) = absurd (omega (arith, l))

  written_found : (k s : ℕ) → Contains (written plans (op_id rank k)) s → (t : Touch) × Contains touches_of_all_notes t × (t.op ≡ k) × (t.slot ≡ s) × (t.writes ≡ true)
  written_found k s c = go (kind k) refl (subst (λ (zs : List ℕ). Contains zs s) (written_is k) c)
    where
      go : (q : Option Kind) → kind k ≡ q → Contains (written_here q k) s → (t : Touch) × Contains touches_of_all_notes t × (t.op ≡ k) × (t.slot ≡ s) × (t.writes ≡ true)
      go None e c = absurd (omega (arith, c.1))
      go (Some (Send bytes to tag)) e c = absurd (omega (arith, c.1))
      go (Some (Recv room from tag)) e c = move_found k s (Some (Recv room from tag)) e true (λ lo hi. refl) c
      go (Some (Calc nanos)) e c =
          let m = contains_source (λ (a : Adding). a.to) (flat_map (added_by k) p.notes) s c in
          let b = both k nanos e m.0 m.1 in
          (record { op = k; slot = m.0.to; writes = true }, b.1, refl, m.2, refl)

  noted_op_exists : (n : Note) (q : Option Kind) (t : Touch) → kind (noted n) ≡ q → Contains (touches_in q n) t → noted n < length p.ops
  noted_op_exists n (Some kk) t e c =
      let o = some_before_map (λ (o : Op). o.kind) (slice_get p.ops (noted n)) kk e in
      slice_get_within p.ops (noted n) o.0 o.1
  noted_op_exists (Moves op lo hi) None t e c = absurd (omega (arith, c.1))
  noted_op_exists (Adds op from to) None t e c = absurd (omega (arith, c.1))

  touch_is_low : (n : Note) (q : Option Kind) (t : Touch) → NamesLowSlots n → Contains (touches_in q n) t → t.slot ≤ slot_limit
  unfolding moved
  touch_is_low (Moves op lo hi) (Some (Send bytes to tag)) t l c =
      let m = contains_source (λ (s : ℕ). record { op = op; slot = s; writes = false }) (slots_from lo (hi + 1 - lo)) t c in
      let h : m.0 < lo + (hi + 1 - lo) = slots_from_below_end lo (hi + 1 - lo) m.0 m.1 in
      let f : m.0 ≡ t.slot = ap (λ (u : Touch). u.slot) m.2 in
      omega (arith, h, f, l.0, l.1)
  touch_is_low (Moves op lo hi) (Some (Recv room from tag)) t l c =
      let m = contains_source (λ (s : ℕ). record { op = op; slot = s; writes = true }) (slots_from lo (hi + 1 - lo)) t c in
      let h : m.0 < lo + (hi + 1 - lo) = slots_from_below_end lo (hi + 1 - lo) m.0 m.1 in
      let f : m.0 ≡ t.slot = ap (λ (u : Touch). u.slot) m.2 in
      omega (arith, h, f, l.0, l.1)
  touch_is_low (Moves op lo hi) (Some (Calc nanos)) t l c = absurd (omega (arith, c.1))
  touch_is_low (Adds op from to) (Some (Calc nanos)) t l (zero, b, e) = let f = ap (λ (u : Touch). u.slot) e in omega (arith, f, l.0)
  touch_is_low (Adds op from to) (Some (Calc nanos)) t l (suc zero, b, e) = let f = ap (λ (u : Touch). u.slot) e in omega (arith, f, l.1)
  touch_is_low (Adds op from to) (Some (Calc nanos)) t l (suc (suc i), b, e) = absurd (omega (arith, b))
  touch_is_low (Adds op from to) (Some (Send bytes target tag)) t l c = absurd (omega (arith, c.1))
  touch_is_low (Adds op from to) (Some (Recv room source tag)) t l c = absurd (omega (arith, c.1))
  touch_is_low (Moves op lo hi) None t l c = absurd (omega (arith, c.1))
  touch_is_low (Adds op from to) None t l c = absurd (omega (arith, c.1))

  pub are_touches : All NamesLowSlots p.notes → AreTouches plans rank touches_of_all_notes
  are_touches slots_low = record {
    touch = λ t c. subst (λ (zs : List ℕ). Contains zs t.slot) (sym (touched_is t.op)) (touch_fits t c).0;
    write = λ t c w. subst (λ (zs : List ℕ). Contains zs t.slot) (sym (written_is t.op)) ((touch_fits t c).1 w);
    all_touched = touched_found;
    all_written = written_found;
    op_below = λ t c.
        let m = in_flat_map (touches_of p.ops) p.notes t c in
        let s = noted_touch m.0 (kind (noted m.0)) t m.1 m.2 in
        subst (λ (os : List Op). t.op < length os) (sym ops_are) (subst (λ (k : ℕ). k < length p.ops) s.0 (noted_op_exists m.0 (kind (noted m.0)) t refl m.2));
    slot_low = λ t c.
        let m = in_flat_map (touches_of p.ops) p.notes t c in
        touch_is_low m.0 (kind (noted m.0)) t (All-contains NamesLowSlots p.notes m.0 slots_low m.1) m.2;
  }
