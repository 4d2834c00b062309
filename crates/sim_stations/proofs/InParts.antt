-- Heaps in parts of a table, one of which is written.
use Rattle.std.proofs.Common.{◌≡◌, ◌≢◌, ◌⊎◌, ◌<◌, ◌≤◌, ◌+◌, ◌-◌, ◌++◌, ◌∷◌, [], ℕ, zero, suc, List, length, map, set, take, drop, get_or, slice_get, Some, refl, sym, ap, ap₂, ◌∙◌, subst, arith, inl, inr}
use Rattle.std.specs.List.{between}
use Rattle.std.proofs.lemmas.Bool.{cases_eq, cases_lt}
use Rattle.std.proofs.lemmas.List.{length-drop, length-take-le, length-append, take-append-le, take-take, drop_at, get_or-take, get_or-drop}
use Rattle.std.proofs.lemmas.Option.{same_Some, slice_get-get_or, slice_get_within, get_or_from_slice_get}
use Rattle.std.proofs.lemmas.Slice.{between_is, take-put_mid_below, drop-put_mid}
pub use borrow.Rule.Slice.PartMut.{put_mid, post_of}
use Rattle.goal_graph.proofs.ForCallers.{same_tables}
use Rattle.sim_queue.proofs.ForCallers.{get_appended, get_before_appended, get_set_same, get_set_other}
use Rattle.sim_stations.specs.declared.parts.Part.{Part}
use Rattle.sim_stations.specs.Parts.{places_of, keyed_of, ArePacked, AreWithoutKeys}

-- a part of a list before what is written, after it, and inside it
module _ {X : Type 0} (a k : ℕ) (xs ys : List X) (within : a ≤ length xs) where
  pub part_before_written : (c d : ℕ) → d ≤ a → between c d (put_mid a k xs ys) ≡ between c d xs
  part_before_written c d h =
      between_is (put_mid a k xs ys) c d ∙ ap (drop c) (take-put_mid_below a k xs ys d h within) ∙ sym (between_is xs c d)

  pub part_beyond_written : (c d : ℕ) → a + k ≤ c → length ys ≡ k → between c d (put_mid a k xs ys) ≡ between c d xs
  part_beyond_written c d h l = ap (take (d - c)) (drop-put_mid a k xs ys c h within l)

  pub part_of_written : (c : ℕ) → c ≤ length ys → between a (a + c) (put_mid a k xs ys) ≡ take c ys
  part_of_written c h =
      let many : a + c - a ≡ c = omega arith in
      ap (λ n. take n (drop a (put_mid a k xs ys))) many ∙ ap (take c) (drop_at (take a xs) (ys ++ post_of a k xs) a (length-take-le a xs within)) ∙ take-append-le c ys (post_of a k xs) h

-- what a part has
module _ {X : Type 0} (table : List X) (part : Part) where
  pub length-places : part.start + part.room ≤ length table → length (places_of table part) ≡ part.room
  length-places h =
      let many : part.start + part.room - part.start ≡ part.room = omega arith in
      ap (λ n. length (take n (drop part.start table))) many ∙ length-take-le part.room (drop part.start table) (omega (arith, h, length-drop part.start table))

  pub length-keyed : part.start + part.count ≤ length table → length (keyed_of table part) ≡ part.count
  length-keyed h =
      let many : part.start + part.count - part.start ≡ part.count = omega arith in
      ap (λ n. length (take n (drop part.start table))) many ∙ length-take-le part.count (drop part.start table) (omega (arith, h, length-drop part.start table))

  pub keyed_in_places : part.count ≤ part.room → take part.count (places_of table part) ≡ keyed_of table part
  keyed_in_places h =
      let all : part.start + part.room - part.start ≡ part.room = omega arith in
      let many : part.start + part.count - part.start ≡ part.count = omega arith in
      ap (λ n. take part.count (take n (drop part.start table))) all ∙ take-take part.count part.room (drop part.start table) h ∙ sym (ap (λ n. take n (drop part.start table)) many)

  pub first_keyed : (x : X) → part.start + part.count ≤ length table → 0 < part.count → slice_get table part.start ≡ Some x → slice_get (keyed_of table part) 0 ≡ Some x
  first_keyed x h some e =
      let many : part.start + part.count - part.start ≡ part.count = omega arith in
      let first : part.start + 0 ≡ part.start = omega arith in
      slice_get-get_or (keyed_of table part) 0 x (omega (arith, length-keyed h, some))
      ∙ ap Some (get_or-take (part.start + part.count - part.start) (drop part.start table) 0 x (omega (arith, many, some)) ∙ get_or-drop part.start table 0 x ∙ ap (λ n. get_or table n x) first ∙ get_or_from_slice_get table part.start x x e)

-- two functions that agree except on what is written
pub map_written : {X Y : Type 0} (f g : X → Y) (xs : List X) (l : ℕ) (z : X) → ((k : ℕ) (t : X) → slice_get xs k ≡ Some t → k ≢ l → g t ≡ f t) → map g (set xs l z) ≡ set (map f xs) l (g z)
map_written f g [] l z agree = refl
map_written {X} {Y} f g (x ∷ xs) zero z agree =
    ap (λ (ys : List Y). g z ∷ ys) (same_tables g f xs (λ k t e. agree (suc k) t e (λ n. omega (arith, n))))
map_written {X} {Y} f g (x ∷ xs) (suc l) z agree =
    ap₂ (λ (y : Y) (ys : List Y). y ∷ ys) (agree 0 x refl (λ n. omega (arith, n))) (map_written f g xs l z (λ k t e n. agree (suc k) t e (λ same. n (omega (arith, same)))))

-- the part that is read
pub part_read : {X : Type 0} (parts : List X) (group : ℕ) (part : X) → group < length parts → part ≡ get_or parts group part → slice_get parts group ≡ Some part
part_read parts group part l e = slice_get-get_or parts group part l ∙ ap Some (sym e)

-- A part is written.
module _ (parts : List Part) (size : ℕ) (packed : ArePacked parts size) (group : ℕ) (part : Part) (at : slice_get parts group ≡ Some part) where
  parts_disjoint : (other : ℕ) (q : Part) → slice_get parts other ≡ Some q → other ≢ group → (q.start + q.room ≤ part.start) ⊎ (part.start + part.room ≤ q.start)
  parts_disjoint other q e n = elim (cases_lt other group) [
    | inl b ↦ inl (packed.apart other group q part b e at)
    | inr h ↦ elim (cases_lt group other) [
      | inl b ↦ inr (packed.apart group other part q b at e)
      | inr g ↦ absurd (n (omega (arith, h, g)))
    ]
  ]

  abbrev pub part_with_count : ℕ → Part
  part_with_count count = record { start = part.start; room = part.room; count = count }

  pub part_with_new_count : (count other : ℕ) (q : Part) → slice_get (set parts group (part_with_count count)) other ≡ Some q → ((other ≡ group) × (part_with_count count ≡ q)) ⊎ ((other ≢ group) × (slice_get parts other ≡ Some q))
  part_with_new_count count other q e = go (cases_eq other group)
    where
      go : (other ≡ group) ⊎ (other ≢ group) → ((other ≡ group) × (part_with_count count ≡ q)) ⊎ ((other ≢ group) × (slice_get parts other ≡ Some q))
      go (inl s) =
          inl (s, same_Some (part_with_count count) q (sym (get_set_same parts group (part_with_count count) (slice_get_within parts group part at)) ∙ ap (slice_get (set parts group (part_with_count count))) (sym s) ∙ e))
      go (inr n) = inr (n, sym (get_set_other parts group other (part_with_count count) n) ∙ e)

  pub packed_after : (count : ℕ) → count ≤ part.room → ArePacked (set parts group (part_with_count count)) size
  packed_after count fits = record {
    apart =
        λ i j p q h e f.
        let one = was i p e in
        let other = was j q f in
        omega (arith, packed.apart i j one.0 other.0 h one.1 other.1, one.2, one.3, other.2);
    within = λ i p e. let one = was i p e in omega (arith, packed.within i one.0 one.1, one.2, one.3);
    fits = λ i p e. few i p e (part_with_new_count count i p e);
  }
    where
      was : (i : ℕ) (p : Part) → slice_get (set parts group (part_with_count count)) i ≡ Some p → (u : Part) × (slice_get parts i ≡ Some u) × (u.start ≡ p.start) × (u.room ≡ p.room)
      was i p e = elim (part_with_new_count count i p e) [
        | inl s ↦ (part, ap (slice_get parts) s.0 ∙ at, ap (λ (u : Part). u.start) s.1, ap (λ (u : Part). u.room) s.1)
        | inr s ↦ (p, s.1, refl, refl)
      ]

      few : (i : ℕ) (p : Part) → slice_get (set parts group (part_with_count count)) i ≡ Some p → ((i ≡ group) × (part_with_count count ≡ p)) ⊎ ((i ≢ group) × (slice_get parts i ≡ Some p)) → p.count ≤ p.room
      few i p e (inl s) = subst (λ (u : Part). u.count ≤ u.room) s.1 fits
      few i p e (inr s) = packed.fits i p s.1

  -- another part keeps its entries
  module _ {X : Type 0} (table ys : List X) (k : ℕ) (is_size : length table ≡ size) (in_part : k ≤ part.room) (each : length ys ≡ k) where
    start_in : part.start ≤ length table
    start_in = omega (arith, packed.within group part at, is_size)

    pub length-written : length (put_mid part.start k table ys) ≡ length table
    length-written =
        length-append (take part.start table) (ys ++ drop k (drop part.start table))
        ∙ (let rest : length (ys ++ drop k (drop part.start table)) ≡ length ys + (length table - part.start - k) = length-append ys (drop k (drop part.start table)) ∙ ap (λ n. length ys + n) (length-drop k (drop part.start table) ∙ ap (λ n. n - k) (length-drop part.start table)) in
        let all : length (take part.start table) + length (ys ++ drop k (drop part.start table)) ≡ length table = omega (arith, length-take-le part.start table start_in, rest, each, in_part, packed.within group part at, is_size) in
        all)

    range_of_other_part_unchanged : (c d : ℕ) (other : ℕ) (q : Part) → slice_get parts other ≡ Some q → other ≢ group → q.start ≤ c → d ≤ q.start + q.room → between c d (put_mid part.start k table ys) ≡ between c d table
    range_of_other_part_unchanged c d other q e n l h = elim (parts_disjoint other q e n) [
      | inl b ↦ part_before_written part.start k table ys start_in c d (omega (arith, b, h))
      | inr b ↦ part_beyond_written part.start k table ys start_in c d (omega (arith, b, l, in_part)) each
    ]

    pub keyed_elsewhere : (other : ℕ) (q : Part) → slice_get parts other ≡ Some q → other ≢ group → keyed_of (put_mid part.start k table ys) q ≡ keyed_of table q
    keyed_elsewhere other q e n =
        range_of_other_part_unchanged q.start (q.start + q.count) other q e n (omega arith) (omega (arith, packed.fits other q e))

    pub places_elsewhere : (other : ℕ) (q : Part) → slice_get parts other ≡ Some q → other ≢ group → places_of (put_mid part.start k table ys) q ≡ places_of table q
    places_elsewhere other q e n = range_of_other_part_unchanged q.start (q.start + q.room) other q e n (omega arith) (omega arith)

-- Another part after the others, none of whose places has a key.
module _ (parts : List Part) (end room : ℕ) (packed : ArePacked parts end) where
  abbrev pub part_without_keys : Part
  part_without_keys = record { start = end; room = room; count = 0 }

  old_part_or_new : (i : ℕ) (p : Part) → slice_get (parts ++ part_without_keys ∷ []) i ≡ Some p → ((i < length parts) × (slice_get parts i ≡ Some p)) ⊎ ((i ≡ length parts) × (part_without_keys ≡ p))
  old_part_or_new i p e = go (cases_eq i (length parts))
    where
      go : (i ≡ length parts) ⊎ (i ≢ length parts) → ((i < length parts) × (slice_get parts i ≡ Some p)) ⊎ ((i ≡ length parts) × (part_without_keys ≡ p))
      go (inl s) = inr (s, same_Some part_without_keys p (sym (get_appended parts part_without_keys) ∙ ap (slice_get (parts ++ part_without_keys ∷ [])) (sym s) ∙ e))
      go (inr n) =
          let there : slice_get parts i ≡ Some p = sym (get_before_appended parts part_without_keys i n) ∙ e in
          inl (slice_get_within parts i p there, there)

  pub packed_with_another : (stop : ℕ) → stop ≡ end + room → ArePacked (parts ++ part_without_keys ∷ []) stop
  packed_with_another stop more = record {
    apart = λ i j p q h e f. behind i j p q h (old_part_or_new i p e) (old_part_or_new j q f);
    within = λ i p e. elim (old_part_or_new i p e) [ inl s ↦ omega (arith, packed.within i p s.1, more) | inr s ↦ subst (λ (u : Part). u.start + u.room ≤ stop) s.1 (omega (arith, more)) ];
    fits = λ i p e. elim (old_part_or_new i p e) [ inl s ↦ packed.fits i p s.1 | inr s ↦ subst (λ (u : Part). u.count ≤ u.room) s.1 (omega arith) ];
  }
    where
      behind : (i j : ℕ) (p q : Part) → i < j → ((i < length parts) × (slice_get parts i ≡ Some p)) ⊎ ((i ≡ length parts) × (part_without_keys ≡ p)) → ((j < length parts) × (slice_get parts j ≡ Some q)) ⊎ ((j ≡ length parts) × (part_without_keys ≡ q)) → p.start + p.room ≤ q.start
      behind i j p q h (inl s) (inl t) = packed.apart i j p q h s.1 t.1
      behind i j p q h (inl s) (inr t) = subst (λ (u : Part). p.start + p.room ≤ u.start) t.1 (packed.within i p s.1)
      behind i j p q h (inr s) (inl t) = absurd (omega (arith, s.0, t.0, h))
      behind i j p q h (inr s) (inr t) = absurd (omega (arith, s.0, t.0, h))

  pub without_keys_with_another : AreWithoutKeys parts → AreWithoutKeys (parts ++ part_without_keys ∷ [])
  without_keys_with_another none i p e = elim (old_part_or_new i p e) [ inl s ↦ none i p s.1 | inr s ↦ ap (λ (u : Part). u.count) (sym s.1) ]
