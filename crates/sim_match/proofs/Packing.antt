-- Match lists that stand one after another, after a write.
use Rattle.std.proofs.Common.{ℕ, zero, suc, ◌<◌, ◌≤◌, ◌+◌, ◌-◌, ◌^◌, ◌≡◌, ◌⊎◌, inl, inr, List, [], ◌∷◌, ◌++◌, length, Some, map, take, drop, slice_get, slice_set, get_or, refl, arith, sym, ap, ap₂, ◌∙◌, subst}
use Rattle.std.specs.Option.{option_map}
use Rattle.std.proofs.lemmas.Bool.{cases_eq, cases_lt}
use Rattle.std.proofs.lemmas.Option.{none-some, same_Some, slice_get-map, slice_get_read, slice_get_within}
use Rattle.std.proofs.lemmas.List.{drop-set-lt, drop-set-add, take-set-le, length-append, length-drop, length-map, length-take, map-append}
use Rattle.goal_graph.proofs.ForCallers.{same_tables}
use Rattle.sim_match.specs.declared.capacities.Capacity.{Capacity}
use Rattle.sim_match.specs.declared.capacities.Side.{Side}
use Rattle.sim_match.specs.Capacities.{room_of, empty_list}
use Rattle.sim_match.specs.declared.match_list.MatchEntry.{MatchEntry}
use Rattle.sim_match.specs.declared.match_lists.Span.{Span}
use Rattle.sim_match.specs.MatchLists.{MatchList, pushed, skipped_to}
use Rattle.sim_match.specs.Packed.{Stretch, stretch, first_start, stretches, list_at, ArePacked}
use Rattle.sim_match.proofs.Written.{slice_get_written, slice_get_elsewhere}

-- a part of a list after a write elsewhere, and right behind it
part_after_write_elsewhere : {X : Type 0} (xs : List X) (a n k : ℕ) (y : X) → ((k < a) ⊎ (a + n ≤ k)) → take n (drop a (slice_set xs k y)) ≡ take n (drop a xs)
part_after_write_elsewhere xs a n k y (inl b) = ap (take n) (drop-set-lt a xs k y b)
part_after_write_elsewhere {X} xs a n k y (inr h) =
    let place : k ≡ a + (k - a) = omega (arith, h) in
    ap (λ (j : ℕ). take n (drop a (slice_set xs j y))) place ∙ ap (take n) (drop-set-add a xs (k - a) y) ∙ take-set-le n (drop a xs) (k - a) y (omega (arith, h))

take_through_written : {X : Type 0} (xs : List X) (n : ℕ) (y : X) → n < length xs → take (suc n) (slice_set xs n y) ≡ take n xs ++ y ∷ []
take_through_written [] n y b = absurd (omega arith)
take_through_written (x ∷ xs) zero y b = refl
take_through_written {X} (x ∷ xs) (suc n) y b = ap (λ (zs : List X). x ∷ zs) (take_through_written xs n y (omega arith))

part_with_written_next : {X : Type 0} (xs : List X) (a n k : ℕ) (y : X) → k ≡ a + n → k < length xs → take (n + 1) (drop a (slice_set xs k y)) ≡ take n (drop a xs) ++ y ∷ []
part_with_written_next {X} xs a n k y place b =
    let rest = length-drop a xs in
    let more : n + 1 ≡ suc n = omega arith in
    ap (λ (j : ℕ). take (n + 1) (drop a (slice_set xs j y))) place ∙ ap (take (n + 1)) (drop-set-add a xs n y) ∙ ap (λ (m : ℕ). take m (slice_set (drop a xs) n y)) more ∙ take_through_written (drop a xs) n y (omega (arith, place, b, rest))

-- two functions that agree on all but what is written
map_written : {X Y : Type 0} (f g : X → Y) (xs : List X) (l : ℕ) (z : X) → ((k : ℕ) (t : X) → slice_get xs k ≡ Some t → (k ≡ l → ⊥) → g t ≡ f t) → map g (slice_set xs l z) ≡ slice_set (map f xs) l (g z)
map_written f g [] l z agree = refl
map_written {X} {Y} f g (x ∷ xs) zero z agree =
    ap (λ (ys : List Y). g z ∷ ys) (same_tables g f xs (λ k t e. agree (suc k) t e (λ n. omega (arith, n))))
map_written {X} {Y} f g (x ∷ xs) (suc l) z agree =
    ap₂ (λ (y : Y) (ys : List Y). y ∷ ys) (agree 0 x refl (λ n. omega (arith, n))) (map_written f g xs l z (λ k t e n. agree (suc k) t e (λ same. n (omega (arith, same)))))

module _ (spans : List Stretch) (entries : List MatchEntry) (packed : ArePacked spans entries) (l : ℕ) (s : Stretch) (at : slice_get spans l ≡ Some s) where
  -- the list of that number
  pub list_of_number : slice_get (map (list_at entries) spans) l ≡ Some (list_at entries s)
  list_of_number = slice_get-map (list_at entries) spans l ∙ ap (option_map (list_at entries)) at

  pub list_of_number_unique : (w : MatchList) → slice_get (map (list_at entries) spans) l ≡ Some w → list_at entries s ≡ w
  list_of_number_unique w e = same_Some (list_at entries s) w (sym list_of_number ∙ e)

  -- what is written there has the same bounds
  module _ (z : Stretch) (start : z.start ≡ s.start) (end : z.end ≡ s.end) (fits : z.start + z.len ≤ z.end) where
    span_before_write : (i : ℕ) (t : Stretch) → slice_get (slice_set spans l z) i ≡ Some t → (u : Stretch) × (slice_get spans i ≡ Some u) × (u.start ≡ t.start) × (u.end ≡ t.end)
    span_before_write i t e =
        elim (cases_eq i l) [
          | inl same ↦
              let is : z ≡ t = slice_get_written spans l z t (subst (λ (k : ℕ). slice_get (slice_set spans l z) k ≡ Some t) same e) in
              (s, ap (slice_get spans) same ∙ at, sym start ∙ ap (λ (u : Stretch). u.start) is, sym end ∙ ap (λ (u : Stretch). u.end) is)
          | inr n ↦ (t, sym (slice_get_elsewhere spans l i z n) ∙ e, refl, refl)
        ]

    pub packed_after : (after : List MatchEntry) → length after ≡ length entries → ArePacked (slice_set spans l z) after
    packed_after after long = record {
      apart = λ i j t u b e f.
          let old = span_before_write i t e in
          let other = span_before_write j u f in
          let below = packed.apart i j old.0 other.0 b old.1 other.1 in
          omega (arith, below, old.3, other.2);
      fits = λ i t e. elim (cases_eq i l) [
        | inl same ↦
            let is : z ≡ t = slice_get_written spans l z t (subst (λ (k : ℕ). slice_get (slice_set spans l z) k ≡ Some t) same e) in
            subst (λ (u : Stretch). u.start + u.len ≤ u.end) is fits
        | inr n ↦ packed.fits i t (sym (slice_get_elsewhere spans l i z n) ∙ e)
      ];
      within = λ i t e.
          let old = span_before_write i t e in
          let low = packed.within i old.0 old.1 in
          omega (arith, low, old.3, long);
      few = omega (arith, packed.few, long);
    }

  -- an entry is written at the end of the list
  pub list_pushed : (e : MatchEntry) (k : ℕ) → k ≡ s.start + s.len → k < s.end → map (list_at (slice_set entries k e)) (slice_set spans l (record { start = s.start; len = s.len + 1; head = s.head; end = s.end })) ≡ slice_set (map (list_at entries) spans) l (pushed (list_at entries s) e)
  list_pushed e k place low =
      map_written (list_at entries) (list_at (slice_set entries k e)) spans l (record { start = s.start; len = s.len + 1; head = s.head; end = s.end }) others ∙ ap (λ (es : List MatchEntry). slice_set (map (list_at entries) spans) l (record { entries = es; head = s.head; room = s.end - s.start })) (part_with_written_next entries s.start s.len k e place (let top = packed.within l s at in omega (arith, low, top)))
    where
      apart_from : (i : ℕ) (t : Stretch) → slice_get spans i ≡ Some t → (i ≡ l → ⊥) → (k < t.start) ⊎ (t.start + t.len ≤ k)
      apart_from i t f n = elim (cases_lt i l) [
        | inl b ↦ inr (let gap = packed.apart i l t s b f at in let full = packed.fits i t f in omega (arith, gap, full, place))
        | inr h ↦ elim (cases_lt l i) [
          | inl b ↦ inl (let gap = packed.apart l i s t b at f in omega (arith, gap, low))
          | inr g ↦ absurd (n (omega (arith, h, g)))
        ]
      ]

      others : (i : ℕ) (t : Stretch) → slice_get spans i ≡ Some t → (i ≡ l → ⊥) → list_at (slice_set entries k e) t ≡ list_at entries t
      others i t f n =
          ap (λ (es : List MatchEntry). record { entries = es; head = t.head; room = t.end - t.start }) (part_after_write_elsewhere entries t.start t.len k e (apart_from i t f n))

  -- the head moves on
  pub list_skipped : (n : ℕ) → map (list_at entries) (slice_set spans l (record { start = s.start; len = s.len; head = n; end = s.end })) ≡ slice_set (map (list_at entries) spans) l (skipped_to (list_at entries s) n)
  list_skipped n =
      map_written (list_at entries) (list_at entries) spans l (record { start = s.start; len = s.len; head = n; end = s.end }) (λ i t f m. refl)

-- the part that is read
pub read_part_of_list : (start len : ℕ) (read entries : List MatchEntry) → read ≡ entries → take (start + len - start) (drop start read) ≡ take len (drop start entries)
read_part_of_list start len read entries same =
    let long : start + len - start ≡ len = omega arith in
    ap (λ (n : ℕ). take n (drop start read)) long ∙ ap (λ (es : List MatchEntry). take len (drop start es)) same

-- a list that is seen has a span, and its length is the span's
pub list_has_span : (spans : List Stretch) (entries : List MatchEntry) (now : List MatchList) (l : ℕ) → map (list_at entries) spans ≡ now → l < length now → l < length spans
list_has_span spans entries now l seen inside =
    let long = length-map spans (list_at entries) in
    let same = ap length seen in
    omega (arith, long, same, inside)

pub list_length : (spans : List Stretch) (entries : List MatchEntry) (l : ℕ) (s : Stretch) → ArePacked spans entries → slice_get spans l ≡ Some s → length (take s.len (drop s.start entries)) ≡ s.len
list_length spans entries l s packed at =
    let fits = packed.fits l s at in
    let within = packed.within l s at in
    let rest = length-drop s.start entries in
    let part = length-take s.len (drop s.start entries) in
    omega (arith, fits, within, rest, part)

pub push_place_fits : (spans : List Stretch) (entries : List MatchEntry) (now : List MatchList) (l : ℕ) (s : Stretch) → ArePacked spans entries → slice_get spans l ≡ Some s → map (list_at entries) spans ≡ now → ((w : MatchList) → slice_get now l ≡ Some w → length w.entries < w.room) → s.start + s.len < s.end
push_place_fits spans entries now l s packed at seen room =
    let long = list_length spans entries l s packed at in
    let its = room (list_at entries s) (ap (λ (ws : List MatchList). slice_get ws l) (sym seen) ∙ list_of_number spans entries packed l s at) in
    omega (arith, long, its)

-- where the room of a span ends
abbrev pub end_of : List Span → ℕ → ℕ → ℕ
end_of [] end l = end
end_of (s ∷ ss) end zero = first_start ss end
end_of (s ∷ ss) end (suc l) = end_of ss end l

length-stretches : (spans : List Span) (end : ℕ) → length (stretches spans end) ≡ length spans
length-stretches [] end = refl
length-stretches (s ∷ ss) end = ap suc (length-stretches ss end)

get-stretches : (spans : List Span) (end l : ℕ) (s : Span) → slice_get spans l ≡ Some s → slice_get (stretches spans end) l ≡ Some (stretch s (end_of spans end l))
get-stretches [] end l s at = absurd (none-some s at)
get-stretches (t ∷ ts) end zero s at = ap (λ (u : Span). Some (stretch u (first_start ts end))) (same_Some t s at)
get-stretches (t ∷ ts) end (suc l) s at = get-stretches ts end l s at

-- a span is written that begins where the one before it did
set-stretches : (spans : List Span) (end l : ℕ) (s z : Span) → slice_get spans l ≡ Some s → z.start ≡ s.start → stretches (slice_set spans l z) end ≡ slice_set (stretches spans end) l (stretch z (end_of spans end l))
set-stretches [] end l s z at same = refl
set-stretches (t ∷ ts) end zero s z at same = refl
set-stretches (t ∷ ts) end (suc l) s z at same =
    ap₂ (λ (n : ℕ) (us : List Stretch). stretch t n ∷ us) (first ts l at) (set-stretches ts end l s z at same)
  where
    first : (us : List Span) (l : ℕ) → slice_get us l ≡ Some s → first_start (slice_set us l z) end ≡ first_start us end
    first [] l e = refl
    first (u ∷ us) zero e = same ∙ ap (λ (v : Span). v.start) (sym (same_Some u s e))
    first (u ∷ us) (suc l) e = refl

-- a span is added that begins where all ended
pub stretches-with_new : (spans : List Span) (s : Span) (end : ℕ) → stretches (spans ++ s ∷ []) end ≡ stretches spans s.start ++ stretch s end ∷ []
stretches-with_new [] s end = refl
stretches-with_new (t ∷ []) s end = refl
stretches-with_new (t ∷ u ∷ us) s end =
    ap (λ (vs : List Stretch). stretch t u.start ∷ vs) (stretches-with_new (u ∷ us) s end)

pub span_within : (spans : List Span) (entries : List MatchEntry) (now : List MatchList) (l : ℕ) → map (list_at entries) (stretches spans (length entries)) ≡ now → l < length now → l < length spans
span_within spans entries now l seen inside =
    let within = list_has_span (stretches spans (length entries)) entries now l seen inside in
    omega (arith, within, length-stretches spans (length entries))

-- the span that is read
module _ (spans : List Span) (entries : List MatchEntry) (now : List MatchList) (l : ℕ) (s : Span) (seen : map (list_at entries) (stretches spans (length entries)) ≡ now) (inside : l < length now) (read : s ≡ get_or spans l s) where
  span_of_number : slice_get spans l ≡ Some s
  span_of_number =
      slice_get_read spans (length spans) l s refl (span_within spans entries now l seen inside) read

  pub stretch_read : slice_get (stretches spans (length entries)) l ≡ Some (stretch s (end_of spans (length entries) l))
  stretch_read = get-stretches spans (length entries) l s span_of_number

  -- it is written
  pub stretch_written : (z : Span) (after : List MatchEntry) → z.start ≡ s.start → length after ≡ length entries → stretches (slice_set spans l z) (length after) ≡ slice_set (stretches spans (length entries)) l (stretch z (end_of spans (length entries) l))
  stretch_written z after same long =
      ap (stretches (slice_set spans l z)) long ∙ set-stretches spans (length entries) l s z span_of_number same

  pub packed_written : ArePacked (stretches spans (length entries)) entries → (z : Span) (after : List MatchEntry) → z.start ≡ s.start → length after ≡ length entries → z.start + z.len ≤ end_of spans (length entries) l → ArePacked (stretches (slice_set spans l z) (length after)) after
  packed_written packed z after same long fits =
      subst (λ (ss : List Stretch). ArePacked ss after) (sym (stretch_written z after same long)) (packed_after (stretches spans (length entries)) entries packed l (stretch s (end_of spans (length entries) l)) stretch_read (stretch z (end_of spans (length entries) l)) same refl fits after long)

-- empty stretches, one for each capacity, that end at `end`
pub record AreBuilt (side : Side) (capacities : List Capacity) (spans : List Stretch) (end : ℕ) : Type 0 where
  pub apart : (i j : ℕ) (s t : Stretch) → i < j → slice_get spans i ≡ Some s → slice_get spans j ≡ Some t → s.end ≤ t.start
  pub fits : (i : ℕ) (s : Stretch) → slice_get spans i ≡ Some s → s.start + s.len ≤ s.end
  pub within : (i : ℕ) (s : Stretch) → slice_get spans i ≡ Some s → s.end ≤ end
  pub empty : (entries : List MatchEntry) → map (list_at entries) spans ≡ map (empty_list side) capacities

-- none yet
pub built_none : (side : Side) → AreBuilt side [] [] 0
built_none side = record {
  apart = λ i j s t l e f. absurd (none-some s e);
  fits = λ i s e. absurd (none-some s e);
  within = λ i s e. absurd (none-some s e);
  empty = λ entries. refl;
}

-- they are disjoint, among this number of entries
pub built_packed : (side : Side) (capacities : List Capacity) (spans : List Stretch) (end : ℕ) → AreBuilt side capacities spans end → (entries : List MatchEntry) → length entries ≡ end → end < 2 ^ 32 → ArePacked spans entries
built_packed side capacities spans end b entries long few = record {
  apart = b.apart;
  fits = b.fits;
  within = λ i s e. let low = b.within i s e in omega (arith, low, long);
  few = omega (arith, long, few);
}

-- another empty stretch is appended
pub built_with_next_capacity : (side : Side) (capacities : List Capacity) (spans : List Stretch) (end : ℕ) → AreBuilt side capacities spans end → (c : Capacity) (stop : ℕ) → stop ≡ end + room_of side c → AreBuilt side (capacities ++ c ∷ []) (spans ++ record { start = end; len = 0; head = 0; end = stop } ∷ []) stop
built_with_next_capacity side capacities spans end b c stop more = record {
  apart = λ i j s t l e f. elim (last_or_before i s e) [
    | inl old ↦ elim (last_or_before j t f) [ inl there ↦ b.apart i j s t l old there | inr its ↦ subst (λ (u : Stretch). s.end ≤ u.start) (sym its.1) (b.within i s old) ]
    | inr its ↦ absurd (let far = slice_get_within (spans ++ record { start = end; len = 0; head = 0; end = stop } ∷ []) j t f in let long = length-append spans (record { start = end; len = 0; head = 0; end = stop } ∷ []) in omega (arith, its.0, l, far, long))
  ];
  fits = λ i s e. elim (last_or_before i s e) [ inl old ↦ b.fits i s old | inr its ↦ subst (λ (u : Stretch). u.start + u.len ≤ u.end) (sym its.1) (omega (arith, more)) ];
  within = λ i s e. elim (last_or_before i s e) [ inl old ↦ (let low = b.within i s old in omega (arith, low, more)) | inr its ↦ subst (λ (u : Stretch). u.end ≤ stop) (sym its.1) (omega arith) ];
  empty = λ entries.
      map-append (list_at entries) spans (record { start = end; len = 0; head = 0; end = stop } ∷ []) ∙ ap₂ (λ (xs ys : List MatchList). xs ++ ys) (b.empty entries) (ap (λ (n : ℕ). record { entries = []; head = 0; room = n } ∷ []) (let same : stop - end ≡ room_of side c = omega (arith, more) in same)) ∙ sym (map-append (empty_list side) capacities (c ∷ []));
}
  where
    last_or_before : (i : ℕ) (s : Stretch) → slice_get (spans ++ record { start = end; len = 0; head = 0; end = stop } ∷ []) i ≡ Some s → (slice_get spans i ≡ Some s) ⊎ ((i ≡ length spans) × (s ≡ record { start = end; len = 0; head = 0; end = stop }))
    last_or_before i s e = go spans i e
      where
        go : (xs : List Stretch) (i : ℕ) → slice_get (xs ++ record { start = end; len = 0; head = 0; end = stop } ∷ []) i ≡ Some s → (slice_get xs i ≡ Some s) ⊎ ((i ≡ length xs) × (s ≡ record { start = end; len = 0; head = 0; end = stop }))
        go [] zero e = inr (refl, sym (same_Some _ s e))
        go [] (suc i) e = absurd (none-some s e)
        go (x ∷ xs) zero e = inl e
        go (x ∷ xs) (suc i) e = elim (go xs i e) [ inl old ↦ inl old | inr its ↦ inr (ap suc its.0, its.1) ]
