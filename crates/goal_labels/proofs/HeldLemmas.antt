-- Entries whose labels are inside the bytes.
use Rattle.std.proofs.Common.{◌≡◌, ℕ, suc, ◌<◌, ◌≤◌, Bool, true, false, List, [], ◌∷◌, ◌++◌, Option, Some, None, length, take, drop, get_or, slice_get, slice_set, refl, sym, ap, subst, ◌∙◌, arith, bytes_eq, inl, inr, ◌⊎◌, ◌≢◌, length-append, length-drop, eqb, option_map}
use Rattle.std.specs.Option.{option_map_or}
use Rattle.std.proofs.lemmas.Option.{slice_get-get_or, slice_get-map, slice_get_within, slice_get_read}
use Rattle.std.proofs.lemmas.List.{map-append, map-set, length-map, take-append-le, drop-append-le, length-take-le}
use Rattle.std.proofs.lemmas.Bool.Decides.{eqb_tells}
use Rattle.std.proofs.lemmas.Slice.Eq.{bytes_eq-Decides}
use Rattle.std.proofs.Math.Seq.{drop-append_seam, take-length}
use Rattle.goal_labels.specs.declared.label_map.LabelInfo.{LabelInfo}
use Rattle.goal_labels.specs.declared.label_map.LabelEntry.{LabelEntry}
use Rattle.goal_labels.specs.Entries.{Entries, is_at, label_of, entries_of, IsAt, IsHeld, AreHeld}
use Rattle.goal_labels.proofs.PlaceLemmas.{slice_get-before, slice_get-last, slice_get-set, slice_get_beside_set_place}

pub entries_of-none : (bytes : List ℕ) → entries_of bytes [] ≡ []
unfolding entries_of
entries_of-none bytes = refl

pub entries_of-empty : (bytes : List ℕ) (es : List LabelEntry) → es ≡ [] → entries_of bytes es ≡ []
entries_of-empty bytes es none = ap (entries_of bytes) none ∙ entries_of-none bytes

pub AreHeld-none : (bytes : List ℕ) (es : List LabelEntry) → es ≡ [] → AreHeld bytes es
AreHeld-none bytes es none i e at = absurd (omega (arith, slice_get_within es i e at, ap length none))

pub length-entries_of : (bytes : List ℕ) (es : List LabelEntry) → length (entries_of bytes es) ≡ length es
unfolding entries_of
length-entries_of bytes es = length-map es _

-- the entries, from what was read
pub entries_of-read : (read bytes : List ℕ) (seen es : List LabelEntry) → read ≡ bytes → seen ≡ es → entries_of read seen ≡ entries_of bytes es
entries_of-read read bytes seen es same_bytes same_entries = ap (λ (bs : List ℕ). entries_of bs seen) same_bytes ∙ ap (entries_of bytes) same_entries

-- an entry, seen with its label
pub entries_of_at_known_entry : (bytes : List ℕ) (es : List LabelEntry) (i : ℕ) (e : LabelEntry) → slice_get es i ≡ Some e → slice_get (entries_of bytes es) i ≡ Some (label_of bytes e, e.info)
unfolding entries_of
entries_of_at_known_entry bytes es i e there = slice_get-map _ es i ∙ ap (option_map (λ (k : LabelEntry). (label_of bytes k, k.info))) there

pub IsAt-entry : (bytes : List ℕ) (es : List LabelEntry) (i : ℕ) (e : LabelEntry) → slice_get es i ≡ Some e → IsAt (entries_of bytes es) (label_of bytes e) i
IsAt-entry bytes es i e there = (e.info, entries_of_at_known_entry bytes es i e there)

-- an entry whose label was read
pub read_label_has_entry : (bytes : List ℕ) (es : List LabelEntry) (i : ℕ) (label : List ℕ) (e : LabelEntry) → i < length es
    → label ≡ label_of bytes (get_or es i e) → IsAt (entries_of bytes es) label i
read_label_has_entry bytes es i label e within same =
    subst (λ k. IsAt (entries_of bytes es) k i) (sym same) (IsAt-entry bytes es i _ (slice_get-get_or es i e within))

pub entries_of_at_place : (bytes : List ℕ) (es : List LabelEntry) (i : ℕ) → slice_get (entries_of bytes es) i ≡ option_map (λ (e : LabelEntry). (label_of bytes e, e.info)) (slice_get es i)
unfolding entries_of
entries_of_at_place bytes es i = slice_get-map _ es i

-- an entry that was read, where its label's entry is
pub entry_read_where_label_is : (bytes : List ℕ) (es : List LabelEntry) (label : List ℕ) (i : ℕ) (e : LabelEntry) → IsAt (entries_of bytes es) label i → e ≡ get_or es i e → slice_get es i ≡ Some e
entry_read_where_label_is bytes es label i e at read =
    slice_get_read es (length es) i e refl (omega (arith, slice_get_within (entries_of bytes es) i (label, at.0) at.1, length-entries_of bytes es)) read

pub label_and_info_of_known_entry : (bytes : List ℕ) (es : List LabelEntry) (label : List ℕ) (i : ℕ) (e : LabelEntry) (info : LabelInfo) → slice_get es i ≡ Some e → slice_get (entries_of bytes es) i ≡ Some (label, info)
    → (label_of bytes e ≡ label) × (e.info ≡ info)
label_and_info_of_known_entry bytes es label i e info there at =
    let one : Some (label_of bytes e, e.info) ≡ Some (label, info) = sym (entries_of_at_known_entry bytes es i e there) ∙ at in
    (ap (λ (o : Option (List ℕ × LabelInfo)). elim o [ None ↦ label | Some k ↦ k.0 ]) one, ap (λ (o : Option (List ℕ × LabelInfo)). elim o [ None ↦ info | Some k ↦ k.1 ]) one)

-- the length of a label
pub length-label_of : (bytes : List ℕ) (e : LabelEntry) → IsHeld bytes e → length (label_of bytes e) ≡ e.len
length-label_of bytes e held = length-take-le e.len (drop e.from bytes) (omega (arith, length-drop e.from bytes, held.within))

-- a label that was read has 1 to 64 bytes
pub read_label_has_1_to_64_bytes : (bytes : List ℕ) (es : List LabelEntry) (i : ℕ) (label : List ℕ) (e : LabelEntry) → AreHeld bytes es → i < length es
    → label ≡ label_of bytes (get_or es i e) → (0 < length label) × (length label ≤ 64)
read_label_has_1_to_64_bytes bytes es i label e held within same =
    let read = held i (get_or es i e) (slice_get-get_or es i e within) in
    let count : length label ≡ (get_or es i e).len = ap length same ∙ length-label_of bytes (get_or es i e) read in
    (omega (arith, count, read.some), omega (arith, count, read.short))

-- the test of an entry
pub is_at-entry : (bytes : List ℕ) (es : List LabelEntry) (label : List ℕ) (i : ℕ) (e : LabelEntry) → slice_get es i ≡ Some e → is_at (entries_of bytes es) label i ≡ bytes_eq (label_of bytes e) label
unfolding is_at
is_at-entry bytes es label i e there = ap (λ (o : Option (List ℕ × LabelInfo)). option_map_or (λ k. bytes_eq k.0 label) o false) (entries_of_at_known_entry bytes es i e there)

pub is_at_false_past_end : (bytes : List ℕ) (es : List LabelEntry) (label : List ℕ) (i : ℕ) → slice_get es i ≡ None → is_at (entries_of bytes es) label i ≡ false
unfolding is_at
is_at_false_past_end bytes es label i past = ap (λ (o : Option (List ℕ × LabelInfo)). option_map_or (λ k. bytes_eq k.0 label) o false) (entries_of_at_place bytes es i ∙ ap (option_map _) past)

-- an entry of another length
pub is_at_false_for_other_length : (bytes : List ℕ) (es : List LabelEntry) (label : List ℕ) (i : ℕ) (e : LabelEntry) → slice_get es i ≡ Some e → IsHeld bytes e → e.len ≢ length label → is_at (entries_of bytes es) label i ≡ false
is_at_false_for_other_length bytes es label i e there held other = is_at-entry bytes es label i e there ∙ by (bytes_eq (label_of bytes e) label) refl
  where
    by : (b : Bool) → bytes_eq (label_of bytes e) label ≡ b → b ≡ false
    by false told = refl
    by true told = absurd (other (sym (length-label_of bytes e held) ∙ ap length ((bytes_eq-Decides (label_of bytes e) label).0 told)))

-- more bytes follow
label_of-more : (bytes more : List ℕ) (e : LabelEntry) → IsHeld bytes e → label_of (bytes ++ more) e ≡ label_of bytes e
label_of-more bytes more e held =
    ap (take e.len) (drop-append-le e.from bytes more (omega (arith, held.within)))
    ∙ take-append-le e.len (drop e.from bytes) more (omega (arith, length-drop e.from bytes, held.within))

AreHeld-tail : (bytes : List ℕ) (e : LabelEntry) (es : List LabelEntry) → AreHeld bytes (e ∷ es) → AreHeld bytes es
AreHeld-tail bytes e es held i k at = held (suc i) k at

entries_of-left : (bytes more : List ℕ) (es : List LabelEntry) → AreHeld bytes es → entries_of (bytes ++ more) es ≡ entries_of bytes es
unfolding entries_of
entries_of-left bytes more [] held = refl
entries_of-left bytes more (e ∷ es) held =
    ap (λ (k : List ℕ). (k, e.info) ∷ entries_of (bytes ++ more) es) (label_of-more bytes more e (held 0 e refl))
    ∙ ap (λ (ks : Entries). (label_of bytes e, e.info) ∷ ks) (entries_of-left bytes more es (AreHeld-tail bytes e es held))

-- a label is appended
module _ (bytes label : List ℕ) (es : List LabelEntry) (e : LabelEntry) (from : e.from ≡ length bytes) (len : e.len ≡ length label) where
  label_of-last : label_of (bytes ++ label) e ≡ label
  label_of-last =
      ap (λ n. take n (drop e.from (bytes ++ label))) len ∙ ap (λ n. take (length label) (drop n (bytes ++ label))) from
      ∙ ap (take (length label)) (drop-append_seam bytes label) ∙ take-length label

  pub entries_of-more : AreHeld bytes es → entries_of (bytes ++ label) (es ++ e ∷ []) ≡ entries_of bytes es ++ (label, e.info) ∷ []
  unfolding entries_of
  entries_of-more held =
      map-append _ es (e ∷ []) ∙ ap (λ (k : List ℕ). entries_of (bytes ++ label) es ++ (k, e.info) ∷ []) label_of-last
      ∙ ap (λ (ks : Entries). ks ++ (label, e.info) ∷ []) (entries_of-left bytes label es held)

  pub AreHeld-more : 0 < length label → length label ≤ 64 → AreHeld bytes es → AreHeld (bytes ++ label) (es ++ e ∷ [])
  AreHeld-more some short held i k at = by (eqb_tells i (length es))
    where
      last : IsHeld (bytes ++ label) e
      last = record {
        within = omega (arith, from, len, length-append bytes label);
        some = omega (arith, len, some);
        short = omega (arith, len, short);
      }

      by : ((eqb i (length es) ≡ true) × (i ≡ length es)) ⊎ ((eqb i (length es) ≡ false) × (i ≢ length es)) → IsHeld (bytes ++ label) k
      by (inl told) =
          let one : Some e ≡ Some k = sym (slice_get-last es e) ∙ ap (slice_get (es ++ e ∷ [])) (sym told.1) ∙ at in
          subst (IsHeld (bytes ++ label)) (ap (λ (o : Option LabelEntry). elim o [ None ↦ e | Some x ↦ x ]) one) last
      by (inr told) =
          let was = held i k (slice_get-before es (e ∷ []) i k (omega (arith, told.1, slice_get_within (es ++ e ∷ []) i k at, length-append es (e ∷ []))) at) in
          record {
            within = omega (arith, was.within, length-append bytes label);
            some = was.some;
            short = was.short;
          }

-- the info of an entry that was read is replaced, where its label's entry is
module _ (bytes : List ℕ) (es : List LabelEntry) (label : List ℕ) (i : ℕ) (old : LabelEntry) (info : LabelInfo) (at : IsAt (entries_of bytes es) label i) (read : old ≡ get_or es i old) where
  abbrev pub changed : LabelEntry
  changed = record { info = info; from = old.from; len = old.len }

  read_entry_is_at : slice_get es i ≡ Some old
  read_entry_is_at = entry_read_where_label_is bytes es label i old at read

  pub entries_of-set : entries_of bytes (slice_set es i changed) ≡ slice_set (entries_of bytes es) i (label, info)
  unfolding entries_of
  entries_of-set = map-set _ es i changed ∙ ap (λ (k : List ℕ). slice_set (entries_of bytes es) i (k, info)) (label_and_info_of_known_entry bytes es label i old at.0 read_entry_is_at at.1).0

  pub AreHeld-set : AreHeld bytes es → AreHeld bytes (slice_set es i changed)
  AreHeld-set held j k is = by (eqb_tells j i)
    where
      by : ((eqb j i ≡ true) × (j ≡ i)) ⊎ ((eqb j i ≡ false) × (j ≢ i)) → IsHeld bytes k
      by (inl told) =
          let one : Some changed ≡ Some k = sym (slice_get-set es i changed (slice_get_within es i old read_entry_is_at)) ∙ ap (slice_get (slice_set es i changed)) (sym told.1) ∙ is in
          let was = held i old read_entry_is_at in
          subst (IsHeld bytes) (ap (λ (o : Option LabelEntry). elim o [ None ↦ changed | Some x ↦ x ]) one) (record { within = was.within; some = was.some; short = was.short })
      by (inr told) = held j k (sym (slice_get_beside_set_place es i j changed told.1) ∙ is)
