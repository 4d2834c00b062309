-- The invariant of a map after each change.
use Rattle.std.proofs.Common.{◌≡◌, ◌≢◌, ℕ, ◌+◌, ◌<◌, ◌≤◌, Bool, true, false, List, [], ◌∷◌, ◌++◌, Option, Some, None, length, slice_get, slice_set, refl, sym, ap, subst, ◌∙◌, arith, inl, inr, ◌⊎◌, length-append, bytes_eq, eqb, ltb, Decides, if◌then◌else◌, unwrap_or}
use Rattle.std.specs.Option.{IfNone}
use Rattle.std.proofs.lemmas.Cmp.{nat_list_eq_equiv}
use Rattle.std.proofs.lemmas.Slice.Eq.{bytes_eq-Decides}
use Rattle.std.proofs.lemmas.Bool.Decides.{eqb_tells, Decides-ltb, not_from_Decides}
use Rattle.std.proofs.lemmas.Option.{slice_get_within, none-some}
use Rattle.std.proofs.lemmas.List.{length-set}
use Rattle.goal_labels.specs.declared.numbers.LabelNumbers.{LabelNumbers}
use Rattle.goal_labels.specs.declared.label_map.LabelInfo.{LabelInfo}
use Rattle.goal_labels.specs.declared.label_map.LabelEntry.{LabelEntry}
use Rattle.goal_labels.specs.Entries.{Entries, entries_of, IsAt, IsAbsent, AreUnique, AreHeld}
use Rattle.goal_labels.specs.Indexed.{IsMap}
use Rattle.goal_labels.specs.Numbers.{number_of, AreFew}
use Rattle.goal_labels.specs.Ordered.{AreBefore}
use Rattle.goal_labels.proofs.PlaceLemmas.{slice_get-set, slice_get_beside_set_place}
use Rattle.goal_labels.proofs.EntryLemmas.{IsAt-within, IsAt-before, IsAt-left, IsAt-last, AreUnique-more}
use Rattle.goal_labels.proofs.HeldLemmas.{AreHeld-none, entries_of-empty}
use Rattle.goal_labels.proofs.OrderedLemmas.{label_at_place_is_unique, others_still_ascend, ascending_more}

-- a map without labels
module _ (bytes : List ℕ) (es : List LabelEntry) (first ascending : ℕ) (numbers : LabelNumbers) (none : es ≡ []) (start : first ≡ 0) (end : ascending ≡ 0)
    (absent_has_no_number : (label : List ℕ) → number_of numbers label ≡ None) (few : AreFew numbers) where
  entries_of_empty_map : entries_of bytes es ≡ []
  entries_of_empty_map = entries_of-empty bytes es none

  pub empty_map_keeps_invariant : AreHeld bytes es × IsMap (entries_of bytes es) first ascending numbers
  empty_map_keeps_invariant = (
    AreHeld-none bytes es none,
    record {
      begins = omega (arith, start, end);
      within = omega (arith, end);
      ascend = λ i j one other from less below a b. absurd (omega (arith, below, end));
      numbered_before = λ i label below at. absurd (omega (arith, below, start));
      numbered_after = λ i label past at. absurd (omega (arith, IsAt-within (entries_of bytes es) label i at, ap length entries_of_empty_map));
      there = λ i label is. absurd (none-some i (sym (absent_has_no_number label) ∙ is));
      apart = λ i label is from. omega (arith, end);
      few = few;
      unique = λ i j label a b. absurd (omega (arith, IsAt-within (entries_of bytes es) label i a, ap length entries_of_empty_map));
    },
  )

-- a label that is neither in the run nor numbered has no entry
pub find-absent : (es : Entries) (first ascending : ℕ) (numbers : LabelNumbers) (label : List ℕ) → IsMap es first ascending numbers
    → ((i : ℕ) → first ≤ i → i < ascending → IsAt es label i → ⊥) → (o : Option ℕ) → o ≡ number_of numbers label → IfNone o (IsAbsent es label)
find-absent es first ascending numbers label map not_in_run (Some i) is = tt
find-absent es first ascending numbers label map not_in_run None is = absent
  where
    absent : IsAbsent es label
    absent i at = by (ltb i first) (Decides-ltb _ _) (ltb i ascending) (Decides-ltb _ _)
      where
        by : (b : Bool) → Decides b (i < first) → (c : Bool) → Decides c (i < ascending) → ⊥
        by true p c q = none-some i (is ∙ map.numbered_before i label (p.0 refl) at)
        by false p true q = not_in_run i (omega (arith, not_from_Decides false p refl)) (q.0 refl) at
        by false p false q = none-some i (is ∙ map.numbered_after i label (omega (arith, not_from_Decides false q refl)) at)

-- a label that has no entry has no number
pub absent_has_no_number : (es : Entries) (first ascending : ℕ) (numbers : LabelNumbers) (label : List ℕ) → IsMap es first ascending numbers → IsAbsent es label
    → number_of numbers label ≡ None
absent_has_no_number es first ascending numbers label map absent = by (number_of numbers label) refl
  where
    by : (o : Option ℕ) → number_of numbers label ≡ o → o ≡ None
    by None told = refl
    by (Some i) told = absurd (absent i (map.there i label told))

-- the run's first label has no number
pub first_of_run_has_no_number : (es : Entries) (first ascending : ℕ) (numbers : LabelNumbers) (label : List ℕ) → IsMap es first ascending numbers → first < ascending
    → IsAt es label first → number_of numbers label ≡ None
first_of_run_has_no_number es first ascending numbers label map some at = by (number_of numbers label) refl
  where
    by : (o : Option ℕ) → number_of numbers label ≡ o → o ≡ None
    by None told = refl
    by (Some i) told =
        let changed_entry : i ≡ first = map.unique i first label (map.there i label told) at in
        absurd (omega (arith, some, changed_entry, map.apart i label told (omega (arith, changed_entry))))

-- the label of an entry gets its number
module _ (es : Entries) (label : List ℕ) (n : ℕ) (unique : AreUnique es) (at : IsAt es label n) (numbers new : LabelNumbers)
    (gives : (q : List ℕ) → number_of new q ≡ (if bytes_eq label q then Some n else number_of numbers q)) where
  number_after_insert : (q : List ℕ) (b : Bool) → bytes_eq label q ≡ b → number_of new q ≡ (if b then Some n else number_of numbers q)
  number_after_insert q b told = gives q ∙ ap (λ (c : Bool). if c then Some n else number_of numbers q) told

  -- it has this number, and each other label keeps its own
  numbered_after_insert : (i : ℕ) (q : List ℕ) → IsAt es q i → (i ≢ n → number_of numbers q ≡ Some i) → number_of new q ≡ Some i
  numbered_after_insert i q is had = by (bytes_eq label q) refl
    where
      by : (b : Bool) → bytes_eq label q ≡ b → number_of new q ≡ Some i
      by true same =
          let there : IsAt es q n = subst (λ (k : List ℕ). IsAt es k n) ((bytes_eq-Decides label q).0 same) at in
          number_after_insert q true same ∙ ap Some (unique n i q there is)
      by false other =
          number_after_insert q false other ∙ had (λ changed_entry.
          let same : q ≡ label = label_at_place_is_unique es q label n (subst (IsAt es q) changed_entry is) at in
          let told : bytes_eq label q ≡ true = ap (bytes_eq label) same ∙ nat_list_eq_equiv.refl label in
          absurd cc)

  -- a number is the new one, or existed before
  number_after_insert-cases : (i : ℕ) (q : List ℕ) (P : ℕ → List ℕ → Type 0) → P n label → (number_of numbers q ≡ Some i → P i q) → number_of new q ≡ Some i → P i q
  number_after_insert-cases i q P changed_entry had is = by (bytes_eq label q) refl
    where
      by : (b : Bool) → bytes_eq label q ≡ b → P i q
      by true same =
          let number : n ≡ i = ap (λ (o : Option ℕ). unwrap_or o 0) (sym (number_after_insert q true same) ∙ is) in
          subst (λ (k : List ℕ). P i k) ((bytes_eq-Decides label q).0 same) (subst (λ (k : ℕ). P k label) number changed_entry)
      by false other = had (sym (number_after_insert q false other) ∙ is)

-- a run of one label ends, and its label gets a number
module _ (es : Entries) (first ascending : ℕ) (numbers : LabelNumbers) (map : IsMap es first ascending numbers) (label : List ℕ) (at : IsAt es label first)
    (one : first + 1 ≡ ascending) where
  pub IsMap-ended : (new : LabelNumbers) → AreFew new → ((q : List ℕ) → number_of new q ≡ (if bytes_eq label q then Some first else number_of numbers q))
      → IsMap es ascending ascending new
  IsMap-ended new few gives = record {
    begins = omega arith;
    within = map.within;
    ascend = λ i j a b from less below p q. absurd (omega (arith, from, less, below));
    numbered_before = λ i q below is.
        numbered_after_insert es label first map.unique at numbers new gives i q is (λ other. map.numbered_before i q (omega (arith, other, below, one)) is);
    numbered_after = λ i q past is. numbered_after_insert es label first map.unique at numbers new gives i q is (λ other. map.numbered_after i q past is);
    there = λ i q is. number_after_insert-cases es label first map.unique at numbers new gives i q (λ k l. IsAt es l k) at (map.there i q) is;
    apart = λ i q is from. from;
    few = few;
    unique = map.unique;
  }

-- a label is appended
module _ (es : Entries) (label : List ℕ) (info : LabelInfo) (first ascending : ℕ) (numbers : LabelNumbers) (map : IsMap es first ascending numbers) (absent : IsAbsent es label) where
  abbrev pub entries_with_new_label : Entries
  entries_with_new_label = es ++ (label, info) ∷ []

  count : length entries_with_new_label ≡ length es + 1
  count = length-append es ((label, info) ∷ [])

  unique : AreUnique entries_with_new_label
  unique = AreUnique-more es label info map.unique absent

  -- the label joins the run
  pub IsMap-joined : ascending ≡ length es → AreBefore es first label → IsMap entries_with_new_label first (ascending + 1) numbers
  IsMap-joined all before = record {
    begins = omega (arith, map.begins);
    within = omega (arith, count, all);
    ascend = ascending_more es label info first ascending map.ascend all before;
    numbered_before = λ i q below at.
        map.numbered_before i q below (IsAt-before es (label, info) q i (omega (arith, below, map.begins, map.within)) at);
    numbered_after = λ i q past at. absurd (omega (arith, past, all, count, IsAt-within entries_with_new_label q i at));
    there = λ i q is. IsAt-left es (label, info) q i (map.there i q is);
    apart = λ i q is from. absurd (omega (arith, all, map.apart i q is from, IsAt-within es q i (map.there i q is)));
    few = map.few;
    unique = unique;
  }

  -- the label gets a number
  pub IsMap-numbered : (new : LabelNumbers) (n : ℕ) → n ≡ length es → AreFew new
      → ((q : List ℕ) → number_of new q ≡ (if bytes_eq label q then Some n else number_of numbers q)) → IsMap entries_with_new_label first ascending new
  IsMap-numbered new n last few gives = record {
    begins = map.begins;
    within = omega (arith, count, map.within);
    ascend = others_still_ascend es label info first ascending map.ascend map.within;
    numbered_before = λ i q below is. numbered_after_insert entries_with_new_label label n unique changed_entry numbers new gives i q is (λ other. map.numbered_before i q below (earlier i q is other));
    numbered_after = λ i q past is. numbered_after_insert entries_with_new_label label n unique changed_entry numbers new gives i q is (λ other. map.numbered_after i q past (earlier i q is other));
    there = λ i q is. number_after_insert-cases entries_with_new_label label n unique changed_entry numbers new gives i q (λ k l. IsAt entries_with_new_label l k) changed_entry (λ label_was_there. IsAt-left es (label, info) q i (map.there i q label_was_there)) is;
    apart = λ i q is from.
        number_after_insert-cases entries_with_new_label label n unique changed_entry numbers new gives i q (λ k l. first ≤ k → ascending ≤ k) (λ past. omega (arith, last, map.within)) (map.apart i q) is from;
    few = few;
    unique = unique;
  }
    where
      changed_entry : IsAt entries_with_new_label label n
      changed_entry = subst (IsAt entries_with_new_label label) (sym last) (IsAt-last es label info)

      earlier : (i : ℕ) (q : List ℕ) → IsAt entries_with_new_label q i → i ≢ n → IsAt es q i
      earlier i q is other = IsAt-before es (label, info) q i (omega (arith, other, last, count, IsAt-within entries_with_new_label q i is)) is

-- the info of an entry is replaced
module _ (es : Entries) (i : ℕ) (label : List ℕ) (old info : LabelInfo) (at : slice_get es i ≡ Some (label, old)) where
  abbrev pub now : Entries
  now = slice_set es i (label, info)

  changed_entry : slice_get now i ≡ Some (label, info)
  changed_entry = slice_get-set es i (label, info) (slice_get_within es i (label, old) at)

  -- each label keeps its place
  label_was_there : (q : List ℕ) (j : ℕ) → IsAt now q j → IsAt es q j
  label_was_there q j is = by (eqb_tells j i)
    where
      by : ((eqb j i ≡ true) × (j ≡ i)) ⊎ ((eqb j i ≡ false) × (j ≢ i)) → IsAt es q j
      by (inl told) =
          let one : Some (label, info) ≡ Some (q, is.0) = sym changed_entry ∙ ap (slice_get now) (sym told.1) ∙ is.1 in
          let same : label ≡ q = ap (λ (o : Option (List ℕ × LabelInfo)). elim o [ None ↦ [] | Some e ↦ e.0 ]) one in
          (old, ap (slice_get es) told.1 ∙ at ∙ ap (λ k. Some (k, old)) same)
      by (inr told) = (is.0, sym (slice_get_beside_set_place es i j (label, info) told.1) ∙ is.1)

  label_stays_at_place : (q : List ℕ) (j : ℕ) → IsAt es q j → IsAt now q j
  label_stays_at_place q j is = by (eqb_tells j i)
    where
      by : ((eqb j i ≡ true) × (j ≡ i)) ⊎ ((eqb j i ≡ false) × (j ≢ i)) → IsAt now q j
      by (inl told) =
          let one : Some (label, old) ≡ Some (q, is.0) = sym at ∙ ap (slice_get es) (sym told.1) ∙ is.1 in
          let same : label ≡ q = ap (λ (o : Option (List ℕ × LabelInfo)). elim o [ None ↦ [] | Some e ↦ e.0 ]) one in
          (info, ap (slice_get now) told.1 ∙ changed_entry ∙ ap (λ k. Some (k, info)) same)
      by (inr told) = (is.0, slice_get_beside_set_place es i j (label, info) told.1 ∙ is.1)

  pub IsMap-set : (first ascending : ℕ) (numbers : LabelNumbers) → IsMap es first ascending numbers → IsMap now first ascending numbers
  IsMap-set first ascending numbers map = record {
    begins = map.begins;
    within = omega (arith, map.within, length-set es i (label, info));
    ascend = λ j k one other from less below a b. map.ascend j k one other from less below (label_was_there one j a) (label_was_there other k b);
    numbered_before = λ j q below is. map.numbered_before j q below (label_was_there q j is);
    numbered_after = λ j q past is. map.numbered_after j q past (label_was_there q j is);
    there = λ j q is. label_stays_at_place q j (map.there j q is);
    apart = map.apart;
    few = map.few;
    unique = λ j k q a b. map.unique j k q (label_was_there q j a) (label_was_there q k b);
  }
