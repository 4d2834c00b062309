-- The order of labels.
use Rattle.std.proofs.Common.{◌≡◌, ℕ, ◌+◌, ◌<◌, ◌≤◌, Bool, true, false, List, [], ◌∷◌, ◌++◌, Option, length, nat_cmp}
use Rattle.std.proofs.Common.{refl, sym, ap, subst, ◌∙◌, arith, ltb, Decides}
use Rattle.std.specs.Cmp.Lexicographic.{slice_cmp}
use Rattle.std.specs.Cmp.{IsTotalOrder}
use Rattle.std.specs.Option.{option_map_or}
use Rattle.std.specs.Ordering.{ordering_then, ordering_reverse, is_eq}
use Rattle.std.specs.declared.cmp.Ordering.{Ordering}
use Rattle.std.specs.declared.cmp.Ordering.TheVariants.{Less, Equal, Greater}
use Rattle.std.proofs.lemmas.Cmp.{nat_cmp_total, nat_list_cmp_total, tied_itself, on_total, then_total}
use Rattle.std.proofs.lemmas.Map.Text.{is_eq-slice_cmp}
use Rattle.std.proofs.lemmas.Slice.Eq.{bytes_eq-Decides}
use Rattle.std.proofs.lemmas.Bool.Decides.{Decides-ltb, not_from_Decides}
use Rattle.goal_labels.specs.declared.label_map.LabelInfo.{LabelInfo}
use Rattle.goal_labels.specs.Entries.{Entries, IsAt, IsAbsent}
use Rattle.goal_labels.specs.Ordered.{or_else, label_cmp, AreBefore, AreAscending}
use Rattle.goal_labels.proofs.EntryLemmas.{IsAt-before, IsAt-within, IsAt-last}

-- the order of labels is total

or_else-is : (one other : Ordering) → ordering_then one other ≡ or_else one other
or_else-is Less other = refl
or_else-is Equal other = refl
or_else-is Greater other = refl

label_cmp-total : IsTotalOrder label_cmp
label_cmp-total =
    let lengths : IsTotalOrder (λ (x y : List ℕ). nat_cmp (length x) (length y)) = on_total (length {A = ℕ}) nat_cmp_total in
    let both : IsTotalOrder (λ (x y : List ℕ). ordering_then (nat_cmp (length x) (length y)) (slice_cmp nat_cmp x y)) =
    then_total lengths nat_list_cmp_total in
    subst IsTotalOrder (λ i x y. or_else-is (nat_cmp (length x) (length y)) (slice_cmp nat_cmp x y) i) both

pub label_cmp-trans : (x y z : List ℕ) → label_cmp x y ≡ Less → label_cmp y z ≡ Less → label_cmp x z ≡ Less
label_cmp-trans x y z = label_cmp-total.trans x y z

pub label_cmp_greater_is_less_swapped : (x y : List ℕ) → label_cmp x y ≡ Greater → label_cmp y x ≡ Less
label_cmp_greater_is_less_swapped x y past = label_cmp-total.antisymm y x ∙ ap ordering_reverse past

pub label_cmp-same : (x : List ℕ) → label_cmp x x ≡ Equal
label_cmp-same x = tied_itself label_cmp-total x

-- a label does not come before itself
pub label_cmp_less_is_irreflexive : (x y : List ℕ) → label_cmp x y ≡ Less → x ≡ y → ⊥
label_cmp_less_is_irreflexive x y before same =
    let one : Less ≡ Equal = sym before ∙ ap (λ (k : List ℕ). label_cmp k y) same ∙ label_cmp-same y in
    absurd (cc)

-- labels that tie are the same
pub label_cmp-tied : (x y : List ℕ) → label_cmp x y ≡ Equal → x ≡ y
label_cmp-tied x y tied =
    (bytes_eq-Decides x y).0 (sym (is_eq-slice_cmp x y) ∙ ap is_eq (by (nat_cmp (length x) (length y)) tied))
  where
    by : (o : Ordering) → or_else o (slice_cmp nat_cmp x y) ≡ Equal → slice_cmp nat_cmp x y ≡ Equal
    by Less told = absurd (cc)
    by Equal told = told
    by Greater told = absurd (cc)

-- a label after all from `first` on is none of them
pub label_after_all_is_none_of_them : (es : Entries) (first : ℕ) (label : List ℕ) → AreBefore es first label → (i : ℕ) → first ≤ i → IsAt es label i → ⊥
label_after_all_is_none_of_them es first label before i from at = label_cmp_less_is_irreflexive label label (before i label from at) refl

-- a label after all labels is none of them
pub label_after_all_is_absent : (es : Entries) (label : List ℕ) → AreBefore es 0 label → IsAbsent es label
label_after_all_is_absent es label before i at = label_after_all_is_none_of_them es 0 label before i (omega arith) at

-- an entry has one label
pub label_at_place_is_unique : (es : Entries) (one other : List ℕ) (i : ℕ) → IsAt es one i → IsAt es other i → one ≡ other
label_at_place_is_unique es one other i a b = ap (λ (o : Option (List ℕ × LabelInfo)). option_map_or (λ e. e.0) o []) (sym a.1 ∙ b.1)

-- a label after the last is after all from `first` on, if these ascend
pub label_after_last_is_after_all : (es : Entries) (last label : List ℕ) (first n count : ℕ) → AreAscending es first count → count ≡ length es → length es ≡ n + 1
    → IsAt es last n → label_cmp last label ≡ Less → AreBefore es first label
label_after_last_is_after_all es last label first n count ascending all many there less i one from at = by (ltb i n) (Decides-ltb _ _)
  where
    by : (c : Bool) → Decides c (i < n) → label_cmp one label ≡ Less
    by true p = label_cmp-trans one last label (ascending i n one last from (p.0 refl) (omega (arith, all, many)) at there) less
    by false p =
        let here : i ≡ n = omega (arith, many, IsAt-within es one i at, not_from_Decides false p refl) in
        ap (λ (k : List ℕ). label_cmp k label) (label_at_place_is_unique es one last n (subst (IsAt es one) here at) there) ∙ less

-- among ascending labels, one that is less has the lesser number
pub lesser_label_has_lesser_number : (es : Entries) (one other : List ℕ) (first i j count : ℕ) → AreAscending es first count → first ≤ j → i < count → IsAt es one i → IsAt es other j
    → label_cmp one other ≡ Less → i < j
lesser_label_has_lesser_number es one other first i j count ascending from within a b less = by (ltb i j) (Decides-ltb _ _) (ltb j i) (Decides-ltb _ _)
  where
    by : (c : Bool) → Decides c (i < j) → (d : Bool) → Decides d (j < i) → i < j
    by true p d q = p.0 refl
    by false p true q =
        let back = ascending j i other one from (q.0 refl) within b a in
        absurd (label_cmp_less_is_irreflexive one one (label_cmp-trans one other one less back) refl)
    by false p false q =
        let here : i ≡ j = omega (arith, not_from_Decides false p refl, not_from_Decides false q refl) in
        absurd (label_cmp_less_is_irreflexive one other less (label_at_place_is_unique es one other j (subst (IsAt es one) here a) b))

-- a label is appended
module _ (es : Entries) (label : List ℕ) (info : LabelInfo) (first count : ℕ) (ascending : AreAscending es first count) where
  abbrev entries_with_next_label : Entries
  entries_with_next_label = es ++ (label, info) ∷ []

  -- the others still ascend
  pub others_still_ascend : count ≤ length es → AreAscending (es ++ (label, info) ∷ []) first count
  others_still_ascend within i j one other from less below a b =
      ascending i j one other from less below (IsAt-before es _ one i (omega (arith, less, below, within)) a) (IsAt-before es _ other j (omega (arith, below, within)) b)

  -- the new label comes after these, and all of them ascend
  pub ascending_more : count ≡ length es → AreBefore es first label → AreAscending (es ++ (label, info) ∷ []) first (count + 1)
  ascending_more all before i j one other from less below a b = by (ltb j (length es)) (Decides-ltb _ _)
    where
      by : (c : Bool) → Decides c (j < length es) → label_cmp one other ≡ Less
      by true p =
          let within = p.0 refl in
          let earlier = IsAt-before es _ one i (omega (arith, less, within)) a in
          ascending i j one other from less (omega (arith, all, within)) earlier (IsAt-before es _ other j within b)
      by false p =
          let last : j ≡ length es = omega (arith, all, below, not_from_Decides false p refl) in
          ap (label_cmp one) (label_at_place_is_unique entries_with_next_label other label (length es) (subst (IsAt entries_with_next_label other) last b) (IsAt-last es label info))
          ∙ before i one from (IsAt-before es _ one i (omega (arith, less, last)) a)
