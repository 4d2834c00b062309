-- Entries, each of which is the only one of its label.
use Rattle.std.proofs.Common.{◌≡◌, ℕ, zero, suc, ◌<◌, Bool, true, false, cond, List, [], ◌∷◌, ◌++◌, Option, Some, None, length, slice_get, slice_set, refl, sym, ap, subst, ◌∙◌, arith, bytes_eq, if◌then◌else◌, length-append, ltb, Decides}
use Rattle.std.specs.Map.{lookup}
use Rattle.std.specs.Option.{option_map_or}
use Rattle.std.proofs.lemmas.Cmp.{nat_list_eq_equiv}
use Rattle.std.proofs.lemmas.Slice.Eq.{bytes_eq-Decides}
use Rattle.std.proofs.lemmas.Bool.Decides.{Decides-ltb, not_from_Decides}
use Rattle.std.proofs.lemmas.Option.{slice_get_within}
use Rattle.goal_labels.specs.declared.label_map.LabelInfo.{LabelInfo}
use Rattle.goal_labels.specs.Entries.{Entries, put, is_at, IsAt, IsAbsent, AreUnique}
use Rattle.goal_labels.proofs.PlaceLemmas.{slice_get-left, slice_get-before, slice_get-last}

bytes_eq_means_equal : (x y : List ℕ) → bytes_eq x y ≡ true → x ≡ y
bytes_eq_means_equal x y h = (bytes_eq-Decides x y).0 h

bytes_eq_reflexive : (x : List ℕ) → bytes_eq x x ≡ true
bytes_eq_reflexive x = nat_list_eq_equiv.refl x

-- the test of an entry

pub is_at-means : (es : Entries) (label : List ℕ) (i : ℕ) → is_at es label i ≡ true → IsAt es label i
unfolding is_at
is_at-means es label i h = by (slice_get es i) refl h
  where
    by : (o : Option (List ℕ × LabelInfo)) → slice_get es i ≡ o → option_map_or (λ e. bytes_eq e.0 label) o false ≡ true → IsAt es label i
    by None at h = cc
    by (Some e) at h = (e.1, at ∙ ap (λ k. Some (k, e.1)) (bytes_eq_means_equal e.0 label h))

-- a guess that passed the test
pub is_at-guess : (read es : Entries) (label : List ℕ) (guess : ℕ) → is_at read label guess ≡ true → read ≡ es → IsAt es label guess
is_at-guess read es label guess told same = subst (λ (ds : Entries). IsAt ds label guess) same (is_at-means read label guess told)

-- an entry is added

pub IsAt-left : (es : Entries) (e : List ℕ × LabelInfo) (label : List ℕ) (i : ℕ) → IsAt es label i → IsAt (es ++ e ∷ []) label i
IsAt-left es e label i at = (at.0, slice_get-left es (e ∷ []) i (label, at.0) at.1)

pub IsAt-before : (es : Entries) (e : List ℕ × LabelInfo) (label : List ℕ) (i : ℕ) → i < length es → IsAt (es ++ e ∷ []) label i → IsAt es label i
IsAt-before es e label i within at = (at.0, slice_get-before es (e ∷ []) i (label, at.0) within at.1)

pub IsAt-within : (es : Entries) (label : List ℕ) (i : ℕ) → IsAt es label i → i < length es
IsAt-within es label i at = slice_get_within es i (label, at.0) at.1

pub IsAt-last : (es : Entries) (label : List ℕ) (info : LabelInfo) → IsAt (es ++ (label, info) ∷ []) label (length es)
IsAt-last es label info = (info, slice_get-last es (label, info))

pub IsAt-added : (es fs : Entries) (label : List ℕ) (info : LabelInfo) (n : ℕ) → fs ≡ es ++ (label, info) ∷ []
    → n ≡ length es → IsAt fs label n
IsAt-added es fs label info n same last =
    let there : IsAt fs label (length es) =
    subst (λ (ds : Entries). IsAt ds label (length es)) (sym same) (IsAt-last es label info) in
    subst (λ (k : ℕ). IsAt fs label k) (sym last) there

pub last-label : (es : Entries) (label q : List ℕ) (info : LabelInfo) (i : ℕ) → i ≡ length es → IsAt (es ++ (label, info) ∷ []) q i → q ≡ label
last-label es label q info i same at =
    let one : Some (q, at.0) ≡ Some (label, info) = sym at.1 ∙ ap (slice_get (es ++ (label, info) ∷ [])) same ∙ slice_get-last es (label, info) in
    ap (λ (o : Option (List ℕ × LabelInfo)). option_map_or (λ e. e.0) o []) one

pub AreUnique-more : (es : Entries) (label : List ℕ) (info : LabelInfo) → AreUnique es → IsAbsent es label → AreUnique (es ++ (label, info) ∷ [])
AreUnique-more es label info unique absent i j q a b = by (ltb i (length es)) (Decides-ltb _ _) (ltb j (length es)) (Decides-ltb _ _)
  where
    bound : (k : ℕ) → IsAt (es ++ (label, info) ∷ []) q k → (k < length es → ⊥) → k ≡ length es
    bound k at past = omega (arith, past, IsAt-within (es ++ (label, info) ∷ []) q k at, length-append es ((label, info) ∷ []))

    by : (c : Bool) → Decides c (i < length es) → (d : Bool) → Decides d (j < length es) → i ≡ j
    by true p true q' = unique i j q (IsAt-before es _ q i (p.0 refl) a) (IsAt-before es _ q j (q'.0 refl) b)
    by true p false q' =
        let last = bound j b (not_from_Decides false q' refl) in
        absurd (absent i (subst (λ k. IsAt es k i) (last-label es label q info j last b) (IsAt-before es _ q i (p.0 refl) a)))
    by false p true q' =
        let last = bound i a (not_from_Decides false p refl) in
        absurd (absent j (subst (λ k. IsAt es k j) (last-label es label q info i last a) (IsAt-before es _ q j (q'.0 refl) b)))
    by false p false q' = bound i a (not_from_Decides false p refl) ∙ sym (bound j b (not_from_Decides false q' refl))

-- the entries without the first

IsAt-tail : (e : List ℕ × LabelInfo) (es : Entries) (label : List ℕ) (i : ℕ) → IsAt es label i → IsAt (e ∷ es) label (suc i)
IsAt-tail e es label i at = at

AreUnique-tail : (e : List ℕ × LabelInfo) (es : Entries) → AreUnique (e ∷ es) → AreUnique es
AreUnique-tail e es unique i j q a b =
    let one : suc i ≡ suc j = unique (suc i) (suc j) q (IsAt-tail e es q i a) (IsAt-tail e es q j b) in
    omega (arith, one)

IsAbsent-tail : (e : List ℕ × LabelInfo) (es : Entries) (label : List ℕ) → IsAbsent (e ∷ es) label → IsAbsent es label
IsAbsent-tail e es label absent i at = absent (suc i) (IsAt-tail e es label i at)

-- the first entry has another label, if the label's entry comes later
later_label_differs : (e : List ℕ × LabelInfo) (es : Entries) (label : List ℕ) (i : ℕ) → AreUnique (e ∷ es) → IsAt es label i → bytes_eq label e.0 ≡ false
later_label_differs e es label i unique at = by (bytes_eq label e.0) refl
  where
    by : (b : Bool) → bytes_eq label e.0 ≡ b → b ≡ false
    by false h = refl
    by true h =
        let one : 0 ≡ suc i = unique 0 (suc i) label (e.1, ap (λ k. Some (k, e.1)) (sym (bytes_eq_means_equal label e.0 h))) (IsAt-tail e es label i at) in
        absurd (omega (arith, one))

absent_is_not_first : (e : List ℕ × LabelInfo) (es : Entries) (label : List ℕ) → IsAbsent (e ∷ es) label → bytes_eq label e.0 ≡ false
absent_is_not_first e es label absent = by (bytes_eq label e.0) refl
  where
    by : (b : Bool) → bytes_eq label e.0 ≡ b → b ≡ false
    by false h = refl
    by true h = absurd (absent 0 (e.1, ap (λ k. Some (k, e.1)) (sym (bytes_eq_means_equal label e.0 h))))

-- what a lookup finds, and what `put` replaces

pub lookup-there : (es : Entries) (label : List ℕ) (i : ℕ) (info : LabelInfo) → AreUnique es → slice_get es i ≡ Some (label, info) → lookup (bytes_eq label) es ≡ Some info
lookup-there [] label i info unique at = cc
lookup-there (e ∷ es) label zero info unique at =
    let here : e ≡ (label, info) = cc in
    let first : e.0 ≡ label = ap (λ p. p.0) here in
    ap (λ b. cond b (Some e.1) (lookup (bytes_eq label) es)) (ap (bytes_eq label) first ∙ bytes_eq_reflexive label) ∙ ap (λ p. Some p.1) here
lookup-there (e ∷ es) label (suc i) info unique at =
    ap (λ b. cond b (Some e.1) (lookup (bytes_eq label) es)) (later_label_differs e es label i unique (info, at))
    ∙ lookup-there es label i info (AreUnique-tail e es unique) at

pub lookup-absent : (es : Entries) (label : List ℕ) → IsAbsent es label → lookup (bytes_eq label) es ≡ None
lookup-absent [] label absent = refl
lookup-absent (e ∷ es) label absent =
    ap (λ b. cond b (Some e.1) (lookup (bytes_eq label) es)) (absent_is_not_first e es label absent) ∙ lookup-absent es label (IsAbsent-tail e es label absent)

pub put-absent : (es : Entries) (label : List ℕ) (info : LabelInfo) → IsAbsent es label → es ++ (label, info) ∷ [] ≡ put es label info
put-absent [] label info absent = refl
put-absent (e ∷ es) label info absent =
    ap (λ l. e ∷ l) (put-absent es label info (IsAbsent-tail e es label absent))
    ∙ sym (ap (λ (b : Bool). if b then (e.0, info) ∷ es else e ∷ put es label info) (absent_is_not_first e es label absent))

pub put-there : (es : Entries) (label : List ℕ) (i : ℕ) (old info : LabelInfo) → AreUnique es → slice_get es i ≡ Some (label, old)
    → slice_set es i (label, info) ≡ put es label info
put-there [] label i old info unique at = cc
put-there (e ∷ es) label zero old info unique at =
    let here : e ≡ (label, old) = cc in
    let first : e.0 ≡ label = ap (λ p. p.0) here in
    sym (ap (λ (b : Bool). if b then (e.0, info) ∷ es else e ∷ put es label info) (ap (bytes_eq label) first ∙ bytes_eq_reflexive label) ∙ ap (λ k. (k, info) ∷ es) first)
put-there (e ∷ es) label (suc i) old info unique at =
    ap (λ l. e ∷ l) (put-there es label i old info (AreUnique-tail e es unique) at)
    ∙ sym (ap (λ (b : Bool). if b then (e.0, info) ∷ es else e ∷ put es label info) (later_label_differs e es label i unique (old, at)))
