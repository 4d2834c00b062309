-- What slots have in maps, one for each of the first ranks, after a change.
use Rattle.std.proofs.Common.{ℕ, zero, suc, ◌≡◌, ◌≢◌, ◌==◌, ◌&&◌, ◌<◌, Bool, true, false, List, [], ◌∷◌, map, length, get_or, set, Option, Some, Result, Ok, Err, OnOk, OnErr, if◌then◌else◌, refl, sym, ap, ◌∙◌, arith, eq-eqb}
use Rattle.std.proofs.lemmas.List.{get_or-set_same, get_or-set_other, length-map}
use Rattle.std.proofs.lemmas.Bool.{both_ways, eqb-true}
use Rattle.std.specs.Ordering.{nat_cmp}
use Rattle.std.specs.BTreeMap.{BTreeMap, get}
use Rattle.goal_values.specs.declared.sums.Term.{Term}
use Rattle.goal_values.specs.Rows.{found_in, HasSameSlots, HasSet}

-- the slots of maps, in lists
abbrev pub listed : List (BTreeMap ℕ Term) → List (List (ℕ × Term))
listed maps = map (λ (row : BTreeMap ℕ Term). row.entries) maps

-- the map of one rank is changed
listed_set : (maps : List (BTreeMap ℕ Term)) (i : ℕ) (m : BTreeMap ℕ Term) → listed (set maps i m) ≡ set (listed maps) i m.entries
listed_set [] i m = refl
listed_set (n ∷ maps) zero m = refl
listed_set (n ∷ maps) (suc i) m = ap (λ (rows : List (List (ℕ × Term))). n.entries ∷ rows) (listed_set maps i m)

listed_at : (maps : List (BTreeMap ℕ Term)) (i : ℕ) (m : BTreeMap ℕ Term) → i < length maps → get_or (listed maps) i [] ≡ (get_or maps i m).entries
listed_at [] i m l = absurd (omega (arith, l))
listed_at (n ∷ maps) zero m l = refl
listed_at (n ∷ maps) (suc i) m l = listed_at maps i m (omega (arith, l))

module _ (before : List (List (ℕ × Term))) (maps : List (BTreeMap ℕ Term)) (rank : ℕ) (old new : BTreeMap ℕ Term) (same : HasSameSlots before (listed maps)) (within : rank < length maps) (was : old ≡ get_or maps rank old) where
  set_found : (k : ℕ) → found_in (listed (set maps rank new)) rank k ≡ get nat_cmp new k
  set_found k =
      let inside : rank < length (listed maps) = omega (arith, within, length-map maps (λ (row : BTreeMap ℕ Term). row.entries)) in
      ap (λ (rows : List (List (ℕ × Term))). found_in rows rank k) (listed_set maps rank new) ∙ ap (λ (row : List (ℕ × Term)). found_in (row ∷ []) 0 k) (get_or-set_same (listed maps) rank new.entries [] inside)

  found_elsewhere : (r k : ℕ) → r ≢ rank → found_in (listed (set maps rank new)) r k ≡ found_in before r k
  found_elsewhere r k other =
      ap (λ (rows : List (List (ℕ × Term))). found_in rows r k) (listed_set maps rank new) ∙ ap (λ (row : List (ℕ × Term)). found_in (row ∷ []) 0 k) (get_or-set_other (listed maps) rank r new.entries [] other) ∙ same r k

  pub was_found : (k : ℕ) → get nat_cmp old k ≡ found_in before rank k
  was_found k =
      ap (λ (m : BTreeMap ℕ Term). get nat_cmp m k) was ∙ ap (λ (row : List (ℕ × Term)). found_in (row ∷ []) 0 k) (sym (listed_at maps rank old within)) ∙ same rank k

  pub has_set : (slot : ℕ) (t : Term) → ((k : ℕ) → get nat_cmp new k ≡ (if k == slot then Some t else get nat_cmp old k)) → HasSet rank slot t before (listed (set maps rank new))
  has_set slot t put r k = go (r == rank) refl
    where
      go : (b : Bool) → (r == rank) ≡ b → found_in (listed (set maps rank new)) r k ≡ (if (r == rank) && (k == slot) then Some t else found_in before r k)
      go true e =
          let is : r ≡ rank = eqb-true r rank e in
          let rest : found_in (listed (set maps rank new)) r k ≡ (if k == slot then Some t else found_in before r k) = ap (λ (i : ℕ). found_in (listed (set maps rank new)) i k) is ∙ set_found k ∙ put k ∙ ap (λ (o : Option Term). if k == slot then Some t else o) (was_found k ∙ ap (λ (i : ℕ). found_in before i k) (sym is)) in
          rest ∙ ap (λ (b : Bool). if b && (k == slot) then Some t else found_in before r k) (sym e)
      go false e =
          found_elsewhere r k (λ s. both_ways _ e (eq-eqb r rank s)) ∙ ap (λ (b : Bool). if b && (k == slot) then Some t else found_in before r k) (sym e)

  pub has_same : new.entries ≡ old.entries → HasSameSlots before (listed (set maps rank new))
  has_same stays r k = go (r == rank) refl
    where
      go : (b : Bool) → (r == rank) ≡ b → found_in (listed (set maps rank new)) r k ≡ found_in before r k
      go true e =
          let is : r ≡ rank = eqb-true r rank e in
          ap (λ (i : ℕ). found_in (listed (set maps rank new)) i k) is ∙ set_found k ∙ ap (λ (row : List (ℕ × Term)). found_in (row ∷ []) 0 k) stays ∙ was_found k ∙ ap (λ (i : ℕ). found_in before i k) (sym is)
      go false e = found_elsewhere r k (λ s. both_ways _ e (eq-eqb r rank s))

-- the same, from the result of the change
pub set_if_ok : {X E : Type 0} (old : List (List (ℕ × Term))) (rank slot : ℕ) (t : Term) (new : List (List (ℕ × Term))) (P : Type 0) (r : Result X E) → OnOk r P → (P → HasSet rank slot t old new) → OnOk r (HasSet rank slot t old new)
set_if_ok old rank slot t new P (Ok x) p f = f p
set_if_ok old rank slot t new P (Err e) p f = tt

pub same_if_err : {X E : Type 0} (old new : List (List (ℕ × Term))) (P : Type 0) (r : Result X E) → OnErr r P → (P → HasSameSlots old new) → OnErr r (HasSameSlots old new)
same_if_err old new P (Ok x) p f = tt
same_if_err old new P (Err e) p f = f p

pub on_err : {X E : Type 0} (P : Type 0) (r : Result X E) → P → OnErr r P
on_err P (Ok x) p = tt
on_err P (Err e) p = p
