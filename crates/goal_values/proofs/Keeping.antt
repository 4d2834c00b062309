-- What is kept of slots after a change of the map of terms, or of the sums.
use Rattle.std.proofs.Common.{ℕ, zero, suc, ◌≡◌, ◌==◌, ◌&&◌, Bool, true, false, cond, List, [], ◌∷◌, ◌++◌, Option, Some, None, if◌then◌else◌, refl, sym, ap, ◌∙◌, arith, ◌+◌, ◌*◌, ◌-◌, ◌<◌, ◌≤◌, ◌^◌, length, subst, unwrap_or, map, length-append}
use Rattle.std.specs.Option.{option_map}
use Rattle.std.specs.Map.{lookup}
use Rattle.std.specs.Ordering.{nat_cmp}
use Rattle.std.specs.BTreeMap.{is_at}
use Rattle.std.proofs.lemmas.Option.{same_Some}
use Rattle.goal_limits.specs.Limits.{rank_limit}
use Rattle.goal_limits.specs.declared.collective.Collective.{Collective}
use Rattle.goal_blocks.specs.declared.segment.Segment.{Segment}
use Rattle.goal_blocks.specs.Values.{Value, set_slot}
use Rattle.goal_blocks.specs.Collectives.{initial}
use Rattle.goal_blocks.specs.Segments.{initial_in}
use Rattle.goal_values.specs.Kept.{values, first_values}
use Rattle.goal_blocks.specs.Weight.{stored}
use Rattle.goal_blocks.proofs.ForCallers.{stored_set, slot_length_at_most_stored, stored_exchanged}
use Rattle.goal_values.specs.declared.sums.Term.{Term}
use Rattle.goal_values.specs.Sums.{meaning, IsBelow, HasGrown}
use Rattle.goal_values.specs.Rows.{found_in, HasSameSlots, HasSet}
use Rattle.goal_values.specs.Summed.{Summed, kept_in, IsSound}
use Rattle.goal_values.proofs.SumValues.{meaning_stays, is_below_larger_bound}

abbrev pub Terms : Type 0
Terms = List (List (ℕ × Term))

-- a slot with the value of its term
abbrev slot_with_value : List Value → ℕ × Term → ℕ × Value
slot_with_value sums e = (e.0, meaning sums e.1)

map_meaning : (sums : List Value) (b : Bool) (t : Term) (o : Option Term) → cond b (Some (meaning sums t)) (option_map (meaning sums) o) ≡ option_map (meaning sums) (cond b (Some t) o)
map_meaning sums true t o = refl
map_meaning sums false t o = refl

lookup_value : (sums : List Value) (test : ℕ → Bool) (es : List (ℕ × Term)) → lookup test (map (slot_with_value sums) es) ≡ option_map (meaning sums) (lookup test es)
lookup_value sums test [] = refl
lookup_value sums test (e ∷ es) =
    ap (cond (test e.0) (Some (meaning sums e.1))) (lookup_value sums test es) ∙ map_meaning sums (test e.0) e.1 (lookup test es)

found_value : (sums : List Value) (m : Terms) (r k : ℕ) → found_in (map (λ (row : List (ℕ × Term)). map (slot_with_value sums) row) m) r k ≡ option_map (meaning sums) (found_in m r k)
found_value sums [] zero k = refl
found_value sums [] (suc r) k = refl
found_value sums (row ∷ m) zero k = lookup_value sums (is_at (nat_cmp k)) row
found_value sums (row ∷ m) (suc r) k = found_value sums m r k

-- the value of a slot, from its term
pub value_from_terms : (what : Collective) (ranks : ℕ) (segment : Segment) (sums : List Value) (m : Terms) (r k : ℕ) → values (kept_in what ranks segment sums m) r k ≡ unwrap_or (option_map (meaning sums) (found_in m r k)) (initial_in what segment.width segment.block ranks r k)
unfolding values
value_from_terms what ranks segment sums m r k =
    ap (λ (o : Option Value). unwrap_or o (initial_in what segment.width segment.block ranks r k)) (found_value sums m r k)

module _ (what : Collective) (ranks : ℕ) (segment : Segment) (sums : List Value) (m n : Terms) (rank slot : ℕ) (t : Term) (updates : HasSet rank slot t m n) where
  value_after : (r k : ℕ) → values (kept_in what ranks segment sums n) r k ≡ set_slot rank slot (meaning sums t) (values (kept_in what ranks segment sums m)) r k
  unfolding set_slot
  value_after r k =
      value_from_terms what ranks segment sums n r k ∙ ap (λ (o : Option Term). unwrap_or (option_map (meaning sums) o) first) (updates r k) ∙ go ((r == rank) && (k == slot))
    where
      first : Value
      first = initial_in what segment.width segment.block ranks r k

      go : (b : Bool) → unwrap_or (option_map (meaning sums) (if b then Some t else found_in m r k)) (initial_in what segment.width segment.block ranks r k) ≡ (if b then meaning sums t else values (kept_in what ranks segment sums m) r k)
      go true = refl
      go false = sym (value_from_terms what ranks segment sums m r k)

  pub values_after : values (kept_in what ranks segment sums n) ≡ set_slot rank slot (meaning sums t) (values (kept_in what ranks segment sums m))
  values_after = λ i r k. value_after r k i

-- if each slot has the same term as before, all values are unchanged
pub values_same : (what : Collective) (ranks : ℕ) (segment : Segment) (sums : List Value) (m n : Terms) → HasSameSlots m n → values (kept_in what ranks segment sums n) ≡ values (kept_in what ranks segment sums m)
values_same what ranks segment sums m n same = λ i r k. at r k i
  where
    at : (r k : ℕ) → values (kept_in what ranks segment sums n) r k ≡ values (kept_in what ranks segment sums m) r k
    at r k =
        value_from_terms what ranks segment sums n r k ∙ ap (λ (o : Option Term). unwrap_or (option_map (meaning sums) o) (initial_in what segment.width segment.block ranks r k)) (same r k) ∙ sym (value_from_terms what ranks segment sums m r k)

-- the invariant of a map of terms: each refers to existing sums
abbrev pub AreBelow : ℕ → Terms → Type 0
AreBelow n m = (r k : ℕ) (t : Term) → found_in m r k ≡ Some t → IsBelow n t

module _ (what : Collective) (ranks : ℕ) (segment : Segment) (sums more : List Value) (m : Terms) (below : AreBelow (length sums) m) where
  -- if sums are appended, all values are unchanged
  pub values_stay : values (kept_in what ranks segment (sums ++ more) m) ≡ values (kept_in what ranks segment sums m)
  values_stay = λ i r k. at r k i
    where
      go : (r k : ℕ) (o : Option Term) → found_in m r k ≡ o → unwrap_or (option_map (meaning (sums ++ more)) o) (initial_in what segment.width segment.block ranks r k) ≡ unwrap_or (option_map (meaning sums) o) (initial_in what segment.width segment.block ranks r k)
      go r k None e = refl
      go r k (Some t) e = meaning_stays sums more t (below r k t e)

      at : (r k : ℕ) → values (kept_in what ranks segment (sums ++ more) m) r k ≡ values (kept_in what ranks segment sums m) r k
      at r k =
          value_from_terms what ranks segment (sums ++ more) m r k ∙ go r k (found_in m r k) refl ∙ sym (value_from_terms what ranks segment sums m r k)

  pub below_after_appended_sums : AreBelow (length (sums ++ more)) m
  below_after_appended_sums r k t e =
      is_below_larger_bound (length sums) (length (sums ++ more)) t (omega (arith, length-append sums more)) (below r k t e)

pub below_after : (n : ℕ) (m after : Terms) (rank slot : ℕ) (t : Term) → HasSet rank slot t m after → AreBelow n m → IsBelow n t → AreBelow n after
below_after n m after rank slot t updates below new r k u e =
    go ((r == rank) && (k == slot)) (sym (updates r k) ∙ e)
  where
    go : (b : Bool) → (if b then Some t else found_in m r k) ≡ Some u → IsBelow n u
    go true w = subst (IsBelow n) (same_Some t u w) new
    go false w = below r k u w

none_is_not_some : {t : Term} → None ≡ Some t → ⊥
none_is_not_some e = cc

-- the values at the start
module _ (what : Collective) (ranks : ℕ) (segment : Segment) (m : Terms) (empty : m ≡ []) (sums : List Value) where
  none_found_in_empty_terms : (r k : ℕ) → found_in m r k ≡ None
  none_found_in_empty_terms r k = ap (λ (ms : Terms). found_in ms r k) empty

  pub values_empty : values (kept_in what ranks segment sums m) ≡ initial_in what segment.width segment.block ranks
  values_empty = λ i r k. at r k i
    where
      at : (r k : ℕ) → values (kept_in what ranks segment sums m) r k ≡ initial_in what segment.width segment.block ranks r k
      at r k =
          value_from_terms what ranks segment sums m r k ∙ ap (λ (o : Option Term). unwrap_or (option_map (meaning sums) o) (initial_in what segment.width segment.block ranks r k)) (none_found_in_empty_terms r k)

  pub sound_empty : (held : ℕ) → ranks ≤ rank_limit → segment.block * segment.width + segment.width ≤ 2 ^ 32 → held ≡ stored ranks (initial what ranks) → IsSound (record { kept = kept_in what ranks segment sums m; sums = sums }) m held
  sound_empty held few fits is = record {
    ranks = few;
    fits = fits;
    below = λ r k t e. absurd (none_is_not_some (sym (none_found_in_empty_terms r k) ∙ e));
    held_is = is ∙ sym (stored_exchanged segment.width segment.block what ranks fits) ∙ ap (stored ranks) (sym values_empty);
  }

-- one slot is set
module _ (what : Collective) (ranks : ℕ) (segment : Segment) (sums : List Value) (m after : Terms) (rank slot : ℕ) (t : Term) (updates : HasSet rank slot t m after) where
  pub sound_after : (held more : ℕ) → rank < ranks → slot < 2 ^ 32 → IsBelow (length sums) t → IsSound (record { kept = kept_in what ranks segment sums m; sums = sums }) m held → more ≡ held - length (values (kept_in what ranks segment sums m) rank slot) + length (meaning sums t) → IsSound (record { kept = kept_in what ranks segment sums after; sums = sums }) after more
  sound_after held more low small new sound is = record {
    ranks = sound.ranks;
    fits = sound.fits;
    below = below_after (length sums) m after rank slot t updates sound.below new;
    held_is =
        let kept_before = stored_set ranks rank slot (meaning sums t) (values (kept_in what ranks segment sums m)) low small in
        let now : stored ranks (values (kept_in what ranks segment sums after)) ≡ stored ranks (set_slot rank slot (meaning sums t) (values (kept_in what ranks segment sums m))) = ap (stored ranks) (values_after what ranks segment sums m after rank slot t updates) in
        let most = slot_length_at_most_stored ranks rank slot (values (kept_in what ranks segment sums m)) low small in
        omega (arith, kept_before, now, most, is, sound.held_is);
  }

-- the invariant still holds if each slot has the same term as before
pub sound_same : (what : Collective) (ranks : ℕ) (segment : Segment) (sums : List Value) (m n : Terms) (held : ℕ) → HasSameSlots m n → IsSound (record { kept = kept_in what ranks segment sums m; sums = sums }) m held → IsSound (record { kept = kept_in what ranks segment sums n; sums = sums }) n held
sound_same what ranks segment sums m n held same sound = record {
  ranks = sound.ranks;
  fits = sound.fits;
  below = λ r k t e. sound.below r k t (sym (same r k) ∙ e);
  held_is = sound.held_is ∙ ap (stored ranks) (sym (values_same what ranks segment sums m n same));
}

-- the value is that in the map, or else the first value
module _ (what : Collective) (ranks : ℕ) (segment : Segment) (sums : List Value) (m : Terms) (s : Summed) (is : record { kept = kept_in what ranks segment sums m; sums = sums } ≡ s) where
  pub value_of_found_term : (r k : ℕ) (t : Term) → Some t ≡ found_in m r k → meaning s.sums t ≡ values s.kept r k
  value_of_found_term r k t e =
      subst (λ (u : Summed). meaning u.sums t ≡ values u.kept r k) is (sym (value_from_terms what ranks segment sums m r k ∙ ap (λ (o : Option Term). unwrap_or (option_map (meaning sums) o) (initial_in what segment.width segment.block ranks r k)) (sym e)))

  pub first_value_without_term : (r k : ℕ) (v : Value) → None ≡ found_in m r k → v ≡ first_values s.kept r k → v ≡ values s.kept r k
  first_value_without_term r k v e first =
      first ∙ subst (λ (u : Summed). first_values u.kept r k ≡ values u.kept r k) is (sym (value_from_terms what ranks segment sums m r k ∙ ap (λ (o : Option Term). unwrap_or (option_map (meaning sums) o) (initial_in what segment.width segment.block ranks r k)) (sym e)))

  pub found_term_is_below : (held : ℕ) → IsSound (record { kept = kept_in what ranks segment sums m; sums = sums }) m held → (r k : ℕ) (t : Term) → Some t ≡ found_in m r k → IsBelow (length s.sums) t
  found_term_is_below held sound r k t e =
      subst (λ (u : Summed). IsBelow (length u.sums) t) is (sound.below r k t (sym e))

-- the term in the map of a slot, or else a term of its first value
module _ (what : Collective) (ranks : ℕ) (segment : Segment) (sums : List Value) (m : Terms) (r k : ℕ) (old : Option Term) (first : Term) (there : old ≡ found_in m r k) where
  pub size_of_old_or_first_term : meaning sums first ≡ initial_in what segment.width segment.block ranks r k → length (meaning sums (unwrap_or old first)) ≡ length (values (kept_in what ranks segment sums m) r k)
  size_of_old_or_first_term is =
      ap length (go old ∙ sym (value_from_terms what ranks segment sums m r k ∙ ap (λ (o : Option Term). unwrap_or (option_map (meaning sums) o) (initial_in what segment.width segment.block ranks r k)) (sym there)))
    where
      go : (o : Option Term) → meaning sums (unwrap_or o first) ≡ unwrap_or (option_map (meaning sums) o) (initial_in what segment.width segment.block ranks r k)
      go None = is
      go (Some t) = refl

  pub old_or_first_term_is_below : IsBelow (length sums) first → AreBelow (length sums) m → IsBelow (length sums) (unwrap_or old first)
  old_or_first_term_is_below small below = go old (sym there)
    where
      go : (o : Option Term) → found_in m r k ≡ o → IsBelow (length sums) (unwrap_or o first)
      go None e = small
      go (Some t) e = below r k t e

-- sums were appended
module _ (what : Collective) (ranks : ℕ) (segment : Segment) (sums new : List Value) (m : Terms) (held : ℕ) (sound : IsSound (record { kept = kept_in what ranks segment sums m; sums = sums }) m held) (grown : HasGrown sums new) where
  pub values_grown : values (kept_in what ranks segment new m) ≡ values (kept_in what ranks segment sums m)
  values_grown =
      ap (λ (ns : List Value). values (kept_in what ranks segment ns m)) grown.1 ∙ values_stay what ranks segment sums grown.0 m sound.below

  pub sound_grown : IsSound (record { kept = kept_in what ranks segment new m; sums = new }) m held
  sound_grown = record {
    ranks = sound.ranks;
    fits = sound.fits;
    below = subst (λ (ns : List Value). AreBelow (length ns) m) (sym grown.1) (below_after_appended_sums what ranks segment sums grown.0 m sound.below);
    held_is = sound.held_is ∙ ap (stored ranks) (sym values_grown);
  }
