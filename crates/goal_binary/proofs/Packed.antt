-- Packed numbers, both ways.
use Rattle.std.proofs.Common.{◌≡◌, ℕ, zero, suc, ◌+◌, ◌-◌, ◌*◌, ◌/◌, ◌%◌, ◌^◌, ◌<◌, ◌≤◌, Bool, true, false, cond, ltb, ◌&&◌, List, [], ◌∷◌, ◌++◌, length, get_or, take, drop, Option, Some, None, Ok, Err, refl, sym, ap, subst, ◌∙◌, arith, inl, inr}
use Rattle.std.proofs.lemmas.Bool.{cases_lt, lt-ltb, le-ltb, ltb-true, ltb-false}
use Rattle.std.proofs.lemmas.Option.{slice_get_past, slice_get-get_or, same_Some}
use Rattle.goal_graph.proofs.ForCallers.{and_left, and_right}
use Rattle.goal_binary.specs.declared.fault.FileFault.{FileFault}
use Rattle.goal_binary.specs.declared.fault.FileFault.TheVariants.{Short}
use Rattle.goal_binary.specs.File.{groups, packed}
use Rattle.goal_binary.specs.Fields.{Read, ◌>>=◌, byte_or_short, byte_at, below, given, groups_at, packed_at}
use Rattle.goal_binary.proofs.Groups.{Fits, fits_10, groups-low, groups-high}
use Rattle.goal_binary.proofs.Steps.{IsBytes, bind_ok, ok_injective, Takes, Takes-then}
use Rattle.goal_binary.proofs.FieldsTaken.{IsBytes-drop, IsBytes-take, byte_taken}
use Rattle.goal_binary.proofs.FieldsAgain.{IsReadAs, byte_again}
use Rattle.goal_binary.proofs.Readers.{take-shorter}
use Rattle.goal_binary.proofs.FieldsRead.{passes_from, first_of, passes_always, byte_at_is_field, byte_reads, fault_of_injective}
use Rattle.goal_binary.specs.declared.layout.Layout.TheVariants.{Packed}

abbrev pub some_of : ℕ → Option ℕ
some_of n = Some n

abbrev pub read_of : Option ℕ → ℕ → Option ℕ × ℕ
read_of v after = (v, after)

-- the groups above a group
record IsAbove (group : ℕ) (others : Option ℕ) (v : ℕ) : Type 0 where
  n : ℕ
  is : others ≡ Some n
  some : 0 < n
  few : n < 2 ^ 57
  whole : v ≡ group + 128 * n

joined_number_is_above : (group : ℕ) (others : Option ℕ) (v : ℕ) → below group others ≡ some_of v → IsAbove group others v
joined_number_is_above group None v e = absurd cc
joined_number_is_above group (Some n) v e = go (ltb 0 n && ltb n (2 ^ 57)) refl e
  where
    go : (b : Bool) → (ltb 0 n && ltb n (2 ^ 57)) ≡ b → cond b (some_of (group + 128 * n)) None ≡ some_of v → IsAbove group (Some n) v
    go true is e = record {
      n = n;
      is = refl;
      some = ltb-true 0 n (and_left (ltb 0 n) (ltb n (2 ^ 57)) is);
      few = ltb-true n (2 ^ 57) (and_right (ltb 0 n) (ltb n (2 ^ 57)) is);
      whole = sym (same_Some (group + 128 * n) v e);
    }
    go false is e = absurd cc

group_joined_with_those_above : (n : ℕ) → 128 ≤ n → n < 2 ^ 64 → below (128 + n % 128 - 128) (Some (n / 128)) ≡ some_of n
group_joined_with_those_above n high lt =
    let some : ltb 0 (n / 128) ≡ true = lt-ltb _ _ (omega arith) in
    let few : ltb (n / 128) (2 ^ 57) ≡ true = lt-ltb _ _ (omega arith) in
    let whole : 128 + n % 128 - 128 + 128 * (n / 128) ≡ n = omega arith in
    rw (some, few) (ap some_of whole)

module _ (bytes : List ℕ) where
  byte_place : (at : ℕ) (x : ℕ × ℕ) → byte_at bytes at ≡ Ok x → (x.1 ≡ at + 1) × (at < length bytes)
  byte_place at x e =
      let p = passes_from 1 first_of passes_always (omega arith) bytes at x.0 x.1 (sym (byte_at_is_field bytes at) ∙ e) in
      (sym p.after_is, omega (arith, p.room))

  byte_missing : (at : ℕ) (f : FileFault) → byte_at bytes at ≡ Err f → (Short (length bytes) ≡ f) × (length bytes ≤ at)
  unfolding byte_at
  byte_missing at f e = elim (cases_lt at (length bytes)) [
    | inl inside ↦ let there = sym (ap (byte_or_short bytes at) (slice_get-get_or bytes at 0 inside)) ∙ e in absurd cc
    | inr past ↦ (fault_of_injective (Short (length bytes)) f (sym (ap (byte_or_short bytes at) (slice_get_past bytes at past)) ∙ e), past)
  ]

abbrev option_fault : FileFault → Read (Option ℕ)
option_fault f = Err f

option_fault_injective : (d f : FileFault) → option_fault d ≡ option_fault f → d ≡ f
option_fault_injective d f e = cc

-- the groups after the first
abbrev groups_after : (bytes : List ℕ) (left : ℕ) → ℕ × ℕ → Bool → Read (Option ℕ)
groups_after bytes left group low = cond low (Ok (Some group.0, group.1)) (groups_at bytes left group.1 >>= λ others. Ok (read_of (below (group.0 - 128) others.0) others.1))

pub groups_at_one_step : (bytes : List ℕ) (left at : ℕ) → groups_at bytes (suc left) at ≡ (byte_at bytes at >>= λ group. groups_after bytes left group (ltb group.0 128))
unfolding groups_at
groups_at_one_step bytes left at = refl

pub groups_at_none_left : (bytes : List ℕ) (at : ℕ) → groups_at bytes 0 at ≡ Ok (read_of None at)
unfolding groups_at
groups_at_none_left bytes at = refl

-- groups that are read are those of the number
module _ (bytes : List ℕ) (fits : IsBytes bytes) where
  abbrev AreTaken : ℕ → Type 0
  AreTaken left = (at v after : ℕ) → groups_at bytes left at ≡ Ok (read_of (Some v) after) → Takes bytes at (groups left v) after

  rest_taken : (left at v after : ℕ) (group : ℕ × ℕ) → AreTaken left → Takes bytes at (group.0 ∷ []) group.1 → group.0 < 256 → (low : Bool) → ltb group.0 128 ≡ low
      → groups_after bytes left group low ≡ Ok (read_of (Some v) after) → Takes bytes at (groups (suc left) v) after
  rest_taken left at v after group lower takes width true is e =
      let same = ok_injective (read_of (Some group.0) group.1) (read_of (Some v) after) e in
      let v_is : group.0 ≡ v = same_Some group.0 v (ap (λ (p : Option ℕ × ℕ). p.0) same) in
      let place : group.1 ≡ after = ap (λ (p : Option ℕ × ℕ). p.1) same in
      let low : v < 128 = omega (arith, v_is, ltb-true group.0 128 is) in
      rw (groups-low left v low, ← v_is, ← place) takes
  rest_taken left at v after group lower takes width false is e =
      let o = bind_ok (groups_at bytes left group.1) (λ others. Ok (read_of (below (group.0 - 128) others.0) others.1)) (read_of (Some v) after) e in
      let same = ok_injective (read_of (below (group.0 - 128) o.0.0) o.0.1) (read_of (Some v) after) o.2 in
      let a = joined_number_is_above (group.0 - 128) o.0.0 v (ap (λ (p : Option ℕ × ℕ). p.0) same) in
      let place : o.0.1 ≡ after = ap (λ (p : Option ℕ × ℕ). p.1) same in
      let read : groups_at bytes left group.1 ≡ Ok (read_of (Some a.n) after) = o.1 ∙ ap (λ (p : Option ℕ × ℕ). Ok p) (both_are o.0.0 (Some a.n) o.0.1 after a.is place) in
      let high = ltb-false group.0 128 is in
      let above : v / 128 ≡ a.n = omega (arith, a.whole, high, width) in
      let group_is : 128 + v % 128 ≡ group.0 = omega (arith, a.whole, high, width) in
      let large : 128 ≤ v = omega (arith, a.whole, a.some) in
      rw (groups-high left v large, above, group_is) (Takes-then bytes at (group.0 ∷ []) group.1 (groups left a.n) after takes (lower group.1 a.n after read))
    where
      both_are : (x y : Option ℕ) (m n : ℕ) → x ≡ y → m ≡ n → read_of x m ≡ read_of y n
      both_are x y m n a b = rw (a, b) refl

  byte_bound : (at : ℕ) (x : ℕ × ℕ) → byte_at bytes at ≡ Ok x → x.0 < 256
  byte_bound at x e =
      let p = passes_from 1 first_of passes_always (omega arith) bytes at x.0 x.1 (sym (byte_at_is_field bytes at) ∙ e) in
      let here : get_or (take 1 (drop at bytes)) 0 0 < 256 = IsBytes-take 1 (drop at bytes) (IsBytes-drop at bytes fits) 0 in
      omega (arith, here, p.value_is)

  step_taken : (left : ℕ) → AreTaken left → AreTaken (suc left)
  step_taken left lower at v after e =
      let a = bind_ok (byte_at bytes at) (λ group. groups_after bytes left group (ltb group.0 128)) (read_of (Some v) after) (sym (groups_at_one_step bytes left at) ∙ e) in
      rest_taken left at v after a.0 lower (byte_taken bytes at a.0 a.1) (byte_bound at a.0 a.1) (ltb a.0.0 128) refl a.2

  groups_taken : (left : ℕ) → AreTaken left
  groups_taken zero at v after e = let none = sym (groups_at_none_left bytes at) ∙ e in absurd (no_number at v after none)
    where
      no_number : (at v after : ℕ) → ◌≡◌ {A = Read (Option ℕ)} (Ok (read_of None at)) (Ok (read_of (Some v) after)) → ⊥
      no_number at v after e = let same = ap (λ (p : Option ℕ × ℕ). p.0) (ok_injective (read_of None at) (read_of (Some v) after) e) in absurd cc
  groups_taken (suc left) at v after e = step_taken left (groups_taken left) at v after e

-- groups of a number are read
module _ (bytes : List ℕ) where
  pub groups_again-low : (left at n : ℕ) (rest : List ℕ) → n < 128 → drop at bytes ≡ n ∷ rest → IsReadAs bytes (groups_at bytes (suc left) at) (Some n) rest
  groups_again-low left at n rest low h =
      let b = byte_again bytes at n rest h in
      record { place = b.place; is = groups_at_one_step bytes left at ∙ rw (b.is, lt-ltb n 128 low) refl; rest_is = b.rest_is }

  groups_again-high : (left at n : ℕ) (rest : List ℕ) → 128 ≤ n → n < 2 ^ 64 → drop at bytes ≡ groups (suc left) n ++ rest
      → ((at : ℕ) → drop at bytes ≡ groups left (n / 128) ++ rest → IsReadAs bytes (groups_at bytes left at) (Some (n / 128)) rest) → IsReadAs bytes (groups_at bytes (suc left) at) (Some n) rest
  groups_again-high left at n rest high lt h lower =
      let b = byte_again bytes at (128 + n % 128) (groups left (n / 128) ++ rest) (h ∙ ap (λ (t : List ℕ). t ++ rest) (groups-high left n high)) in
      let r = lower b.place b.rest_is in
      let not_low : ltb (128 + n % 128) 128 ≡ false = le-ltb _ _ (omega arith) in
      record {
        place = r.place;
        is = groups_at_one_step bytes left at ∙ rw (b.is, not_low, r.is) (ap (λ (v : Option ℕ). Ok (read_of v r.place)) (group_joined_with_those_above n high lt));
        rest_is = r.rest_is;
      }

  pub groups_again : (left at n : ℕ) (rest : List ℕ) → Fits left n → n < 2 ^ 64 → drop at bytes ≡ groups left n ++ rest → IsReadAs bytes (groups_at bytes left at) (Some n) rest
  groups_again zero at n rest fit lt h = absurd fit
  groups_again (suc left) at n rest fit lt h = elim (cases_lt n 128) [
    | inl low ↦ groups_again-low left at n rest low (h ∙ ap (λ (t : List ℕ). t ++ rest) (groups-low left n low))
    | inr high ↦ elim fit [
      | inl low ↦ absurd (omega (arith, low, high))
      | inr fit ↦ groups_again-high left at n rest high lt h (λ at h. groups_again left at (n / 128) rest fit (omega (arith, lt)) h)
    ]
  ]

  -- where the groups end
  pub record EndsAt (left at after : ℕ) : Type 0 where
    pub from : at ≤ after
    pub inside : after ≤ length bytes
    pub few : after ≤ at + left

  abbrev End : ℕ → Type 0
  End left = (at : ℕ) (v : Option ℕ) (after : ℕ) → at ≤ length bytes → groups_at bytes left at ≡ Ok (read_of v after) → EndsAt left at after

  rest_ends : (left at : ℕ) (v : Option ℕ) (after : ℕ) (group : ℕ × ℕ) → End left → group.1 ≡ at + 1 → at < length bytes → (low : Bool) → groups_after bytes left group low ≡ Ok (read_of v after) → EndsAt left (at + 1) after
  rest_ends left at v after group lower place within true e =
      let same : group.1 ≡ after = ap (λ (p : Option ℕ × ℕ). p.1) (ok_injective (read_of (Some group.0) group.1) (read_of v after) e) in
      record { from = omega (arith, same, place); inside = omega (arith, same, place, within); few = omega (arith, same, place) }
  rest_ends left at v after group lower place within false e =
      let o = bind_ok (groups_at bytes left group.1) (λ others. Ok (read_of (below (group.0 - 128) others.0) others.1)) (read_of v after) e in
      let same : o.0.1 ≡ after = ap (λ (p : Option ℕ × ℕ). p.1) (ok_injective (read_of (below (group.0 - 128) o.0.0) o.0.1) (read_of v after) o.2) in
      let ends = lower group.1 o.0.0 o.0.1 (omega (arith, place, within)) o.1 in
      record { from = omega (arith, ends.from, same, place); inside = omega (arith, ends.inside, same); few = omega (arith, ends.few, same, place) }

  step_ends : (left : ℕ) → End left → (at : ℕ) (v : Option ℕ) (after : ℕ) → groups_at bytes (suc left) at ≡ Ok (read_of v after) → EndsAt left (at + 1) after
  step_ends left lower at v after e =
      let a = bind_ok (byte_at bytes at) (λ group. groups_after bytes left group (ltb group.0 128)) (read_of v after) (sym (groups_at_one_step bytes left at) ∙ e) in
      let place = byte_place bytes at a.0 a.1 in
      rest_ends left at v after a.0 lower place.0 place.1 (ltb a.0.0 128) a.2

  groups_end : (left : ℕ) → End left
  groups_end zero at v after le e =
      let same : at ≡ after = ap (λ (p : Option ℕ × ℕ). p.1) (ok_injective (read_of None at) (read_of v after) (sym (groups_at_none_left bytes at) ∙ e)) in
      record { from = omega (arith, same); inside = omega (arith, same, le); few = omega (arith, same) }
  groups_end (suc left) at v after le e =
      let ends = step_ends left (groups_end left) at v after e in
      record { from = omega (arith, ends.from); inside = ends.inside; few = omega (arith, ends.few) }

  -- a field with groups has at least one
  pub field_ends : (left at : ℕ) (v : Option ℕ) (after : ℕ) → groups_at bytes (suc left) at ≡ Ok (read_of v after) → EndsAt left (at + 1) after
  field_ends left at v after e = step_ends left (groups_end left) at v after e

  -- bytes that end in the groups
  abbrev AreCut : ℕ → Type 0
  AreCut left = (at : ℕ) (f : FileFault) → at ≤ length bytes → groups_at bytes left at ≡ Err f → (Short (length bytes) ≡ f) × (length bytes < at + left)

  rest_cut : (left at : ℕ) (f : FileFault) (group : ℕ × ℕ) → AreCut left → group.1 ≡ at + 1 → at < length bytes → (low : Bool) → groups_after bytes left group low ≡ Err f → (Short (length bytes) ≡ f) × (length bytes < at + suc left)
  rest_cut left at f group lower place within true e = absurd cc
  rest_cut left at f group lower place within false e = go (groups_at bytes left group.1) refl e
    where
      go : (r : Read (Option ℕ)) → groups_at bytes left group.1 ≡ r → (r >>= λ others. Ok (read_of (below (group.0 - 128) others.0) others.1)) ≡ Err f → (Short (length bytes) ≡ f) × (length bytes < at + suc left)
      go (Ok o) is e = absurd cc
      go (Err d) is e =
          let same : d ≡ f = option_fault_injective d f e in
          let cut = lower group.1 d (omega (arith, place, within)) is in
          (cut.0 ∙ same, omega (arith, cut.1, place))

  step_cut : (left : ℕ) → AreCut left → AreCut (suc left)
  step_cut left lower at f le e = go (byte_at bytes at) refl (sym (groups_at_one_step bytes left at) ∙ e)
    where
      go : (r : Read ℕ) → byte_at bytes at ≡ r → (r >>= λ group. groups_after bytes left group (ltb group.0 128)) ≡ Err f → (Short (length bytes) ≡ f) × (length bytes < at + suc left)
      go (Ok group) is e =
          let place = byte_place bytes at group is in
          rest_cut left at f group lower place.0 place.1 (ltb group.0 128) e
      go (Err d) is e =
          let missing = byte_missing bytes at d is in
          (missing.0 ∙ option_fault_injective d f e, omega (arith, missing.1))

  pub groups_cut : (left : ℕ) → AreCut left
  groups_cut zero at f le e = let none = sym (groups_at_none_left bytes at) ∙ e in absurd cc
  groups_cut (suc left) at f le e = step_cut left (groups_cut left) at f le e

-- groups are the same in bytes that are the same up to their end
module _ (bytes other : List ℕ) where
  abbrev AreSame : ℕ → Type 0
  AreSame left = (at : ℕ) (v : Option ℕ) (after : ℕ) → at ≤ length bytes → groups_at bytes left at ≡ Ok (read_of v after) → take after other ≡ take after bytes → groups_at other left at ≡ Ok (read_of v after)

  rest_same : (left at : ℕ) (v : Option ℕ) (after : ℕ) (group : ℕ × ℕ) → AreSame left → group.1 ≤ length bytes → (low : Bool) → groups_after bytes left group low ≡ Ok (read_of v after) → take after other ≡ take after bytes
      → groups_after other left group low ≡ Ok (read_of v after)
  rest_same left at v after group lower within true e same = e
  rest_same left at v after group lower within false e same =
      let o = bind_ok (groups_at bytes left group.1) (λ others. Ok (read_of (below (group.0 - 128) others.0) others.1)) (read_of v after) e in
      let place : o.0.1 ≡ after = ap (λ (p : Option ℕ × ℕ). p.1) (ok_injective (read_of (below (group.0 - 128) o.0.0) o.0.1) (read_of v after) o.2) in
      let alike : take o.0.1 other ≡ take o.0.1 bytes = subst (λ (n : ℕ). take n other ≡ take n bytes) (sym place) same in
      ap (λ (r : Read (Option ℕ)). r >>= λ others. Ok (read_of (below (group.0 - 128) others.0) others.1)) (lower group.1 o.0.0 o.0.1 within o.1 alike) ∙ o.2

  step_same : (left : ℕ) → AreSame left → AreSame (suc left)
  step_same left lower at v after le e same =
      let a = bind_ok (byte_at bytes at) (λ group. groups_after bytes left group (ltb group.0 128)) (read_of v after) (sym (groups_at_one_step bytes left at) ∙ e) in
      let place = byte_place bytes at a.0 a.1 in
      let ends = field_ends bytes left at v after e in
      let alike : take a.0.1 other ≡ take a.0.1 bytes = take-shorter a.0.1 after other bytes (omega (arith, place.0, ends.from)) same in
      let byte : byte_at other at ≡ Ok a.0 = (byte_reads Packed).same bytes other at a.0.0 a.0.1 le a.1 alike in
      groups_at_one_step other left at ∙ ap (λ (r : Read ℕ). r >>= λ group. groups_after other left group (ltb group.0 128)) byte
      ∙ rest_same left at v after a.0 lower (omega (arith, place.0, place.1)) (ltb a.0.0 128) a.2 same

  pub groups_same : (left : ℕ) → AreSame left
  groups_same zero at v after le e same =
      let is = ok_injective (read_of None at) (read_of v after) (sym (groups_at_none_left bytes at) ∙ e) in
      groups_at_none_left other at ∙ ap (λ (p : Option ℕ × ℕ). Ok p) is
  groups_same (suc left) at v after le e same = step_same left (groups_same left) at v after le e same

-- a packed number is its first group, joined with the groups after it
pub packed_step : (bytes : List ℕ) (at : ℕ) → packed_at bytes at
    ≡ (byte_at bytes at >>= λ group. cond (ltb group.0 128) (Ok (group.0, group.1)) (groups_at bytes 9 group.1 >>= λ others. given at (below (group.0 - 128) others.0) others.1))
unfolding packed_at
packed_step bytes at = ap (λ (r : Read (Option ℕ)). r >>= λ number. given at number.0 number.1) (groups_at_one_step bytes 9 at) ∙ first (byte_at bytes at)
  where
    above : (group : ℕ × ℕ) (r : Read (Option ℕ)) → ((r >>= λ others. Ok (read_of (below (group.0 - 128) others.0) others.1)) >>= λ number. given at number.0 number.1)
        ≡ (r >>= λ others. given at (below (group.0 - 128) others.0) others.1)
    above group (Ok others) = refl
    above group (Err f) = refl

    by_size : (group : ℕ × ℕ) (low : Bool) → (groups_after bytes 9 group low >>= λ number. given at number.0 number.1)
        ≡ cond low (Ok (group.0, group.1)) (groups_at bytes 9 group.1 >>= λ others. given at (below (group.0 - 128) others.0) others.1)
    by_size group true = refl
    by_size group false = above group (groups_at bytes 9 group.1)

    first : (r : Read ℕ) → ((r >>= λ group. groups_after bytes 9 group (ltb group.0 128)) >>= λ number. given at number.0 number.1)
        ≡ (r >>= λ group. cond (ltb group.0 128) (Ok (group.0, group.1)) (groups_at bytes 9 group.1 >>= λ others. given at (below (group.0 - 128) others.0) others.1))
    first (Ok group) = by_size group (ltb group.0 128)
    first (Err f) = refl

-- the whole number
pub record IsPackedAt (bytes : List ℕ) (at n after : ℕ) : Type 0 where
  pub read : groups_at bytes 10 at ≡ Ok (read_of (Some n) after)

pub packed_ok : (bytes : List ℕ) (at : ℕ) (x : ℕ × ℕ) → packed_at bytes at ≡ Ok x → IsPackedAt bytes at x.0 x.1
unfolding packed_at
packed_ok bytes at x e =
    let a = bind_ok (groups_at bytes 10 at) (λ number. given at number.0 number.1) x e in
    go a.0.0 a.0.1 a.1 a.2
  where
    go : (v : Option ℕ) (after : ℕ) → groups_at bytes 10 at ≡ Ok (read_of v after) → given at v after ≡ Ok x → IsPackedAt bytes at x.0 x.1
    go None after is e = absurd cc
    go (Some n) after is e = subst (λ (y : ℕ × ℕ). IsPackedAt bytes at y.0 y.1) (ok_injective (n, after) x e) (record { read = is })

pub packed_taken : (bytes : List ℕ) → IsBytes bytes → (at : ℕ) (x : ℕ × ℕ) → packed_at bytes at ≡ Ok x → Takes bytes at (packed x.0) x.1
packed_taken bytes fits at x e = groups_taken bytes fits 10 at x.0 x.1 (packed_ok bytes at x e).read

pub packed_again : (bytes : List ℕ) (at n : ℕ) (rest : List ℕ) → n < 2 ^ 64 → drop at bytes ≡ packed n ++ rest → IsReadAs bytes (packed_at bytes at) n rest
unfolding packed_at
packed_again bytes at n rest lt h =
    let r = groups_again bytes 10 at n rest (fits_10 n lt) lt h in
    record { place = r.place; is = ap (λ (g : Read (Option ℕ)). g >>= λ number. given at number.0 number.1) r.is; rest_is = r.rest_is }

-- no packed number is a prefix of another
pub packed_apart : (m n : ℕ) (xs ys : List ℕ) → m < 2 ^ 64 → n < 2 ^ 64 → packed m ++ xs ≡ packed n ++ ys → (m ≡ n) × (xs ≡ ys)
packed_apart m n xs ys few_m few_n joined =
    let bytes = packed m ++ xs in
    let a = packed_again bytes 0 m xs few_m refl in
    let b = packed_again bytes 0 n ys few_n joined in
    let same = ok_injective (m, a.place) (n, b.place) (sym a.is ∙ b.is) in
    let place : a.place ≡ b.place = ap (λ (p : ℕ × ℕ). p.1) same in
    (ap (λ (p : ℕ × ℕ). p.0) same, sym a.rest_is ∙ ap (λ (k : ℕ). drop k bytes) place ∙ b.rest_is)
