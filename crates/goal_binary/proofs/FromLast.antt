-- The groups of a packed number, joined from the last one to the first.
use Rattle.std.proofs.Common.{◌≡◌, ℕ, zero, suc, ◌+◌, ◌-◌, ◌<◌, ◌≤◌, List, length, get_or}
use Rattle.std.proofs.Common.{Option, Some, None, Ok, Err, refl, sym, ap, subst, ◌∙◌, arith, inl, inr}
use Rattle.std.proofs.lemmas.Bool.{cases_lt, lt-ltb, le-ltb}
use Rattle.std.proofs.lemmas.List.{get_or_past}
use Rattle.std.proofs.lemmas.Option.{slice_get_past, slice_get-get_or}
use Rattle.goal_binary.specs.declared.fault.FileFault.{FileFault}
use Rattle.goal_binary.specs.declared.fault.FileFault.TheVariants.{Short}
use Rattle.goal_binary.specs.Fields.{◌>>=◌, byte_or_short, byte_at, below, groups_at}
use Rattle.goal_binary.proofs.Steps.{ok_injective}
use Rattle.goal_binary.proofs.Packed.{read_of, groups_at_one_step, groups_at_none_left}

module _ (bytes : List ℕ) where
  byte_before_end : (at : ℕ) → at < length bytes → byte_at bytes at ≡ Ok (get_or bytes at 0, at + 1)
  unfolding byte_at
  byte_before_end at inside = ap (byte_or_short bytes at) (slice_get-get_or bytes at 0 inside)

  byte_past_end_is_short : (at : ℕ) → length bytes ≤ at → byte_at bytes at ≡ Err (Short (length bytes))
  unfolding byte_at
  byte_past_end_is_short at past = ap (byte_or_short bytes at) (slice_get_past bytes at past)

  -- a byte that is at least 128, and several of them
  abbrev IsHigh : ℕ → Type 0
  IsHigh at = 128 ≤ get_or bytes at 0

  abbrev AreHigh : ℕ → ℕ → Type 0
  AreHigh more at = (k : ℕ) → k < more → IsHigh (at + k)

  high_there : (at : ℕ) → IsHigh at → at < length bytes
  high_there at high = elim (cases_lt at (length bytes)) [
    | inl inside ↦ inside
    | inr past ↦ absurd (omega (arith, high, get_or_past bytes at 0 past))
  ]

  -- a group with others above it
  groups_after_high_byte : (left at : ℕ) → IsHigh at
      → groups_at bytes (suc left) at
      ≡ (groups_at bytes left (at + 1) >>= λ others. Ok (read_of (below (get_or bytes at 0 - 128) others.0) others.1))
  groups_after_high_byte left at high =
      groups_at_one_step bytes left at ∙ rw (byte_before_end at (high_there at high), le-ltb (get_or bytes at 0) 128 high) refl

  -- the byte before a place that is not yet the first
  pub byte_before_is_high : (more at place : ℕ) → AreHigh more at → at < place → place ≤ at + more → IsHigh (place - 1)
  byte_before_is_high more at place high some within =
      let here : at + (place - 1 - at) ≡ place - 1 = omega arith in
      subst IsHigh here (high (place - 1 - at) (omega arith))

  -- its group, before those that are joined
  pub groups_from_byte_before : (left at place : ℕ) (v : Option ℕ) (after : ℕ) → at < place → place - at ≤ left
      → IsHigh (place - 1) → groups_at bytes (left - (place - at)) place ≡ Ok (read_of v after)
      → groups_at bytes (left - (place - 1 - at)) (place - 1) ≡ Ok (read_of (below (get_or bytes (place - 1) 0 - 128) v) after)
  groups_from_byte_before left at place v after some room high others =
      let one_more : left - (place - 1 - at) ≡ suc (left - (place - at)) = omega arith in
      let behind : place - 1 + 1 ≡ place = omega arith in
      rw one_more (groups_after_high_byte (left - (place - at)) (place - 1) high ∙ rw (behind, others) refl)

  -- the last group, which is below 128
  pub last_group : (left at : ℕ) (x : ℕ × ℕ) → 0 < left → (at < length bytes → get_or bytes at 0 < 128)
      → byte_at bytes at ≡ Ok x → groups_at bytes left at ≡ Ok (read_of (Some x.0) x.1)
  last_group zero at x some low e = absurd (omega (arith, some))
  last_group (suc left) at x some low e = elim (cases_lt at (length bytes)) [
    | inl inside ↦
        let same = ok_injective (get_or bytes at 0, at + 1) x (sym (byte_before_end at inside) ∙ e) in
        groups_at_one_step bytes left at ∙ rw (byte_before_end at inside, lt-ltb (get_or bytes at 0) 128 (low inside), ← same) refl
    | inr past ↦ let none = sym (byte_past_end_is_short at past) ∙ e in absurd cc
  ]

  -- no group is left
  pub no_groups_left : (left at : ℕ) → left ≡ 0 → groups_at bytes left at ≡ Ok (read_of None at)
  no_groups_left left at none = rw none (groups_at_none_left bytes at)

  -- the last group is missing
  pub missing_last_group_fails : (left more at : ℕ) (f : FileFault) → more < left → AreHigh more at → byte_at bytes (at + more) ≡ Err f
      → groups_at bytes left at ≡ Err f
  missing_last_group_fails zero more at f few high e = absurd (omega (arith, few))
  missing_last_group_fails (suc left) zero at f few high e =
      let here : at + 0 ≡ at = omega arith in
      groups_at_one_step bytes left at ∙ rw (rw here at e) refl
  missing_last_group_fails (suc left) (suc more) at f few high e =
      let here : at + 0 ≡ at = omega arith in
      let next : (k : ℕ) → at + suc k ≡ at + 1 + k = λ k. omega arith in
      let first = subst IsHigh here (high 0 (omega arith)) in
      let others : AreHigh more (at + 1) = λ k lt. subst IsHigh (next k) (high (suc k) (omega (arith, lt))) in
      let missing = subst (λ (place : ℕ). byte_at bytes place ≡ Err f) (next more) e in
      groups_after_high_byte left at first ∙ rw (missing_last_group_fails left more (at + 1) f (omega (arith, few)) others missing) refl
