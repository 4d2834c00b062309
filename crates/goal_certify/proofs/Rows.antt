-- What writes of words do to rows of bits.
use Rattle.std.proofs.Common.{◌≡◌, ◌≢◌, ℕ, ◌+◌, ◌*◌, ◌/◌, ◌%◌, ◌^◌, ◌-◌, ◌<◌, ◌≤◌, ◌⊎◌, Bool, true, false, eqb, List, ◌++◌, length, replicate, get_or, set, refl, sym, ap, ◌∙◌, subst, inl, inr, ⊎_elim, arith, w64, eq-eqb, ne_eqb, get_or-set_same, get_or-set_other, true≢false}
use Rattle.std.proofs.lemmas.Bool.{cases_eq, cases_lt, cases_Bool, eqb-true}
use Rattle.std.proofs.Math.ListN.{get_or-append}
use Rattle.std.proofs.Math.Seq.{get_or-append_right}
use Rattle.std.proofs.lemmas.Nat.{and_le_l}
use Rattle.std.proofs.lemmas.List.{get_or-replicate, get_or_past, length-replicate}
use Rattle.std.proofs.lemmas.Nat.Bits.{bit_at_set_same, bit_at_set_other, bit_at-zero, bit_at-trailing_zeros, bit_at_or, bit_at-lt, bit_at_and, bit_at_not}
use Rattle.std.specs.Prelude.{bit_or, bit_and}
use Rattle.std.specs.Int.{bit_at, bit_not, trailing_zeros}
use Rattle.goal_limits.specs.Limits.{certified_op_limit}
use Rattle.goal_certify.specs.Rows.{has}

-- a bit of a word
abbrev bit : ℕ → ℕ → Bool
bit word k = eqb (bit_at word (k % 64)) 1

bit_or_cases : (a b i : ℕ) → eqb (bit_at (bit_or a b) i) 1 ≡ true → (eqb (bit_at a i) 1 ≡ true) ⊎ (eqb (bit_at b i) 1 ≡ true)
bit_or_cases a b i h =
    elim (cases_eq (bit_at a i) 1) [
      | inl one ↦ inl (eq-eqb (bit_at a i) 1 one)
      | inr other ↦
          elim (cases_eq (bit_at b i) 1) [
            | inl one ↦ inr (eq-eqb (bit_at b i) 1 one)
            | inr none ↦
                let x : bit_at a i < 2 = bit_at-lt a i in
                let y : bit_at b i < 2 = bit_at-lt b i in
                let e : bit_at (bit_or a b) i ≢ 1 = omega (arith, bit_at_or a b i) in
                absurd (true≢false (sym h ∙ ne_eqb _ 1 e))
          ]
    ]

bit_or_left : (a b i : ℕ) → eqb (bit_at a i) 1 ≡ true → eqb (bit_at (bit_or a b) i) 1 ≡ true
bit_or_left a b i h =
    let x : bit_at a i ≡ 1 = eqb-true _ 1 h in
    let y : bit_at b i < 2 = bit_at-lt b i in
    eq-eqb _ 1 (omega (arith, bit_at_or a b i))

bit_or_right : (a b i : ℕ) → eqb (bit_at b i) 1 ≡ true → eqb (bit_at (bit_or a b) i) 1 ≡ true
bit_or_right a b i h =
    let x : bit_at b i ≡ 1 = eqb-true _ 1 h in
    let y : bit_at a i < 2 = bit_at-lt a i in
    eq-eqb _ 1 (omega (arith, bit_at_or a b i))

-- the words of the row have the bits of those words too, and the other words are the same
pub record IsJoined (old new : List ℕ) (row : ℕ) (others : List ℕ) (other places : ℕ) : Type 0 where
  pub done : (j : ℕ) → j < places → get_or new (32 * row + j) 0 ≡ bit_or (get_or old (32 * row + j) 0) (get_or others (32 * other + j) 0)
  pub rest : (j : ℕ) → (32 * row ≤ j → j < 32 * row + places → ⊥) → get_or new j 0 ≡ get_or old j 0

pub joined_none : (old : List ℕ) (row : ℕ) (others : List ℕ) (other : ℕ) → IsJoined old old row others other 0
joined_none old row others other = record { done = λ j h. absurd (omega arith); rest = λ j out. refl }

pub joined_more : (old now : List ℕ) (row : ℕ) (others : List ℕ) (other place word : ℕ) → 32 * row + place < length now → word ≡ get_or others (32 * other + place) 0 → IsJoined old now row others other place → IsJoined old (set now (32 * row + place) (bit_or (get_or now (32 * row + place) 0) word)) row others other (place + 1)
joined_more old now row others other place word inside read j = record { done = done; rest = rest }
  where
    i : ℕ
    i = 32 * row + place

    done : (k : ℕ) → k < place + 1 → get_or (set now (32 * row + place) (bit_or (get_or now (32 * row + place) 0) word)) (32 * row + k) 0 ≡ bit_or (get_or old (32 * row + k) 0) (get_or others (32 * other + k) 0)
    done k h =
        elim (cases_eq k place) [
          | inl same ↦
              rw same
              (get_or-set_same now (32 * row + place) _ 0 inside
              ∙ ap (λ w. bit_or w word) (j.rest (32 * row + place) (λ a b. omega arith))
              ∙ ap (bit_or (get_or old (32 * row + place) 0)) read)
          | inr other_place ↦
              get_or-set_other now (32 * row + place) (32 * row + k) _ 0 (omega arith) ∙ j.done k (omega arith)
        ]

    rest : (k : ℕ) → (32 * row ≤ k → k < 32 * row + (place + 1) → ⊥) → get_or (set now (32 * row + place) (bit_or (get_or now (32 * row + place) 0) word)) k 0 ≡ get_or old k 0
    rest k out =
        elim (cases_eq k (32 * row + place)) [
          | inl same ↦ absurd (out (omega arith) (omega arith))
          | inr apart ↦
              get_or-set_other now (32 * row + place) k _ 0 apart ∙ j.rest k (λ a b. out a (omega arith))
        ]

module _ (old new : List ℕ) (row : ℕ) (others : List ℕ) (other places : ℕ) (most : places ≤ 32) (low : (k : ℕ) → k < certified_op_limit → has others other k ≡ true → k / 64 < places) (j : IsJoined old new row others other places) where
  pub joined_adds : (k : ℕ) → k < certified_op_limit → has others other k ≡ true → has new row k ≡ true
  unfolding has
  joined_adds k small h =
      ap (λ w. bit w k) (j.done (k / 64) (low k small h)) ∙ bit_or_right _ _ (k % 64) h

  pub joined_keeps : (r k : ℕ) → k < certified_op_limit → has old r k ≡ true → has new r k ≡ true
  unfolding has
  joined_keeps r k small h =
      elim (cases_eq r row) [
        | inl same ↦
            elim (cases_lt (k / 64) places) [
              | inl within ↦ rw same (ap (λ w. bit w k) (j.done (k / 64) within) ∙ bit_or_left _ _ (k % 64) (rw same at h))
              | inr past ↦ ap (λ w. bit w k) (j.rest (32 * r + k / 64) (λ a b. omega (arith, same, past, b))) ∙ h
            ]
        | inr apart ↦ ap (λ w. bit w k) (j.rest (32 * r + k / 64) (λ a b. omega arith)) ∙ h
      ]

  pub joined_no_more : (r k : ℕ) → k < certified_op_limit → has new r k ≡ true → (has old r k ≡ true) ⊎ ((r ≡ row) × (has others other k ≡ true))
  unfolding has
  joined_no_more r k small h =
      elim (cases_eq r row) [
        | inl same ↦
            elim (cases_lt (k / 64) places) [
              | inl within ↦
                  elim (bit_or_cases _ _ (k % 64) (sym (ap (λ w. bit w k) (j.done (k / 64) within)) ∙ (rw same at h))) [
                    | inl left ↦ inl (rw same left)
                    | inr right ↦ inr (same, right)
                  ]
              | inr past ↦ inl (sym (ap (λ w. bit w k) (j.rest (32 * r + k / 64) (λ a b. omega (arith, same, past, b)))) ∙ h)
            ]
        | inr apart ↦ inl (sym (ap (λ w. bit w k) (j.rest (32 * r + k / 64) (λ a b. omega arith))) ∙ h)
      ]

-- another bit
module _ (old : List ℕ) (row number : ℕ) (inside : 32 * row + 32 ≤ length old) (few : number < certified_op_limit) where
  abbrev with_bit : List ℕ
  with_bit = set old (32 * row + number / 64) (bit_or (get_or old (32 * row + number / 64) 0) (1 * 2 ^ (number % 64) % 2 ^ 64))

  pub put_adds : has with_bit row number ≡ true
  unfolding has
  put_adds =
      ap (λ w. bit w number) (get_or-set_same old (32 * row + number / 64) _ 0 (omega arith))
      ∙ eq-eqb _ 1 (bit_at_set_same w64 _ (number % 64) (omega arith))

  put_other : (r k : ℕ) → k < certified_op_limit → (r ≡ row → k ≡ number → ⊥) → has with_bit r k ≡ has old r k
  unfolding has
  put_other r k small apart =
      elim (cases_eq (32 * r + k / 64) (32 * row + number / 64)) [
        | inl same ↦
            ap (λ i. bit (get_or with_bit i 0) k) same
            ∙ ap (λ w. bit w k) (get_or-set_same old (32 * row + number / 64) _ 0 (omega arith))
            ∙ ap (λ b. eqb b 1) (bit_at_set_other w64 _ (number % 64) (omega arith) (k % 64) (λ e. apart (omega arith) (omega arith)))
            ∙ ap (λ i. bit (get_or old i 0) k) (sym same)
        | inr other ↦ ap (λ w. bit w k) (get_or-set_other old (32 * row + number / 64) (32 * r + k / 64) _ 0 other)
      ]

  pub put_keeps : (r k : ℕ) → k < certified_op_limit → has old r k ≡ true → has with_bit r k ≡ true
  put_keeps r k small h =
      elim (cases_eq r row) [
        | inl same_row ↦
            elim (cases_eq k number) [
              | inl same ↦ rw (same_row, same) put_adds
              | inr apart ↦ put_other r k small (λ a b. apart b) ∙ h
            ]
        | inr apart ↦ put_other r k small (λ a b. apart a) ∙ h
      ]

  pub put_no_more : (r k : ℕ) → k < certified_op_limit → has with_bit r k ≡ true → (has old r k ≡ true) ⊎ ((r ≡ row) × (k ≡ number))
  put_no_more r k small h =
      elim (cases_eq r row) [
        | inl same_row ↦
            elim (cases_eq k number) [
              | inl same ↦ inr (same_row, same)
              | inr apart ↦ inl (sym (put_other r k small (λ a b. apart b)) ∙ h)
            ]
        | inr apart ↦ inl (sym (put_other r k small (λ a b. apart a)) ∙ h)
      ]

-- a word is 0, and the others are the same
pub cleared_word : (old : List ℕ) (row number : ℕ) → 32 * row + 32 ≤ length old → number < certified_op_limit → (r k : ℕ) → k < certified_op_limit → has (set old (32 * row + number / 64) 0) r k ≡ true → (has old r k ≡ true) × (r ≡ row → k ≢ number)
unfolding has
cleared_word old row number inside few r k small h =
    elim (cases_eq (32 * r + k / 64) (32 * row + number / 64)) [
      | inl same ↦
          let none : get_or (set old (32 * row + number / 64) 0) (32 * r + k / 64) 0 ≡ 0 = ap (λ (i : ℕ). get_or (set old (32 * row + number / 64) 0) i 0) same ∙ get_or-set_same old (32 * row + number / 64) 0 0 (omega arith) in
          absurd (true≢false (sym h ∙ ap (λ w. bit w k) none ∙ ap (λ b. eqb b 1) (bit_at-zero (k % 64))))
      | inr apart ↦
          (sym (ap (λ w. bit w k) (get_or-set_other old (32 * row + number / 64) (32 * r + k / 64) 0 0 apart)) ∙ h, λ same_row same. apart (ap (λ (i : ℕ). 32 * i + k / 64) same_row ∙ ap (λ (i : ℕ). 32 * row + i / 64) same))
    ]

-- the first words of the row are 0, and the other words are the same
pub record IsCleared (old new : List ℕ) (row places : ℕ) : Type 0 where
  pub done : (j : ℕ) → j < places → get_or new (32 * row + j) 0 ≡ 0
  pub rest : (j : ℕ) → (32 * row ≤ j → j < 32 * row + places → ⊥) → get_or new j 0 ≡ get_or old j 0

pub cleared_none : (old : List ℕ) (row : ℕ) → IsCleared old old row 0
cleared_none old row = record { done = λ j h. absurd (omega arith); rest = λ j out. refl }

pub cleared_more : (old now : List ℕ) (row place : ℕ) → 32 * row + place < length now → IsCleared old now row place → IsCleared old (set now (32 * row + place) 0) row (place + 1)
cleared_more old now row place inside j = record {
  done = λ k h.
      elim (cases_eq k place) [
        | inl same ↦ rw same (get_or-set_same now (32 * row + place) 0 0 inside)
        | inr other ↦ get_or-set_other now (32 * row + place) (32 * row + k) 0 0 (omega arith) ∙ j.done k (omega arith)
      ];
  rest = λ k out.
      elim (cases_eq k (32 * row + place)) [
        | inl same ↦ absurd (out (omega arith) (omega arith))
        | inr apart ↦ get_or-set_other now (32 * row + place) k 0 0 apart ∙ j.rest k (λ a b. out a (omega arith))
      ];
}

pub cleared_less : (old new : List ℕ) (row words : ℕ) → words ≤ 32 → (places : ℕ) → places ≡ words → IsCleared old new row places → (r k : ℕ) → k < certified_op_limit → has new r k ≡ true → (has old r k ≡ true) × (r ≡ row → 64 * words ≤ k)
unfolding has
cleared_less old new row words most places all j r k small h =
    elim (cases_lt (k / 64) words) [
      | inl within ↦
          elim (cases_eq r row) [
            | inl same ↦
                let none : get_or new (32 * r + k / 64) 0 ≡ 0 = rw same (j.done (k / 64) (omega arith)) in
                absurd (true≢false (sym h ∙ ap (λ w. bit w k) none ∙ ap (λ b. eqb b 1) (bit_at-zero (k % 64))))
            | inr apart ↦
                (sym (ap (λ w. bit w k) (j.rest (32 * r + k / 64) (λ a b. omega arith))) ∙ h, λ same. absurd (apart same))
          ]
      | inr past ↦
          (sym (ap (λ w. bit w k) (j.rest (32 * r + k / 64) (λ a b. omega arith))) ∙ h, λ same. omega (arith, past))
    ]

-- words of 0 past the end add nothing
pub zero_words : (n i : ℕ) → get_or {A = ℕ} (replicate n 0) i 0 ≡ 0
zero_words n i =
    elim (cases_lt i n) [
      | inl inside ↦ get_or-replicate n i 0 0 inside
      | inr past ↦ get_or_past (replicate n 0) i 0 (omega (arith, length-replicate {A = ℕ} n 0))
    ]

pub has_zeros : (n r k : ℕ) → has (replicate n 0) r k ≡ false
unfolding has
has_zeros n r k =
    ap (λ w. bit w k) (zero_words n (32 * r + k / 64)) ∙ ap (λ b. eqb b 1) (bit_at-zero (k % 64))

more_zeros : (words : List ℕ) (n i : ℕ) → get_or (words ++ replicate n 0) i 0 ≡ get_or words i 0
more_zeros words n i =
    elim (cases_lt i (length words)) [
      | inl inside ↦ get_or-append words (replicate n 0) 0 i inside
      | inr past ↦ get_or-append_right words (replicate n 0) i 0 past ∙ zero_words n (i - length words) ∙ sym (get_or_past words i 0 past)
    ]

pub has_more_zeros : (words : List ℕ) (n r k : ℕ) → has (words ++ replicate n 0) r k ≡ has words r k
unfolding has
has_more_zeros words n r k = ap (λ w. bit w k) (more_zeros words n (32 * r + k / 64))

-- a word of 0 has no number
pub no_word : (rows : List ℕ) (row k i : ℕ) → get_or rows i 0 ≡ 0 → 32 * row + k / 64 ≡ i → has rows row k ≡ false
unfolding has
no_word rows row k i none at =
    ap (λ (j : ℕ). bit (get_or rows j 0) k) at ∙ ap (λ w. bit w k) none ∙ ap (λ b. eqb b 1) (bit_at-zero (k % 64))

-- all bits below the lowest 1 of a word are 0
pub below_lowest : (word i : ℕ) → word < 2 ^ 64 → i < trailing_zeros w64 word → bit_at word i ≡ 0
below_lowest word i fits low =
    elim (cases_lt 0 word) [
      | inl some ↦ (bit_at-trailing_zeros w64 word some fits).2 i low
      | inr none ↦ let zero_is : word ≡ 0 = omega (arith, none) in ap (λ w. bit_at w i) zero_is ∙ bit_at-zero i
    ]

-- where the bit is not one of those that the one row has without the other, the other has it too
pub covered_if_bit_clear : (these : List ℕ) (row : ℕ) (others : List ℕ) (other k : ℕ) → k < certified_op_limit → get_or others (32 * other + k / 64) 0 < 2 ^ 64 → bit_at (bit_and (get_or these (32 * row + k / 64) 0) (bit_not w64 (get_or others (32 * other + k / 64) 0))) (k % 64) ≡ 0 → has these row k ≡ true → has others other k ≡ false → ⊥
unfolding has
covered_if_bit_clear these row others other k small fits none h alone =
    let x : bit_at (get_or these (32 * row + k / 64) 0) (k % 64) ≡ 1 = eqb-true _ 1 h in
    let y : bit_at (get_or others (32 * other + k / 64) 0) (k % 64) ≢ 1 = λ e. true≢false (sym (eq-eqb _ 1 e) ∙ alone) in
    let z : bit_at (get_or others (32 * other + k / 64) 0) (k % 64) < 2 = bit_at-lt _ (k % 64) in
    let n : bit_at (bit_not w64 (get_or others (32 * other + k / 64) 0)) (k % 64) ≡ 1 - bit_at (get_or others (32 * other + k / 64) 0) (k % 64) = bit_at_not w64 _ (k % 64) fits (omega arith) in
    omega (arith, none, n, x, y, z, bit_at_and (get_or these (32 * row + k / 64) 0) (bit_not w64 (get_or others (32 * other + k / 64) 0)) (k % 64))

pub covered_if_bit_clear_same_row : (these others : List ℕ) (row k : ℕ) → k < certified_op_limit → get_or others (32 * row + k / 64) 0 < 2 ^ 64 → bit_at (bit_and (get_or these (32 * row + k / 64) 0) (bit_not w64 (get_or others (32 * row + k / 64) 0))) (k % 64) ≡ 0 → has these row k ≡ true → has others row k ≡ false → ⊥
covered_if_bit_clear_same_row these others row k = covered_if_bit_clear these row others row k

-- the words of two rows at one place, where the first has no number below a bound without the other
module _ (these : List ℕ) (row : ℕ) (others : List ℕ) (other place bound : ℕ) where
  abbrev alone : ℕ
  alone = bit_and (get_or these (32 * row + place) 0) (bit_not w64 (get_or others (32 * other + place) 0))

  pub covered_word : bound ≤ certified_op_limit → get_or these (32 * row + place) 0 < 2 ^ 64 → get_or others (32 * other + place) 0 < 2 ^ 64 → (alone ≡ 0) ⊎ (bound ≤ 64 * place + trailing_zeros w64 alone) → (k : ℕ) → k < bound → k / 64 ≡ place → has these row k ≡ true → has others other k ≡ true
  covered_word few fits_these fits_others none k low here h =
      let zero_bit : bit_at alone (k % 64) ≡ 0 = ⊎_elim (λ e. ap (λ w. bit_at w (k % 64)) e ∙ bit_at-zero (k % 64)) (λ above. below_lowest alone (k % 64) (omega (arith, and_le_l (get_or these (32 * row + place) 0) (bit_not w64 (get_or others (32 * other + place) 0)), fits_these)) (omega (arith, above, low, here))) none in
      let read : bit_at (bit_and (get_or these (32 * row + k / 64) 0) (bit_not w64 (get_or others (32 * other + k / 64) 0))) (k % 64) ≡ 0 = ap (λ (p : ℕ). bit_at (bit_and (get_or these (32 * row + p) 0) (bit_not w64 (get_or others (32 * other + p) 0))) (k % 64)) here ∙ zero_bit in
      let fits : get_or others (32 * other + k / 64) 0 < 2 ^ 64 = subst (λ (p : ℕ). get_or others (32 * other + p) 0 < 2 ^ 64) (sym here) fits_others in
      ⊎_elim (λ yes. yes) (λ no. absurd (covered_if_bit_clear these row others other k (omega (arith, low, few)) fits read h no)) (cases_Bool (has others other k))
