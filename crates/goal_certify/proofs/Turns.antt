-- Bits of words, one set or cleared, and the lowest one.
use Rattle.std.proofs.Common.{◌≡◌, ◌≢◌, ℕ, ◌+◌, ◌*◌, ◌/◌, ◌%◌, ◌^◌, ◌<◌, ◌≤◌, Bool, true, false, eqb, nat_lt, List, length, replicate, get_or, set, slice_set, Option, Some, None, if◌then◌else◌, refl, sym, ap, ◌∙◌, inl, inr, arith, w64, eq-eqb, get_or-set_same, get_or-set_other, true≢false}
use Rattle.std.specs.Prelude.{bit_or, bit_and}
use Rattle.std.specs.Int.{bit_at, bit_not, trailing_zeros}
use Rattle.std.proofs.lemmas.Bool.{cases_eq, cases_lt, le-ltb}
use Rattle.std.proofs.lemmas.List.{get_or-replicate, get_or_past, length-replicate, length-set, same_lists}
use Rattle.std.proofs.lemmas.List.FromFn.{length-map-range_with_len, get_or-map-range_with_len}
use Rattle.std.proofs.lemmas.Nat.Bits.{bit_at_set_same, bit_at_set_other, bit_at_clear_same, bit_at_clear_other, bit_at-zero, bit_at-trailing_zeros}
use Rattle.sim_queue.specs.Map.{key_at, IsEmptyMap, IsLeast}
use Rattle.goal_certify.specs.Turns.{is_on, turns_of, AreTurns}
use Rattle.goal_certify.proofs.Rows.{zero_words}

-- a bit of a word
abbrev bit : ℕ → ℕ → Bool
bit word k = eqb (bit_at word (k % 64)) 1

module _ (old : List ℕ) (at : ℕ) (inside : at / 64 < length old) where
  abbrev pub with_bit : List ℕ
  with_bit = set old (at / 64) (bit_or (get_or old (at / 64) 0) (1 * 2 ^ (at % 64) % 2 ^ 64))

  abbrev pub without_bit : List ℕ
  without_bit =
      set old (at / 64) (bit_and (get_or old (at / 64) 0) (bit_not w64 (1 * 2 ^ (at % 64) % 2 ^ 64)))

  pub on_put : is_on with_bit at ≡ true
  unfolding is_on
  on_put =
      ap (λ w. bit w at) (get_or-set_same old (at / 64) _ 0 inside) ∙ eq-eqb _ 1 (bit_at_set_same w64 _ (at % 64) (omega arith))

  pub others_put : (k : ℕ) → k ≢ at → is_on with_bit k ≡ is_on old k
  unfolding is_on
  others_put k apart =
      elim (cases_eq (k / 64) (at / 64)) [
        | inl same ↦
            ap (λ i. bit (get_or with_bit i 0) k) same
            ∙ ap (λ w. bit w k) (get_or-set_same old (at / 64) _ 0 inside)
            ∙ ap (λ b. eqb b 1) (bit_at_set_other w64 _ (at % 64) (omega arith) (k % 64) (λ e. apart (omega arith)))
            ∙ ap (λ i. bit (get_or old i 0) k) (sym same)
        | inr other ↦ ap (λ w. bit w k) (get_or-set_other old (at / 64) (k / 64) _ 0 other)
      ]

  pub off_taken : is_on without_bit at ≡ false
  unfolding is_on
  off_taken =
      ap (λ w. bit w at) (get_or-set_same old (at / 64) _ 0 inside)
      ∙ ap (λ b. eqb b 1) (bit_at_clear_same w64 _ (at % 64) (omega arith))

  pub others_taken : (k : ℕ) → k ≢ at → is_on without_bit k ≡ is_on old k
  unfolding is_on
  others_taken k apart =
      elim (cases_eq (k / 64) (at / 64)) [
        | inl same ↦
            ap (λ i. bit (get_or without_bit i 0) k) same
            ∙ ap (λ w. bit w k) (get_or-set_same old (at / 64) _ 0 inside)
            ∙ ap (λ b. eqb b 1) (bit_at_clear_other w64 _ (at % 64) (omega arith) (k % 64) (omega arith) (λ e. apart (omega arith)))
            ∙ ap (λ i. bit (get_or old i 0) k) (sym same)
        | inr other ↦ ap (λ w. bit w k) (get_or-set_other old (at / 64) (k / 64) _ 0 other)
      ]

-- a word of 0 has no bit
pub word_of_bit : (words : List ℕ) (k : ℕ) → is_on words k ≡ true → 0 < get_or words (k / 64) 0
unfolding is_on
word_of_bit words k on =
    elim (cases_lt 0 (get_or words (k / 64) 0)) [
      | inl some ↦ some
      | inr none ↦
          let is : get_or words (k / 64) 0 ≡ 0 = omega (arith, none) in
          absurd (true≢false (sym on ∙ ap (λ w. bit w k) is ∙ ap (λ b. eqb b 1) (bit_at-zero (k % 64))))
    ]

pub word_inside : (words : List ℕ) (w : ℕ) → 0 < get_or words w 0 → w < length words
word_inside words w some =
    elim (cases_lt w (length words)) [ inl inside ↦ inside | inr past ↦ absurd (omega (arith, some, get_or_past words w 0 past)) ]

-- the lowest bit of a word
module _ (words : List ℕ) (word : ℕ) (some : 0 < get_or words word 0) (fits : get_or words word 0 < 2 ^ 64) where
  pub lowest_near : trailing_zeros w64 (get_or words word 0) < 64
  lowest_near = (bit_at-trailing_zeros w64 (get_or words word 0) some fits).0

  pub lowest_on : (k : ℕ) → k ≡ 64 * word + trailing_zeros w64 (get_or words word 0) → is_on words k ≡ true
  unfolding is_on
  lowest_on k is =
      let near = lowest_near in
      let at : k / 64 ≡ word = omega (arith, near, is) in
      let in_word : k % 64 ≡ trailing_zeros w64 (get_or words word 0) = omega (arith, near, is) in
      ap (λ i. bit (get_or words i 0) k) at ∙ ap (λ i. eqb (bit_at (get_or words word 0) i) 1) in_word ∙ eq-eqb _ 1 (bit_at-trailing_zeros w64 (get_or words word 0) some fits).1

  pub none_lower : (j : ℕ) → j / 64 ≡ word → j < 64 * word + trailing_zeros w64 (get_or words word 0) → is_on words j ≡ false
  unfolding is_on
  none_lower j here low =
      let none : bit_at (get_or words word 0) (j % 64) ≡ 0 = (bit_at-trailing_zeros w64 (get_or words word 0) some fits).2 (j % 64) (omega (arith, low, here)) in
      ap (λ i. bit (get_or words i 0) j) here ∙ ap (λ b. eqb b 1) none

-- the places of a set
abbrev turn : List ℕ → ℕ → Option ℕ
turn words k = if is_on words k then Some k else None

turn_on : (words : List ℕ) (k : ℕ) → is_on words k ≡ true → turn words k ≡ Some k
turn_on words k on = ap {B = Option ℕ} (λ (b : Bool). if b then Some k else None) on

turn_off : (words : List ℕ) (k : ℕ) → is_on words k ≡ false → turn words k ≡ None
turn_off words k off = ap {B = Option ℕ} (λ (b : Bool). if b then Some k else None) off

pub length_turns : (words : List ℕ) (count : ℕ) → length (turns_of words count) ≡ count
unfolding turns_of
length_turns words count = length-map-range_with_len (turn words) 0 count

turn_at : (words : List ℕ) (count k : ℕ) (d : Option ℕ) → k < count → get_or (turns_of words count) k d ≡ turn words k
unfolding turns_of
turn_at words count k d inside = get_or-map-range_with_len (turn words) 0 count k k d inside (omega arith)

pub turn_key : (words : List ℕ) (count k : ℕ) → k < count → is_on words k ≡ true → key_at (turns_of words count) k ≡ Some k
turn_key words count k inside on = turn_at words count k None inside ∙ turn_on words k on

pub no_turn_key : (words : List ℕ) (count k : ℕ) → is_on words k ≡ false → key_at (turns_of words count) k ≡ None
no_turn_key words count k off =
    elim (cases_lt k count) [
      | inl inside ↦ turn_at words count k None inside ∙ turn_off words k off
      | inr past ↦ get_or_past (turns_of words count) k None (omega (arith, length_turns words count))
    ]

pub key_at_place_is_on : (words : List ℕ) (count k p : ℕ) → key_at (turns_of words count) k ≡ Some p → (is_on words k ≡ true) × (p ≡ k)
key_at_place_is_on words count k p e = go (is_on words k) refl
  where
    none_some : None ≡ Some p → ⊥
    none_some f = cc

    go : (b : Bool) → is_on words k ≡ b → (is_on words k ≡ true) × (p ≡ k)
    go false off = absurd (none_some (sym (no_turn_key words count k off) ∙ e))
    go true on =
        elim (cases_lt k count) [
          | inl inside ↦ let same : Some k ≡ Some p = sym (turn_key words count k inside on) ∙ e in (on, cc)
          | inr past ↦ absurd (none_some (sym (get_or_past (turns_of words count) k None (omega (arith, length_turns words count))) ∙ e))
        ]

-- one place is set
pub turns_set : (old new : List ℕ) (count at : ℕ) (value : Option ℕ) → at < count → turn new at ≡ value → ((k : ℕ) → k ≢ at → is_on new k ≡ is_on old k) → turns_of new count ≡ slice_set (turns_of old count) at value
turns_set old new count at value inside here others =
    same_lists (turns_of new count) (set (turns_of old count) at value) (length_turns new count ∙ sym (length-set (turns_of old count) at value ∙ length_turns old count)) each
  where
    each : (k : ℕ) (d : Option ℕ) → k < length (turns_of new count) → get_or (turns_of new count) k d ≡ get_or (set (turns_of old count) at value) k d
    each k d low =
        let k_in : k < count = omega (arith, low, length_turns new count) in
        elim (cases_eq k at) [
          | inl same ↦
              turn_at new count k d k_in ∙ ap (turn new) same ∙ here ∙ sym (ap (λ i. get_or (set (turns_of old count) at value) i d) same ∙ get_or-set_same (turns_of old count) at value d (omega (arith, inside, length_turns old count)))
          | inr apart ↦
              turn_at new count k d k_in ∙ ap {B = Option ℕ} (λ (b : Bool). if b then Some k else None) (others k apart) ∙ sym (get_or-set_other (turns_of old count) at k value d apart ∙ turn_at old count k d k_in)
        ]

pub turns_put : (old new : List ℕ) (count at : ℕ) → at < count → is_on new at ≡ true → ((k : ℕ) → k ≢ at → is_on new k ≡ is_on old k) → turns_of new count ≡ slice_set (turns_of old count) at (Some at)
turns_put old new count at inside on others =
    turns_set old new count at (Some at) inside (turn_on new at on) others

pub turns_taken : (old new : List ℕ) (count at : ℕ) → at < count → is_on new at ≡ false → ((k : ℕ) → k ≢ at → is_on new k ≡ is_on old k) → turns_of new count ≡ slice_set (turns_of old count) at None
turns_taken old new count at inside off others =
    turns_set old new count at None inside (turn_off new at off) others

-- what stays true of the words and heads
module _ (words heads : List ℕ) (count : ℕ) (was : AreTurns words heads count) (at : ℕ) (inside : at < count) (new : List ℕ) (len : length new ≡ length words) (others : (k : ℕ) → k ≢ at → is_on new k ≡ is_on words k) (same : (w : ℕ) → w ≢ at / 64 → get_or new w 0 ≡ get_or words w 0) where
  pub put_sound : (tops : List ℕ) → length tops ≡ length heads → is_on new at ≡ true → is_on tops (at / 64) ≡ true → ((w : ℕ) → w ≢ at / 64 → is_on tops w ≡ is_on heads w) → AreTurns new tops count
  put_sound tops tops_len on top_on tops_others = record {
    fits = was.fits;
    room = omega (arith, was.room, len);
    heads_room = omega (arith, was.heads_room, len, tops_len);
    few = omega (arith, was.few, len);
    heads_few = omega (arith, was.heads_few, tops_len);
    low = λ k k_on. elim (cases_eq k at) [ inl e ↦ omega (arith, e, inside) | inr apart ↦ was.low k (sym (others k apart) ∙ k_on) ];
    marked = λ w some. elim (cases_eq w (at / 64)) [ inl e ↦ ap (is_on tops) e ∙ top_on | inr apart ↦ tops_others w apart ∙ was.marked w (omega (arith, same w apart, some)) ];
    marks = λ w w_on.
        elim (cases_eq w (at / 64)) [
          | inl e ↦ omega (arith, word_of_bit new at on, ap (λ i. get_or new i 0) e)
          | inr apart ↦ omega (arith, same w apart, was.marks w (sym (tops_others w apart) ∙ w_on))
        ];
  }

  module _ (off : is_on new at ≡ false) where
    low_taken : (k : ℕ) → is_on new k ≡ true → k < count
    low_taken k k_on =
        elim (cases_eq k at) [ inl e ↦ absurd (true≢false (sym k_on ∙ ap (is_on new) e ∙ off)) | inr apart ↦ was.low k (sym (others k apart) ∙ k_on) ]

    -- where the word is empty now, its head goes too
    pub emptied_sound : (tops : List ℕ) → length tops ≡ length heads → get_or new (at / 64) 0 ≡ 0 → is_on tops (at / 64) ≡ false → ((w : ℕ) → w ≢ at / 64 → is_on tops w ≡ is_on heads w) → AreTurns new tops count
    emptied_sound tops tops_len none top_off tops_others = record {
      fits = was.fits;
      room = omega (arith, was.room, len);
      heads_room = omega (arith, was.heads_room, len, tops_len);
      few = omega (arith, was.few, len);
      heads_few = omega (arith, was.heads_few, tops_len);
      low = low_taken;
      marked = λ w some. elim (cases_eq w (at / 64)) [ inl e ↦ absurd (omega (arith, ap (λ i. get_or new i 0) e, none, some)) | inr apart ↦ tops_others w apart ∙ was.marked w (omega (arith, same w apart, some)) ];
      marks = λ w w_on. elim (cases_eq w (at / 64)) [ inl e ↦ absurd (true≢false (sym w_on ∙ ap (is_on tops) e ∙ top_off)) | inr apart ↦ omega (arith, same w apart, was.marks w (sym (tops_others w apart) ∙ w_on)) ];
    }

    -- where it is not, its head stays
    pub left_sound : get_or new (at / 64) 0 ≢ 0 → get_or new (at / 64) 0 ≤ get_or words (at / 64) 0 → AreTurns new heads count
    left_sound some less = record {
      fits = was.fits;
      room = omega (arith, was.room, len);
      heads_room = omega (arith, was.heads_room, len);
      few = omega (arith, was.few, len);
      heads_few = was.heads_few;
      low = low_taken;
      marked = λ w more. elim (cases_eq w (at / 64)) [ inl e ↦ was.marked w (omega (arith, ap (λ i. get_or words i 0) e, some, less)) | inr apart ↦ was.marked w (omega (arith, same w apart, more)) ];
      marks = λ w w_on. elim (cases_eq w (at / 64)) [ inl e ↦ omega (arith, ap (λ i. get_or new i 0) e, some) | inr apart ↦ omega (arith, same w apart, was.marks w w_on) ];
    }

-- no bits at all
pub no_bits : (n k : ℕ) → is_on (replicate n 0) k ≡ false
unfolding is_on
no_bits n k = ap (λ w. bit w k) (zero_words n (k / 64)) ∙ ap (λ b. eqb b 1) (bit_at-zero (k % 64))

-- the lowest bit of the first word marked in the heads is the lowest of all
module _ (words heads : List ℕ) (count : ℕ) (was : AreTurns words heads count) where
  pub empty_map_if_heads_zero : ((a : ℕ) → get_or heads a 0 ≡ 0) → IsEmptyMap (turns_of words count)
  empty_map_if_heads_zero none k = no_turn_key words count k (go (is_on words k) refl)
    where
      go : (b : Bool) → is_on words k ≡ b → is_on words k ≡ false
      go false off = off
      go true on =
          let up = word_of_bit heads (k / 64) (was.marked (k / 64) (word_of_bit words k on)) in
          absurd (omega (arith, up, none (k / 64 / 64)))

  module _ (at word place : ℕ) (first : (a : ℕ) → a < at → get_or heads a 0 ≡ 0) (word_in : word / 64 ≡ at) (word_low : (j : ℕ) → j / 64 ≡ at → j < word → is_on heads j ≡ false) (place_on : is_on words place ≡ true) (place_in : place / 64 ≡ word) (place_low : (j : ℕ) → j / 64 ≡ word → j < place → is_on words j ≡ false) where
    none_before : (j : ℕ) → j < place → is_on words j ≡ true → ⊥
    none_before j less on =
        let head : is_on heads (j / 64) ≡ true = was.marked (j / 64) (word_of_bit words j on) in
        let up : 0 < get_or heads (j / 64 / 64) 0 = word_of_bit heads (j / 64) head in
        elim (cases_lt (j / 64 / 64) at) [
          | inl below ↦ absurd (omega (arith, first (j / 64 / 64) below, up))
          | inr past ↦
              elim (cases_lt (j / 64) word) [
                | inl lower ↦ absurd (true≢false (sym head ∙ word_low (j / 64) (omega (arith, past, lower, word_in)) lower))
                | inr same ↦ absurd (true≢false (sym on ∙ place_low j (omega (arith, same, less, place_in)) less))
              ]
        ]

    pub is_least : IsLeast nat_lt (turns_of words count) place place
    is_least = record {
      has = turn_key words count place (was.low place place_on) place_on;
      least = λ other k e.
          let o = key_at_place_is_on words count other k e in
          elim (cases_lt k place) [
            | inl less ↦ absurd (none_before other (omega (arith, less, o.1)) o.0)
            | inr past ↦ le-ltb k place past
          ];
    }

-- a set of none
pub turns_none : (words : List ℕ) (count n : ℕ) → words ≡ replicate n 0 → turns_of words count ≡ replicate count None
turns_none words count n e =
    same_lists (turns_of words count) (replicate count None) (length_turns words count ∙ sym (length-replicate count None)) (λ k d low. let inside : k < count = omega (arith, low, length_turns words count) in turn_at words count k d inside ∙ turn_off words k (ap (λ ws. is_on ws k) e ∙ no_bits n k) ∙ sym (get_or-replicate count k None d inside))

pub sound_none : (words heads : List ℕ) (count n m : ℕ) → words ≡ replicate n 0 → heads ≡ replicate m 0 → count < 64 * n → n < 64 * m → n ≤ 2 ^ 32 → m ≤ 2 ^ 32 → count < 2 ^ 32 → AreTurns words heads count
sound_none words heads count n m e f room heads_room few heads_few fits = record {
  fits = fits;
  room = omega (arith, room, len);
  heads_room = omega (arith, heads_room, len, heads_len);
  few = omega (arith, few, len);
  heads_few = omega (arith, heads_few, heads_len);
  low = λ k on. absurd (true≢false (sym on ∙ ap (λ ws. is_on ws k) e ∙ no_bits n k));
  marked = λ w some. absurd (omega (arith, some, ap (λ ws. get_or ws w 0) e, zero_words n w));
  marks = λ w on. absurd (true≢false (sym on ∙ ap (λ ws. is_on ws w) f ∙ no_bits m w));
}
  where
    len : length words ≡ n
    len = ap length e ∙ length-replicate {A = ℕ} n 0

    heads_len : length heads ≡ m
    heads_len = ap length f ∙ length-replicate {A = ℕ} m 0
