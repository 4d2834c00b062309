-- Each field is read by a reader.
use Rattle.std.proofs.Common.{◌≡◌, ◌⊎◌, ℕ, ◌+◌, ◌-◌, ◌<◌, ◌≤◌, Bool, true, false, cond, ltb, leb, List, [], ◌∷◌, ◌++◌, length, get_or, replicate, take, drop, Some, Ok, Err, refl, sym, ap, subst, ◌∙◌, arith, inl, inr}
use Rattle.std.specs.Prelude.{slice_get}
use Rattle.std.specs.Int.{w32, w64, from_le_bytes}
use Rattle.std.proofs.lemmas.Bool.{cases_lt, lt-ltb, le-ltb, ltb-true, ltb-false, le-leb}
use Rattle.std.proofs.lemmas.List.{append-nil, take_at, drop-take, drop_at, length-append, length-take, get_or-drop, get_or-take, get_or-replicate, get_or_past, length-replicate}
use Rattle.std.proofs.lemmas.Option.{slice_get_past, slice_get-get_or}
use Rattle.goal_binary.specs.declared.fault.FileFault.{FileFault}
use Rattle.goal_binary.specs.declared.fault.FileFault.TheVariants.{Short, Field}
use Rattle.goal_binary.specs.declared.layout.Layout.{Layout}
use Rattle.goal_binary.specs.declared.layout.Layout.TheVariants.{Fixed, Packed}
use Rattle.goal_binary.specs.Fields.{Read, ◌>>=◌, allow, byte_or_short, byte_at, u32_at, u64_at, byte_up_to, u32_up_to, u64_up_to, some_byte_at}
use Rattle.goal_binary.specs.Laws.{IsWidth}
use Rattle.goal_binary.proofs.Steps.{IsBytes, ok_injective}
use Rattle.goal_binary.proofs.FieldsTaken.{leb-le}
use Rattle.goal_binary.proofs.Readers.{Completed, Halts, ReadStop, Reads, field, reads_as}

-- a text of the width has a value that passes
pub record CanPass (l : Layout) (width : ℕ) (value : List ℕ → ℕ) (test : ℕ → Bool) : Type 0 where
  pub some : 0 < width
  pub is_width : IsWidth l width
  pub text : List ℕ
  pub len : length text ≡ width
  pub fits : IsBytes text
  pub passes : test (value text) ≡ true

abbrev pub pair : ℕ → ℕ → ℕ × ℕ
pair x a = (x, a)

abbrev pub any_number : ℕ → Type 0
any_number n = Unit {0}

pub take_of_length_is_list : (n : ℕ) (xs : List ℕ) → length xs ≡ n → take n xs ≡ xs
take_of_length_is_list n xs len = ap (take n) (sym (append-nil xs)) ∙ take_at xs [] n len

pairs_equal_from_parts : (x y a b : ℕ) → x ≡ y → a ≡ b → pair x a ≡ pair y b
pairs_equal_from_parts x y a b e f = cc

abbrev pub fault_of : FileFault → Read ℕ
fault_of f = Err f

pub fault_of_injective : (d f : FileFault) → fault_of d ≡ fault_of f → d ≡ f
fault_of_injective d f e = cc

-- two lists with equal prefixes have the same field inside the prefix
same_field_bytes : (at width : ℕ) (xs ys : List ℕ) → take (at + width) xs ≡ take (at + width) ys → take width (drop at xs) ≡ take width (drop at ys)
same_field_bytes at width xs ys same = sym (drop-take at width xs) ∙ ap (drop at) same ∙ drop-take at width ys

pub length_bound_from_equal_prefix : (n : ℕ) (xs ys : List ℕ) → take n xs ≡ take n ys → n ≤ length ys → n ≤ length xs
length_bound_from_equal_prefix n xs ys same le = omega (arith, ap length same, length-take n xs, length-take n ys)

-- the field is whole and passes
pub record Passes (width : ℕ) (value : List ℕ → ℕ) (test : ℕ → Bool) (bytes : List ℕ) (at : ℕ) (x : ℕ) (after : ℕ) : Type 0 where
  pub room : at + width ≤ length bytes
  pub passed : test (value (take width (drop at bytes))) ≡ true
  pub value_is : value (take width (drop at bytes)) ≡ x
  pub after_is : at + width ≡ after

pub passes_from : (width : ℕ) (value : List ℕ → ℕ) (test : ℕ → Bool) → 0 < width → (bytes : List ℕ) (at x after : ℕ) → field width value test bytes at ≡ Ok (x, after) → Passes width value test bytes at x after
unfolding field
passes_from width value test some bytes at x after e = go (ltb (length bytes - at) width) (test (value (take width (drop at bytes)))) refl refl e
  where
    go : (short good : Bool) → ltb (length bytes - at) width ≡ short → test (value (take width (drop at bytes))) ≡ good
        → cond short (Err (Short (length bytes))) (allow good at (pair (value (take width (drop at bytes))) (at + width))) ≡ Ok (x, after) → Passes width value test bytes at x after
    go true good is passed e = absurd cc
    go false false is passed e = absurd cc
    go false true is passed e =
        let both = ok_injective (value (take width (drop at bytes)), at + width) (x, after) e in
        record {
          room = omega (arith, ltb-false _ _ is, some);
          passed = passed;
          value_is = ap (λ (p : ℕ × ℕ). p.0) both;
          after_is = ap (λ (p : ℕ × ℕ). p.1) both;
        }

module _ {V : ℕ → Type 0} (l : Layout) (width : ℕ) (value : List ℕ → ℕ) (test : ℕ → Bool) (can : CanPass l width value test) (valid : (n : ℕ) → test n ≡ true → V n) where
  field_is : (bytes : List ℕ) (at n : ℕ) → at + width ≤ length bytes → value (take width (drop at bytes)) ≡ n → field width value test bytes at ≡ allow (test n) at (n, at + width)
  unfolding field
  field_is bytes at n room is =
      let long : ltb (length bytes - at) width ≡ false = le-ltb _ _ (omega arith) in
      rw (long, is) refl

  field_completed : (at : ℕ) (front : List ℕ) → length front ≡ at → Completed (field width value test) at front
  field_completed at front len =
      let behind : drop at (front ++ can.text) ≡ can.text = drop_at front can.text at len in
      let taken : take width (drop at (front ++ can.text)) ≡ can.text = ap (take width) behind ∙ take_of_length_is_list width can.text can.len in
      let joined = length-append front can.text in
      let room : at + width ≤ length (front ++ can.text) = omega (arith, joined, len, can.len) in
      let place : at + width ≡ length (front ++ can.text) = omega (arith, joined, len, can.len) in
      record {
        tail = can.text;
        fits = can.fits;
        value = value can.text;
        is = field_is (front ++ can.text) at (value can.text) room (ap value taken) ∙ ap (λ (b : Bool). allow b at (value can.text, at + width)) can.passes ∙ ap (λ (p : ℕ). Ok (value can.text, p)) place;
      }

  field_stops : (bytes : List ℕ) (at : ℕ) (fault : FileFault) → at ≤ length bytes → field width value test bytes at ≡ Err fault → ReadStop l (field width value test) bytes at fault
  unfolding field
  field_stops bytes at fault le e = go (ltb (length bytes - at) width) (test (value (take width (drop at bytes)))) refl refl e
    where
      front_len : length (take at bytes) ≡ at
      front_len = omega (arith, length-take at bytes, le)

      made : (f : FileFault) → Halts (field width value test) bytes at at width f → ReadStop l (field width value test) bytes at f
      made f how = record { place = at; width = width; from = omega arith; within = le; is_width = can.is_width; done = field_completed at (take at bytes) front_len; how = how }

      go : (short good : Bool) → ltb (length bytes - at) width ≡ short → test (value (take width (drop at bytes))) ≡ good
          → cond short (Err (Short (length bytes))) (allow good at (pair (value (take width (drop at bytes))) (at + width))) ≡ Err fault → ReadStop l (field width value test) bytes at fault
      go true good is passed e = subst (λ (f : FileFault). ReadStop l (field width value test) bytes at f) (fault_of_injective (Short (length bytes)) fault e) (made (Short (length bytes)) (refl, omega (arith, ltb-true (length bytes - at) width is)))
      go false true is passed e = absurd cc
      go false false is passed e =
          let room : at + width ≤ length bytes = omega (arith, ltb-false _ _ is, can.some) in
          subst (λ (f : FileFault). ReadStop l (field width value test) bytes at f) (fault_of_injective (Field at) fault e)
          (made (Field at) (
            refl,
            room,
            λ other same.
                field_is other at (value (take width (drop at bytes))) (length_bound_from_equal_prefix (at + width) other bytes same room) (ap value (same_field_bytes at width other bytes same))
                ∙ ap (λ (b : Bool). allow b at (value (take width (drop at bytes)), at + width)) passed,
          ))

  pub field_reads : Reads l V (field width value test)
  field_reads = record {
    inside = λ bytes at x after le e.
        let p = passes_from width value test can.some bytes at x after e in
        (omega (arith, p.after_is), omega (arith, p.after_is, p.room), subst V p.value_is (valid _ p.passed));
    same = λ bytes other at x after le e same.
        let p = passes_from width value test can.some bytes at x after e in
        let alike : take (at + width) other ≡ take (at + width) bytes = subst (λ (n : ℕ). take n other ≡ take n bytes) (sym p.after_is) same in
        field_is other at (value (take width (drop at bytes))) (length_bound_from_equal_prefix (at + width) other bytes alike p.room) (ap value (same_field_bytes at width other bytes alike))
        ∙ ap (λ (b : Bool). allow b at (value (take width (drop at bytes)), at + width)) p.passed
        ∙ ap (λ (y : ℕ × ℕ). Ok y) (pairs_equal_from_parts _ x _ after p.value_is p.after_is);
    starts = λ front. field_completed (length front) front refl;
    stops = field_stops;
  }

-- a test of what is read
test_moves_into_cond : (short : Bool) (f : FileFault) (n : ℕ × ℕ) (test : ℕ → Bool) (at : ℕ) → (cond short (Err f) (Ok n) >>= λ x. allow (test x.0) at x) ≡ cond short (Err f) (allow (test n.0) at n)
test_moves_into_cond true f n test at = refl
test_moves_into_cond false f n test at = refl

abbrev pub passes_always : ℕ → Bool
passes_always n = true

-- a byte, as a list of one
abbrev pub first_of : List ℕ → ℕ
first_of bytes = get_or bytes 0 0

abbrev pub value_32 : List ℕ → ℕ
value_32 bytes = from_le_bytes w32 bytes

abbrev pub value_64 : List ℕ → ℕ
value_64 bytes = from_le_bytes w64 bytes

zero_bytes : (n : ℕ) → IsBytes (replicate n 0)
zero_bytes n i =
    let none : ℕ = 0 in
    elim (cases_lt i n) [
      | inl lt ↦ rw (get_or-replicate n i none none lt) (omega arith)
      | inr le ↦ rw (get_or_past (replicate n none) i none (omega (arith, length-replicate n none))) (omega arith)
    ]

pub byte_at_is_field : (bytes : List ℕ) (at : ℕ) → byte_at bytes at ≡ field 1 first_of passes_always bytes at
unfolding byte_at field
byte_at_is_field bytes at = elim (cases_lt at (length bytes)) [
  | inl inside ↦
      let there : slice_get bytes at ≡ Some (get_or bytes at 0) = slice_get-get_or bytes at 0 inside in
      let long : ltb (length bytes - at) 1 ≡ false = le-ltb _ _ (omega arith) in
      let here : first_of (take 1 (drop at bytes)) ≡ get_or bytes at 0 = get_or-take 1 (drop at bytes) 0 0 (omega arith) ∙ get_or-drop at bytes 0 0 ∙ ap (λ (n : ℕ). get_or bytes n 0) (omega arith) in
      rw (there, long, here) refl
  | inr past ↦
      let short : ltb (length bytes - at) 1 ≡ true = lt-ltb _ _ (omega arith) in
      ap (byte_or_short bytes at) (slice_get_past bytes at past) ∙ rw short refl
]

-- zeros pass
zeros_can_pass : (l : Layout) (width : ℕ) (value : List ℕ → ℕ) (test : ℕ → Bool) → 0 < width → IsWidth l width → test (value (replicate width 0)) ≡ true → CanPass l width value test
zeros_can_pass l width value test some is_width passes =
    record { some = some; is_width = is_width; text = replicate width 0; len = length-replicate width 0; fits = zero_bytes width; passes = passes }

-- a field of one byte is in both layouts
one_byte_is_width : (l : Layout) → IsWidth l 1
one_byte_is_width Fixed = inl refl
one_byte_is_width Packed = (omega arith, omega arith)

pub byte_reads : (l : Layout) → Reads l any_number byte_at
byte_reads l = reads_as (field 1 first_of passes_always) byte_at byte_at_is_field (field_reads l 1 first_of passes_always (zeros_can_pass l 1 first_of passes_always (omega arith) (one_byte_is_width l) refl) (λ n passed. tt))

pub u32_at_is_field : (bytes : List ℕ) (at : ℕ) → u32_at bytes at ≡ field 4 value_32 passes_always bytes at
unfolding field u32_at
u32_at_is_field bytes at = refl

pub u32_reads : Reads Fixed any_number u32_at
u32_reads = reads_as (field 4 value_32 passes_always) u32_at u32_at_is_field (field_reads Fixed 4 value_32 passes_always (zeros_can_pass Fixed 4 value_32 passes_always (omega arith) (inr (inl refl)) refl) (λ n passed. tt))

abbrev pub up_to : ℕ → ℕ → Bool
up_to most n = leb n most

pub tested_byte_is_field : (test : ℕ → Bool) (bytes : List ℕ) (at : ℕ) → (byte_at bytes at >>= λ x. allow (test x.0) at x) ≡ field 1 first_of test bytes at
unfolding field
tested_byte_is_field test bytes at =
    ap (λ (r : Read ℕ). r >>= λ x. allow (test x.0) at x) (byte_at_is_field bytes at)
    ∙ test_moves_into_cond (ltb (length bytes - at) 1) (Short (length bytes)) (pair (first_of (take 1 (drop at bytes))) (at + 1)) test at

pub byte_up_to_reads : (l : Layout) (most : ℕ) → Reads l (λ n. n ≤ most) (λ bytes at. byte_up_to bytes most at)
unfolding byte_up_to
byte_up_to_reads l most =
    reads_as (field 1 first_of (up_to most)) (λ bytes at. byte_up_to bytes most at) (tested_byte_is_field (up_to most))
    (field_reads l 1 first_of (up_to most) (zeros_can_pass l 1 first_of (up_to most) (omega arith) (one_byte_is_width l) (le-leb 0 most (omega arith))) (λ n passed. leb-le n most passed))

byte_1_is_bytes : IsBytes (1 ∷ [])
byte_1_is_bytes i = grind arith

-- a byte that is not 0
pub some_byte_reads : (l : Layout) → Reads l any_number some_byte_at
unfolding some_byte_at
some_byte_reads l =
    reads_as (field 1 first_of (ltb 0)) some_byte_at (tested_byte_is_field (ltb 0))
    (field_reads l 1 first_of (ltb 0) (record { some = omega arith; is_width = one_byte_is_width l; text = 1 ∷ []; len = refl; fits = byte_1_is_bytes; passes = refl }) (λ n passed. tt))

-- a byte that passes a test which 0 passes
pub byte_tested_reads : (l : Layout) (test : ℕ → Bool) → test 0 ≡ true → Reads l any_number (λ bytes at. byte_at bytes at >>= λ x. allow (test x.0) at x)
byte_tested_reads l test zero_passes =
    reads_as (field 1 first_of test) (λ bytes at. byte_at bytes at >>= λ x. allow (test x.0) at x) (tested_byte_is_field test)
    (field_reads l 1 first_of test (zeros_can_pass l 1 first_of test (omega arith) (one_byte_is_width l) zero_passes) (λ n passed. tt))

pub tested_u32_is_field : (test : ℕ → Bool) (bytes : List ℕ) (at : ℕ) → (u32_at bytes at >>= λ x. allow (test x.0) at x) ≡ field 4 value_32 test bytes at
unfolding field u32_at
tested_u32_is_field test bytes at = test_moves_into_cond (ltb (length bytes - at) 4) (Short (length bytes)) (pair (value_32 (take 4 (drop at bytes))) (at + 4)) test at

word_1_is_bytes : IsBytes (1 ∷ 0 ∷ 0 ∷ 0 ∷ [])
word_1_is_bytes i = grind arith

pub tested_u64_is_field : (test : ℕ → Bool) (bytes : List ℕ) (at : ℕ) → (u64_at bytes at >>= λ x. allow (test x.0) at x) ≡ field 8 value_64 test bytes at
unfolding field u64_at
tested_u64_is_field test bytes at = test_moves_into_cond (ltb (length bytes - at) 8) (Short (length bytes)) (pair (value_64 (take 8 (drop at bytes))) (at + 8)) test at

pub u32_up_to_reads : (most : ℕ) → Reads Fixed (λ n. n ≤ most) (λ bytes at. u32_up_to bytes most at)
unfolding u32_up_to
u32_up_to_reads most =
    reads_as (field 4 value_32 (up_to most)) (λ bytes at. u32_up_to bytes most at) (tested_u32_is_field (up_to most))
    (field_reads Fixed 4 value_32 (up_to most) (zeros_can_pass Fixed 4 value_32 (up_to most) (omega arith) (inr (inl refl)) (le-leb 0 most (omega arith))) (λ n passed. leb-le n most passed))

pub u64_up_to_reads : (most : ℕ) → Reads Fixed (λ n. n ≤ most) (λ bytes at. u64_up_to bytes most at)
unfolding u64_up_to
u64_up_to_reads most =
    reads_as (field 8 value_64 (up_to most)) (λ bytes at. u64_up_to bytes most at) (tested_u64_is_field (up_to most))
    (field_reads Fixed 8 value_64 (up_to most) (zeros_can_pass Fixed 8 value_64 (up_to most) (omega arith) (inr (inr refl)) (le-leb 0 most (omega arith))) (λ n passed. leb-le n most passed))

-- a number of four bytes that passes a test, which 0 or 1 passes
pub u32_tested_reads : {V : ℕ → Type 0} (test : ℕ → Bool) → ((n : ℕ) → test n ≡ true → V n) → (test 0 ≡ true) ⊎ (test 1 ≡ true)
    → Reads Fixed V (λ bytes at. u32_at bytes at >>= λ x. allow (test x.0) at x)
u32_tested_reads test valid start =
    reads_as (field 4 value_32 test) (λ bytes at. u32_at bytes at >>= λ x. allow (test x.0) at x) (tested_u32_is_field test) (field_reads Fixed 4 value_32 test (can start) valid)
  where
    can : (test 0 ≡ true) ⊎ (test 1 ≡ true) → CanPass Fixed 4 value_32 test
    can (inl zero_passes) = zeros_can_pass Fixed 4 value_32 test (omega arith) (inr (inl refl)) zero_passes
    can (inr one_passes) = record { some = omega arith; is_width = inr (inl refl); text = 1 ∷ 0 ∷ 0 ∷ 0 ∷ []; len = refl; fits = word_1_is_bytes; passes = one_passes }
