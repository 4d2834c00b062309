-- Each number is read by a reader, in both layouts.
use Rattle.std.proofs.Common.{◌≡◌, ◌⊎◌, ℕ, ◌+◌, ◌-◌, ◌<◌, ◌≤◌, Bool, true, false, ltb, leb, ◌&&◌, List, [], ◌∷◌, ◌++◌, length, take, Option, Some, None, Ok, Err, refl, sym, ap, subst, ◌∙◌, arith, inl, inr}
use Rattle.std.proofs.lemmas.Bool.{ltb-true, le-leb}
use Rattle.std.proofs.lemmas.List.{drop_at, length-drop, length-take}
use Rattle.goal_limits.specs.declared.limits.TheConstants.{MAX_RANKS}
use Rattle.goal_graph.proofs.ForCallers.{and_left, and_right}
use Rattle.goal_binary.specs.declared.fault.FileFault.{FileFault}
use Rattle.goal_binary.specs.declared.fault.FileFault.TheVariants.{Short, Field}
use Rattle.goal_binary.specs.declared.layout.Layout.{Layout}
use Rattle.goal_binary.specs.declared.layout.Layout.TheVariants.{Fixed, Packed}
use Rattle.goal_binary.specs.Fields.{Read, ◌>>=◌, allow, given, groups_at, u32_at, packed_at, packed_up_to, number_at, count_at, rank_count_at}
use Rattle.goal_binary.proofs.Steps.{IsBytes, bind_ok, allow_ok}
use Rattle.goal_binary.proofs.FieldsTaken.{leb-le}
use Rattle.goal_binary.proofs.Readers.{Reader, Completed, Halts, ReadStop, Reads, reads_as}
use Rattle.goal_binary.proofs.FieldsRead.{pair, fault_of_injective, u32_tested_reads}
use Rattle.goal_binary.proofs.Packed.{read_of, field_ends, groups_again-low, groups_cut, groups_same, packed_ok}

-- a packed number that passes a test
abbrev pub tested_number : (ℕ → Bool) → Reader ℕ
tested_number test bytes at = packed_at bytes at >>= λ x. allow (test x.0) at x

abbrev test_result : (ℕ → Bool) → ℕ → Read (Option ℕ) → Read ℕ
test_result test at read = (read >>= λ number. given at number.0 number.1) >>= λ x. allow (test x.0) at x

tested_number_is_test_result : (test : ℕ → Bool) (bytes : List ℕ) (at : ℕ) → tested_number test bytes at ≡ test_result test at (groups_at bytes 10 at)
unfolding packed_at
tested_number_is_test_result test bytes at = refl

-- the number is whole and passes
record Passes (test : ℕ → Bool) (bytes : List ℕ) (at x after : ℕ) : Type 0 where
  read : groups_at bytes 10 at ≡ Ok (read_of (Some x) after)
  passed : test x ≡ true

passes_from : (test : ℕ → Bool) (bytes : List ℕ) (at x after : ℕ) → tested_number test bytes at ≡ Ok (x, after) → Passes test bytes at x after
passes_from test bytes at x after e =
    let a = bind_ok (packed_at bytes at) (λ x. allow (test x.0) at x) (x, after) e in
    let t = allow_ok (test a.0.0) at a.0 (x, after) a.2 in
    let found = subst (λ (y : ℕ × ℕ). (packed_at bytes at ≡ Ok y) × (test y.0 ≡ true)) t.1 (a.1, t.0) in
    record { read = (packed_ok bytes at (x, after) found.0).read; passed = found.1 }

passing_number_is_read : (test : ℕ → Bool) (bytes : List ℕ) (at x after : ℕ) → Passes test bytes at x after → tested_number test bytes at ≡ Ok (x, after)
passing_number_is_read test bytes at x after p =
    tested_number_is_test_result test bytes at ∙ ap (test_result test at) p.read ∙ ap (λ (b : Bool). allow b at (pair x after)) p.passed

-- a whole field whose number does not pass
abbrev Fails : (ℕ → Bool) → Option ℕ → Type 0
Fails test None = Unit {0}
Fails test (Some n) = test n ≡ false

failing_number_is_field_fault : (test : ℕ → Bool) (at : ℕ) (v : Option ℕ) (after : ℕ) → Fails test v → test_result test at (Ok (read_of v after)) ≡ Err (Field at)
failing_number_is_field_fault test at None after fails = refl
failing_number_is_field_fault test at (Some n) after fails = ap (λ (b : Bool). allow b at (pair n after)) fails

module _ {V : ℕ → Type 0} (test : ℕ → Bool) (valid : (n : ℕ) → test n ≡ true → V n) (first : ℕ) (low : first < 128) (first_passes : test first ≡ true) where
  first_byte_is_bytes : IsBytes (first ∷ [])
  first_byte_is_bytes i = grind (arith, low)

  number_completed : (at : ℕ) (front : List ℕ) → length front ≡ at → Completed (tested_number test) at front
  number_completed at front len =
      let bytes = front ++ first ∷ [] in
      let r = groups_again-low bytes 9 at first [] low (drop_at front (first ∷ []) at len) in
      let ends = field_ends bytes 9 at (Some first) r.place r.is in
      let rest = length-drop r.place bytes in
      let place : r.place ≡ length bytes = omega (arith, rest, ap length r.rest_is, ends.inside) in
      record {
        tail = first ∷ [];
        fits = first_byte_is_bytes;
        value = first;
        is = passing_number_is_read test bytes at first r.place (record { read = r.is; passed = first_passes }) ∙ ap (λ (p : ℕ). Ok (first, p)) place;
      }

  number_stops : (bytes : List ℕ) (at : ℕ) (fault : FileFault) → at ≤ length bytes → tested_number test bytes at ≡ Err fault → ReadStop Packed (tested_number test) bytes at fault
  number_stops bytes at fault le e = go (groups_at bytes 10 at) refl (sym (tested_number_is_test_result test bytes at) ∙ e)
    where
      front_len : length (take at bytes) ≡ at
      front_len = omega (arith, length-take at bytes, le)

      made : (width : ℕ) (f : FileFault) → (0 < width) × (width ≤ 10) → Halts (tested_number test) bytes at at width f → ReadStop Packed (tested_number test) bytes at f
      made width f is_width how = record { place = at; width = width; from = omega arith; within = le; is_width = is_width; done = number_completed at (take at bytes) front_len; how = how }

      bad : (v : Option ℕ) (after : ℕ) → groups_at bytes 10 at ≡ Ok (read_of v after) → Fails test v → ReadStop Packed (tested_number test) bytes at (Field at)
      bad v after is fails =
          let ends = field_ends bytes 9 at v after is in
          let place : at + (after - at) ≡ after = omega (arith, ends.from) in
          made (after - at) (Field at) (omega (arith, ends.from), omega (arith, ends.few)) (
            refl,
            omega (arith, place, ends.inside),
            λ other same.
                let alike : take after other ≡ take after bytes = subst (λ (n : ℕ). take n other ≡ take n bytes) place same in
                tested_number_is_test_result test other at ∙ ap (test_result test at) (groups_same bytes other 10 at v after le is alike) ∙ failing_number_is_field_fault test at v after fails,
          )

      decided : (n after : ℕ) (b : Bool) → test n ≡ b → groups_at bytes 10 at ≡ Ok (read_of (Some n) after) → allow b at (pair n after) ≡ Err fault → ReadStop Packed (tested_number test) bytes at fault
      decided n after true passed is e = absurd cc
      decided n after false passed is e = subst (λ (f : FileFault). ReadStop Packed (tested_number test) bytes at f) (fault_of_injective (Field at) fault e) (bad (Some n) after is passed)

      go : (r : Read (Option ℕ)) → groups_at bytes 10 at ≡ r → test_result test at r ≡ Err fault → ReadStop Packed (tested_number test) bytes at fault
      go (Err d) is e =
          let cut = groups_cut bytes 10 at d le is in
          subst (λ (f : FileFault). ReadStop Packed (tested_number test) bytes at f) (cut.0 ∙ fault_of_injective d fault e) (made 10 (Short (length bytes)) (omega arith, omega arith) (refl, cut.1))
      go (Ok (None, after)) is e = subst (λ (f : FileFault). ReadStop Packed (tested_number test) bytes at f) (fault_of_injective (Field at) fault e) (bad None after is tt)
      go (Ok (Some n, after)) is e = decided n after (test n) refl is e

  pub tested_reads : Reads Packed V (tested_number test)
  tested_reads = record {
    inside = λ bytes at x after le e.
        let p = passes_from test bytes at x after e in
        let ends = field_ends bytes 9 at (Some x) after p.read in
        (omega (arith, ends.from), ends.inside, valid x p.passed);
    same = λ bytes other at x after le e same.
        let p = passes_from test bytes at x after e in
        passing_number_is_read test other at x after (record { read = groups_same bytes other 10 at (Some x) after le p.read same; passed = p.passed });
    starts = λ front. number_completed (length front) front refl;
    stops = number_stops;
  }

-- a packed number that is at most the limit
pub packed_up_to_reads : (most : ℕ) → Reads Packed (λ n. n ≤ most) (λ bytes at. packed_up_to bytes most at)
unfolding packed_up_to
packed_up_to_reads most =
    reads_as (tested_number (λ n. leb n most)) (λ bytes at. packed_up_to bytes most at) (λ bytes at. refl)
    (tested_reads (λ n. leb n most) (λ n passed. leb-le n most passed) 0 (omega arith) (le-leb 0 most (omega arith)))

-- a number that passes a test, which 0 or 1 passes
number_reads : {V : ℕ → Type 0} (l : Layout) (test : ℕ → Bool) → ((n : ℕ) → test n ≡ true → V n) → (test 0 ≡ true) ⊎ (test 1 ≡ true)
    → Reads l V (λ bytes at. number_at bytes l at >>= λ x. allow (test x.0) at x)
unfolding number_at
number_reads Fixed test valid start =
    reads_as (λ bytes at. u32_at bytes at >>= λ x. allow (test x.0) at x) (λ bytes at. number_at bytes Fixed at >>= λ x. allow (test x.0) at x) (λ bytes at. refl) (u32_tested_reads test valid start)
number_reads Packed test valid (inl zero_passes) =
    reads_as (tested_number test) (λ bytes at. number_at bytes Packed at >>= λ x. allow (test x.0) at x) (λ bytes at. refl) (tested_reads test valid 0 (omega arith) zero_passes)
number_reads Packed test valid (inr one_passes) =
    reads_as (tested_number test) (λ bytes at. number_at bytes Packed at >>= λ x. allow (test x.0) at x) (λ bytes at. refl) (tested_reads test valid 1 (omega arith) one_passes)

pub count_reads : (l : Layout) (limit before : ℕ) → before ≤ limit → Reads l (λ n. before + n ≤ limit) (λ bytes at. count_at bytes l limit before at)
unfolding count_at
count_reads l limit before within =
    let fits : ℕ → Bool = λ n. leb (before + n) limit in
    reads_as (λ bytes at. number_at bytes l at >>= λ x. allow (fits x.0) at x) (λ bytes at. count_at bytes l limit before at) (λ bytes at. refl)
    (number_reads l fits (λ n passed. leb-le (before + n) limit passed) (inl (le-leb (before + 0) limit (omega arith))))

-- a number of ranks
pub record IsRankCount (n : ℕ) : Type 0 where
  pub some : 0 < n
  pub within : n ≤ MAX_RANKS

pub rank_count_reads : (l : Layout) → Reads l IsRankCount (λ bytes at. rank_count_at bytes l at)
unfolding rank_count_at
rank_count_reads l =
    let fits : ℕ → Bool = λ n. leb n MAX_RANKS && ltb 0 n in
    reads_as (λ bytes at. number_at bytes l at >>= λ x. allow (fits x.0) at x) (λ bytes at. rank_count_at bytes l at) (λ bytes at. refl)
    (number_reads l fits (λ n passed. record {
      some = ltb-true 0 n (and_right (leb n MAX_RANKS) (ltb 0 n) passed);
      within = leb-le n MAX_RANKS (and_left (leb n MAX_RANKS) (ltb 0 n) passed);
    }) (inr refl))
