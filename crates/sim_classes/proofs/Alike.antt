-- Equal parameters.
use Rattle.std.proofs.Common.{ℕ, zero, suc, Bool, true, false, not, List, [], ◌∷◌, ◌≡◌, ◌≢◌, ◌<◌, ◌+◌, ◌==◌, ◌&&◌, length, map, get_or, slice_get, unwrap_or, refl, subst, arith, eq-eqb}
use Rattle.std.proofs.lemmas.Bool.{and_parts, eqb-true, eqb-false, both_ways}
use Rattle.std.proofs.lemmas.List.{length-map}
use Rattle.sim_params.specs.declared.params.Params.{Params}
use Rattle.sim_params.specs.Costs.{Numbers}
use Rattle.sim_params.specs.Numbers.{numbers, asked}

-- the last numbers are the same, from this one on
abbrev alike_from_sync : Numbers → Numbers → Bool
alike_from_sync m n = m.sync == n.sync

abbrev alike_from_overhead_picos : Numbers → Numbers → Bool
alike_from_overhead_picos m n = m.overhead_picos == n.overhead_picos && alike_from_sync m n

abbrev alike_from_overhead_per_byte : Numbers → Numbers → Bool
alike_from_overhead_per_byte m n = m.overhead_per_byte == n.overhead_per_byte && alike_from_overhead_picos m n

abbrev alike_from_gap_picos : Numbers → Numbers → Bool
alike_from_gap_picos m n = m.gap_picos == n.gap_picos && alike_from_overhead_per_byte m n

abbrev alike_from_gap_per_byte : Numbers → Numbers → Bool
alike_from_gap_per_byte m n = m.gap_per_byte == n.gap_per_byte && alike_from_gap_picos m n

abbrev alike_from_gap : Numbers → Numbers → Bool
alike_from_gap m n = m.gap == n.gap && alike_from_gap_per_byte m n

abbrev alike_from_overhead : Numbers → Numbers → Bool
alike_from_overhead m n = m.overhead == n.overhead && alike_from_gap m n

-- all numbers are the same
abbrev pub alike : Numbers → Numbers → Bool
alike m n = m.latency == n.latency && alike_from_overhead m n

nat_eq_reflexive : (m : ℕ) → (m == m) ≡ true
nat_eq_reflexive m = eq-eqb m m refl

alike_reflexive : (n : Numbers) → alike n n ≡ true
alike_reflexive n =
    λ i. nat_eq_reflexive n.latency i && (nat_eq_reflexive n.overhead i && (nat_eq_reflexive n.gap i && (nat_eq_reflexive n.gap_per_byte i && (nat_eq_reflexive n.gap_picos i && (nat_eq_reflexive n.overhead_per_byte i && (nat_eq_reflexive n.overhead_picos i && nat_eq_reflexive n.sync i))))))

pub alike_same : (m n : Numbers) → alike m n ≡ true → m ≡ n
alike_same m n e =
    let p = and_parts (m.latency == n.latency) (alike_from_overhead m n) e in
    let q = and_parts (m.overhead == n.overhead) (alike_from_gap m n) p.1 in
    let r = and_parts (m.gap == n.gap) (alike_from_gap_per_byte m n) q.1 in
    let s = and_parts (m.gap_per_byte == n.gap_per_byte) (alike_from_gap_picos m n) r.1 in
    let t = and_parts (m.gap_picos == n.gap_picos) (alike_from_overhead_per_byte m n) s.1 in
    let u = and_parts (m.overhead_per_byte == n.overhead_per_byte) (alike_from_overhead_picos m n) t.1 in
    let v = and_parts (m.overhead_picos == n.overhead_picos) (alike_from_sync m n) u.1 in
    λ i. record {
      latency = eqb-true m.latency n.latency p.0 i;
      overhead = eqb-true m.overhead n.overhead q.0 i;
      gap = eqb-true m.gap n.gap r.0 i;
      gap_per_byte = eqb-true m.gap_per_byte n.gap_per_byte s.0 i;
      gap_picos = eqb-true m.gap_picos n.gap_picos t.0 i;
      overhead_per_byte = eqb-true m.overhead_per_byte n.overhead_per_byte u.0 i;
      overhead_picos = eqb-true m.overhead_picos n.overhead_picos v.0 i;
      sync = eqb-true m.sync n.sync v.1 i;
    }

pub not_alike : (m n : Numbers) → alike m n ≡ false → m ≢ n
not_alike m n e is = both_ways (alike m n) e (subst (λ (k : Numbers). alike m k ≡ true) is (alike_reflexive m))

nothing_is_below_zero : (i : ℕ) → i < 0 → ⊥
nothing_is_below_zero i low = omega (arith, low)

-- the numbers of a class of the code
pub numbers_at : (ps : List Params) (i : ℕ) (d : Params) → i < length ps → unwrap_or (slice_get (map numbers ps) i) (asked 0 0 0 0 0 0 0 0) ≡ numbers (get_or ps i d)
numbers_at [] i d low = absurd (nothing_is_below_zero i low)
numbers_at (p ∷ ps) zero d low = refl
numbers_at (p ∷ ps) (suc i) d low = numbers_at ps i d (omega (arith, low))

pub negation_true : (b : Bool) → not b ≡ true → b ≡ false
negation_true true e = cc
negation_true false e = refl

pub negation_false : (b : Bool) → not b ≡ false → b ≡ true
negation_false true e = refl
negation_false false e = cc

pub mapped_length : (ps : List Params) → length (map numbers ps) ≡ length ps
mapped_length ps = length-map ps numbers

-- these classes have these numbers, and so has the next
pub next_alike : (ps : List Params) (i : ℕ) (d : Params) (n : Numbers) → ((k : ℕ) → k < i → numbers (get_or ps k d) ≡ n) → numbers (get_or ps i d) ≡ n → (k : ℕ) → k < i + 1 → numbers (get_or ps k d) ≡ n
next_alike ps i d n before here k low = go (k == i) refl
  where
    go : (b : Bool) → (k == i) ≡ b → numbers (get_or ps k d) ≡ n
    go true e = rw (eqb-true k i e) here
    go false e = before k (let other = eqb-false k i e in omega (arith, other, low))
