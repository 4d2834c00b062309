-- The contributions of ranks that follow one another.
use Rattle.std.proofs.Common.{ℕ, zero, suc, ◌+◌, ◌<◌, ◌≤◌, ◌≡◌, nat_lt, Bool, true, false, [], ◌∷◌, ◌++◌, map, refl, sym, ap, ◌∙◌, arith}
use Rattle.std.specs.List.{range_with_len}
use Rattle.std.proofs.lemmas.Bool.{lt-ltb, ltb-true, ne_eqb}
use Rattle.std.proofs.lemmas.List.{append-nil}
use Rattle.goal_blocks.specs.Values.{Value, is_lower, insert_one, merge}

-- the first item of each of m ranks, from a on
unfoldable pub run : ℕ → ℕ → Value
run a zero = []
run a (suc m) = record { rank = a; item = 0 } ∷ run (a + 1) m

lower_rank : (a b : ℕ) → a < b → is_lower (record { rank = a; item = 0 }) (record { rank = b; item = 0 }) ≡ true
lower_rank a b l = rw (lt-ltb a b l) refl

not_lower : (a b : ℕ) → b < a → is_lower (record { rank = a; item = 0 }) (record { rank = b; item = 0 }) ≡ false
not_lower a b l = rw (higher, ne_eqb a b (λ e. omega (arith, e, l))) refl
  where
    higher : nat_lt a b ≡ false
    higher = go (nat_lt a b) refl
      where
        go : (t : Bool) → nat_lt a b ≡ t → t ≡ false
        go true e = absurd (let m = ltb-true a b e in omega (arith, m, l))
        go false e = refl

-- a rank is inserted before higher ranks and after lower ranks
pub insert_before : (b a m : ℕ) → b < a → insert_one (record { rank = b; item = 0 }) (run a m) ≡ record { rank = b; item = 0 } ∷ run a m
unfolding insert_one run
insert_before b a zero l = refl
insert_before b a (suc m) l = rw (lower_rank b a l) refl

insert_after : (b a m : ℕ) (v : Value) → a + m ≤ b → insert_one (record { rank = b; item = 0 }) (run a m ++ v) ≡ run a m ++ insert_one (record { rank = b; item = 0 }) v
unfolding insert_one run
insert_after b a zero v l = refl
insert_after b a (suc m) v l = rw (not_lower b a (omega (arith, l)), insert_after b (a + 1) m v (omega (arith, l))) refl

-- merging two neighbouring runs gives one run
pub merge_before : (a m l : ℕ) → merge (run a m) (run (a + m) l) ≡ run a (m + l)
unfolding merge run
merge_before a zero l =
    let e : a + 0 ≡ a = omega arith in let f : 0 + l ≡ l = omega arith in rw (e, f) refl
merge_before a (suc m) l =
    let e : a + suc m ≡ a + 1 + m = omega arith in
    let f : suc m + l ≡ suc (m + l) = omega arith in
    rw (e, f, merge_before (a + 1) m l) (insert_before a (a + 1) (m + l) (omega arith))

merge_apart : (b l a m : ℕ) → a + m ≤ b → merge (run b l) (run a m) ≡ run a m ++ run b l
unfolding merge run
merge_apart b zero a m g = sym (append-nil (run a m))
merge_apart b (suc l) a m g =
    rw (merge_apart (b + 1) l a m (omega (arith, g))) (insert_after b a m (run (b + 1) l) g ∙ ap (λ (v : Value). run a m ++ v) (insert_before b (b + 1) l (omega arith)))

append_runs : (a m l : ℕ) → run a m ++ run (a + m) l ≡ run a (m + l)
unfolding run
append_runs a zero l = let e : a + 0 ≡ a = omega arith in let f : 0 + l ≡ l = omega arith in rw (e, f) refl
append_runs a (suc m) l =
    let e : a + suc m ≡ a + 1 + m = omega arith in
    let f : suc m + l ≡ suc (m + l) = omega arith in
    rw (e, f, append_runs (a + 1) m l) refl

pub merge_after : (a m l : ℕ) → merge (run (a + m) l) (run a m) ≡ run a (m + l)
merge_after a m l = merge_apart (a + m) l a m (omega arith) ∙ append_runs a m l

pub run_is_mapped_range : (a m : ℕ) → run a m ≡ map (λ (q : ℕ). record { rank = q; item = 0 }) (range_with_len a m)
unfolding run
run_is_mapped_range a zero = refl
run_is_mapped_range a (suc m) = ap (λ (v : Value). record { rank = a; item = 0 } ∷ v) (run_is_mapped_range (a + 1) m)
