use Rattle.std.proofs.Common.{ℕ, ◌+◌, ◌<◌, ◌≤◌, ◌≡◌, ⊎_elim, List, length, drop, get_or, ap, Contains, sym, subst, arith, min}
use Rattle.std.proofs.lemmas.Bool.{cases_lt}
use Rattle.std.proofs.lemmas.List.{get_or_default, take_rest}
use Rattle.std.proofs.lemmas.List.Elements.{Contains-get_or}
use Rattle.sim_cycles.proofs.heads.least.Goals as goal

min_among : (xs : List ℕ) (m i r : ℕ) → Contains xs m → i < length xs → r ≡ min m (get_or xs i 0) → Contains xs r
min_among xs m i r among inside e =
    ⊎_elim (λ less. let k : r ≡ m = omega arith in subst (Contains xs) (sym k) among) (λ more. let k : r ≡ get_or xs i 0 = omega arith in subst (Contains xs) (sym k) (Contains-get_or xs i 0 inside)) (cases_lt m (get_or xs i 0))

min_least : (xs : List ℕ) (m i r : ℕ) → ((k : ℕ) → k < i → m ≤ get_or xs k 0) → r ≡ min m (get_or xs i 0) → (k : ℕ) → k < i + 1 → r ≤ get_or xs k 0
min_least xs m i r least e k below =
    ⊎_elim (λ less. omega (arith, least k less)) (λ (more : i ≤ k). let same : k ≡ i = omega arith in rw same (omega arith)) (cases_lt k i)

all_least : (xs ys : List ℕ) (m i : ℕ) → ys ≡ xs → length ys ≤ i → ((k : ℕ) → k < i → m ≤ get_or ys k 0) → (k d : ℕ) → k < length xs → m ≤ get_or xs k d
all_least xs ys m i e whole least k d inside =
    let n : length ys ≡ length xs = ap length e in
    let h : m ≤ get_or xs k 0 = subst (λ (zs : List ℕ). m ≤ get_or zs k 0) e (least k (omega arith)) in
    omega (arith, h, get_or_default xs k d 0 inside)

pub loop-at-preserved : goal.loop-at-preserved
loop-at-preserved c = record {
  among = min_among _ _ _ _ c.loop-at.invariant.among c.loop-at-test.true c.min-least.ensures;
  least = min_least _ _ _ _ c.loop-at.invariant.least c.min-least.ensures;
}

pub returns-clause-least : goal.returns-clause-least
returns-clause-least c =
    all_least (drop c.args.first c.args.way.now) _ _ _ (take_rest c.args.way.now c.args.first) c.loop-at-test.false c.loop-at.invariant.least
