-- Counts of needs.
use Rattle.std.proofs.Common.{◌≡◌, ◌⊎◌, ℕ, zero, suc, ◌+◌, ◌<◌, ◌≤◌, ◌||◌, eqb, ltb, Bool, true, false, cond, List, [], ◌∷◌, ◌++◌, length, get_or, take, map, filter, refl, sym, ap, ◌∙◌, arith, inl, inr, zero-add}
use Rattle.std.specs.Prelude.{if◌then◌else◌}
use Rattle.std.specs.List.{count_by}
use Rattle.std.proofs.lemmas.List.{length-map}
use Rattle.std.proofs.lemmas.List.Sums.{sum_by-cons, count_by-le-length, length-filter}
use Rattle.std.proofs.lemmas.Bool.Decides.{nat_tests}
use Rattle.std.proofs.lemmas.Bool.{cases_eq, eq-eqb, false≢true}
use Rattle.goal_graph.specs.declared.plan.Dep.{Dep}
use Rattle.goal_graph.specs.declared.plan.Need.{Need}
use Rattle.goal_graph.specs.declared.rows.Listing.{Listing}
use Rattle.goal_graph.specs.declared.rows.Listing.TheVariants.{Needs, WaitingOn}
use Rattle.goal_graph.specs.Rows.{owner, entry, row}
use Rattle.goal_graph.specs.Search.{is_among, unfinished, count_of}
use Rattle.goal_graph.proofs.Numbers.{ne-eqb}
use Rattle.std.proofs.Math.Bool.{or-false}

pub is_among-append : (xs ys : List ℕ) (op : ℕ) → is_among (xs ++ ys) op ≡ (is_among xs op || is_among ys op)
unfolding is_among
is_among-append [] ys op = refl
is_among-append (x ∷ xs) ys op = go (eqb x op) (is_among-append xs ys op)
  where
    go : (b : Bool) → is_among (xs ++ ys) op ≡ (is_among xs op || is_among ys op) → (b || is_among (xs ++ ys) op) ≡ ((b || is_among xs op) || is_among ys op)
    go true e = refl
    go false e = e

-- another one at the end
pub is_among-push : (xs : List ℕ) (x op : ℕ) → is_among (xs ++ x ∷ []) op ≡ (is_among xs op || eqb x op)
unfolding is_among
is_among-push xs x op = is_among-append xs (x ∷ []) op ∙ ap (λ b. is_among xs op || b) (or-false (eqb x op))

pub count_of-push : (ds : List Need) (d : Need) (op : ℕ) → count_of (ds ++ d ∷ []) op ≡ count_of ds op + (if eqb d.op op then 1 else 0)
unfolding count_of
count_of-push [] d op = omega arith
count_of-push (e ∷ ds) d op = omega (arith, count_of-push ds d op)

-- finishing an operation subtracts its needs
pub unfinished-push : (done : List ℕ) (e : ℕ) (ds : List Need) → is_among done e ≡ false → unfinished (done ++ e ∷ []) ds + count_of ds e ≡ unfinished done ds
unfolding unfinished count_of
unfinished-push done e [] fresh = refl
unfinished-push done e (d ∷ ds) fresh = go (cases_eq d.op e) (unfinished-push done e ds fresh)
  where
    go : (d.op ≡ e) ⊎ (d.op ≡ e → ⊥) → unfinished (done ++ e ∷ []) ds + count_of ds e ≡ unfinished done ds
        → (if is_among (done ++ e ∷ []) d.op then 0 else 1) + unfinished (done ++ e ∷ []) ds + ((if eqb d.op e then 1 else 0) + count_of ds e) ≡ (if is_among done d.op then 0 else 1) + unfinished done ds
    go (inl same) rest = rw (is_among-push done e d.op, same, fresh, eq-eqb e e refl) (omega arith)
    go (inr other) rest =
        rw (is_among-push done e d.op, ne-eqb d.op e other, ne-eqb e d.op (λ h. other (sym h)), or-false (is_among done d.op)) (omega arith)

-- no operation is finished
pub unfinished-nil : (ds : List Need) → unfinished [] ds ≡ length ds
unfolding unfinished is_among
unfinished-nil [] = refl
unfinished-nil (d ∷ ds) = omega (arith, unfinished-nil ds)

-- another dependency
count_of-row : (listing : Listing) (d : Dep) (deps : List Dep) (op x : ℕ) → count_of (row listing (d ∷ deps) op) x ≡ (if eqb (owner listing d) op then (if eqb (entry listing d).op x then 1 else 0) else 0) + count_of (row listing deps op) x
unfolding row count_of
count_of-row listing d deps op x = go (eqb (owner listing d) op) (filter (λ (d : Dep). eqb (owner listing d) op) deps)
  where
    go : (b : Bool) (ds : List Dep) → count_of (map (entry listing) (cond b (d ∷ ds) ds)) x ≡ (if b then (if eqb (entry listing d).op x then 1 else 0) else 0) + count_of (map (entry listing) ds) x
    go true ds = refl
    go false ds = sym (zero-add _)

nested_if_swapped : (a b : Bool) → ◌≡◌ {A = ℕ} (if a then (if b then 1 else 0) else 0) (if b then (if a then 1 else 0) else 0)
nested_if_swapped true true = refl
nested_if_swapped true false = refl
nested_if_swapped false true = refl
nested_if_swapped false false = refl

count_of-none : (later earlier : ℕ) → count_of (row WaitingOn [] earlier) later ≡ count_of (row Needs [] later) earlier
unfolding row count_of
count_of-none later earlier = refl

-- a need of one operation is a dependency that waits on another
pub count_of-rows : (deps : List Dep) (later earlier : ℕ) → count_of (row WaitingOn deps earlier) later ≡ count_of (row Needs deps later) earlier
count_of-rows [] later earlier = count_of-none later earlier
count_of-rows (d ∷ deps) later earlier =
    rw (count_of-row WaitingOn d deps earlier later, count_of-row Needs d deps later earlier, count_of-rows deps later earlier)
    (ap (λ n. n + count_of (row Needs deps later) earlier) (nested_if_swapped (eqb d.earlier earlier) (eqb d.later later)))

-- a part of a list of needs names an operation at most as often as the whole list
pub count_of-take-le : (ds : List Need) (k op : ℕ) → count_of (take k ds) op ≤ count_of ds op
unfolding count_of
count_of-take-le [] zero op = omega arith
count_of-take-le [] (suc k) op = omega arith
count_of-take-le (d ∷ ds) zero op = omega arith
count_of-take-le (d ∷ ds) (suc k) op = omega (arith, count_of-take-le ds k op)

pub count_of-nil : (op : ℕ) → count_of [] op ≡ 0
unfolding count_of
count_of-nil op = refl

-- a member of the list has a place in it
pub is_among-found : (xs : List ℕ) (op : ℕ) → is_among xs op ≡ true → (k : ℕ) × (k < length xs) × (get_or xs k 0 ≡ op)
unfolding is_among
is_among-found [] op h = absurd (false≢true h)
is_among-found (x ∷ xs) op h = go (cases_eq x op) (is_among-found xs op)
  where
    go : (x ≡ op) ⊎ (x ≡ op → ⊥) → (is_among xs op ≡ true → (k : ℕ) × (k < length xs) × (get_or xs k 0 ≡ op)) → (k : ℕ) × (k < suc (length xs)) × (get_or (x ∷ xs) k 0 ≡ op)
    go (inl same) rest = (0, omega arith, same)
    go (inr other) rest = let r = rest (rw (ne-eqb x op other) at h) in (suc r.0, omega (arith, r.1), r.2)

-- a number above all in the list is not a member
pub is_among-above : (xs : List ℕ) (op : ℕ) → ((k : ℕ) → k < length xs → get_or xs k 0 < op) → is_among xs op ≡ false
unfolding is_among
is_among-above [] op below = refl
is_among-above (x ∷ xs) op below =
    rw (ne-eqb x op (λ same. omega (arith, below 0 (omega arith)))) (is_among-above xs op (λ k inside. below (suc k) (omega arith)))

-- the number of dependencies in the rows of the operations before n
pub listed_before : Listing → List Dep → ℕ → ℕ
listed_before listing deps n = count_by (λ (d : Dep). ltb (owner listing d) n) deps

none_below_zero : (k : ℕ) → ◌≡◌ {A = ℕ} (if ltb k 0 then 1 else 0) 0
none_below_zero k = grind (arith, nat_tests)

pub listed_before-zero : (listing : Listing) (deps : List Dep) → listed_before listing deps 0 ≡ 0
unfolding listed_before
listed_before-zero listing [] = refl
listed_before-zero listing (d ∷ deps) =
    omega (arith, none_below_zero (owner listing d), sum_by-cons (λ (e : Dep). if ltb (owner listing e) 0 then 1 else 0) d deps, listed_before-zero listing deps)

pub listed_before-le : (listing : Listing) (deps : List Dep) (n : ℕ) → listed_before listing deps n ≤ length deps
unfolding listed_before
listed_before-le listing deps n = count_by-le-length (λ (d : Dep). ltb (owner listing d) n) deps

ltb_next_splits : (k n : ℕ) → (if ltb k (n + 1) then 1 else 0) ≡ (if ltb k n then 1 else 0) + (if eqb k n then 1 else 0)
ltb_next_splits k n = grind (arith, nat_tests)

listed_before-count : (listing : Listing) (deps : List Dep) (n : ℕ) → listed_before listing deps (n + 1) ≡ listed_before listing deps n + count_by (λ (d : Dep). eqb (owner listing d) n) deps
unfolding listed_before
listed_before-count listing [] n = omega arith
listed_before-count listing (d ∷ deps) n =
    let at = sum_by-cons (λ (e : Dep). if eqb (owner listing e) n then 1 else 0) d deps in
    let before = sum_by-cons (λ (e : Dep). if ltb (owner listing e) n then 1 else 0) d deps in
    let up_to = sum_by-cons (λ (e : Dep). if ltb (owner listing e) (n + 1) then 1 else 0) d deps in
    omega (arith, at, before, up_to, ltb_next_splits (owner listing d) n, listed_before-count listing deps n)

-- another row
pub listed_before-more : (listing : Listing) (deps : List Dep) (n : ℕ) → listed_before listing deps (n + 1) ≡ listed_before listing deps n + length (row listing deps n)
unfolding row
listed_before-more listing deps n =
    rw (length-map, length-filter (λ (d : Dep). eqb (owner listing d) n) deps) (listed_before-count listing deps n)
