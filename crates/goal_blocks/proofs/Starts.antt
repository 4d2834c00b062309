-- What the slots hold at the start, and how much that is.
use Rattle.std.proofs.Common.{ℕ, zero, suc, ◌*◌, ◌<◌, ◌≤◌, ◌==◌, ◌&&◌, nat_lt, ◌≡◌, Bool, true, false, [], length, if◌then◌else◌, refl, sym, ap, ◌∙◌, arith, eq-eqb, ⊎_elim, suc-mul, zero-mul, ◌^◌}
use Rattle.std.proofs.lemmas.Bool.{cases_eq, eqb-true, true≢false, lt-ltb, le-ltb}
use Rattle.goal_limits.specs.Limits.{rank_limit}
use Rattle.goal_limits.specs.declared.collective.Collective.{Collective}
use Rattle.goal_limits.specs.declared.collective.Collective.TheVariants.{Bcast, Barrier, Allgather, Allreduce, Alltoall, Reduce, Gather, Scatter, ReduceScatter, Scan}
use Rattle.goal_blocks.specs.Collectives.{single, initial, initial_at}
use Rattle.goal_blocks.specs.Stored.{IsSorted}
use Rattle.goal_blocks.specs.Weight.{sum_below, stored}
use Rattle.goal_blocks.proofs.SlotSums.{sum_below_of_equal_terms, sum_changed}

pub initial_in : (what : Collective) (ranks r k : ℕ) → r < ranks → initial what ranks r k ≡ initial_at what ranks r k
unfolding initial
initial_in what ranks r k l = go (nat_lt r ranks) (lt-ltb r ranks l)
  where
    go : (b : Bool) → b ≡ true → (if b then initial_at what ranks r k else []) ≡ initial_at what ranks r k
    go true e = refl
    go false e = absurd (true≢false (sym e))

sorted_if : (b : Bool) (r k : ℕ) → IsSorted (if b then single r k else [])
sorted_if true r k = (tt, tt)
sorted_if false r k = tt

sorted_at : (what : Collective) (ranks r k : ℕ) → IsSorted (initial_at what ranks r k)
sorted_at (Bcast root) ranks r k = sorted_if ((r == root) && (k == 0)) root 0
sorted_at Barrier ranks r k = sorted_if (k == 0) r 0
sorted_at Allgather ranks r k = sorted_if (k == r) r 0
sorted_at Allreduce ranks r k = sorted_if (k == 0) r 0
sorted_at Alltoall ranks r k = sorted_if (nat_lt k ranks) r k
sorted_at (Reduce root) ranks r k = sorted_if (k == 0) r 0
sorted_at (Gather root) ranks r k = sorted_if (k == r) r 0
sorted_at (Scatter root) ranks r k = sorted_if ((r == root) && nat_lt k ranks) root k
sorted_at ReduceScatter ranks r k = sorted_if (nat_lt k ranks) r k
sorted_at Scan ranks r k = sorted_if (k == 0) r 0

pub initial_sorted : (what : Collective) (ranks r k : ℕ) → IsSorted (initial what ranks r k)
unfolding initial
initial_sorted what ranks r k = go (nat_lt r ranks)
  where
    go : (b : Bool) → IsSorted (if b then initial_at what ranks r k else [])
    go true = sorted_at what ranks r k
    go false = tt

-- sums

sum_constant : (n x : ℕ) → sum_below n (λ k. x) ≡ n * x
unfolding sum_below
sum_constant zero x = sym (zero-mul x)
sum_constant (suc n) x = let before = sum_constant n x in let more = suc-mul n x in omega (arith, before, more)

-- the sum of x at one number and 0 elsewhere
sum_of_value_at_one_number : (n a x : ℕ) → a < n → sum_below n (λ k. if k == a then x else 0) ≡ x
sum_of_value_at_one_number n a x l =
    let changed = sum_changed n a (λ k. 0) (λ k. if k == a then x else 0) l (λ k ne. other k ne) in
    let nothing = sum_constant n 0 in
    let here = same (a == a) (eq-eqb a a refl) in
    omega (arith, changed, nothing, here)
  where
    other : (k : ℕ) → (k ≡ a → ⊥) → (if k == a then x else 0) ≡ 0
    other k ne = go (k == a) refl
      where
        go : (b : Bool) → (k == a) ≡ b → (if b then x else 0) ≡ 0
        go true e = absurd (ne (eqb-true k a e))
        go false e = refl

    same : (b : Bool) → b ≡ true → (if b then x else 0) ≡ x
    same true e = refl
    same false e = absurd (true≢false (sym e))

-- the sum is 0 if that number is not below n
sum_of_value_past_end : (n a x : ℕ) → n ≤ a → sum_below n (λ k. if k == a then x else 0) ≡ 0
sum_of_value_past_end n a x l =
    sum_below_of_equal_terms n (λ k. if k == a then x else 0) (λ k. 0) other ∙ nothing
  where
    nothing : sum_below n (λ k. 0) ≡ 0
    nothing = let all = sum_constant n 0 in omega (arith, all)

    other : (k : ℕ) → k < n → (if k == a then x else 0) ≡ 0
    other k b = go (k == a) refl
      where
        go : (t : Bool) → (k == a) ≡ t → (if t then x else 0) ≡ 0
        go true e = absurd (let same = eqb-true k a e in omega (arith, same, b, l))
        go false e = refl

-- 1 at each of the first m numbers, else 0
abbrev first : ℕ → ℕ → ℕ
first m k = if nat_lt k m then 1 else 0

sum_first : (n m : ℕ) → m ≤ n → sum_below n (first m) ≡ m
unfolding sum_below
sum_first zero m l = omega (arith, l)
sum_first (suc n) m l = ⊎_elim all (λ ne. some ne (sum_first n m (omega (arith, ne, l)))) (cases_eq m (suc n))
  where
    one : (b : Bool) → b ≡ true → ◌≡◌ {A = ℕ} (if b then 1 else 0) 1
    one true e = refl
    one false e = absurd (true≢false (sym e))

    none : (b : Bool) → b ≡ false → ◌≡◌ {A = ℕ} (if b then 1 else 0) 0
    none true e = absurd (true≢false e)
    none false e = refl

    all : m ≡ suc n → sum_below (suc n) (first m) ≡ m
    all e =
        let same : ◌≡◌ {A = ℕ} (sum_below n (first m)) (sum_below n (λ k. 1)) = sum_below_of_equal_terms n (first m) (λ k. 1) (λ k b. one (nat_lt k m) (lt-ltb k m (omega (arith, b, e)))) in
        let ones = sum_constant n 1 in
        let last = one (nat_lt n m) (lt-ltb n m (omega (arith, e))) in
        omega (arith, same, ones, last, e)

    some : (m ≡ suc n → ⊥) → sum_below n (first m) ≡ m → sum_below (suc n) (first m) ≡ m
    some ne before =
        let last = none (nat_lt n m) (le-ltb n m (omega (arith, ne, l))) in
        omega (arith, before, last)

size_if : (b : Bool) (r k : ℕ) → length (if b then single r k else []) ≡ (if b then 1 else 0)
size_if true r k = refl
size_if false r k = refl

-- each rank has one contribution, in a slot that may depend on the rank
abbrev OneEach : Collective → ℕ → (ℕ → ℕ) → Type 0
OneEach what ranks place = (r k : ℕ) → length (initial_at what ranks r k) ≡ (if k == place r then 1 else 0)

one_contribution_each : (what : Collective) (ranks : ℕ) (place : ℕ → ℕ) → ((r : ℕ) → r < ranks → place r < 2 ^ 32) → OneEach what ranks place → stored ranks (initial what ranks) ≡ ranks
unfolding stored
one_contribution_each what ranks place low one =
    sum_below_of_equal_terms ranks (λ r. sum_below (2 ^ 32) (λ k. length (initial what ranks r k))) (λ r. 1) (λ r l. sum_below_of_equal_terms (2 ^ 32) (λ k. length (initial what ranks r k)) (λ k. if k == place r then 1 else 0) (λ k b. ap length (initial_in what ranks r k l) ∙ one r k) ∙ sum_of_value_at_one_number (2 ^ 32) (place r) 1 (low r l))
    ∙ all
  where
    all : sum_below ranks (λ r. 1) ≡ ranks
    all = let ones = sum_constant ranks 1 in omega (arith, ones)

-- each rank has one contribution for each rank
one_item_per_rank_pair : (what : Collective) (ranks : ℕ) → ranks ≤ rank_limit → ((r k : ℕ) → length (initial_at what ranks r k) ≡ (if nat_lt k ranks then 1 else 0)) → stored ranks (initial what ranks) ≡ ranks * ranks
unfolding stored
one_item_per_rank_pair what ranks few each =
    sum_below_of_equal_terms ranks (λ r. sum_below (2 ^ 32) (λ k. length (initial what ranks r k))) (λ r. ranks) (λ r l. sum_below_of_equal_terms (2 ^ 32) (λ k. length (initial what ranks r k)) (first ranks) (λ k b. ap length (initial_in what ranks r k l) ∙ each r k) ∙ sum_first (2 ^ 32) ranks (omega (arith, few)))
    ∙ sum_constant ranks ranks

-- only the root has contributions
abbrev OfRoot : Collective → ℕ → ℕ → ℕ → Type 0
OfRoot what ranks root x =
    (r : ℕ) → sum_below (2 ^ 32) (λ k. length (initial_at what ranks r k)) ≡ (if r == root then x else 0)

stored_only_at_root : (what : Collective) (ranks root x : ℕ) → OfRoot what ranks root x → stored ranks (initial what ranks) ≡ sum_below ranks (λ r. if r == root then x else 0)
unfolding stored
stored_only_at_root what ranks root x has =
    sum_below_of_equal_terms ranks (λ r. sum_below (2 ^ 32) (λ k. length (initial what ranks r k))) (λ r. if r == root then x else 0) (λ r l. sum_below_of_equal_terms (2 ^ 32) (λ k. length (initial what ranks r k)) (λ k. length (initial_at what ranks r k)) (λ k b. ap length (initial_in what ranks r k l)) ∙ has r)

root_or_none : (r root item : ℕ) (test : ℕ → Bool) (item_of : ℕ → ℕ) (x : ℕ) → sum_below (2 ^ 32) (λ k. if test k then 1 else 0) ≡ x → sum_below (2 ^ 32) (λ k. length (if (r == root) && test k then single root (item_of k) else [])) ≡ (if r == root then x else 0)
root_or_none r root item test item_of x sum = go (r == root)
  where
    go : (b : Bool) → sum_below (2 ^ 32) (λ k. length (if b && test k then single root (item_of k) else [])) ≡ (if b then x else 0)
    go true = sum_below_of_equal_terms (2 ^ 32) (λ k. length (if test k then single root (item_of k) else [])) (λ k. if test k then 1 else 0) (λ k l. size_if (test k) root (item_of k)) ∙ sum
    go false = let all = sum_constant (2 ^ 32) 0 in omega (arith, all)

pub stored_barrier : (ranks : ℕ) → stored ranks (initial Barrier ranks) ≡ ranks
stored_barrier ranks = one_contribution_each Barrier ranks (λ r. 0) (λ r l. omega arith) (λ r k. size_if (k == 0) r 0)

pub stored_allreduce : (ranks : ℕ) → stored ranks (initial Allreduce ranks) ≡ ranks
stored_allreduce ranks = one_contribution_each Allreduce ranks (λ r. 0) (λ r l. omega arith) (λ r k. size_if (k == 0) r 0)

pub stored_reduce : (ranks root : ℕ) → stored ranks (initial (Reduce root) ranks) ≡ ranks
stored_reduce ranks root = one_contribution_each (Reduce root) ranks (λ r. 0) (λ r l. omega arith) (λ r k. size_if (k == 0) r 0)

pub stored_scan : (ranks : ℕ) → stored ranks (initial Scan ranks) ≡ ranks
stored_scan ranks = one_contribution_each Scan ranks (λ r. 0) (λ r l. omega arith) (λ r k. size_if (k == 0) r 0)

pub stored_allgather : (ranks : ℕ) → ranks ≤ rank_limit → stored ranks (initial Allgather ranks) ≡ ranks
stored_allgather ranks few = one_contribution_each Allgather ranks (λ r. r) (λ r l. omega (arith, l, few)) (λ r k. size_if (k == r) r 0)

pub stored_gather : (ranks root : ℕ) → ranks ≤ rank_limit → stored ranks (initial (Gather root) ranks) ≡ ranks
stored_gather ranks root few = one_contribution_each (Gather root) ranks (λ r. r) (λ r l. omega (arith, l, few)) (λ r k. size_if (k == r) r 0)

pub stored_alltoall : (ranks : ℕ) → ranks ≤ rank_limit → stored ranks (initial Alltoall ranks) ≡ ranks * ranks
stored_alltoall ranks few = one_item_per_rank_pair Alltoall ranks few (λ r k. size_if (nat_lt k ranks) r k)

pub stored_reduce_scatter : (ranks : ℕ) → ranks ≤ rank_limit → stored ranks (initial ReduceScatter ranks) ≡ ranks * ranks
stored_reduce_scatter ranks few = one_item_per_rank_pair ReduceScatter ranks few (λ r k. size_if (nat_lt k ranks) r k)

bcast_rows : (ranks root : ℕ) → stored ranks (initial (Bcast root) ranks) ≡ sum_below ranks (λ r. if r == root then 1 else 0)
bcast_rows ranks root = stored_only_at_root (Bcast root) ranks root 1 (λ r. root_or_none r root 0 (λ k. k == 0) (λ k. 0) 1 (sum_of_value_at_one_number (2 ^ 32) 0 1 (omega arith)))

scatter_rows : (ranks root : ℕ) → ranks ≤ rank_limit → stored ranks (initial (Scatter root) ranks) ≡ sum_below ranks (λ r. if r == root then ranks else 0)
scatter_rows ranks root few = stored_only_at_root (Scatter root) ranks root ranks (λ r. root_or_none r root 0 (λ k. nat_lt k ranks) (λ k. k) ranks (sum_first (2 ^ 32) ranks (omega (arith, few))))

pub stored_bcast : (ranks root : ℕ) → root < ranks → stored ranks (initial (Bcast root) ranks) ≡ 1
stored_bcast ranks root l = bcast_rows ranks root ∙ sum_of_value_at_one_number ranks root 1 l

pub stored_bcast_none : (ranks root : ℕ) → ranks ≤ root → stored ranks (initial (Bcast root) ranks) ≡ 0
stored_bcast_none ranks root l = bcast_rows ranks root ∙ sum_of_value_past_end ranks root 1 l

pub stored_scatter : (ranks root : ℕ) → ranks ≤ rank_limit → root < ranks → stored ranks (initial (Scatter root) ranks) ≡ ranks
stored_scatter ranks root few l = scatter_rows ranks root few ∙ sum_of_value_at_one_number ranks root ranks l

pub stored_scatter_none : (ranks root : ℕ) → ranks ≤ rank_limit → ranks ≤ root → stored ranks (initial (Scatter root) ranks) ≡ 0
stored_scatter_none ranks root few l = scatter_rows ranks root few ∙ sum_of_value_past_end ranks root ranks l

-- the size of a collective that is known to be `other`
pub size_of : (what other : Collective) (ranks x : ℕ) → what ≡ other → stored ranks (initial other ranks) ≡ x → x ≡ stored ranks (initial what ranks)
size_of what other ranks x is e = sym e ∙ ap (λ (w : Collective). stored ranks (initial w ranks)) (sym is)
