-- Properties of plans without a fault other than perhaps a cycle.
use Rattle.std.proofs.Common.{◌≡◌, ℕ, zero, suc, ◌+◌, ◌<◌, ◌≤◌, eqb, ltb, Bool, true, false, List, [], ◌∷◌, length, get_or, Option, Some, None, refl, ap, arith, All, add-zero, zero-add}
use Rattle.std.specs.Prelude.{if◌then◌else◌}
use Rattle.std.specs.Option.{option_or}
use Rattle.std.proofs.lemmas.Bool.Decides.{nat_tests}
use Rattle.goal_graph.proofs.Numbers.{and_left, and_right}
use Rattle.goal_graph.specs.declared.fault.PlanFault.{PlanFault}
use Rattle.goal_graph.specs.declared.fault.PlanFault.TheVariants.{Count}
use Rattle.goal_limits.specs.declared.limits.TheConstants.{MAX_RANKS, MAX_OPS, MAX_DEPS, MAX_NOTES}
use Rattle.goal_graph.specs.declared.plan.Op.{Op}
use Rattle.goal_graph.specs.declared.plan.Dep.{Dep}
use Rattle.goal_graph.specs.declared.rows.Listing.{Listing}
use Rattle.goal_graph.specs.declared.rows.Listing.TheVariants.{Needs, WaitingOn}
use Rattle.goal_graph.specs.Schedule.{Plan}
use Rattle.goal_graph.specs.Rows.{owner}
use Rattle.goal_graph.specs.Fault.{op_count, dep_count, note_count, count_over, count_fault, op_fault, dep_fault, value_fits, has_peer, dep_in_range, first_fault, rank_fault, plain_fault}
use Rattle.goal_graph.specs.Limits.{AreCountsWithin}

-- neither of two faults exists
pub option_or-none : {T : Type 0} (a b : Option T) → option_or a b ≡ None → (a ≡ None) × (b ≡ None)
option_or-none None b h = (refl, h)
option_or-none (Some x) b h = absurd (cc)

option_or_assoc : {T : Type 0} (a b c : Option T) → option_or (option_or a b) c ≡ option_or a (option_or b c)
option_or_assoc None b c = refl
option_or_assoc (Some x) b c = refl

-- no item has a fault
pub first_fault-none : {A : Type 0} (fault : ℕ → A → Option PlanFault) (n : ℕ) (xs : List A) → first_fault fault n xs ≡ None → (k : ℕ) (d : A) → k < length xs → fault (n + k) (get_or xs k d) ≡ None
unfolding first_fault
first_fault-none fault n [] h k d inside = absurd (omega arith)
first_fault-none fault n (x ∷ xs) h zero d inside = rw add-zero (option_or-none _ _ h).0
first_fault-none fault n (x ∷ xs) h (suc k) d inside =
    let e : n + 1 + k ≡ n + suc k = omega arith in
    rw (← e) (first_fault-none fault (n + 1) xs (option_or-none _ _ h).1 k d (omega arith))

pub count_over-none : (limit found : ℕ) → count_over limit found ≡ None → found ≤ limit
count_over-none limit found h = grind (arith, nat_tests)

pub count_fault-none : (plans : List Plan) → count_fault plans ≡ None → AreCountsWithin plans
unfolding count_fault
count_fault-none plans h =
    let a = option_or-none _ _ h in
    let b = option_or-none _ _ a.1 in
    let c = option_or-none _ _ b.1 in
    record {
      some_rank = ranks_some (length plans) a.0;
      ranks = ranks_over (length plans) a.0;
      ops = count_over-none _ _ b.0;
      deps = count_over-none _ _ c.0;
      notes = count_over-none _ _ c.1;
    }
  where
    ranks_some : (n : ℕ) → (if eqb n 0 then Some (Count 0 MAX_RANKS) else count_over MAX_RANKS n) ≡ None → 0 < n
    ranks_some n h = grind (arith, nat_tests)

    ranks_over : (n : ℕ) → (if eqb n 0 then Some (Count 0 MAX_RANKS) else count_over MAX_RANKS n) ≡ None → n ≤ MAX_RANKS
    ranks_over n h = grind (arith, nat_tests)

-- a test that would have given a fault has passed
pub no_fault_test_passed : (b : Bool) (fault : PlanFault) → (if b then None else Some fault) ≡ None → b ≡ true
no_fault_test_passed true fault h = refl
no_fault_test_passed false fault h = absurd (cc)

no_fault_tests_passed : (a b : Bool) (first second : PlanFault) → (if a then (if b then None else Some second) else Some first) ≡ None → (a ≡ true) × (b ≡ true)
no_fault_tests_passed true b first second h = (refl, no_fault_test_passed b second h)
no_fault_tests_passed false b first second h = absurd (cc)

-- both operations of a dependency are operations of the rank
pub dep_in_range-parts : (ops : ℕ) (d : Dep) → dep_in_range ops d ≡ true → (d.later < ops) × (d.earlier < ops)
dep_in_range-parts ops d h =
    let l : ltb d.later ops ≡ true = and_left (ltb d.later ops) (ltb d.earlier ops) h in
    let e : ltb d.earlier ops ≡ true = and_right (ltb d.later ops) (ltb d.earlier ops) h in
    (grind (arith, nat_tests), grind (arith, nat_tests))

module _ (plans : List Plan) (plain : plain_fault plans ≡ None) where
  pub plain-counts : AreCountsWithin plans
  unfolding plain_fault
  plain-counts = count_fault-none plans (option_or-none _ _ plain).0

  module _ (rank : ℕ) (p : Plan) (inside : rank < length plans) where
    plain-rank : rank_fault (length plans) rank (get_or plans rank p) ≡ None
    unfolding plain_fault
    plain-rank = rw zero-add at (first_fault-none (rank_fault (length plans)) 0 plans (option_or-none _ _ plain).1 rank p inside)

    -- its operations have values and peers within range
    pub plain-op : (k : ℕ) (d : Op) → k < length (get_or plans rank p).ops → let o = get_or (get_or plans rank p).ops k d in (value_fits o.kind o.nic ≡ true) × (has_peer (length plans) o.kind ≡ true)
    unfolding rank_fault
    plain-op k d below = no_fault_tests_passed _ _ _ _ (first_fault-none (op_fault (length plans) rank) 0 (get_or plans rank p).ops (option_or-none _ _ plain-rank).0 k d below)

    -- its dependencies name operations of the rank
    pub plain-dep : (k : ℕ) (d : Dep) → k < length (get_or plans rank p).deps → dep_in_range (length (get_or plans rank p).ops) (get_or (get_or plans rank p).deps k d) ≡ true
    unfolding rank_fault
    plain-dep k d below = no_fault_test_passed _ _ (first_fault-none (dep_fault (length (get_or plans rank p).ops) rank) 0 (get_or plans rank p).deps (option_or-none _ _ (option_or-none _ _ plain-rank).1).0 k d below)

  -- each dependency is in the row of an operation of its rank
  pub plain-owner : (listing : Listing) → All (λ (p : Plan). All (λ (d : Dep). owner listing d < length p.ops) p.deps) plans
  plain-owner Needs rank p inside k d below = (dep_in_range-parts _ (get_or (get_or plans rank p).deps k d) (plain-dep rank p inside k d below)).0
  plain-owner WaitingOn rank p inside k d below = (dep_in_range-parts _ (get_or (get_or plans rank p).deps k d) (plain-dep rank p inside k d below)).1

-- the parts of the fault of the counts
module _ (plans : List Plan) where
  pub count_fault-empty : true ≡ eqb (length plans) 0 → Some (Count 0 MAX_RANKS) ≡ count_fault plans
  unfolding count_fault
  count_fault-empty none = rw (← none) refl

  module _ (some : false ≡ eqb (length plans) 0) where
    pub count_fault-ranks : (f : PlanFault) → Some f ≡ count_over MAX_RANKS (length plans) → Some f ≡ count_fault plans
    unfolding count_fault
    count_fault-ranks f found = rw (← some) (ap (λ o. option_or o rest) found)
      where
        rest : Option PlanFault
        rest = option_or (count_over MAX_OPS (op_count plans)) (option_or (count_over MAX_DEPS (dep_count plans)) (count_over MAX_NOTES (note_count plans)))

    pub count_fault-rest : None ≡ count_over MAX_RANKS (length plans) → option_or (option_or (count_over MAX_OPS (op_count plans)) (count_over MAX_DEPS (dep_count plans))) (count_over MAX_NOTES (note_count plans)) ≡ count_fault plans
    unfolding count_fault
    count_fault-rest none =
        rw (← some, ← none) (option_or_assoc (count_over MAX_OPS (op_count plans)) (count_over MAX_DEPS (dep_count plans)) (count_over MAX_NOTES (note_count plans)))

-- a plan fault's parts: the counts come first
pub plain_fault-counts : (plans : List Plan) (f : PlanFault) → Some f ≡ count_fault plans → Some f ≡ plain_fault plans
unfolding plain_fault
plain_fault-counts plans f found = rw (← found) refl

pub plain_fault-ranks : (plans : List Plan) → None ≡ count_fault plans → first_fault (rank_fault (length plans)) 0 plans ≡ plain_fault plans
unfolding plain_fault
plain_fault-ranks plans none = rw (← none) refl
