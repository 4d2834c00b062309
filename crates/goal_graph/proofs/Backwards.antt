-- Operations of a rank that need only lesser numbers, or only greater ones, have depths.
use Rattle.std.proofs.Common.{◌≡◌, ℕ, zero, suc, ◌+◌, ◌<◌, ◌≤◌, eqb, Bool, true, false, List, [], ◌∷◌, All, length, get_or, map, filter, None, refl, arith}
use Rattle.std.specs.Prelude.{if◌then◌else◌}
use Rattle.std.specs.List.{list_all}
use Rattle.std.proofs.lemmas.Bool.{eqb-true}
use Rattle.goal_graph.specs.declared.plan.Dep.{Dep}
use Rattle.goal_graph.specs.declared.plan.Need.{Need}
use Rattle.goal_graph.specs.declared.rows.Listing.TheVariants.{WaitingOn}
use Rattle.goal_graph.specs.Schedule.{Plan, earlier_of, needs, deps_at}
use Rattle.goal_graph.specs.Fault.{is_below, plain_fault}
use Rattle.goal_graph.specs.Search.{op_id, IsFirstInRank}
use Rattle.goal_graph.proofs.Plain.{plain-owner}
use Rattle.goal_graph.proofs.Places.{no_plan, deps_at-rank, IsOp-located}

-- what an operation needs passes a test that each of its dependencies passes
needs_pass : (test : ℕ → Bool) (deps : List Dep) (op : ℕ) → ((k : ℕ) (d : Dep) → k < length deps → (get_or deps k d).later ≡ op → test (get_or deps k d).earlier ≡ true) → list_all (λ (d : Need). test d.op) (map earlier_of (filter (λ (d : Dep). eqb d.later op) deps)) ≡ true
needs_pass test [] op each = refl
needs_pass test (d ∷ deps) op each = go (eqb d.later op) refl (needs_pass test deps op (λ k e inside. each (suc k) e (omega arith)))
  where
    go : (b : Bool) → eqb d.later op ≡ b → list_all (λ (d : Need). test d.op) (map earlier_of (filter (λ (d : Dep). eqb d.later op) deps)) ≡ true → list_all (λ (d : Need). test d.op) (map earlier_of (if b then d ∷ filter (λ (d : Dep). eqb d.later op) deps else filter (λ (d : Dep). eqb d.later op) deps)) ≡ true
    go true here rest = rw (each 0 d (omega arith) (eqb-true _ _ here)) rest
    go false other rest = rest

module _ (plans : List Plan) (rank : ℕ) where
  module _ (back : All (λ (d : Dep). d.earlier < d.later) (deps_at plans rank)) where
    depth_within_number : (n op : ℕ) → op < n → is_below plans n (op_id rank op) ≡ true
    unfolding is_below needs
    depth_within_number zero op below = absurd (omega arith)
    depth_within_number (suc n) op below =
        needs_pass (λ k. is_below plans n (op_id rank k)) (deps_at plans rank) op (λ k d inside same. depth_within_number n _ (omega (arith, same, back k d inside)))

    pub no_cycle_of_lesser_needs : IsFirstInRank plans rank None
    no_cycle_of_lesser_needs = λ op is_op. record { bound = suc op; below = depth_within_number (suc op) op (omega arith) }

  module _ (ops : ℕ) (ahead : All (λ (d : Dep). d.later < d.earlier) (deps_at plans rank)) (in_rank : All (λ (d : Dep). d.earlier < ops) (deps_at plans rank)) where
    depth_within_rest : (n op : ℕ) → op < ops → ops ≤ op + n → is_below plans n (op_id rank op) ≡ true
    unfolding is_below needs
    depth_within_rest zero op inside few = absurd (omega arith)
    depth_within_rest (suc n) op inside few =
        needs_pass (λ k. is_below plans n (op_id rank k)) (deps_at plans rank) op (λ k d within same. depth_within_rest n _ (in_rank k d within) (omega (arith, same, ahead k d within)))

  pub no_cycle_of_greater_needs : plain_fault plans ≡ None → rank < length plans → All (λ (d : Dep). d.later < d.earlier) (deps_at plans rank) → IsFirstInRank plans rank None
  no_cycle_of_greater_needs plain rank_in ahead = λ op is_op.
      let ops = length (get_or plans rank no_plan).ops in
      let in_rank : All (λ (d : Dep). d.earlier < ops) (deps_at plans rank) =
      rw (deps_at-rank plans rank no_plan rank_in) (λ k d within. plain-owner plans plain WaitingOn rank no_plan rank_in k d within) in
      record { bound = ops; below = depth_within_rest ops ahead in_rank ops op ((IsOp-located plans (op_id rank op) is_op).op_in no_plan) (omega arith) }
