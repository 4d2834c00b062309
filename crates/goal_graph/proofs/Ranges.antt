-- The entries of rows are operations of their rank.
use Rattle.std.proofs.Common.{◌≡◌, ℕ, ◌<◌, ◌≤◌, eqb, ltb, Bool, true, false, cond, List, [], ◌∷◌, length, get_or, map, filter, None, refl, ap, arith}
use Rattle.std.specs.List.{list_all}
use Rattle.std.proofs.lemmas.List.Sums.{list_all-from_AllPass, AllPass-from_list_all, get_or-le-sum_by, length-filter, count_by-le-length}
use Rattle.std.proofs.lemmas.List.{length-map}
use Rattle.goal_graph.specs.declared.action.OpId.{OpId}
use Rattle.goal_graph.specs.declared.plan.Dep.{Dep}
use Rattle.goal_graph.specs.declared.plan.Need.{Need}
use Rattle.goal_graph.specs.declared.rows.Listing.{Listing}
use Rattle.goal_graph.specs.declared.rows.Listing.TheVariants.{Needs, WaitingOn}
use Rattle.goal_graph.specs.Schedule.{Plan, needs, deps_at}
use Rattle.goal_graph.specs.Concerned.{waiting_on}
use Rattle.goal_graph.specs.Fault.{dep_in_range, dep_count, plain_fault}
use Rattle.goal_graph.specs.Rows.{owner, entry, row}
use Rattle.goal_graph.proofs.Numbers.{and_left, and_right}
use Rattle.goal_graph.proofs.Plain.{plain-dep}
use Rattle.goal_graph.proofs.Places.{no_plan, row-needs, row-waiting_on, deps_at-rank}
use Rattle.std.proofs.lemmas.Bool.{ltb-true}

entry-in_range : (ops : ℕ) (listing : Listing) (d : Dep) → dep_in_range ops d ≡ true → ltb (entry listing d).op ops ≡ true
entry-in_range ops Needs d h = and_right (ltb d.later ops) (ltb d.earlier ops) h
entry-in_range ops WaitingOn d h = and_left (ltb d.later ops) (ltb d.earlier ops) h

pub row-in_range : (ops : ℕ) (listing : Listing) (deps : List Dep) (op : ℕ) → list_all (dep_in_range ops) deps ≡ true → list_all (λ (w : Need). ltb w.op ops) (row listing deps op) ≡ true
unfolding row
row-in_range ops listing [] op h = refl
row-in_range ops listing (d ∷ deps) op h =
    go (eqb (owner listing d) op) (filter (λ (d : Dep). eqb (owner listing d) op) deps) (row-in_range ops listing deps op (and_right (dep_in_range ops d) (list_all (dep_in_range ops) deps) h))
  where
    go : (b : Bool) (ds : List Dep) → list_all (λ (w : Need). ltb w.op ops) (map (entry listing) ds) ≡ true → list_all (λ (w : Need). ltb w.op ops) (map (entry listing) (cond b (d ∷ ds) ds)) ≡ true
    go true ds rest = rw (entry-in_range ops listing d (and_left (dep_in_range ops d) (list_all (dep_in_range ops) deps) h)) rest
    go false ds rest = rest

-- a row is at most as long as the list of dependencies
pub length-row-le : (listing : Listing) (deps : List Dep) (op : ℕ) → length (row listing deps op) ≤ length deps
unfolding row
length-row-le listing deps op =
    let test = λ (d : Dep). eqb (owner listing d) op in
    omega (arith, length-map (filter test deps) (entry listing), length-filter test deps, count_by-le-length test deps)

module _ (plans : List Plan) (plain : plain_fault plans ≡ None) (rank : ℕ) (inside : rank < length plans) where
  -- the rows of a rank
  pub plain-row : (listing : Listing) (op : ℕ) → list_all (λ (w : Need). ltb w.op (length (get_or plans rank no_plan).ops)) (row listing (deps_at plans rank) op) ≡ true
  plain-row listing op =
      let p = get_or plans rank no_plan in
      rw (deps_at-rank plans rank no_plan inside)
      (row-in_range (length p.ops) listing p.deps op (list_all-from_AllPass (dep_in_range (length p.ops)) p.deps (plain-dep plans plain rank no_plan inside)))

  pub needs-in_range : (op : ℕ) → list_all (λ (w : Need). ltb w.op (length (get_or plans rank no_plan).ops)) (needs plans (record { rank = rank; op = op })) ≡ true
  needs-in_range op = rw (← row-needs plans (record { rank = rank; op = op })) (plain-row Needs op)

  pub waiting_on-in_range : (op k : ℕ) (w : Need) → k < length (waiting_on plans (record { rank = rank; op = op })) → (get_or (waiting_on plans (record { rank = rank; op = op })) k w).op < length (get_or plans rank no_plan).ops
  waiting_on-in_range op k w below =
      let x : OpId = record { rank = rank; op = op } in
      let each = rw (row-waiting_on plans x) at (plain-row WaitingOn op) in
      ltb-true _ _ (AllPass-from_list_all (λ (w : Need). ltb w.op (length (get_or plans rank no_plan).ops)) (waiting_on plans x) each k w below)

  -- an operation has at most as many needs as its rank has dependencies
  pub length-needs-le : (op : ℕ) → length (needs plans (record { rank = rank; op = op })) ≤ dep_count plans
  unfolding dep_count
  length-needs-le op =
      let x : OpId = record { rank = rank; op = op } in
      let few = rw (row-needs plans x) at (length-row-le Needs (deps_at plans rank) op) in
      let total = get_or-le-sum_by (λ (p : Plan). length p.deps) plans rank no_plan inside in
      let deps = ap (λ (ds : List Dep). length ds) (deps_at-rank plans rank no_plan inside) in
      omega (arith, few, total, deps)
