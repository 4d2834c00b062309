-- The operations of all ranks are those of one rank after the other.
use Rattle.std.proofs.Common.{◌≡◌, ℕ, zero, suc, ◌+◌, ◌<◌, ◌≤◌, List, [], ◌∷◌, ◌++◌, length, get_or, take, refl, sym, ap, ◌∙◌, arith, add-zero, zero-add}
use Rattle.std.proofs.lemmas.List.{length-append, get_or_append_left, get_or-append-add, take_all}
use Rattle.goal_graph.specs.declared.action.OpId.{OpId}
use Rattle.goal_graph.specs.declared.plan.Op.{Op}
use Rattle.goal_graph.specs.Schedule.{Plan, ops_at, places_of_rank, places_from, operations}
use Rattle.goal_graph.proofs.ForCallers.{length-places_of_rank}
use Rattle.sim_timeline.specs.Pages.{before_rank}

place_in : (rank first : ℕ) (ops : List Op) (op : ℕ) (x : OpId) → op < length ops → get_or (places_of_rank rank first ops) op x ≡ record { rank = rank; op = first + op }
unfolding places_of_rank
place_in rank first [] op x inside = absurd (omega arith)
place_in rank first (o ∷ os) zero x inside = ap (λ n. record { rank = rank; op = n }) (sym (add-zero first))
place_in rank first (o ∷ os) (suc op) x inside =
    let e : first + 1 + op ≡ first + suc op = omega arith in
    place_in rank (first + 1) os op x (omega arith) ∙ ap (λ n. record { rank = rank; op = n }) e

place_from : (first : ℕ) (plans : List Plan) (rank op : ℕ) (x : OpId) → op < length (ops_at plans rank) → get_or (places_from first plans) (length (places_from first (take rank plans)) + op) x ≡ record { rank = first + rank; op = op }
unfolding places_from ops_at
place_from first [] rank op x inside = absurd (omega (arith, inside))
place_from first (p ∷ plans) zero op x inside =
    let size = length-places_of_rank first 0 p.ops in
    rw (zero-add op)
    (get_or_append_left (places_of_rank first 0 p.ops) (places_from (first + 1) plans) x op (omega (arith, inside, size))
    ∙ place_in first 0 p.ops op x inside
    ∙ rw (zero-add op, add-zero first) refl)
place_from first (p ∷ plans) (suc rank) op x inside =
    let own = places_of_rank first 0 p.ops in
    let before = places_from (first + 1) (take rank plans) in
    let e : length (own ++ before) + op ≡ length own + (length before + op) = omega (arith, length-append own before) in
    let shifted : first + 1 + rank ≡ first + suc rank = omega arith in
    rw e
    (get_or-append-add own (places_from (first + 1) plans) (length before + op) x
    ∙ place_from (first + 1) plans rank op x inside
    ∙ ap (λ n. record { rank = n; op = op }) shifted)

place_count_grows_by_ops_of_rank : (first : ℕ) (plans : List Plan) (rank : ℕ) → length (places_from first (take (suc rank) plans)) ≡ length (places_from first (take rank plans)) + length (ops_at plans rank)
unfolding places_from ops_at
place_count_grows_by_ops_of_rank first [] zero = refl
place_count_grows_by_ops_of_rank first [] (suc rank) = refl
place_count_grows_by_ops_of_rank first (p ∷ plans) zero =
    omega (arith, length-append (places_of_rank first 0 p.ops) [], length-places_of_rank first 0 p.ops)
place_count_grows_by_ops_of_rank first (p ∷ plans) (suc rank) =
    let own = places_of_rank first 0 p.ops in
    omega (arith, length-append own (places_from (first + 1) (take (suc rank) plans)), length-append own (places_from (first + 1) (take rank plans)), place_count_grows_by_ops_of_rank (first + 1) plans rank)

first_places_are_no_more_than_all : (first : ℕ) (plans : List Plan) (rank : ℕ) → length (places_from first (take rank plans)) ≤ length (places_from first plans)
unfolding places_from
first_places_are_no_more_than_all first [] zero = omega arith
first_places_are_no_more_than_all first [] (suc rank) = omega arith
first_places_are_no_more_than_all first (p ∷ plans) zero = omega arith
first_places_are_no_more_than_all first (p ∷ plans) (suc rank) =
    let own = places_of_rank first 0 p.ops in
    omega (arith, length-append own (places_from (first + 1) (take rank plans)), length-append own (places_from (first + 1) plans), first_places_are_no_more_than_all (first + 1) plans rank)

module _ (plans : List Plan) where
  pub before_next_rank : (rank : ℕ) → before_rank plans (rank + 1) ≡ before_rank plans rank + length (ops_at plans rank)
  before_next_rank rank =
      let next : rank + 1 ≡ suc rank = omega arith in
      ap (before_rank plans) next ∙ place_count_grows_by_ops_of_rank 0 plans rank

  pub before_all_ranks : before_rank plans (length plans) ≡ length (operations plans)
  before_all_ranks = ap (λ (ps : List Plan). length (operations ps)) (take_all (length plans) plans (omega arith))

  -- the index of an operation among all
  pub at_place : (rank op : ℕ) (x : OpId) → op < length (ops_at plans rank) → get_or (operations plans) (before_rank plans rank + op) x ≡ record { rank = rank; op = op }
  at_place rank op x inside = place_from 0 plans rank op x inside ∙ ap (λ n. record { rank = n; op = op }) (zero-add rank)

  pub place_within : (rank op : ℕ) → op < length (ops_at plans rank) → before_rank plans rank + op < length (operations plans)
  place_within rank op inside = omega (arith, inside, before_next_rank rank, first_places_are_no_more_than_all 0 plans (rank + 1))
