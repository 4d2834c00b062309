-- How many needs an operation may have.
use Rattle.std.proofs.Common.{◌≡◌, ◌==◌, ◌≤◌, List, [], length, map, filter, slice_get, unwrap_or, Option, Some, None, refl, ap, arith}
use Rattle.std.specs.Option.{option_map}
use Rattle.std.proofs.lemmas.List.Sums.{length-filter, count_by-le-length}
use Rattle.std.proofs.lemmas.List.{length-map}
use Rattle.std.proofs.lemmas.Option.{slice_get_within, get_or_from_slice_get}
use Rattle.goal_limits.specs.declared.limits.TheConstants.{MAX_DEPS}
use Rattle.goal_graph.specs.declared.action.OpId.{OpId}
use Rattle.goal_graph.specs.declared.plan.Dep.{Dep}
use Rattle.goal_graph.specs.Limits.{AreCountsWithin}
use Rattle.goal_graph.specs.Schedule.{Plan, deps_at, earlier_of, needs}
use Rattle.goal_graph.proofs.Places.{lengths-le}

-- an operation has at most `MAX_DEPS` needs
pub few_needs : (plans : List Plan) (x : OpId) → AreCountsWithin plans → length (needs plans x) ≤ MAX_DEPS
unfolding needs deps_at
few_needs plans x counts = go (slice_get plans x.rank) refl
  where
    of : Option Plan → List Dep
    of p = unwrap_or (option_map (λ (q : Plan). q.deps) p) []

    go : (p : Option Plan) → slice_get plans x.rank ≡ p → length (map earlier_of (filter (λ (d : Dep). d.later == x.op) (of p))) ≤ MAX_DEPS
    go None at = omega arith
    go (Some p) at =
        let all = lengths-le plans x.rank p (slice_get_within plans x.rank p at) in
        omega (arith, all.deps, counts.deps, ap (λ (q : Plan). length q.deps) (get_or_from_slice_get plans x.rank p p at), length-map (filter (λ (d : Dep). d.later == x.op) p.deps) earlier_of, length-filter (λ (d : Dep). d.later == x.op) p.deps, count_by-le-length (λ (d : Dep). d.later == x.op) p.deps)
