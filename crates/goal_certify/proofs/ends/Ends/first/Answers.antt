-- What stands at the end begins where the entries under it end.
use Rattle.std.proofs.Common.{rules, List, Contains, subst}
use Rattle.std.proofs.lemmas.Option.{MatchOption-at_none}
use Rattle.std.proofs.lemmas.List.Sorted.{IsPartitionPoint-from_clause}
use Rattle.goal_graph.specs.declared.action.OpId.{OpId}
use Rattle.goal_certify.specs.declared.ends.OpAtEnd.{OpAtEnd}
use Rattle.goal_certify.specs.Ends.{IsFirstAt}
use Rattle.goal_certify.proofs.EndSearch.{is_under, partitioned_by_end, first_there, none_past, none_other, same_end_true, same_end_false}
use Rattle.goal_certify.proofs.ends.Ends.first.Goals as goal

pub returns-in-Some-clause-found : goal.returns-in-Some-clause-found
returns-in-Some-clause-found c =
    let xs = c.self.inside.sorted.items in
    let clause = rw c.deref.ensures.value at c.partition_point-start.ensures.partitioned in
    let point = IsPartitionPoint-from_clause (is_under c.args.end) xs c.partition_point-start.result clause (partitioned_by_end xs c.self.invariant c.args.end) (λ a r q k. search rules) in
    let there = rw c.deref-2.ensures.value at c.in-Some.ensures.lookup in
    subst (λ (ys : List OpAtEnd). IsFirstAt ys c.args.end c.in-Some.entry.now.op) c.self.view_is (first_there xs c.self.invariant c.args.end c.partition_point-start.result point c.in-Some.entry.now there.3.0 there.1 (same_end_true _ _ c.if-eq.ensures))

pub returns-in_default-clause-none : goal.returns-in_default-clause-none
returns-in_default-clause-none c =
    let xs = c.self.inside.sorted.items in
    let clause = rw c.deref.ensures.value at c.partition_point-start.ensures.partitioned in
    let point = IsPartitionPoint-from_clause (is_under c.args.end) xs c.partition_point-start.result clause (partitioned_by_end xs c.self.invariant c.args.end) (λ a r q k. search rules) in
    let there = rw c.deref-2.ensures.value at c.in-Some.ensures.lookup in
    subst (λ (ys : List OpAtEnd). (x : OpId) → Contains ys (record { end = c.args.end; op = x }) → ⊥) c.self.view_is (none_other xs c.self.invariant c.args.end c.partition_point-start.result point c.in-Some.entry.now there.3.0 there.1 (same_end_false _ _ c.if-eq.ensures))

pub returns-in_default-2-clause-none : goal.returns-in_default-2-clause-none
returns-in_default-2-clause-none c =
    let xs = c.self.inside.sorted.items in
    let clause = rw c.deref.ensures.value at c.partition_point-start.ensures.partitioned in
    let point = IsPartitionPoint-from_clause (is_under c.args.end) xs c.partition_point-start.result clause (partitioned_by_end xs c.self.invariant c.args.end) (λ a r q k. search rules) in
    let past = MatchOption-at_none _ _ c.in_default.is c.get.ensures.lookup.3 in
    subst (λ (ys : List OpAtEnd). (x : OpId) → Contains ys (record { end = c.args.end; op = x }) → ⊥) c.self.view_is (none_past xs c.self.invariant c.args.end c.partition_point-start.result point (rw c.deref-2.ensures.value at past))
