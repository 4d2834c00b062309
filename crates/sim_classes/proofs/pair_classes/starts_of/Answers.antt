use Rattle.std.proofs.Common.{ℕ, ◌≡◌, ◌+◌, ◌∷◌, [], nat_lt, Some, length, slice_get, rules, length-append, subst, sym, ap, ◌∙◌}
use Rattle.std.proofs.lemmas.Option.{none-some}
use Rattle.std.proofs.lemmas.List.Sorted.{IsPartitionPoint-from_clause, IsPartitionedBy-ltb}
use Rattle.sim_classes.specs.Rows.{node_of, AreStarts, IsStart}
use Rattle.sim_classes.proofs.RowLemmas.{row_starts_with_next_start, start_at, nodes_rise}
use Rattle.sim_classes.proofs.pair_classes.starts_of.Goals as goal

pub loop-node-init : goal.loop-node-init
loop-node-init c = (
  λ node start e. absurd (none-some start (subst (λ xs. slice_get xs node ≡ Some start) c.new-starts.ensures.items e)),
  ap length c.new-starts.ensures.items,
)

pub loop-node-preserved : goal.loop-node-preserved
loop-node-preserved c =
    let node = c.loop-node.node-counter in
    let es = c.args.entries.now in
    let point = IsPartitionPoint-from_clause (λ (e : ℕ × ℕ). nat_lt (node_of e.0) node) es c.partition_point.result c.partition_point.ensures.partitioned (IsPartitionedBy-ltb (λ (e : ℕ × ℕ). node_of e.0) es node (nodes_rise es c.requires node)) (λ a r q k. search rules) in
    let new = start_at es node c.partition_point.result c.partition_point.ensures.bound point in
    let more = row_starts_with_next_start es c.loop-node.starts.items c.partition_point.result c.loop-node.invariant.0 (subst (λ (n : ℕ). IsStart es n c.partition_point.result) (sym c.loop-node.invariant.1) new) in
    (subst (AreStarts es) (sym c.in_ok-push.ensures.items) more, ap length c.in_ok-push.ensures.items ∙ length-append c.loop-node.starts.items (c.partition_point.result ∷ []) ∙ ap (λ (n : ℕ). n + 1) c.loop-node.invariant.1)
