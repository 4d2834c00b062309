use Rattle.std.proofs.Common.{◌<◌, ℕ, List, length, get_or, sym, ap, ◌∙◌, subst, arith}
use Rattle.sim_queue.specs.Map.{no_keys}
use Rattle.goal_graph.specs.declared.action.Timed.{Timed}
use Rattle.sim_queue.specs.Groups.{Grouped}
use Rattle.sim_stations.proofs.Sides.{sides_length}
use Rattle.sim_stations.proofs.RowsNew.{sides_within, new_inside, new_heads, new_rowed}
use Rattle.sim_stations.proofs.rows.Rows.new.Goals as goal

abbrev rows_of : List ℕ → Grouped Timed
rows_of numbers = record { keys = no_keys (length numbers); groups = numbers }

pub new-requires-clause-within : goal.new-requires-clause-within
new-requires-clause-within c =
    subst (λ xs. (k d : ℕ) → k < length xs → get_or xs k d < c.args.resources) (sym (c.deref.ensures.value ∙ c.in_ok-numbers.ensures)) (sides_within c.args.pairs.now c.args.resources c.requires.exist)

pub new-requires-clause-few : goal.new-requires-clause-few
new-requires-clause-few c =
    omega (arith, ap length (c.deref.ensures.value ∙ c.in_ok-numbers.ensures), sides_length c.args.pairs.now, c.requires.few)

pub invariant_of-result : goal.invariant_of-result
invariant_of-result c =
    let rows = c.in_ok-new.ensures ∙ ap rows_of (c.deref.ensures.value ∙ c.in_ok-numbers.ensures) in
    let turned = c.in_ok-vec.ensures.items_if_clones_equal (λ y h. h) in
    let free = c.new-3.ensures in
    (new_inside c.args.pairs.now c.args.resources c.requires.exist (omega (arith, c.requires.few)) (omega arith) c.in_ok-new.field-0 c.in_ok-new-2.field-0 c.in_ok-from_slice.field-0.items c.in_ok-vec.field-0.items c.new-3.result.times rows c.in_ok-new-2.ensures c.in_ok-from_slice.ensures.items turned free, new_heads c.args.pairs.now c.args.resources c.requires.exist (omega (arith, c.requires.few)) (omega arith) c.in_ok-new.field-0 c.in_ok-new-2.field-0 c.in_ok-from_slice.field-0.items c.in_ok-vec.field-0.items c.new-3.result.times rows c.in_ok-new-2.ensures c.in_ok-from_slice.ensures.items turned free)

pub returns : goal.returns
returns c =
    let rows = c.in_ok-new.ensures ∙ ap rows_of (c.deref.ensures.value ∙ c.in_ok-numbers.ensures) in
    let turned = c.in_ok-vec.ensures.items_if_clones_equal (λ y h. h) in
    let free = c.new-3.ensures in
    new_rowed c.args.pairs.now c.args.resources c.requires.exist (omega (arith, c.requires.few)) (omega arith) c.in_ok-new.field-0 c.in_ok-new-2.field-0 c.in_ok-from_slice.field-0.items c.in_ok-vec.field-0.items c.new-3.result.times rows c.in_ok-new-2.ensures c.in_ok-from_slice.ensures.items turned free
