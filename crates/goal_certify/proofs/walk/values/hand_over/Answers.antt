use Rattle.std.proofs.Common.{◌^◌, ◌≤◌, arith}
use Rattle.goal_limits.specs.Limits.{weight_limit}
use Rattle.goal_blocks.specs.SlotRanges.{slots_in}
use Rattle.goal_values.specs.Kept.{values}
use Rattle.goal_values.specs.Summed.{payload_values}
use Rattle.goal_blocks.specs.Weight.{stored}
use Rattle.goal_certify.proofs.Places.{rank_below}
use Rattle.goal_certify.proofs.SlotFacts.{read_light}
use Rattle.goal_certify.proofs.walk.values.hand_over.Goals as goal

pub read-requires : goal.read-requires
read-requires c =
    omega (arith, rank_below c.args.table.now c.args.send c.requires.exists, c.requires.ranks)

pub payload_size-size-requires-clause-fits : goal.payload_size-size-requires-clause-fits
payload_size-size-requires-clause-fits c =
    let light : stored c.args.store.now.kept.ranks (values c.args.store.now.kept) ≤ weight_limit = omega (arith, c.requires.light) in
    let few = read_light c.args.table.now c.requires.small c.args.send c.requires.exists c.args.store.now.kept.ranks (values c.args.store.now.kept) c.requires.ranks light (slots_in c.slots_of-slots.result.now) (payload_values c.args.store.now.sums c.in-Ok.payload) c.slots_of-slots.ensures c.in-Ok.ensures.values in
    omega (arith, few)

pub overflow_add-total-2 : goal.overflow_add-total-2
overflow_add-total-2 c =
    let light : stored c.args.store.now.kept.ranks (values c.args.store.now.kept) ≤ weight_limit = omega (arith, c.requires.light) in
    let few = read_light c.args.table.now c.requires.small c.args.send c.requires.exists c.args.store.now.kept.ranks (values c.args.store.now.kept) c.requires.ranks light (slots_in c.slots_of-slots.result.now) (payload_values c.args.store.now.sums c.in-Ok.payload) c.slots_of-slots.ensures c.in-Ok.ensures.values in
    omega (arith, few, c.payload_size-size.ensures, c.held.ensures, c.requires.light)
