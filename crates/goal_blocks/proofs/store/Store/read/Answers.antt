use Rattle.std.proofs.Common.{map}
use Rattle.std.proofs.lemmas.List.Elements.{All-same}
use Rattle.goal_blocks.specs.Stored.{IsSorted, values}
use Rattle.goal_blocks.proofs.StoreFacts.{sorted_there, all_sorted}
use Rattle.goal_blocks.proofs.Writes.{read_values_with_next_slot, read_all}
use Rattle.goal_blocks.proofs.store.Store.read.Goals as goal

pub loop-slot-preserved : goal.loop-slot-preserved
loop-slot-preserved c =
    read_values_with_next_slot (λ v. v.items) (values c.args.self.now c.args.rank) _ c.loop-slot.copies.items c.push.new.self.items c.in_ok-copy_at.field-0 c.loop-slot.left c.next.new.self c.in-Some.slot c.in_ok-push.ensures.items c.in_ok-copy_at.ensures.copy c.in-Some.ensures c.loop-slot.invariant

pub invariant_of-result : goal.invariant_of-result
invariant_of-result c =
    let all = read_all (λ v. v.items) (values c.args.self.now c.args.rank) (map (values c.args.self.now c.args.rank) c.args.slots.now) c.loop-slot.copies.items c.loop-slot.left c.in_default.ensures.0 c.loop-slot.invariant in
    All-same IsSorted _ _ all (all_sorted (values c.args.self.now c.args.rank) (λ k. sorted_there c.self.inside.what c.self.inside.ranks c.self.inside.written c.args.self.now c.self.view_is c.args.rank k c.self.inside.held c.self.invariant) _)

pub returns : goal.returns
returns c =
    read_all (λ v. v.items) (values c.args.self.now c.args.rank) (map (values c.args.self.now c.args.rank) c.args.slots.now) c.loop-slot.copies.items c.loop-slot.left c.in_default.ensures.0 c.loop-slot.invariant
