use Rattle.std.proofs.Common.{length, map}
use Rattle.std.proofs.lemmas.List.Elements.{All-same, All-push}
use Rattle.goal_blocks.specs.SlotRanges.{slots_in}
use Rattle.goal_blocks.proofs.ForCallers.{read_values_with_next_slot, read_all}
use Rattle.goal_values.specs.Kept.{values}
use Rattle.goal_values.specs.Sums.{meaning, IsBelow}
use Rattle.goal_values.proofs.values.SlotValues.read.Goals as goal

pub loop-slot-preserved : goal.loop-slot-preserved
loop-slot-preserved c =
    let sums = c.args.self.now.sums in
    record {
      read = read_values_with_next_slot (meaning sums) (values c.args.self.now.kept c.args.rank) _ c.loop-slot.terms.items c.push.new.self.items c.term_at.result c.loop-slot.slots c.next.new.self c.in-Some.slot c.in_ok-push.ensures.items c.term_at.ensures.value c.in-Some.ensures c.loop-slot.invariant.read;
      below = All-same (IsBelow (length sums)) _ _ c.in_ok-push.ensures.items (All-push (IsBelow (length sums)) c.loop-slot.terms.items c.term_at.result c.loop-slot.invariant.below c.term_at.ensures.below);
    }

pub returns : goal.returns
returns c = record {
  values = read_all (meaning c.args.self.now.sums) (values c.args.self.now.kept c.args.rank) (map (values c.args.self.now.kept c.args.rank) (slots_in c.args.ranges.now)) c.loop-slot.terms.items c.loop-slot.slots c.in_default.ensures.0 c.loop-slot.invariant.read;
  payload = c.loop-slot.invariant.below;
}
