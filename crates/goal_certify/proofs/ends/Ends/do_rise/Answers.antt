use Rattle.std.proofs.Common.{sym, ap, ◌∙◌}
use Rattle.std.specs.Ordering.{is_lt}
use Rattle.goal_certify.proofs.EndSearch.{ends_rise_up_to_next_place}
use Rattle.goal_certify.proofs.ends.Ends.do_rise.Goals as goal

pub loop-place-preserved : goal.loop-place-preserved
loop-place-preserved c =
    ends_rise_up_to_next_place c.args.self.now c.as_slice-entries.result.now c.loop-place.place _ (c.as_slice-entries.ensures.value ∙ c.self.view_is) c.loop-place.auto.place c.loop-place-test.true (sym (ap is_lt c.cmp.ensures) ∙ sym c.is_lt-rises.ensures ∙ c.if-not-rises.false) c.loop-place.invariant
