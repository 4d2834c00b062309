use Rattle.std.proofs.Common.{List, length, map, ap, ◌∙◌, arith}
use Rattle.std.specs.List.{sum_by}
use Rattle.goal_values.specs.declared.sums.Term.{Term}
use Rattle.goal_values.specs.Sums.{meaning}
use Rattle.goal_values.proofs.Writing.{size_with_next_term, size_within, size_of_all_terms}
use Rattle.goal_values.proofs.values.SlotValues.payload_size.Goals as goal

pub overflow_add-size : goal.overflow_add-size
overflow_add-size c =
    let within = size_within _ c.args.self.now c.self.view_is c.deref-term-items.result.now c.loop-term.term-index _ c.loop-term.size c.size-size.result c.loop-term-test.true c.loop-term.invariant c.size-size.ensures in
    omega (arith, within, ap (λ (ts : List Term). sum_by (λ v. length v) (map (meaning c.args.self.now.sums) ts)) c.deref-term-items.ensures.value, c.requires.fits)

pub loop-term-preserved : goal.loop-term-preserved
loop-term-preserved c =
    size_with_next_term _ c.args.self.now c.self.view_is c.deref-term-items.result.now c.loop-term.term-index _ c.loop-term.size c.size-size.result c.loop-term-test.true c.loop-term.invariant c.size-size.ensures

pub returns : goal.returns
returns c =
    size_of_all_terms c.args.self.now.sums c.deref-term-items.result.now c.loop-term.term-index c.loop-term.size c.loop-term-test.false c.loop-term.invariant
    ∙ ap (λ (ts : List Term). sum_by (λ v. length v) (map (meaning c.args.self.now.sums) ts)) c.deref-term-items.ensures.value
