use Rattle.std.proofs.Common.{ℕ, ap, ◌∙◌}
use Rattle.goal_blocks.specs.Collectives.{wanted}
use Rattle.goal_blocks.specs.Segments.{exchange}
use Rattle.goal_values.specs.Kept.{values}
use Rattle.goal_values.specs.Summed.{Summed}
use Rattle.goal_blocks.proofs.ForCallers.{exchange_twice}
use Rattle.goal_values.proofs.LeastWrong.{found_wrong, found_first, found_right}
use Rattle.goal_values.proofs.values.SlotValues.first_wrong_of.Goals as goal

pub returns-clause-wrong : goal.returns-clause-wrong
returns-clause-wrong c = found_wrong _ _ _ _ _ c.loop-place.invariant

pub returns-clause-first : goal.returns-clause-first
returns-clause-first c =
    let s = c.args.self.now in
    let ranks = ap (λ (t : Summed). t.kept.ranks) c.self.view_is in
    found_first _ _ (exchange c.args.segment.width c.args.segment.block) (exchange_twice c.args.segment.width c.args.segment.block) _ c.asked-from.result.1 _ (λ k fails. c.asked-from.ensures.from (exchange c.args.segment.width c.args.segment.block k) (values s.kept c.args.rank k) (ap (λ (n : ℕ). wanted c.args.what n c.args.rank (exchange c.args.segment.width c.args.segment.block k) (values s.kept c.args.rank k)) ranks ∙ fails)) (λ k fails. c.asked-from.ensures.to (exchange c.args.segment.width c.args.segment.block k) (values s.kept c.args.rank k) (ap (λ (n : ℕ). wanted c.args.what n c.args.rank (exchange c.args.segment.width c.args.segment.block k) (values s.kept c.args.rank k)) ranks ∙ fails)) c.loop-place-test.false _ c.loop-place.invariant

pub returns-clause-right : goal.returns-clause-right
returns-clause-right c =
    let s = c.args.self.now in
    let ranks = ap (λ (t : Summed). t.kept.ranks) c.self.view_is in
    found_right _ _ (exchange c.args.segment.width c.args.segment.block) (exchange_twice c.args.segment.width c.args.segment.block) _ c.asked-from.result.1 _ (λ k fails. c.asked-from.ensures.from (exchange c.args.segment.width c.args.segment.block k) (values s.kept c.args.rank k) (ap (λ (n : ℕ). wanted c.args.what n c.args.rank (exchange c.args.segment.width c.args.segment.block k) (values s.kept c.args.rank k)) ranks ∙ fails)) (λ k fails. c.asked-from.ensures.to (exchange c.args.segment.width c.args.segment.block k) (values s.kept c.args.rank k) (ap (λ (n : ℕ). wanted c.args.what n c.args.rank (exchange c.args.segment.width c.args.segment.block k) (values s.kept c.args.rank k)) ranks ∙ fails)) c.loop-place-test.false _ c.loop-place.invariant
