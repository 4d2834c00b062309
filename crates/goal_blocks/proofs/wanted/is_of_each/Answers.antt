use Rattle.std.proofs.Common.{ap, ◌∙◌, length, arith}
use Rattle.goal_blocks.specs.Values.{Contribution}
use Rattle.goal_blocks.proofs.Wishes.{different_is_not_value, equal_is_value, length_of_each, is_of_each, not_of_each, item_of}
use Rattle.goal_blocks.proofs.wanted.is_of_each.Goals as goal
use Rattle.goal_blocks.proofs.wanted.is_of_each.Goals.{then-one-rank-via-then-one-rank, then-one-rank-via-else-one-rank+then-one-item}

pub returns-then-value-count : goal.returns-then-value-count
returns-then-value-count c =
    different_is_not_value _ _ (λ e. let lengths = ap length e ∙ length_of_each c.args.count c.args.item in omega (arith, lengths, c.if-value-count.true))

pub returns-then-one-rank : goal.returns-then-one-rank
returns-then-one-rank c =
    different_is_not_value _ _ (not_of_each c.args.value.now c.args.count c.args.item c.loop-rank.rank (item_of 0 0) (omega (arith, c.loop-rank-test.true, c.if-value-count.false)) (λ e. elim c.then-one-rank.branch [
      | then-one-rank-via-then-one-rank w ↦ let same = ap (λ (x : Contribution). x.rank) e in omega (arith, same, w.if-one-rank.true)
      | then-one-rank-via-else-one-rank+then-one-item w ↦ let same = ap (λ (x : Contribution). x.item) e in omega (arith, same, w.if-one-item.true)
    ]))

pub returns : goal.returns
returns c =
    equal_is_value _ _ (is_of_each c.args.value.now c.args.count c.args.item (item_of 0 0) (omega (arith, c.if-value-count.false)) (λ k l. c.loop-rank.invariant k (omega (arith, l, c.loop-rank-test.false, c.if-value-count.false))))
