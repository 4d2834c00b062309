use Rattle.std.proofs.Common.{◌+◌, sym, ap, ◌∙◌, arith}
use Rattle.goal_blocks.specs.Values.{merge}
use Rattle.goal_blocks.proofs.ForCallers.{merge_none}
use Rattle.goal_values.specs.Sums.{meaning}
use Rattle.goal_values.proofs.SumValues.{empty_of_length_zero, meaning_sorted, values_of_sums_are_sorted, sums_put, values_with_put_sum, put_value}
use Rattle.goal_values.proofs.sums.Sums.add.Goals as goal

pub returns-then-left_size-eq0-clause-sum : goal.returns-then-left_size-eq0-clause-sum
unfolding merge
returns-then-left_size-eq0-clause-sum c =
    ap (λ v. merge v (meaning c.args.self.now c.args.right)) (sym (empty_of_length_zero _ (sym c.size-left_size.ensures ∙ c.if-left_size-eq0.true)))

pub returns-then-right_size-eq0-clause-sum : goal.returns-then-right_size-eq0-clause-sum
returns-then-right_size-eq0-clause-sum c =
    sym (merge_none (meaning c.args.self.now c.args.left) (meaning_sorted c.args.self.now c.args.left (values_of_sums_are_sorted c.self.inside.list.items c.self.invariant c.args.self.now c.self.view_is)))
    ∙ ap (merge (meaning c.args.self.now c.args.left)) (sym (empty_of_length_zero _ (sym c.size-right_size.ensures ∙ c.if-right_size-eq0.true)))

pub invariant_of-self-2 : goal.invariant_of-self-2
invariant_of-self-2 c =
    sums_put c.self.inside.list.items c.self.invariant c.args.self.now c.self.view_is _ c.push.new.self.items c.in_ok-push.ensures.items c.requires.left c.requires.right (omega (arith, c.size-left_size.ensures, c.if-left_size-eq0.false)) (omega (arith, c.size-right_size.ensures, c.if-right_size-eq0.false)) (omega (arith, c.size-left_size.ensures, c.size-right_size.ensures))

pub returns : goal.returns
returns c =
    let put = put_value c.self.inside.list.items c.self.invariant c.args.self.now c.self.view_is (record { left = c.args.left; right = c.args.right; size = c.size-left_size.result + c.size-right_size.result }) c.push.new.self.items c.in_ok-push.ensures.items c.len-number.result (c.len-number.ensures ∙ c.self.inside.list.ok.0) in
    record {
      sum = put.0;
      below = put.1;
      grown = (_, values_with_put_sum c.self.inside.list.items c.self.invariant c.args.self.now c.self.view_is (record { left = c.args.left; right = c.args.right; size = c.size-left_size.result + c.size-right_size.result }) c.push.new.self.items c.in_ok-push.ensures.items);
    }
