use Rattle.std.proofs.Common.{inl, inr, arith, sym, ap, ◌∙◌, ◌≡◌, ◌++◌, drop}
use Rattle.goal_blocks.specs.Values.{Value}
use Rattle.goal_blocks.proofs.Sorted.{merge_step_takes_left, merge_step_takes_right, sorted_more, merge_with_one_used_up, take_of_whole_rest}
use Rattle.goal_blocks.proofs.merging.merged.Goals as goal
use Rattle.goal_blocks.proofs.merging.merged.Goals.{then-loop-i-test+else-j-right, else-loop-i-test}

pub loop-i-preserved-then-is_lower : goal.loop-i-preserved-then-is_lower
loop-i-preserved-then-is_lower c =
    let inv = c.loop-i.invariant in
    (inv.0, omega (arith, c.if-j-right.true), inv.2, sorted_more c.args.right.now c.loop-i.j (omega (arith, c.if-j-right.true)) inv.3, merge_step_takes_right c.loop-i.sum.items c.push.new.self.items c.args.left.now c.args.right.now c.loop-i.i c.loop-i.j (omega (arith, c.loop-i-test.true)) (omega (arith, c.if-j-right.true)) inv.2 inv.3 (sym c.is_lower.ensures ∙ c.if-is_lower.true) c.in_ok-push.ensures.items ∙ inv.4)

pub loop-i-preserved : goal.loop-i-preserved
loop-i-preserved c =
    let inv = c.loop-i.invariant in
    (omega (arith, c.loop-i-test.true), inv.1, sorted_more c.args.left.now c.loop-i.i (omega (arith, c.loop-i-test.true)) inv.2, inv.3, merge_step_takes_left c.loop-i.sum.items c.push-else-is_lower.new.self.items c.args.left.now c.args.right.now c.loop-i.i c.loop-i.j (omega (arith, c.loop-i-test.true)) (omega (arith, c.if-j-right.true)) inv.2 inv.3 (sym c.is_lower.ensures ∙ c.if-is_lower.false) c.in_ok-push-2.ensures.items ∙ inv.4)

pub returns : goal.returns
returns c =
    let inv = c.loop-i.invariant in
    let first : c.extend_from_slice.new.self.items ≡ c.loop-i.sum.items ++ drop c.loop-i.i c.args.left.now = c.in_ok-extend_from_slice.ensures.items ∙ ap (λ (x : Value). c.loop-i.sum.items ++ x) (take_of_whole_rest c.args.left.now c.loop-i.i) in
    c.in_ok-extend_from_slice-2.ensures.items ∙ ap (λ (x : Value). c.extend_from_slice.new.self.items ++ x) (take_of_whole_rest c.args.right.now c.loop-i.j) ∙ ap (λ (x : Value). x ++ drop c.loop-i.j c.args.right.now) first
    ∙ merge_with_one_used_up c.loop-i.sum.items c.args.left.now c.args.right.now c.loop-i.i c.loop-i.j inv.2 (elim c.loop-i-test.branch [ then-loop-i-test+else-j-right w ↦ inr (omega (arith, w.if-j-right.false)) | else-loop-i-test w ↦ inl (omega (arith, w.loop-i-test.false)) ]) ∙ inv.4
