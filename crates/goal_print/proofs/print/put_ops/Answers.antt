use Rattle.std.proofs.Common.{◌≡◌, ℕ, ◌+◌, ◌<◌, ◌≤◌, List, ◌++◌, length, get_or, take, drop, sym, ap, ◌∙◌, arith, rules, append_assoc, append-nil}
use Rattle.std.proofs.lemmas.List.{at_drop_more, at_drop_all}
use Rattle.goal_base.proofs.ForCallers.{line_appended_after_kept_lines}
use Rattle.goal_graph.specs.declared.plan.Op.{Op}
use Rattle.goal_graph.specs.declared.plan.Kind.TheVariants.{Calc}
use Rattle.goal_print.specs.Canonical.{op_line, op_lines}
use Rattle.goal_print.proofs.print.put_ops.Goals as goal

-- another line
next_op_line_printed : (i : ℕ) (os : List Op) (d : Op) (out all : List ℕ) → i < length os → out ++ op_lines i (drop i os) ≡ all
    → (out ++ op_line i (get_or os i d)) ++ op_lines (i + 1) (drop (i + 1) os) ≡ all
unfolding op_lines
next_op_line_printed i os d out all within is =
    append_assoc out (op_line i (get_or os i d)) (op_lines (i + 1) (drop (i + 1) os))
    ∙ ap (λ (l : List ℕ). out ++ l) (sym (at_drop_more (op_lines i) os i d within)) ∙ is

-- no line remains
all_lines_put_past_last_op : (i : ℕ) (os : List Op) (out all : List ℕ) → length os ≤ i → out ++ op_lines i (drop i os) ≡ all → out ≡ all
unfolding op_lines
all_lines_put_past_last_op i os out all over is = sym (append-nil out) ∙ ap (λ (l : List ℕ). out ++ l) (sym (at_drop_all (op_lines i) os i over)) ∙ is

pub loop-number-preserved : goal.loop-number-preserved
loop-number-preserved c =
    let none : Op = record { kind = Calc 0; cpu = 0; nic = 0 } in
    let i = c.loop-number.number in
    let ops = c.args.ops.now in
    let lines = c.loop-number.out ++ take c.loop-number.end c.loop-number.lines in
    let more = next_op_line_printed i ops none lines _ c.loop-number-test.true c.loop-number.invariant.text in
    record {
      text =
          ap (λ (l : List ℕ). l ++ op_lines (i + 1) (drop (i + 1) ops))
          (line_appended_after_kept_lines c.loop-number.out _ (take c.loop-number.end c.loop-number.lines) _ _ (op_line i (get_or ops i none)) c.in_ok-at.ensures.text c.put_op-end.ensures.text) ∙ more;
      within = omega (arith, c.put_op-end.ensures.end, c.in_ok-at.ensures.room);
    }

pub returns : goal.returns
returns c =
    let lines = c.loop-number.out ++ take c.loop-number.end c.loop-number.lines in
    let is = all_lines_put_past_last_op c.loop-number.number c.args.ops.now lines _ c.loop-number-test.false c.loop-number.invariant.text in
    search rules
