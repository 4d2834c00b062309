use Rattle.std.proofs.Common.{rules, ◌∙◌, arith, length-drop}
use Rattle.std.proofs.lemmas.List.{take_rest}
use Rattle.goal_base.proofs.DeviceLemmas.{holds_joined_prefixes}
use Rattle.goal_base.proofs.output.write_file.Goals as goal

pub pieces-preserved : goal.pieces-preserved
pieces-preserved g c = record {
  within = omega (arith, c.in_ok-done.ensures.bound, length-drop c.pieces.done c.args.bytes.now);
  held = holds_joined_prefixes _ _ _ c.args.name.now c.args.bytes.now _ c.pieces.done c.in_ok-done.field-0 c.pieces.invariant.held
      c.pieces.invariant.output c.pieces.invariant.later.tells (take_rest c.args.bytes.now c.pieces.done)
      c.in_ok-done.ensures.written;
  output = search rules;
  writing = search rules;
  count = c.in_ok-done.ensures.call.count ∙ c.pieces.invariant.count;
  kept = search rules;
  later = search rules;
}
