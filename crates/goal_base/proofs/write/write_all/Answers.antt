use Rattle.std.proofs.Common.{rules, ◌∙◌, arith, length-drop}
use Rattle.std.proofs.lemmas.List.{take_rest}
use Rattle.goal_base.proofs.DeviceLemmas.{grows_by_joined_prefixes}
use Rattle.goal_base.proofs.write.write_all.Goals as goal

pub pieces-preserved : goal.pieces-preserved
pieces-preserved g c = record {
  within = omega (arith, c.in-Ok.ensures.bound, length-drop c.pieces.done c.args.piece.now);
  grown = grows_by_joined_prefixes _ _ _ c.args.piece.now _ c.pieces.done c.in-Ok.count c.pieces.invariant.grown c.pieces.invariant.later.tells
      (take_rest c.args.piece.now c.pieces.done) c.in-Ok.ensures.written;
  count = c.in-Ok.ensures.call.count ∙ c.pieces.invariant.count;
  later = search rules;
}
