-- The law is four lemmas.
use Rattle.goal_blocks.proofs.Ring.{back_ahead, ahead_back}
use Rattle.goal_blocks.proofs.RingAndTree.{ahead_below, back_below}
use Rattle.goal_blocks.proofs.laws.laws_of_positions.Goals as goal

pub returns : goal.returns
returns c = record {
  ahead_and_back = λ ranks r s p q. (ahead_below ranks r s p q, back_below ranks r s p, back_ahead ranks r s p q, ahead_back ranks r s p q);
}
