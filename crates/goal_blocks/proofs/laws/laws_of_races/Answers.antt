-- Each law is a lemma.
use Rattle.goal_blocks.proofs.Race.{always_ends_first, conflict_in_order}
use Rattle.goal_blocks.proofs.laws.laws_of_races.Goals as goal

pub returns-clause-order_is_kept : goal.returns-clause-order_is_kept
returns-clause-order_is_kept c = λ plans x y b. always_ends_first plans x y b

pub returns-clause-conflicts_come_in_one_order : goal.returns-clause-conflicts_come_in_one_order
returns-clause-conflicts_come_in_one_order c = λ plans x y none conflict. conflict_in_order plans x y none conflict
