-- Each law is a lemma.
use Rattle.goal_blocks.proofs.BcastOfTwo.{bcast_of_two}
use Rattle.goal_blocks.proofs.Matched.{ends_in_its_pairs}
use Rattle.goal_blocks.proofs.Race.{conflict_in_order}
use Rattle.goal_blocks.proofs.Right.{held_as_the_walk, certified_right}
use Rattle.goal_blocks.proofs.laws.laws_of_certified_schedules.Goals as goal

pub returns-clause-certified_is_right_everywhere : goal.returns-clause-certified_is_right_everywhere
returns-clause-certified_is_right_everywhere c = λ plans first wanted certified. certified_right plans first wanted certified

pub returns-clause-matched_holds_as_the_walk : goal.returns-clause-matched_holds_as_the_walk
returns-clause-matched_holds_as_the_walk c = λ plans first eager h matched no_race done. held_as_the_walk plans no_race matched first eager h done

pub returns-clause-certified_ends_everywhere : goal.returns-clause-certified_ends_everywhere
returns-clause-certified_ends_everywhere c = λ plans first wanted eager h certified done. ends_in_its_pairs plans eager h certified.matched done

pub returns-clause-certified_conflicts_in_one_order : goal.returns-clause-certified_conflicts_in_one_order
returns-clause-certified_conflicts_in_one_order c = λ plans first wanted x y certified conflict. conflict_in_order plans x y certified.no_race conflict

pub returns-clause-bcast_of_two_is_certified : goal.returns-clause-bcast_of_two_is_certified
returns-clause-bcast_of_two_is_certified c = bcast_of_two
