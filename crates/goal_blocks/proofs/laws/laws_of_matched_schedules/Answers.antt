-- Each law is a lemma.
use Rattle.goal_blocks.proofs.Channels.{channels_apart}
use Rattle.goal_blocks.proofs.Matched.{ends_in_its_pairs}
use Rattle.goal_blocks.proofs.Walk.{one_walk}
use Rattle.goal_blocks.proofs.SomeWalk.{some_walk}
use Rattle.goal_blocks.proofs.GoesOn.{interleaving_can_be_completed, some_complete}
use Rattle.goal_blocks.proofs.Levels.{levels_end}
use Rattle.goal_blocks.proofs.laws.laws_of_matched_schedules.Goals as goal

pub returns-clause-channels_are_apart : goal.returns-clause-channels_are_apart
returns-clause-channels_are_apart c = λ plans known single. channels_apart plans known single

pub returns-clause-matched_ends_in_its_pairs : goal.returns-clause-matched_ends_in_its_pairs
returns-clause-matched_ends_in_its_pairs c = λ plans eager h matched done. ends_in_its_pairs plans eager h matched done

pub returns-clause-one_walk : goal.returns-clause-one_walk
returns-clause-one_walk c = λ plans v w walk other. one_walk plans v w walk other

pub returns-clause-some_walk : goal.returns-clause-some_walk
returns-clause-some_walk c = λ plans. some_walk plans

pub returns-clause-levels_end : goal.returns-clause-levels_end
returns-clause-levels_end c = λ plans level eager h known single paired levels done. levels_end plans level eager h known single paired levels done

pub returns-clause-interleaving_goes_on : goal.returns-clause-interleaving_goes_on
returns-clause-interleaving_goes_on c = λ plans eager h run. interleaving_can_be_completed plans eager h run

pub returns-clause-some_complete_interleaving : goal.returns-clause-some_complete_interleaving
returns-clause-some_complete_interleaving c = λ plans eager. some_complete plans eager
