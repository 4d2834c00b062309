-- Each law is a lemma.
use Rattle.sim_params.proofs.Interleavings.{run_is_each_possible}
use Rattle.sim_params.proofs.Reach.{within_reach}
use Rattle.sim_params.proofs.BudgetBound.{within_budget, possible_within_budget, reach_rises, parts_make_share}
use Rattle.sim_params.proofs.laws.laws_of_the_budget.Goals as goal

pub returns-clause-within_reach : goal.returns-clause-within_reach
returns-clause-within_reach c = λ plans costs h r. within_reach plans costs h (run_is_each_possible plans costs h r)

pub returns-clause-within_budget : goal.returns-clause-within_budget
returns-clause-within_budget c = λ plans costs h r. within_budget plans costs h (run_is_each_possible plans costs h r)

pub returns-clause-possible_within_budget : goal.returns-clause-possible_within_budget
returns-clause-possible_within_budget c = λ plans costs h a r. possible_within_budget plans costs h a (run_is_each_possible plans costs h r)

pub returns-clause-reach_rises_by_part : goal.returns-clause-reach_rises_by_part
returns-clause-reach_rises_by_part c = λ plans costs h a r. reach_rises plans costs h a (run_is_each_possible plans costs h r)

pub returns-clause-parts_are_the_share : goal.returns-clause-parts_are_the_share
returns-clause-parts_are_the_share c = parts_make_share
