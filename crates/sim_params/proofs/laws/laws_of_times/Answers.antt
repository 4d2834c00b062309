-- Each law is a lemma.
use Rattle.sim_params.proofs.Grow.{no_time_falls}
use Rattle.sim_params.proofs.Fixed.{start_kept, paired_at_kept, start_at_newest, end_last, paired_at_newest}
use Rattle.sim_params.proofs.Interleavings.{possible_stays}
use Rattle.sim_params.proofs.laws.laws_of_times.Goals as goal

pub returns-clause-times_never_fall : goal.returns-clause-times_never_fall
returns-clause-times_never_fall c = no_time_falls

pub returns-clause-possible_stays : goal.returns-clause-possible_stays
returns-clause-possible_stays c = possible_stays

pub returns-clause-start_stays : goal.returns-clause-start_stays
returns-clause-start_stays c = λ plans costs h a x. start_kept plans costs a h x

pub returns-clause-pair_time_stays : goal.returns-clause-pair_time_stays
returns-clause-pair_time_stays c = λ plans costs h a x. paired_at_kept plans costs a h x

pub returns-clause-paired_by_action : goal.returns-clause-paired_by_action
returns-clause-paired_by_action c = λ plans costs h a x. paired_at_newest plans costs a h x

pub returns-clause-starts_with_first : goal.returns-clause-starts_with_first
returns-clause-starts_with_first c = λ plans costs h a. start_at_newest plans costs a h

pub returns-clause-ends_with_last : goal.returns-clause-ends_with_last
returns-clause-ends_with_last c = λ plans costs h a. end_last plans costs a h
