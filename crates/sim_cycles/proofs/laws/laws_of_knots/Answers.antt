use Rattle.sim_cycles.proofs.LawLemmas.{one_knot_each, behind_add_up, rings_are_closed, lone_are_alone, none_left_out}
use Rattle.sim_cycles.proofs.laws.laws_of_knots.Goals as goal

pub returns-clause-one_knot_each : goal.returns-clause-one_knot_each
returns-clause-one_knot_each c = one_knot_each

pub returns-clause-behind_add_up : goal.returns-clause-behind_add_up
returns-clause-behind_add_up c = behind_add_up

pub returns-clause-rings_are_closed : goal.returns-clause-rings_are_closed
returns-clause-rings_are_closed c = rings_are_closed

pub returns-clause-lone_are_alone : goal.returns-clause-lone_are_alone
returns-clause-lone_are_alone c = lone_are_alone

pub returns-clause-none_left_out : goal.returns-clause-none_left_out
returns-clause-none_left_out c = none_left_out
