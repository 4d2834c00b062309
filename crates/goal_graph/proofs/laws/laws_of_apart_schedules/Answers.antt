-- Each law is a lemma.
use Rattle.goal_graph.proofs.Apart.{partners_iff_met, completes_alike}
use Rattle.goal_graph.proofs.laws.laws_of_apart_schedules.Goals as goal

pub returns-clause-apart_are_partners : goal.returns-clause-apart_are_partners
returns-clause-apart_are_partners c = λ plans eager h m x apart. partners_iff_met plans apart eager h m x

pub returns-clause-apart_completes_alike : goal.returns-clause-apart_completes_alike
returns-clause-apart_completes_alike c = λ plans eager fewer h w apart done i less x. completes_alike plans apart eager fewer less h done w x i
