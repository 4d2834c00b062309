use Rattle.goal_certify.proofs.walk.ready.is_ready_uncounted.Given as goal

abbrev pub ghosts-is_ready_once : goal.ghosts-is_ready_once
ghosts-is_ready_once g a = record { name = a.blank.name; parts = a.blank.parts }
