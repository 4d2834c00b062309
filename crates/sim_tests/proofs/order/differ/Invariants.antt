use Rattle.sim_tests.proofs.order.differ.Given as goal

abbrev pub ghosts-is_before : goal.ghosts-is_before
ghosts-is_before g a = record { name = a.blank.name; parts = a.blank.parts }
