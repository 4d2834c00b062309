use Rattle.sim_tests.proofs.queue.the_least_of_twelve_keys.Given as goal

abbrev pub ghosts-least_of_twelve : goal.ghosts-least_of_twelve
ghosts-least_of_twelve g a = record { name = a.blank.name; parts = a.blank.parts }
