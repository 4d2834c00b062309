use Rattle.sim_tests.proofs.queue.the_least_of_a_vec_queue.Given as goal

abbrev pub ghosts-least_alone : goal.ghosts-least_alone
ghosts-least_alone g a = record { name = a.blank.name; parts = a.blank.parts }

abbrev pub ghosts-least_of : goal.ghosts-least_of
ghosts-least_of g a = record { name = a.blank.name; parts = a.blank.parts }
