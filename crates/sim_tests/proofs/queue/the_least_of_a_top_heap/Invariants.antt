use Rattle.sim_tests.proofs.queue.the_least_of_a_top_heap.Given as goal

abbrev pub ghosts-first_and_second : goal.ghosts-first_and_second
ghosts-first_and_second g a = record { name = a.blank.name; parts = a.blank.parts }
