use Rattle.sim_tests.proofs.events.a_large_message_unkept.Given as goal

abbrev pub ghosts-unkept : goal.ghosts-unkept
ghosts-unkept g a = record { name = a.blank.name; parts = a.blank.parts }
