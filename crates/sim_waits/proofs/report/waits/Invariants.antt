use Rattle.sim_waits.proofs.report.waits.Given as goal

abbrev pub ghosts-put_longest : goal.ghosts-put_longest
ghosts-put_longest g a = record { name = a.blank.name; parts = a.blank.parts }
