use Rattle.sim_events.proofs.engine.Engine+C.new.Given as goal

abbrev pub ghosts-new_by : goal.ghosts-new_by
ghosts-new_by g a = record { name = a.blank.name; parts = a.blank.parts }
