use Rattle.sim_events.proofs.engine.Engine.is_done.Given as goal

abbrev pub ghosts-is_empty : goal.ghosts-is_empty
ghosts-is_empty g a = record { name = a.blank.name; parts = a.blank.parts }
