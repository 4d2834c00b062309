use Rattle.sim_events.proofs.engine.Engine.run_counted.Given as goal

abbrev pub ghosts-run_on : goal.ghosts-run_on
ghosts-run_on g a = record { name = a.for_moves.name; parts = a.for_moves.parts }
