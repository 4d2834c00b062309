use Rattle.sim_events.proofs.engine.Engine.step.Given as goal

abbrev pub ghosts-step_once-L-Ledger : goal.ghosts-step_once-L-Ledger
ghosts-step_once-L-Ledger g a = record { name = a.blank.name; parts = a.blank.parts }

abbrev pub ghosts-step_once-R-Ledger : goal.ghosts-step_once-R-Ledger
ghosts-step_once-R-Ledger g a = record { name = a.for_moves.name; parts = a.for_moves.parts }

abbrev pub ghosts-step_once-M-Ledger : goal.ghosts-step_once-M-Ledger
ghosts-step_once-M-Ledger g a = record { name = a.for_looks.name; parts = a.for_looks.parts }

abbrev pub ghosts-step_once-N-Ledger : goal.ghosts-step_once-N-Ledger
ghosts-step_once-N-Ledger g a = record { name = a.for_reads.name; parts = a.for_reads.parts }
