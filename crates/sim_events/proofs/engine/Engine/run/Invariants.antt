use Rattle.sim_events.proofs.engine.Engine.run.Given as goal

abbrev pub ghosts-run_by-L-Ledger : goal.ghosts-run_by-L-Ledger
ghosts-run_by-L-Ledger g a = record { name = a.blank.name; parts = a.blank.parts }

abbrev pub ghosts-run_by-M-Ledger : goal.ghosts-run_by-M-Ledger
ghosts-run_by-M-Ledger g a = record { name = a.for_looks.name; parts = a.for_looks.parts }

abbrev pub ghosts-run_by-N-Ledger : goal.ghosts-run_by-N-Ledger
ghosts-run_by-N-Ledger g a = record { name = a.for_reads.name; parts = a.for_reads.parts }
