use Rattle.goal_cli.proofs.output.run_costed.Given as goal

abbrev pub ghosts-run_counted-L-Ledger : goal.ghosts-run_counted-L-Ledger
ghosts-run_counted-L-Ledger a = record { name = a.for_steps.name; parts = a.for_steps.parts }

abbrev pub ghosts-run_counted-M-Ledger : goal.ghosts-run_counted-M-Ledger
ghosts-run_counted-M-Ledger a = record { name = a.for_looks.name; parts = a.for_looks.parts }

abbrev pub ghosts-run_counted-N-Ledger : goal.ghosts-run_counted-N-Ledger
ghosts-run_counted-N-Ledger a = record { name = a.for_reads.name; parts = a.for_reads.parts }
