use Rattle.worker_pool.proofs.pool.solve_together.Given as goal

-- what the run is about
abbrev pub ghosts-run-R-Run : goal.ghosts-run-R-Run
ghosts-run-R-Run g a = record { system = a.book.system; units = a.limits.units; nodes = a.limits.nodes; workers = a.limits.workers }

abbrev pub ghosts-run-R-Ledger : goal.ghosts-run-R-Ledger
ghosts-run-R-Ledger g a = record { name = a.blank.name; parts = a.blank.parts }
