use Rattle.test_turns.proofs.shared_calls.check.Given as goal

abbrev pub ghosts-run-R-Run : goal.ghosts-run-R-Run
ghosts-run-R-Run g a = record { system = a.book.system; units = a.book.given; nodes = 100; workers = a.workers }

abbrev pub ghosts-run-R-Ledger : goal.ghosts-run-R-Ledger
ghosts-run-R-Ledger g a = record { name = a.blank.name; parts = a.blank.parts }
