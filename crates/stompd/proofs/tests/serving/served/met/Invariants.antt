use Rattle.stompd.proofs.tests.serving.served.met.Given as goal

-- the workers' ledger is that of the first blank
abbrev pub ghosts-served-W-Ledger : goal.ghosts-served-W-Ledger
ghosts-served-W-Ledger g a = record { name = a.workers.name; parts = a.workers.parts }

-- the topics' ledger is that of the second
abbrev pub ghosts-served-T-Ledger : goal.ghosts-served-T-Ledger
ghosts-served-T-Ledger g a = record { name = a.tickets.name; parts = a.tickets.parts }

abbrev pub ghosts-served-W-Side : goal.ghosts-served-W-Side
ghosts-served-W-Side g a = record { all = a.workers.parts }

abbrev pub ghosts-served-T-Side : goal.ghosts-served-T-Side
ghosts-served-T-Side g a = record { all = a.tickets.parts }
