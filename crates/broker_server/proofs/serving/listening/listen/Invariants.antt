use Rattle.broker_server.proofs.serving.listening.listen.Given as goal

-- the workers' ledger is that of the first blank
abbrev pub ghosts-listen_by-W-Ledger : goal.ghosts-listen_by-W-Ledger
ghosts-listen_by-W-Ledger g a = record { name = a.workers.name; parts = a.workers.parts }

-- the topics' ledger is that of the second
abbrev pub ghosts-listen_by-T-Ledger : goal.ghosts-listen_by-T-Ledger
ghosts-listen_by-T-Ledger g a = record { name = a.tickets.name; parts = a.tickets.parts }

abbrev pub ghosts-listen_by-W-Side : goal.ghosts-listen_by-W-Side
ghosts-listen_by-W-Side g a = record { all = a.workers.parts }

abbrev pub ghosts-listen_by-T-Side : goal.ghosts-listen_by-T-Side
ghosts-listen_by-T-Side g a = record { all = a.tickets.parts }
