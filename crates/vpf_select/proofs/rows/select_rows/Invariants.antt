use Rattle.vpf_select.proofs.rows.select_rows.Given as goal

-- the ledgers that the blanks name
abbrev pub ghosts-select_counted-L-Ledger : goal.ghosts-select_counted-L-Ledger
ghosts-select_counted-L-Ledger a = record { name = a.looks.name; parts = a.looks.parts }

abbrev pub ghosts-select_counted-M-Ledger : goal.ghosts-select_counted-M-Ledger
ghosts-select_counted-M-Ledger a = record { name = a.compared.name; parts = a.compared.parts }
