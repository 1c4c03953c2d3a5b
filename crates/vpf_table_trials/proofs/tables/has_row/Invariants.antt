use Rattle.vpf_table_trials.proofs.tables.has_row.Given as goal

-- the ledger that the blank names
abbrev pub ghosts-row_is : goal.ghosts-row_is
ghosts-row_is a = record { name = a.blank.name; parts = a.blank.parts }
