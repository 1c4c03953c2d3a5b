use Rattle.vpf_select.proofs.rows.cell_in.Given as goal

-- the ledger that the blank names
abbrev pub ghosts-cell_counted : goal.ghosts-cell_counted
ghosts-cell_counted a = record { name = a.blank.name; parts = a.blank.parts }
