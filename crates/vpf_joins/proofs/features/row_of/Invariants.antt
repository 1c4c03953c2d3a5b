use Rattle.vpf_joins.proofs.features.row_of.Given as goal

-- the ledger that the blank names
abbrev pub ghosts-row_counted : goal.ghosts-row_counted
ghosts-row_counted a = record { name = a.blank.name; parts = a.blank.parts }
