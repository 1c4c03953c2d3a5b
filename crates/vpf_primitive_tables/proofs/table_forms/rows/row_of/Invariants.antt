use Rattle.vpf_primitive_tables.proofs.table_forms.rows.row_of.Given as goal

-- the ledger that the blank names
abbrev pub ghosts-counted_row : goal.ghosts-counted_row
ghosts-counted_row a = record { name = a.blank.name; parts = a.blank.parts }
