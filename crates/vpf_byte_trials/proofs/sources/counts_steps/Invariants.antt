use Rattle.vpf_byte_trials.proofs.sources.counts_steps.Given as goal

-- the ledger that the blank names
abbrev pub ghosts-count_two : goal.ghosts-count_two
ghosts-count_two a = record { name = a.blank.name; parts = a.blank.parts }
