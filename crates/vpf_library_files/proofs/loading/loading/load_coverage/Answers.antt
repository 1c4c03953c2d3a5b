use Rattle.vpf_library_files.proofs.loading.loading.load_coverage.Goals as goal

pub returns-in-Ok-clause-held : goal.returns-in-Ok-clause-held
returns-in-Ok-clause-held g c files e whole n read = rw c.into_files.ensures (c.in-Ok.ensures.held files e whole n read)
