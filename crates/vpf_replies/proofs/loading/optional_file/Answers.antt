use Rattle.vpf_replies.proofs.loading.optional_file.Goals as goal

pub returns-clause-told : goal.returns-clause-told
returns-clause-told g c files e = c.found_in.ensures.finds _ (rw e at c.load-loaded.ensures.whole)
