use Rattle.vpf_tiler.proofs.tiled_files.LibraryNames.{names_differ, names_differ_within}
use Rattle.vpf_tiler.proofs.tiled_files.laws.names_differ.Goals as goal

pub returns-clause-own : goal.returns-clause-own
returns-clause-own c = names_differ

pub returns-clause-within : goal.returns-clause-within
returns-clause-within c = names_differ_within
