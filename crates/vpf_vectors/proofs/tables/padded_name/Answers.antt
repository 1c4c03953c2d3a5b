use Rattle.std.proofs.Common.{string_bytes}
use Rattle.vpf_vectors.proofs.NameLemmas.{padded_from_printed}
use Rattle.vpf_vectors.proofs.tables.padded_name.Goals as goal

pub returns : goal.returns
returns c = padded_from_printed c.format.result string_bytes c.args.tile (rw c.laid_out.ensures at c.format.ensures.ok)
