use Rattle.std.proofs.Common.{arith}
use Rattle.vpf_value.proofs.WordLists.{length-words_of}
use Rattle.vpf_value.proofs.coords.Coords.words_bytes.Goals as goal

pub returns-in-Four : goal.returns-in-Four
returns-in-Four c = rw (c.in-Four.is, length-words_of) (omega arith)

pub returns-in-Eight : goal.returns-in-Eight
returns-in-Eight c = rw (c.in-Eight.is, length-words_of) (omega arith)
