use Rattle.std.proofs.Common.{rules}
use Rattle.vpf_value.proofs.WordLists.{length-words_of}
use Rattle.vpf_value.proofs.coords.Coords.len.Goals as goal

pub returns-in-Four : goal.returns-in-Four
returns-in-Four c = rw (length-words_of, c.in-Four.is) (search rules)

pub returns-in-Eight : goal.returns-in-Eight
returns-in-Eight c = rw (length-words_of, c.in-Eight.is) (search rules)
