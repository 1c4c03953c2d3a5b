use Rattle.std.proofs.Common.{refl}
use Rattle.vpf_theme.proofs.FaultLemmas.{whole_from}
use Rattle.vpf_theme.proofs.DataLemmas.{entry_data, entry_are_rows, rows-entry}
use Rattle.vpf_theme.proofs.view.hits_at.Goals as goal

pub extent_at-requires-clause-whole : goal.extent_at-requires-clause-whole
extent_at-requires-clause-whole c = whole_from c.args.layout.now c.args.bytes.now c.args.i c.requires.faultless c.requires.within

pub new-requires : goal.new-requires
new-requires c = rw c.extent_at.ensures (entry_data c.args.layout.now c.args.bytes.now c.args.i c.requires.faultless c.requires.within)

pub returns-clause-rows : goal.returns-clause-rows
returns-clause-rows c = rw (c.new.ensures, c.extent_at.ensures, rows-entry) refl

pub returns-clause-inside : goal.returns-clause-inside
returns-clause-inside c = entry_are_rows c.args.layout.now c.args.bytes.now c.args.i c.requires.faultless c.requires.within
