-- What is written of a table is its canonical bytes, or they pass a limit.
use Rattle.std.proofs.Common.{◌≡◌, ◌-◌, length, None}
use Rattle.vpf_head.specs.Canonical.{canonical_text}
use Rattle.vpf_head.specs.Head.{varies_in}
use Rattle.vpf_table.specs.Grid.{Grid}
use Rattle.vpf_table.specs.Canonical.{canonical_table}
use Rattle.vpf_write.specs.Writing.{first_limit}
use Rattle.vpf_write.specs.Inner.LimitLaws.{Within, within_bound as within}

pub within_limits : (g : Grid) → first_limit g ≡ None → Within (length (canonical_text g.head)) (length g.rows) (length (canonical_table g))
within_limits g e = within (length (canonical_text g.head)) (length g.rows) (length (canonical_table g)) (varies_in g.head.columns) e
