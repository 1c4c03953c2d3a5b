-- A table that is written row by row, inside.
use Rattle.std.specs.Prelude.{◌≡◌, List, length}
use Rattle.vpf_head.specs.Canonical.{canonical_text}
use Rattle.vpf_head.specs.Head.{varies_in}
use Rattle.vpf_table.specs.Grid.{Row}
use Rattle.vpf_write.specs.declared.table_writer.TableWriter.TheInside.{Inside}
use Rattle.vpf_write.specs.Inner.Drafts.{progress}
use Rattle.vpf_write.specs.Inner.Tallies.{Tally, Holds}

abbrev pub tally_of : Inside → Tally
tally_of t = record { head = t.header.now; rows = t.rows; size = t.len; kept = progress t.draft; failed = t.failed }

-- It holds rows, and keeps how long the header text is and whether rows may vary.
pub record IsTallied (t : Inside) : Type 0 where
  pub put : List Row
  pub holds : Holds (tally_of t) put
  pub text : t.text ≡ length (canonical_text t.header.now)
  pub varies : t.varies ≡ varies_in t.header.now.columns
