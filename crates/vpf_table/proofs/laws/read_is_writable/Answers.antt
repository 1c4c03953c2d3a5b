use Rattle.vpf_table.proofs.CanonicalTables.{read_writable}
use Rattle.vpf_table.proofs.laws.read_is_writable.Goals as goal

pub returns : goal.returns
returns c = read_writable c.cells_and_headers.ensures c.spelled_fits.ensures c.sound_headers_stay_sound.ensures.in_each_order
