use Rattle.vpf_library_files.proofs.loading.HeldReads.{held_is_read}
use Rattle.vpf_library_files.proofs.loading.ReadHolds.{read_is_held}
use Rattle.vpf_library_files.proofs.loading.laws.coverages_are_held.Goals as goal

pub returns-clause-held : goal.returns-clause-held
returns-clause-held c = held_is_read (record { opened = c.spelled_is_opened.ensures; again = c.opened_is_read.ensures }) c.stops_decide.ensures

pub returns-clause-read : goal.returns-clause-read
returns-clause-read c = read_is_held (record { spelled = c.opened_is_spelled.ensures; again = c.opened_is_read.ensures }) c.stops_decide.ensures
