use Rattle.std.proofs.Common.{List, ℕ}
use Rattle.vpf_library_files.proofs.loading.TilerefLemmas.{goes_on, stops_so}
use Rattle.vpf_library_files.proofs.loading.loading.tileref.paths_in.Goals as goal

pub returns-in-Ok-clause-reads : goal.returns-in-Ok-clause-reads
returns-in-Ok-clause-reads c read loaded same =
    goes_on c.args.name.now read c.args.table.now c.in-Ok.paths loaded same c.in-Ok.ensures.first c.in-Ok.ensures.paths

pub returns-in_ok-stop_of-in-Err-clause-reads : goal.returns-in_ok-stop_of-in-Err-clause-reads
returns-in_ok-stop_of-in-Err-clause-reads c read loaded same =
    stops_so (List (List ℕ)) c.args.name.now read c.args.table.now c.in-Err.error c.in_ok-stop_of-in-Err.field-0 loaded same
    c.in-Err.ensures.first c.in_ok-stop_of-in-Err.ensures
