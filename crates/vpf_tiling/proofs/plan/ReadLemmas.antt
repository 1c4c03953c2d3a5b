-- What comes of reading files one after another.
use Rattle.std.proofs.Common.{ℕ}
use Rattle.vpf_library_files.specs.declared.loading.loading.LoadStop.{LoadStop}
use Rattle.vpf_library_files.specs.Loading.Loading.{Read, ◌and_then◌, stop_seen}
use Rattle.vpf_library_files.specs.Loading.Loads.{ReadsStop}
use Rattle.vpf_tiling.specs.Inner.Plan.ReadLaws.{ends_so}

pub ends_next : {V W : Type 0} (next : V → ℕ → Read W) (read : Read V) (n : ℕ) (stop : LoadStop) → ReadsStop stop n read → ReadsStop stop n (read and_then next)
ends_next next read n stop h = ends_so next read n (stop_seen stop) h

-- ---- the table that is read is that of the files
