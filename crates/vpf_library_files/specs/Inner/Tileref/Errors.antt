-- Errors that come from findings.
use Rattle.vpf_findings.specs.declared.errors.FindError.{FindError}
use Rattle.vpf_findings.specs.declared.errors.FindError.TheVariants as finds
use Rattle.vpf_library_files.specs.declared.tileref.errors.TilerefError.{TilerefError}
use Rattle.vpf_library_files.specs.declared.tileref.errors.TilerefError.TheVariants as errors

-- the finding, or none for want of memory
abbrev pub of_find : FindError → TilerefError
of_find (finds.Finding f) = errors.Finding f
of_find finds.NoMemory = errors.NoMemory
