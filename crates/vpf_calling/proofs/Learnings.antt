-- What a caller learns, error by error.
use Rattle.std.proofs.Common.{◌≡◌, ℕ, List, None, Result, Ok, Err, refl, sym, ap, subst, ◌∙◌}
use Rattle.std.specs.Prelude.{IsErrOf}
use Rattle.vpf_triplet.specs.Results.{Told}
use Rattle.vpf_findings.specs.Firsts.{Tells}
use Rattle.vpf_findings.specs.declared.errors.FindError.{FindError}
use Rattle.vpf_findings.specs.declared.errors.FindError.TheVariants as errors
use Rattle.vpf_prims.specs.Coverages.{CoverageTables}
use Rattle.vpf_numbers.specs.TableLines.{coverage_numbers}
use Rattle.vpf_source.specs.declared.file.File.{File}
use Rattle.vpf_library_files.specs.Loading.Loading.{LoadedCoverage, Read, loaded_read, stop_seen}
use Rattle.vpf_library_files.specs.declared.loading.loading.LoadStop.{LoadStop}
use Rattle.vpf_library_files.specs.declared.loading.loading.LoadStop.TheVariants as stops
use Rattle.vpf_cross.specs.CrossFinding.{topology_finding}
use Rattle.vpf_calling.specs.declared.cycles.Unknown.{Unknown}
use Rattle.vpf_calling.specs.declared.cycles.Unknown.TheVariants as unknown
use Rattle.vpf_calling.specs.Inner.Learning.{IsUnfound, IsUnread, Learns}

-- the check of the topology stopped
pub unchecked : (V : Type 0) (c : CoverageTables) (error : FindError) (why : Unknown) → IsUnfound error why → coverage_numbers c ≡ None → Tells {V = V} (Err error) (topology_finding c) → Learns c (Err why)
unchecked V c (errors.Finding f) why is numbers tells = subst (λ (w : Unknown). Learns c (Err w)) (sym is) (rw (numbers, tells) refl)
unchecked V c errors.NoMemory why is numbers tells = subst (λ (w : Unknown). Learns c (Err w)) (sym is) tt

-- the load stopped: then the coverage isn't read
unread_by : (c : LoadedCoverage) (n : ℕ) (stop : LoadStop) (why : Unknown) (read : Read LoadedCoverage) → loaded_read read ≡ Err stop → read ≡ (Ok c, n) → Learns c.coverage (Err why)
unread_by c n stop why read told is = let bad : loaded_read read ≡ Ok c.files = ap loaded_read is in absurd cc

pub unloaded : (c : LoadedCoverage) (n : ℕ) (stop : LoadStop) (why : Unknown) (read : Read LoadedCoverage) → IsUnread stop why → Told (stop_seen stop) (loaded_read read) → read ≡ (Ok c, n) → Learns c.coverage (Err why)
unloaded c n stops.Fault why read by told is = subst (λ (w : Unknown). Learns c.coverage (Err w)) (sym by) tt
unloaded c n stops.NoMemory why read by told is = subst (λ (w : Unknown). Learns c.coverage (Err w)) (sym by) tt
unloaded c n (stops.Missing name) why read by told is = unread_by c n (stops.Missing name) why read told is
unloaded c n (stops.Place name place) why read by told is = unread_by c n (stops.Place name place) why read told is
unloaded c n (stops.Limit name limit) why read by told is = unread_by c n (stops.Limit name limit) why read told is
unloaded c n (stops.Finding name own) why read by told is = unread_by c n (stops.Finding name own) why read told is
unloaded c n (stops.Varies name) why read by told is = unread_by c n (stops.Varies name) why read told is

-- the load is done: then a coverage is read
pub not_stopped : (stop : LoadStop) (n : ℕ) (files : List File) (read : Read LoadedCoverage) → loaded_read read ≡ Ok files → read ≡ (Err stop, n) → ⊥
not_stopped stop n files read told is = let bad : loaded_read read ≡ Err stop = ap loaded_read is in cc
