-- The files that `select` reads, one load after another.
use Rattle.std.proofs.Common.{◌≡◌, ℕ, Ok, Err, refl, List}
use Rattle.vpf_library_files.specs.declared.loading.loading.LoadStop.{LoadStop}
use Rattle.vpf_library_files.specs.Loading.Loading.{LoadedCoverage, Read, loaded_read, ◌and_then◌, within}
use Rattle.vpf_library_files.specs.declared.loading.loading.LoadStop.TheVariants as stops
use Rattle.vpf_library_files.specs.Loading.Loads.{ReadsStop}
use Rattle.std.specs.Prelude.{IsErrOf}
use Rattle.vpf_feature_files.specs.Schemas.{Schema}
use Rattle.vpf_featured.specs.Reading.{FeaturedCoverage}
use Rattle.vpf_source.specs.Files.{Files}
use Rattle.vpf_feature_files.specs.Reading.{read_schema}

-- a stop that is seen ends reading
pub ends_read : (read : Read LoadedCoverage) (stop : LoadStop) (n : ℕ) → loaded_read read ≡ Err stop → n ≡ read.1 → read ≡ (Err stop, n)
ends_read (Ok c, k) stop n e counted = absurd cc
ends_read (Err other, k) stop n e counted = let same : other ≡ stop = cc in rw (same, counted) refl

-- what stops the first step stops both
pub both_end : {V W : Type 0} (read : Read V) (next : V → ℕ → Read W) (seen : LoadStop) (n : ℕ) → read ≡ (Err seen, n) → (read and_then next) ≡ (Err seen, n)
both_end read next seen n e = rw e refl

pub ends_first : {V W : Type 0} (read : Read V) (next : V → ℕ → Read W) (stop : LoadStop) (n : ℕ) → ReadsStop stop n read → ReadsStop stop n (read and_then next)
ends_first read next stops.Fault n e = tt
ends_first read next stops.NoMemory n e = tt
ends_first read next (stops.Missing name) n e = both_end read next (stops.Missing name) n e
ends_first read next (stops.Place name place) n e = both_end read next (stops.Place name place) n e
ends_first read next (stops.Limit name limit) n e = both_end read next (stops.Limit name limit) n e
ends_first read next (stops.Finding name f) n e = both_end read next (stops.Finding name f) n e
ends_first read next (stops.Varies name) n e = both_end read next (stops.Varies name) n e

-- two steps, the first of which comes to a value
pub goes_on : {V W : Type 0} (read : Read V) (next : V → ℕ → Read W) (v : V) (n : ℕ) → read ≡ (Ok v, n) → (read and_then next) ≡ next v n
goes_on read next v n e = rw e refl

-- what is no fault is none of another call
pub no_fault : {V W : Type 0} (stop : LoadStop) → ¬ IsErrOf {T = W} {E = LoadStop} (Err stop) stops.Fault → ¬ IsErrOf {T = V} {E = LoadStop} (Err stop) stops.Fault
no_fault stop h e = let same : stop ≡ stops.Fault = cc in h (rw same refl)

abbrev pub both_of : LoadedCoverage → Schema → FeaturedCoverage
both_of c S = record { coverage = c; schema = S }

-- what is read behind the features
abbrev pub after_features : LoadedCoverage → Schema → ℕ → Read FeaturedCoverage
after_features c S n = (Ok (both_of c S), n)

-- .. and behind the coverage
abbrev pub after_coverage : Files → (lib cov : List ℕ) → LoadedCoverage → ℕ → Read FeaturedCoverage
after_coverage held lib cov c n = read_schema held (within lib cov) n and_then after_features c
