-- The files that `select` reads, one load after another.
use Rattle.std.proofs.Common.{◌≡◌, ◌∙◌, ℕ, List, Ok, Err, refl, sym, subst}
use Rattle.vpf_base.specs.Results.{Told}
use Rattle.vpf_source.specs.Files.{Files}
use Rattle.vpf_source.specs.declared.file.File.{File}
use Rattle.vpf_library_files.specs.declared.loading.loading.LoadStop.{LoadStop}
use Rattle.vpf_library_files.specs.declared.loading.loading.LoadStop.TheVariants as stops
use Rattle.vpf_library_files.specs.Loading.Holding.{AreCoverageFiles, AreOfCoverage}
use Rattle.vpf_library_files.specs.Loading.Loading.{CountsAs, LoadedCoverage, Read, loaded_read, read_coverage, stop_seen, within}
use Rattle.vpf_library_files.specs.Loading.Loads.{ReadsStop, ReadsValue}
use Rattle.vpf_feature_files.specs.Inner.Held.{AreOfSchema, AreSchemaFiles}
use Rattle.vpf_feature_files.specs.Reading.{read_schema}
use Rattle.vpf_featured.specs.declared.loading.FeaturedFiles.{FeaturedFiles}
use Rattle.vpf_featured.specs.Reading.{read_featured}
use Rattle.vpf_featured.specs.Inner.Held.{AreFeaturedFiles, AreOfFeatured}
use Rattle.vpf_featured.specs.Inner.LoadLaws.{ends_read, ends_first, goes_on, both_of, after_features, after_coverage}

-- ---- what stops a load

pub coverage_ends : (read : Read LoadedCoverage) (stop : LoadStop) (n : ℕ) → Told (stop_seen stop) (loaded_read read)
    → CountsAs {V = List File} (Err stop) read n → ReadsStop stop n read
coverage_ends read stops.Fault n told counted = tt
coverage_ends read stops.NoMemory n told counted = tt
coverage_ends read (stops.Missing name) n told counted = ends_read read (stops.Missing name) n told counted
coverage_ends read (stops.Place name place) n told counted = ends_read read (stops.Place name place) n told counted
coverage_ends read (stops.Limit name limit) n told counted = ends_read read (stops.Limit name limit) n told counted
coverage_ends read (stops.Finding name f) n told counted = ends_read read (stops.Finding name f) n told counted
coverage_ends read (stops.Varies name) n told counted = ends_read read (stops.Varies name) n told counted

-- ---- the coverage

-- reading comes to the coverage of these files
abbrev pub CameTo : (lib cov : List ℕ) → List File → Read LoadedCoverage → ℕ → Type 0
CameTo lib cov files read n = (c : LoadedCoverage) × (read ≡ (Ok c, n)) × (files ≡ c.files) × AreCoverageFiles lib cov c.coverage files

came : (lib cov : List ℕ) (files : List File) (read : Read LoadedCoverage) (n : ℕ) → loaded_read read ≡ Ok files → n ≡ read.1
    → ((c : LoadedCoverage) (k : ℕ) → read ≡ (Ok c, k) → AreCoverageFiles lib cov c.coverage files) → CameTo lib cov files read n
came lib cov files (Ok c, k) n told counted held =
    let same : c.files ≡ files = cc in
    (c, rw counted refl, sym same, held c k refl)
came lib cov files (Err stop, k) n told counted held = absurd cc

pub coverage_comes : (lib cov : List ℕ) (v : List File) (read : Read LoadedCoverage) (n : ℕ) → loaded_read read ≡ Ok v → CountsAs (Ok v) read n
    → ((c : LoadedCoverage) (k : ℕ) → read ≡ (Ok c, k) → AreCoverageFiles lib cov c.coverage v) → CameTo lib cov v read n
coverage_comes lib cov v read n told counted held = came lib cov v read n told counted held

-- ---- both

pub coverage_stops : (held : Files) (lib cov : List ℕ) (old n : ℕ) (stop : LoadStop) → ReadsStop stop n (read_coverage held lib cov old)
    → ReadsStop stop n (read_featured held lib cov old)
coverage_stops held lib cov old n stop h = ends_first (read_coverage held lib cov old) (after_coverage held lib cov) stop n h

pub features_stop : (held : Files) (lib cov : List ℕ) (files : List File) (old m n : ℕ) (stop : LoadStop) → CameTo lib cov files (read_coverage held lib cov old) m
    → ReadsStop stop n (read_schema held (within lib cov) m) → ReadsStop stop n (read_featured held lib cov old)
features_stop held lib cov files old m n stop (c, e, listed, are) h =
    subst (ReadsStop stop n) (sym (goes_on (read_coverage held lib cov old) (after_coverage held lib cov) c m e))
    (ends_first (read_schema held (within lib cov) m) (after_features c) stop n h)

pub both_read : (held : Files) (lib cov : List ℕ) (files : FeaturedFiles) (old m n : ℕ) → CameTo lib cov files.coverage (read_coverage held lib cov old) m
    → ReadsValue (λ v S. AreSchemaFiles (within lib cov) S v) files.features n (read_schema held (within lib cov) m)
    → ReadsValue (λ files read. AreFeaturedFiles lib cov files read) files n (read_featured held lib cov old)
both_read held lib cov files old m n (c, e, listed, are) features = record {
  value = both_of c features.value;
  comes = goes_on (read_coverage held lib cov old) (after_coverage held lib cov) c m e
      ∙ goes_on (read_schema held (within lib cov) m) (after_features c) features.value n features.comes;
  is = record { coverage = are; listed = listed; features = features.is };
}

-- files that were loaded are those of something
pub both_are : (lib cov : List ℕ) (files : FeaturedFiles) → AreOfCoverage lib cov files.coverage → AreOfSchema (within lib cov) files.features
    → AreOfFeatured lib cov files
both_are lib cov files coverage features =
    let c : LoadedCoverage = record { coverage = coverage.0; files = files.coverage } in
    (both_of c features.0, record { coverage = coverage.1; listed = refl; features = features.1 })
