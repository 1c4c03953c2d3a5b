-- The files that `tile` reads, one load after another.
use Rattle.std.proofs.Common.{◌≡◌, ◌∙◌, ℕ, List, Ok, Err, refl, sym, subst, inl}
use Rattle.vpf_base.specs.Results.{Told}
use Rattle.vpf_source.specs.Files.{Files}
use Rattle.vpf_source.specs.declared.file.File.{File}
use Rattle.vpf_library_files.specs.declared.loading.loading.LoadStop.{LoadStop}
use Rattle.vpf_library_files.specs.declared.loading.loading.LoadStop.TheVariants as stops
use Rattle.vpf_library_files.specs.Loading.Holding.{AreUntiledFiles}
use Rattle.vpf_library_files.specs.Loading.Loading.{CountsAs, LoadedCoverage, LoadedTable, Read, ◌and_then◌, loaded_read, read_tileref, stop_seen, tileref_name, within}
use Rattle.vpf_library_files.specs.Loading.Loads.{LoadsTileref, ReadsStop, ReadsValue}
use Rattle.vpf_tiling.specs.Plan.PlanLoads.{AreOfPlan, ArePlanFiles, read_plan}
use Rattle.vpf_tiling.specs.Plan.Untiled.{AreOfUntiled, read_untiled}
use Rattle.vpf_feature_files.specs.Inner.Held.{AreOfSchema, AreSchemaFiles}
use Rattle.vpf_feature_files.specs.Reading.{read_schema}
use Rattle.vpf_featured.specs.Reading.{FeaturedCoverage}
use Rattle.vpf_featured.specs.declared.loading.FeaturedFiles.{FeaturedFiles}
use Rattle.vpf_library_commands.specs.declared.tiling.TileFiles.{TileFiles}
use Rattle.vpf_library_commands.specs.Tile.{TileParts, tile_parts, plan_name, read_parts, read_untiled_featured}
use Rattle.vpf_library_commands.specs.Inner.TileFiles.{AreOfUntiledFeatured, ArePartsFiles, ArePartsOf, AreUntiledFeatured}
use Rattle.vpf_featured.specs.Inner.LoadLaws.{ends_read, ends_first, goes_on, both_of, after_features, after_coverage}

-- ---- what stops a load

pub untiled_ends : (read : Read LoadedCoverage) (stop : LoadStop) (n : ℕ) → Told (stop_seen stop) (loaded_read read)
    → CountsAs {V = List File} (Err stop) read n → ReadsStop stop n read
untiled_ends read stops.Fault n told counted = tt
untiled_ends read stops.NoMemory n told counted = tt
untiled_ends read (stops.Missing name) n told counted = ends_read read (stops.Missing name) n told counted
untiled_ends read (stops.Place name place) n told counted = ends_read read (stops.Place name place) n told counted
untiled_ends read (stops.Limit name limit) n told counted = ends_read read (stops.Limit name limit) n told counted
untiled_ends read (stops.Finding name f) n told counted = ends_read read (stops.Finding name f) n told counted
untiled_ends read (stops.Varies name) n told counted = ends_read read (stops.Varies name) n told counted

pub ends_next : {V W : Type 0} (read : Read V) (next : V → ℕ → Read W) (v : V) (m : ℕ) (stop : LoadStop) (n : ℕ) → read ≡ (Ok v, m)
    → ReadsStop stop n (next v m) → ReadsStop stop n (read and_then next)
ends_next read next v m stop n e h = subst (ReadsStop stop n) (sym (goes_on read next v m e)) h

-- ---- the coverage

-- the untiled coverage that is read
came : (lib cov : List ℕ) (files : List File) (read : Read LoadedCoverage) (n : ℕ) → loaded_read read ≡ Ok files → n ≡ read.1
    → ((c : LoadedCoverage) (k : ℕ) → read ≡ (Ok c, k) → AreUntiledFiles lib cov c.coverage files)
    → (c : LoadedCoverage) × (read ≡ (Ok c, n)) × (files ≡ c.files) × AreUntiledFiles lib cov c.coverage files
came lib cov files (Ok c, k) n told counted held =
    let same : c.files ≡ files = cc in
    (c, rw counted refl, sym same, held c k refl)
came lib cov files (Err stop, k) n told counted held = absurd cc

-- the same of what was loaded
abbrev pub CameTo : (lib cov : List ℕ) → List File → Read LoadedCoverage → ℕ → Type 0
CameTo lib cov files read n = (c : LoadedCoverage) × (read ≡ (Ok c, n)) × (files ≡ c.files) × AreUntiledFiles lib cov c.coverage files

pub untiled_comes : (lib cov : List ℕ) (v : List File) (read : Read LoadedCoverage) (n : ℕ) → loaded_read read ≡ Ok v → CountsAs (Ok v) read n
    → ((c : LoadedCoverage) (k : ℕ) → read ≡ (Ok c, k) → AreUntiledFiles lib cov c.coverage v) → CameTo lib cov v read n
untiled_comes lib cov v read n told counted held = came lib cov v read n told counted held

-- ---- the coverage and its features

pub coverage_stops : (held : Files) (lib cov : List ℕ) (old n : ℕ) (stop : LoadStop) → ReadsStop stop n (read_untiled held lib cov old)
    → ReadsStop stop n (read_untiled_featured held lib cov old)
coverage_stops held lib cov old n stop h = ends_first (read_untiled held lib cov old) (after_coverage held lib cov) stop n h

pub features_stop : (held : Files) (lib cov : List ℕ) (files : List File) (old m n : ℕ) (stop : LoadStop) → CameTo lib cov files (read_untiled held lib cov old) m
    → ReadsStop stop n (read_schema held (within lib cov) m) → ReadsStop stop n (read_untiled_featured held lib cov old)
features_stop held lib cov files old m n stop (c, e, listed, are) h =
    ends_next (read_untiled held lib cov old) (after_coverage held lib cov) c m stop n e (ends_first (read_schema held (within lib cov) m) (after_features c) stop n h)

pub both_read : (held : Files) (lib cov : List ℕ) (files : FeaturedFiles) (old m n : ℕ) → CameTo lib cov files.coverage (read_untiled held lib cov old) m
    → ReadsValue (λ v S. AreSchemaFiles (within lib cov) S v) files.features n (read_schema held (within lib cov) m)
    → ReadsValue (λ files read. AreUntiledFeatured lib cov files read) files n (read_untiled_featured held lib cov old)
both_read held lib cov files old m n (c, e, listed, are) features = record {
  value = both_of c features.value;
  comes = goes_on (read_untiled held lib cov old) (after_coverage held lib cov) c m e
      ∙ goes_on (read_schema held (within lib cov) m) (after_features c) features.value n features.comes;
  is = record { untiled = are; featured = record { coverage = inl are; listed = listed; features = features.is } };
}

-- files that were loaded are those of something
pub both_are : (lib cov : List ℕ) (files : FeaturedFiles) → AreOfUntiled lib cov files.coverage → AreOfSchema (within lib cov) files.features
    → AreOfUntiledFeatured lib cov files
both_are lib cov files coverage features =
    let c : LoadedCoverage = record { coverage = coverage.0; files = files.coverage } in
    (both_of c features.0, record { untiled = coverage.1; featured = record { coverage = inl coverage.1; listed = refl; features = features.1 } })

-- ---- all

-- what is read behind the table of tiles
abbrev after_tileref : Files → (lib cov : List ℕ) → FeaturedCoverage → LoadedTable → ℕ → Read TileParts
after_tileref held lib cov read t n = read_plan held (plan_name lib cov) n and_then λ p k. (Ok (tile_parts read t p), k)

-- .. and behind the coverage and its features
abbrev after_featured : Files → (lib cov : List ℕ) → FeaturedCoverage → ℕ → Read TileParts
after_featured held lib cov read n = read_tileref held lib n and_then after_tileref held lib cov read

pub featured_stops : (held : Files) (lib cov : List ℕ) (old n : ℕ) (stop : LoadStop) → ReadsStop stop n (read_untiled_featured held lib cov old)
    → ReadsStop stop n (read_parts held lib cov old)
featured_stops held lib cov old n stop h = ends_first (read_untiled_featured held lib cov old) (after_featured held lib cov) stop n h

pub tileref_stops : (held : Files) (lib cov : List ℕ) (read : FeaturedCoverage) (old m n : ℕ) (stop : LoadStop) → read_untiled_featured held lib cov old ≡ (Ok read, m)
    → ReadsStop stop n (read_tileref held lib m) → ReadsStop stop n (read_parts held lib cov old)
tileref_stops held lib cov read old m n stop e h =
    ends_next (read_untiled_featured held lib cov old) (after_featured held lib cov) read m stop n e
    (ends_first (read_tileref held lib m) (after_tileref held lib cov read) stop n h)

pub plan_stops : (held : Files) (lib cov : List ℕ) (read : FeaturedCoverage) (t : LoadedTable) (old m k n : ℕ) (stop : LoadStop)
    → read_untiled_featured held lib cov old ≡ (Ok read, m)
    → read_tileref held lib m ≡ (Ok t, k) → ReadsStop stop n (read_plan held (plan_name lib cov) k) → ReadsStop stop n (read_parts held lib cov old)
plan_stops held lib cov read t old m k n stop e f h =
    ends_next (read_untiled_featured held lib cov old) (after_featured held lib cov) read m stop n e
    (ends_next (read_tileref held lib m) (after_tileref held lib cov read) t k stop n f
    (ends_first (read_plan held (plan_name lib cov) k) (λ p j. (Ok (tile_parts read t p), j)) stop n h))

parts_come : (held : Files) (lib cov : List ℕ) (read : FeaturedCoverage) (t p : LoadedTable) (old m k n : ℕ) → read_untiled_featured held lib cov old ≡ (Ok read, m)
    → read_tileref held lib m ≡ (Ok t, k) → read_plan held (plan_name lib cov) k ≡ (Ok p, n) → read_parts held lib cov old ≡ (Ok (tile_parts read t p), n)
parts_come held lib cov read t p old m k n e f g =
    goes_on (read_untiled_featured held lib cov old) (after_featured held lib cov) read m e
    ∙ (goes_on (read_tileref held lib m) (after_tileref held lib cov read) t k f
    ∙ goes_on (read_plan held (plan_name lib cov) k) (λ p j. (Ok (tile_parts read t p), j)) p n g)

-- the files of the table of tiles that was read
abbrev IsTilerefIn : (lib : List ℕ) → List File → List (List ℕ) → LoadedTable → Type 0
IsTilerefIn lib files paths table = LoadsTileref (tileref_name lib) files paths table

-- the files are those of what was read
their_files : (lib cov : List ℕ) (files : TileFiles) (read : FeaturedCoverage) (paths : List (List ℕ)) (t p : LoadedTable) → AreUntiledFeatured lib cov files.featured read
    → IsTilerefIn lib files.tileref paths t → ArePlanFiles (plan_name lib cov) p.grid files.plan → ArePartsFiles lib cov files (tile_parts read t p)
their_files lib cov files read paths t p are tiles plan = record { featured = are; tileref = rw tiles.all tiles.are; goes_on = tiles.goes_on; plan = plan }

pub parts_read : (held : Files) (lib cov : List ℕ) (files : TileFiles) (paths : List (List ℕ)) (t : LoadedTable) (old m k n : ℕ)
    → ReadsValue (λ files read. AreUntiledFeatured lib cov files read) files.featured m (read_untiled_featured held lib cov old)
    → read_tileref held lib m ≡ (Ok t, k) → IsTilerefIn lib files.tileref paths t
    → ReadsValue (λ (v : List File) (p : LoadedTable). p.files ≡ v) files.plan n (read_plan held (plan_name lib cov) k)
    → ((p : LoadedTable) (j : ℕ) → read_plan held (plan_name lib cov) k ≡ (Ok p, j) → ArePlanFiles (plan_name lib cov) p.grid files.plan)
    → ReadsValue (λ files parts. ArePartsFiles lib cov files parts) files n (read_parts held lib cov old)
parts_read held lib cov files paths t old m k n read f tiles plan plan_are = record {
  value = tile_parts read.value t plan.value;
  comes = parts_come held lib cov read.value t plan.value old m k n read.comes f plan.comes;
  is = their_files lib cov files read.value paths t plan.value read.is tiles (plan_are plan.value n plan.comes);
}

-- files that were loaded are those of something
pub parts_are : (lib cov : List ℕ) (files : TileFiles) (paths : List (List ℕ)) (t : LoadedTable) → AreOfUntiledFeatured lib cov files.featured
    → IsTilerefIn lib files.tileref paths t → AreOfPlan (plan_name lib cov) files.plan → ArePartsOf lib cov files
parts_are lib cov files paths t featured tiles plan =
    let p : LoadedTable = record { grid = plan.0; files = files.plan } in
    (tile_parts featured.0 t p, their_files lib cov files featured.0 paths t p featured.1 tiles plan.1)
