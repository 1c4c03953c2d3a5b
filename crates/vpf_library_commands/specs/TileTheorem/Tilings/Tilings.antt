-- A tiled library that was made of an untiled coverage and its features: it agrees, and its boundary cycles are those of the coverage (MIL-STD-2407,
-- 5.2.3, tiled coverages, cross-tile topology and feature classes).
use Rattle.std.specs.Prelude.{◌≡◌, ◌≢◌, ◌≤◌, ℕ, AllPairs, IsUtf8, List, [], None}
use Rattle.vpf_source.specs.Files.{Files}
use Rattle.vpf_source.specs.declared.file.File.{File}
use Rattle.vpf_darts.specs.declared.darts.TileDart.{TileDart}
use Rattle.vpf_darts.specs.Listings.{numbers_of}
use Rattle.vpf_prims.specs.Libraries.{library_of}
use Rattle.vpf_prims.specs.Primitives.{Primitives}
use Rattle.vpf_library_files.specs.Loading.Holding.{bytes_in}
use Rattle.vpf_library_files.specs.Loading.Loading.{LoadedCoverage, most_loaded, within}
use Rattle.vpf_tiling.specs.Plans.{IsTileable}
use Rattle.vpf_tiling.specs.Tiles.{tiled_library}
use Rattle.vpf_library_commands.specs.Tilings.{AreNamedCycles}
use Rattle.vpf_replies.specs.Answer.{done}
use Rattle.vpf_replies.specs.Listings.{listing_text}
use Rattle.vpf_feature_files.specs.Schemas.{Schema}
use Rattle.vpf_feature_writing.specs.FeatureReading.Rebuilt.{rebuilt}
use Rattle.vpf_library_commands.specs.Reading.{FeaturedCoverage}
use Rattle.vpf_library_commands.specs.declared.checking.CheckRequest.{CheckRequest}
use Rattle.vpf_library_commands.specs.declared.requesting.MakeRequest.{MakeRequest}
use Rattle.vpf_library_commands.specs.Agreeing.{IsAgreeing}
use Rattle.vpf_library_commands.specs.Check.{agrees_text, check_answer}
use Rattle.vpf_library_commands.specs.Trace.{IsTraceAnswer}

-- what is made stands alone: no file stood in its folder before, no two of its files have one name, and they have no more bytes in all than a run reads
pub record StandsAlone (files : Files) (folder : List ℕ) (made : List File) : Type 0 where
  pub empty : (name : List ℕ) → files (within folder name) ≡ None
  pub apart : AllPairs (λ (a b : File). a.name ≢ b.name) made
  pub few : bytes_in made ≤ most_loaded

-- the names of the folder and of the coverage of a request are text, and the coverage has one
pub record HasNames (request : MakeRequest) : Type 0 where
  pub out : IsUtf8 request.out
  pub cov : IsUtf8 request.cov
  pub named : request.cov ≢ []

-- the library and the coverage that `tile` makes, as `check` and `trace` are asked for them
abbrev pub made_request : MakeRequest → CheckRequest
made_request request = record { lib = request.out; cov = request.cov }

-- a coverage of these features, whose thematic indexes are built anew
abbrev pub with_rebuilt : LoadedCoverage → Schema → FeaturedCoverage
with_rebuilt loaded S = record { coverage = loaded; schema = rebuilt S }

-- a tree holds the tiled library of a coverage with these features, which may be tiled by a plan into so many tiles: its tables, references and cycles
-- agree, and so do its features, with thematic indexes built anew; and it says what that library does
pub record HoldsTiled (held : Files) (request : CheckRequest) (c : Primitives) (plan : ℕ → ℕ) (tiles : ℕ) (S : Schema) : Type 0 where
  pub may_be : IsTileable c plan tiles
  pub loaded : LoadedCoverage
  pub agrees : IsAgreeing held request (with_rebuilt loaded S)
  pub library : library_of loaded.coverage ≡ tiled_library c plan tiles

-- A tree holds the tiled library of a coverage with these features, which may be tiled by a plan into so many tiles: its tables, references, cycles and
-- features agree, it says what that library does, and its boundary cycles, lines between tiles passed over, are exactly those of the coverage without its
-- lines between tiles, each dart called by its name.
pub record HoldsTiling (held : Files) (request : CheckRequest) (c : Primitives) (plan : ℕ → ℕ) (tiles : ℕ) (S : Schema) : Type 0 where
  pub may_be : IsTileable c plan tiles
  pub loaded : LoadedCoverage
  pub agrees : IsAgreeing held request (with_rebuilt loaded S)
  pub library : library_of loaded.coverage ≡ tiled_library c plan tiles
  pub cycles : List (List TileDart)
  pub are : AreNamedCycles c plan (numbers_of cycles)

-- So `check` and `trace` are answered over that tree: the library agrees, with the numbers of primitives of all its tiles, and exactly these cycles are
-- listed.
pub record AnswersTiling (held : Files) (request : CheckRequest) (c : Primitives) (plan : ℕ → ℕ) (tiles : ℕ) (S : Schema) : Type 0 where
  pub holds : HoldsTiling held request c plan tiles S
  pub checked : check_answer held request ≡ done (agrees_text holds.loaded.coverage)
  pub traced : IsTraceAnswer held request (done (listing_text holds.cycles))
