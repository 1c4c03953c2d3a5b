-- What is so of every tiled library that is made, and of the names that words spell.
use Rattle.std.specs.Prelude.{◌≡◌, ℕ, IsUtf8, List, Some, length}
use Rattle.std.specs.List.{AllByRecursion}
use Rattle.vpf_source.specs.Files.{Files, HoldsBytes}
use Rattle.vpf_source.specs.Making.{with_all}
use Rattle.vpf_prims.specs.Reading.{primitives_of}
use Rattle.vpf_prims.specs.Tables.{TileTables}
use Rattle.vpf_library_files.specs.Loading.Loading.{within}
use Rattle.vpf_feature_writing.specs.FeatureReading.Laws.{LacksThemes}
use Rattle.vpf_tiler.specs.Inner.TiledFeatures.Folders.{LacksTheRest}
use Rattle.vpf_library_commands.specs.declared.requesting.MakeRequest.{MakeRequest}
use Rattle.vpf_replies.specs.Making.{made_answer}
use Rattle.vpf_library_commands.specs.Make.{make_request}
use Rattle.vpf_library_commands.specs.Tile.{TileParts, tile_answer}
use Rattle.vpf_library_commands.specs.Reading.{no_features}
use Rattle.vpf_library_commands.specs.TileTheorem.Tilings.Cutting.{IsCutFrom, cut_files, cut_plan}
use Rattle.vpf_library_commands.specs.TileTheorem.Tilings.Sources.{IsTileSource}
use Rattle.vpf_library_commands.specs.TileTheorem.Tilings.Tilings.{AnswersTiling, HasNames, HoldsTiled, HoldsTiling, StandsAlone, made_request}

-- where what was read can be cut, the answer of `tile` is to make the files of the tiled library and of its features
abbrev pub TilesAreMade : Type 0
TilesAreMade = (files : Files) (request : MakeRequest) (parts : TileParts) (T : TileTables) → IsCutFrom files request parts T
    → tile_answer files request ≡ made_answer (cut_files request parts T)

-- what is held, and may be cut, is what is read and cut
abbrev pub SourceIsCut : Type 0
SourceIsCut = (files : Files) (request : MakeRequest) (parts : TileParts) (T : TileTables) → IsTileSource files request parts T → IsCutFrom files request parts T

-- what is read of files of bytes, and can be cut, is such a source; names are text
abbrev pub CutIsSource : Type 0
CutIsSource = (files : Files) (request : MakeRequest) (parts : TileParts) (T : TileTables) → HoldsBytes files → HasNames request
    → IsCutFrom files request parts T → IsTileSource files request parts T

-- where these files are made of a coverage without features, and stand alone, the tree holds that library, and it agrees; names are text, and the files
-- that are read hold bytes
abbrev pub TilingsAreHeld : Type 0
TilingsAreHeld = (files after : Files) (request : MakeRequest) (parts : TileParts) (T : TileTables) → HoldsBytes files → HasNames request
    → IsCutFrom files request parts T → StandsAlone files request.out (cut_files request parts T)
    → with_all (cut_files request parts T) (Some files) ≡ Some after → LacksTheRest after request.out request.cov parts.schema
    → parts.schema ≡ no_features
    → HoldsTiled after (made_request request) (primitives_of T.tables) (cut_plan parts T) (length parts.tileref.grid.rows) parts.schema

-- where they are made, stand alone, what the features lacked isn't there, and all files hold bytes, the tree holds the library with its features, it agrees,
-- and its cycles are the coverage's
abbrev pub TilingsAgree : Type 0
TilingsAgree = (files after : Files) (request : MakeRequest) (parts : TileParts) (T : TileTables) → HoldsBytes files → HoldsBytes after → HasNames request
    → IsCutFrom files request parts T → StandsAlone files request.out (cut_files request parts T)
    → with_all (cut_files request parts T) (Some files) ≡ Some after → LacksTheRest after request.out request.cov parts.schema
    → HoldsTiling after (made_request request) (primitives_of T.tables) (cut_plan parts T) (length parts.tileref.grid.rows) parts.schema

-- and `check` and `trace` answer that
abbrev pub TilingsAreAnswered : Type 0
TilingsAreAnswered = (files after : Files) (request : MakeRequest) (parts : TileParts) (T : TileTables) → HoldsBytes files → HoldsBytes after
    → HasNames request
    → IsCutFrom files request parts T → StandsAlone files request.out (cut_files request parts T)
    → with_all (cut_files request parts T) (Some files) ≡ Some after → LacksTheRest after request.out request.cov parts.schema
    → AnswersTiling after (made_request request) (primitives_of T.tables) (cut_plan parts T) (length parts.tileref.grid.rows) parts.schema

-- where the files of a source are made and stand alone, and no thematic index is there that its features lacked, nothing else that they lacked is there
abbrev pub RestIsLacked : Type 0
RestIsLacked = (files after : Files) (request : MakeRequest) (parts : TileParts) (T : TileTables) → HoldsBytes files → HasNames request
    → IsTileSource files request parts T → IsCutFrom files request parts T → StandsAlone files request.out (cut_files request parts T)
    → with_all (cut_files request parts T) (Some files) ≡ Some after → LacksThemes after (within request.out request.cov) parts.schema
    → LacksTheRest after request.out request.cov parts.schema

-- a coverage without features lacks none of the rest
abbrev pub NoneIsLacked : Type 0
NoneIsLacked = (files after : Files) (request : MakeRequest) (parts : TileParts) (T : TileTables) → HoldsBytes files → HasNames request
    → IsCutFrom files request parts T → StandsAlone files request.out (cut_files request parts T)
    → with_all (cut_files request parts T) (Some files) ≡ Some after → parts.schema ≡ no_features
    → LacksTheRest after request.out request.cov parts.schema

-- words of text spell requests whose names are text
abbrev pub RequestsHaveNames : Type 0
RequestsHaveNames = (words : List (List ℕ)) (request : MakeRequest) → AllByRecursion IsUtf8 words → make_request words ≡ Some request → HasNames request
