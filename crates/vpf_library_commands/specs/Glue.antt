-- `glue`: the files of the untiled coverage that the tiles of a coverage are joined into.
use Rattle.std.specs.Prelude.{ℕ, List, [], ◌∷◌, codes, is_some, if◌then◌else◌, Option, Some, None, Result, Ok, Err}
use Rattle.vpf_source.specs.Files.{Files}
use Rattle.vpf_source.specs.declared.file.File.{File}
use Rattle.vpf_triplet.specs.declared.places.Place.{Place}
use Rattle.vpf_findings.specs.Printing.{disagree_text}
use Rattle.vpf_table.specs.Grid.{Grid}
use Rattle.vpf_table.specs.Reading.{table_of}
use Rattle.vpf_library_files.specs.Loading.Loading.{within}
use Rattle.vpf_library_files.specs.declared.loading.loading.LoadStop.{LoadStop}
use Rattle.vpf_glue.specs.Tables.{glued_with_features}
use Rattle.vpf_replies.specs.Answer.{Answer, refused}
use Rattle.vpf_replies.specs.Refusals.{UntiledCoverage, refusal_answer}
use Rattle.vpf_featured.specs.LoadReplies.Stopping.{stop_answer}
use Rattle.vpf_features.specs.Finding.{Named}
use Rattle.vpf_featured.specs.Finding.{featured_finding}
use Rattle.vpf_featured.specs.Reading.{FeaturedCoverage, read_featured}
use Rattle.vpf_library_commands.specs.declared.requesting.MakeRequest.{MakeRequest}
use Rattle.vpf_library_commands.specs.Made.{files_answer}

-- the file of the edges in a coverage's own folder, which a coverage in tiles doesn't have
abbrev pub own_edges_name : (lib cov : List ℕ) → List ℕ
own_edges_name lib cov = within (within lib cov) (codes "edg")

-- the table that was read of bytes
abbrev pub table_read : Result Grid Place → Option Grid
table_read (Ok grid) = Some grid
table_read (Err place) = None

-- the table in the first of some files: of those of a coverage in tiles it is the table of tiles
abbrev pub first_table : List File → Option Grid
first_table [] = None
first_table (file ∷ files) = table_read (table_of file.bytes)

-- the answer over a coverage that agrees with its features, and the table of its tiles
abbrev pub tileref_answer : MakeRequest → FeaturedCoverage → Option Grid → Answer
tileref_answer request read None = refused []
tileref_answer request read (Some tileref) =
    files_answer request.out (glued_with_features request.cov read.coverage.coverage read.schema tileref)

-- the answer over what was read, by the first finding on the coverage and its features
abbrev pub gluing_answer : MakeRequest → FeaturedCoverage → Option Named → Answer
gluing_answer request read None = tileref_answer request read (first_table read.coverage.files)
gluing_answer request read (Some (name, d)) = refused (disagree_text name d)

-- the answer to what was read
abbrev pub joined_answer : MakeRequest → Result FeaturedCoverage LoadStop → Answer
joined_answer request (Ok read) = gluing_answer request read (featured_finding (within request.lib request.cov) read)
joined_answer request (Err stop) = stop_answer stop

-- the answer over the files of a tree: a coverage that has edges of its own isn't tiled, and nothing more of it is read
abbrev pub glue_answer : Files → MakeRequest → Answer
glue_answer files request =
    if is_some (files (own_edges_name request.lib request.cov))
    then refusal_answer (UntiledCoverage (own_edges_name request.lib request.cov))
    else joined_answer request (read_featured files request.lib request.cov 0).0
