-- `check`: whether a coverage agrees.
use Rattle.std.specs.Prelude.{ℕ, List, [], ◌∷◌, Option, None, Some, Result, Ok, Err, codes, if◌then◌else◌}
use Rattle.std.specs.Fmt.{decimal}
use Rattle.vpf_source.specs.Files.{Files}
use Rattle.vpf_source.specs.Names.Naming.{coverage_name, file_name}
use Rattle.vpf_findings.specs.Findings.{Disagreement}
use Rattle.vpf_findings.specs.Firsts.{◌or◌}
use Rattle.vpf_findings.specs.Printing.{disagree_text}
use Rattle.vpf_findings.specs.Text.Texts.{◌&◌}
use Rattle.vpf_prims.specs.Coverages.{CoverageTables, last_tile}
use Rattle.vpf_numbers.specs.TableLines.{coverage_numbers}
use Rattle.vpf_library_files.specs.Loading.Loading.{within}
use Rattle.vpf_library_files.specs.declared.loading.loading.LoadStop.{LoadStop}
use Rattle.vpf_cross.specs.CrossFinding.{topology_finding}
use Rattle.vpf_replies.specs.Answer.{Answer, done, refused}
use Rattle.vpf_featured.specs.LoadReplies.Stopping.{stop_answer}
use Rattle.vpf_features.specs.Finding.{Named}
use Rattle.vpf_featured.specs.Finding.{featured_finding}
use Rattle.vpf_featured.specs.Reading.{FeaturedCoverage, read_featured}
use Rattle.vpf_library_commands.specs.declared.checking.CheckRequest.{CheckRequest}
use Rattle.vpf_library_commands.specs.Counting.{all_edges, all_faces, all_nodes, all_entities}

-- the request of a library and a coverage
abbrev pub check_request_of : Option (List ℕ) → Option (List ℕ) → Option CheckRequest
check_request_of (Some lib) (Some cov) = Some (record { lib = lib; cov = cov })
check_request_of None cov = None
check_request_of (Some lib) None = None

-- the request that the words after the verb spell
abbrev pub check_request : List (List ℕ) → Option CheckRequest
check_request (lib ∷ cov ∷ []) = check_request_of (file_name lib) (coverage_name cov)
check_request words = None

-- the first finding on a coverage: on the columns, ids, references and marks of its tiles, and then on its topology
abbrev pub coverage_finding : CoverageTables → Option Disagreement
coverage_finding c = coverage_numbers c or topology_finding c

-- how a coverage is cut: untiled, or into so many tiles, empty ones counted
abbrev pub tiling_text : CoverageTables → List ℕ
tiling_text c = if c.is_tiled then codes "tiles " & decimal (last_tile c) else codes "untiled"

-- that a coverage agrees, with its numbers of primitives in all tiles, the universe of each counted among the faces
abbrev pub agrees_text : CoverageTables → List ℕ
agrees_text c =
    codes "agrees " & tiling_text c
    & codes " edges " & decimal (all_edges c)
    & codes " faces " & decimal (all_faces c)
    & codes " nodes " & decimal (all_nodes c)
    & codes " entities " & decimal (all_entities c) & codes "\n"

-- the answer over a coverage by the first finding on it and its features, in its file
abbrev pub found_answer : CoverageTables → Option Named → Answer
found_answer c None = done (agrees_text c)
found_answer c (Some (name, d)) = refused (disagree_text name d)

-- the first finding on what was read of the coverage that is asked for
abbrev pub read_finding : CheckRequest → FeaturedCoverage → Option Named
read_finding request read = featured_finding (within request.lib request.cov) read

-- the answer to what was read
abbrev pub read_answer : CheckRequest → Result FeaturedCoverage LoadStop → Answer
read_answer request (Ok read) = found_answer read.coverage.coverage (read_finding request read)
read_answer request (Err stop) = stop_answer stop

-- the answer over the files of a tree
abbrev pub check_answer : Files → CheckRequest → Answer
check_answer files request = read_answer request (read_featured files request.lib request.cov 0).0
